-- What reading and writing a number promise.
use Rattle.std.specs.Prelude.{◌≡◌, ℕ, ◌<◌, ◌^◌, List}
use Rattle.format.specs.Number.{Order, lsf, num, val, digit, seat}

-- r is the number of w bytes at place p of f, and fits them
pub record IsNumber (o : Order) (w : ℕ) (f : List ℕ) (p r : ℕ) : Type 0 where
  pub is : r ≡ num o w f p
  pub small : r < 256 ^ w

-- the number of w bytes whose bytes are those of n in the other order
unfoldable pub swapped : ℕ → ℕ → ℕ
swapped w n = val (λ k. digit w n (seat lsf w k)) w
