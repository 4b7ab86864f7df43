-- Where the texts in a table's text area end.
use Rattle.std.specs.Prelude.{◌≡◌, ℕ, ◌+◌, ◌-◌, ◌*◌, ◌≤◌, List, length, get_or}
use Rattle.format.specs.Grammar.{text_at}

-- where the text from place y on ends, of the area of x bytes at a: at the first zero, or at x
abbrev pub end_from : List ℕ → ℕ → ℕ → ℕ → ℕ
end_from f a x y = y + length (text_at (x - y) f (a + y))

-- r is where the text from y on ends, if e is where that from z on ends
pub record EndsBy (f : List ℕ) (a y z e r : ℕ) : Type 0 where
  pub all : (x : ℕ) → z ≤ x → e ≡ end_from f a x z → r ≡ end_from f a x y

-- entry i of the list t, from h on, is where the text from i * 256 on ends
pub record Ends (f : List ℕ) (a x h : ℕ) (t : List ℕ) : Type 0 where
  pub long : length t ≡ 20737
  pub each : (i : ℕ) → h ≤ i → i * 256 ≤ x → get_or t i 0 ≡ end_from f a x (i * 256)
