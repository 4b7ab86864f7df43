-- What reading a text promises.
use Rattle.std.specs.Prelude.{◌≡◌, ℕ, zero, suc, ◌+◌, ◌≤◌, List, Bool, false, ◌||◌, length, get_or, eqb}
use Rattle.format.specs.Grammar.{text_at}

-- r is the length of the text in the field of w bytes at place p of f, and fits the field
pub record IsTextLength (w : ℕ) (f : List ℕ) (p r : ℕ) : Type 0 where
  pub is : r ≡ length (text_at w f p)
  pub short : r ≤ w

-- there is a zero among the n bytes at place p of f
unfoldable pub has_zero : ℕ → List ℕ → ℕ → Bool
has_zero zero f p = false
has_zero (suc n) f p = has_zero n f p || eqb (get_or f (p + n) 0) 0
