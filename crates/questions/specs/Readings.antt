-- Readings at any place of a file, which may need a byte that is not there.
use Rattle.std.specs.Prelude.{ℕ, zero, suc, ◌+◌, List, Bool, true, false, cond, length, leb, ltb}
use Rattle.format.specs.Number.{Order, num}
use Rattle.format.specs.Grammar.{text_at}

-- what is read, or none (17): a byte that is needed lies outside the file, or what stands there has no meaning
pub data Try (A : Type 0) : Type 0 where
  none : Try A
  got : A → Try A

-- what is read, and then
abbrev pub bind : {A B : Type 0} → Try A → (A → Try B) → Try B
bind none k = none
bind (got a) k = k a

-- the test holds
abbrev pub test : Bool → Try (Unit {0})
test true = got tt
test false = none

-- n bytes are there from p on
abbrev pub room : List ℕ → ℕ → ℕ → Try (Unit {0})
room f p n = test (leb (p + n) (length f))

-- the number of w bytes at p
abbrev pub number_in : Order → ℕ → List ℕ → ℕ → Try ℕ
number_in o w f p = bind (room f p w) λ u. got (num o w f p)

-- how many bytes of its field of w bytes a text needs: up to and with its first zero, or all
abbrev pub text_needs : ℕ → List ℕ → ℕ
text_needs w t = cond (ltb (length t) w) (suc (length t)) w

-- the text in the field of w bytes at p: it ends before its first zero, or at its width
abbrev pub text_in : ℕ → List ℕ → ℕ → Try (List ℕ)
text_in w f p = bind (room f p (text_needs w (text_at w f p))) λ u. got (text_at w f p)
