-- Laws of text fields.
use mathlib.Core.Path.{◌≡◌, refl}
use Prim.Native.Nat.{ℕ, ◌≤◌}
use native.Mathlib.Omega.{arith}
use mathlib.Core.Bool.{Bool, true, false, not, ◌&&◌, ◌||◌}
use mathlib.Core.List.{List}
use lib.ListN.{length}
use lib.Dec.{eqb, ltb}
use borrow.Author.Tests.{eqb-true, eqb-false, lt-ltb, le-ltb}
use Rattle.format.specs.Grammar.{unless, text_at}
use Rattle.format.specs.Variables.{name}
use Rattle.section.specs.Judged.{field}

-- the field is bad exactly if it is refused, with 7
pub field_judge : (named : Bool) (w : ℕ) (f : List ℕ) (q n : ℕ) → n ≡ length (text_at w f q) → n ≤ w → (field named w).judge f q ≡ unless (not (eqb n w || (named && eqb n 0))) 7
unfolding name
field_judge named w f q n e b = go named (eqb n w) refl (eqb n 0) refl
  where
    short : eqb n w ≡ false → ltb (length (text_at w f q)) w ≡ true
    short h = lt-ltb (length (text_at w f q)) w (omega (arith, eqb-false n w h))

    full : eqb n w ≡ true → ltb (length (text_at w f q)) w ≡ false
    full h = le-ltb (length (text_at w f q)) w (omega (arith, eqb-true n w h))

    go : (m : Bool) (s : Bool) → eqb n w ≡ s → (t : Bool) → eqb n 0 ≡ t → (field m w).judge f q ≡ unless (not (eqb n w || (m && eqb n 0))) 7
    go true true h t k = rw (h, full h)
    go true false h true k = rw (h, k, short h, le-ltb 0 (length (text_at w f q)) (omega (arith, eqb-true n 0 k)))
    go true false h false k = rw (h, k, short h, lt-ltb 0 (length (text_at w f q)) (omega (arith, eqb-false n 0 k)))
    go false true h t k = rw (h, full h)
    go false false h t k = rw (h, short h)

pub field_size : (named : Bool) (w : ℕ) (t : List ℕ) → (field named w).size t ≡ w
unfolding name
field_size true w t = refl
field_size false w t = refl
