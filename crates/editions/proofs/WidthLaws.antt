-- Bounds on the numbers of an edition.
use mathlib.Core.Path.{◌≡◌, refl, sym, ap, subst}
use Prim.Native.Nat.{ℕ}
use mathlib.Core.Bool.{Bool, true, false, cond}
use lib.Dec.{eqb}
use borrow.Author.Tests.{ne_eqb}
use Rattle.format.specs.Edition.{Release, r118, edition, release_by}
use Rattle.format.proofs.EditionLaws.{Widths, widths}
use Rattle.editions.specs.declared.Edition.{Edition}
use Rattle.editions.specs.Editions.{numbers_of}

-- the numbers of an edition that is read keep to the bounds
pub code_widths : (e : Edition) (r : Release) → numbers_of e ≡ edition r → Widths (numbers_of e)
code_widths e r h = subst Widths (sym h) (widths r)

-- a number that is none of the first four is 118, or none
pub last_edition : (n : ℕ) → (n ≡ 113 → ⊥) → (n ≡ 114 → ⊥) → (n ≡ 115 → ⊥) → (n ≡ 117 → ⊥) → edition r118 ≡ edition (release_by n)
last_edition n a b c d = rw (ne_eqb n 113 a, ne_eqb n 114 b, ne_eqb n 115 c, ne_eqb n 117 d) (ap edition (sym (either (eqb n 118))))
  where
    either : (b : Bool) → cond b r118 r118 ≡ r118
    either true = refl
    either false = refl
