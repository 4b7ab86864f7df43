-- The order of signed numbers.
use mathlib.Core.Path.{◌≡◌, refl, ap, subst}
use mathlib.Core.Bool.{Bool, true, false, ◌&&◌}
use Prim.Native.Nat.{ℕ}
use native.Mathlib.Nat.{le_refl, le_antisymm}
use native.Mathlib.Omega.{arith}
use borrow.Author.Tests.{le-ltb, le-leb, lt-leb, ltb-true, leb-true}
use lib.Dec.{leb, ltb}
use lib.IntN.{ℤ, pos, negsuc}
use lib.Signed.{lt_z, le_z}
use Rattle.format.specs.Search.{same_z}
use Rattle.format.proofs.Good.{and_left, and_right}

same_refl : (a : ℤ) → same_z a a ≡ true
same_refl (pos a) = rw (le-leb a a (le_refl a))
same_refl (negsuc a) = rw (le-leb a a (le_refl a))

pub same_yes : {a b : ℤ} → a ≡ b → same_z a b ≡ true
same_yes {a} e = subst (λ (z : ℤ). same_z a z ≡ true) e (same_refl a)

pub same_is : (a b : ℤ) → same_z a b ≡ true → a ≡ b
same_is (pos a) (pos b) e =
    ap pos (le_antisymm (leb-true a b (and_left (leb a b) (leb b a) e)) (leb-true b a (and_right (leb a b) (leb b a) e)))
same_is (pos a) (negsuc b) e = cc
same_is (negsuc a) (pos b) e = cc
same_is (negsuc a) (negsuc b) e =
    ap negsuc (le_antisymm (leb-true a b (and_right (leb b a) (leb a b) e)) (leb-true b a (and_left (leb b a) (leb a b) e)))

pub same_no : (a b : ℤ) → (a ≡ b → ⊥) → same_z a b ≡ false
same_no a b n = go (same_z a b) refl
  where
    go : (t : Bool) → same_z a b ≡ t → same_z a b ≡ false
    go true e = absurd (n (same_is a b e))
    go false e = e

pub lt_not_le : (a b : ℤ) → lt_z a b ≡ true → le_z b a ≡ false
lt_not_le (pos a) (pos b) e = lt-leb b a (ltb-true a b e)
lt_not_le (pos a) (negsuc b) e = cc
lt_not_le (negsuc a) (pos b) e = refl
lt_not_le (negsuc a) (negsuc b) e = lt-leb a b (ltb-true b a e)

pub lt_not_lt : (a b : ℤ) → lt_z a b ≡ true → lt_z b a ≡ false
lt_not_lt (pos a) (pos b) e = let h = ltb-true a b e in le-ltb b a (omega arith)
lt_not_lt (pos a) (negsuc b) e = cc
lt_not_lt (negsuc a) (pos b) e = refl
lt_not_lt (negsuc a) (negsuc b) e = let h = ltb-true b a e in le-ltb a b (omega arith)
