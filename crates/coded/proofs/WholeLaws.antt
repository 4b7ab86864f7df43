-- Signed numbers as numbers without a sign.
use mathlib.Core.Path.{◌≡◌, refl, sym, ap, subst}
use mathlib.Core.Bool.{true, false, true≢false}
use Prim.Native.Nat.{ℕ, suc, ◌+◌, ◌-◌, ◌<◌}
use native.Mathlib.Nat.{not-suc-le-zero}
use native.Mathlib.Numerals.{add-one}
use native.Mathlib.Omega.{arith}
use borrow.Author.Tests.{ltb-true, le-ltb}
use lib.Dec.{T}
use lib.IntN.{ℤ, pos, negsuc, ◌-ℤ◌, nat_abs}
use lib.Signed.{lt_z, non_neg}
use mir.Syntax.{w32, w64}
use mir.Val.{to_z, of_z, SFits, Fits}
use mir.ValLaws.{to_z_pos, to_z-of_z}
use Rattle.coded.specs.Coded.{four, whole_numbers}

minus : (k : ℕ) → negsuc 0 -ℤ negsuc k ≡ pos k
minus k = let e : suc k - 1 ≡ k = omega arith in rw (le-ltb (suc k) 1 (omega arith), e)

-- the size of a negative number, less one
size : ℤ → ℕ
size (pos n) = 0
size (negsuc n) = n

-- a negative number is taken from -1
module _ (x : ℤ) (held : SFits w32 x) (below : lt_z (to_z w32 (of_z w32 x)) (pos 0) ≡ true) where
  abbrev less : ℤ
  less = negsuc 0 -ℤ to_z w32 (of_z w32 x)

  from_one : (less ≡ pos (size x)) × (size x < 2147483648) × (four 6 (size x + 1) 1 0 ≡ whole_numbers x)
  unfolding size
  from_one = rw (to_z-of_z w32 x held) (go x held (rw (to_z-of_z w32 x held) at below))
    where
      go : (z : ℤ) → SFits w32 z → lt_z z (pos 0) ≡ true → (negsuc 0 -ℤ z ≡ pos (size z)) × (size z < 2147483648) × (four 6 (size z + 1) 1 0 ≡ whole_numbers z)
      go (pos n) f h = absurd (not-suc-le-zero (ltb-true n 0 h))
      go (negsuc n) f h = (minus n, f.sfits, ap (λ (k : ℕ). four 6 k 1 0) (add-one n))

  pub minus_fits : SFits w32 less
  minus_fits = subst (λ (z : ℤ). SFits w32 z) (sym from_one.0) (record { sfits = from_one.1 })

  -- the difference is a number of 32 bits that is not negative
  difference : to_z w32 (of_z w32 less) ≡ pos (size x)
  difference = rw from_one.0 (to_z_pos w32 (size x) from_one.1)

  pub minus_cast : (T (non_neg (to_z w32 (of_z w32 less)))) × (Fits w64 (nat_abs (to_z w32 (of_z w32 less))))
  minus_cast = rw difference (tt, omega (arith, from_one.1))

  pub minus_small : nat_abs (to_z w32 (of_z w32 less)) < 2147483648
  minus_small = rw difference from_one.1

  pub minus_numbers : four 6 (nat_abs (to_z w32 (of_z w32 less)) + 1) 1 0 ≡ whole_numbers x
  minus_numbers = rw difference from_one.2

-- a number that is not negative
module _ (x : ℤ) (held : SFits w32 x) (above : lt_z (to_z w32 (of_z w32 x)) (pos 0) ≡ false) where
  plain : (T (non_neg x)) × (Fits w64 (nat_abs x)) × (four 6 (nat_abs x) 0 0 ≡ whole_numbers x)
  plain = go x held (rw (to_z-of_z w32 x held) at above)
    where
      go : (z : ℤ) → SFits w32 z → lt_z z (pos 0) ≡ false → (T (non_neg z)) × (Fits w64 (nat_abs z)) × (four 6 (nat_abs z) 0 0 ≡ whole_numbers z)
      go (pos n) s h = (tt, omega (arith, s.sfits), refl)
      go (negsuc n) s h = absurd (true≢false h)

  pub plain_cast : (T (non_neg (to_z w32 (of_z w32 x)))) × (Fits w64 (nat_abs (to_z w32 (of_z w32 x))))
  plain_cast = rw (to_z-of_z w32 x held) (plain.0, plain.1)

  pub plain_numbers : four 6 (nat_abs (to_z w32 (of_z w32 x))) 0 0 ≡ whole_numbers x
  plain_numbers = rw (to_z-of_z w32 x held) plain.2
