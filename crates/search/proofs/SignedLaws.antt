-- Signed numbers of 32 bits.
use mathlib.Core.Path.{◌≡◌, refl, ap, ◌∙◌}
use mathlib.Core.Bool.{Bool, true, false}
use Prim.Native.Nat.{ℕ, zero, suc, ◌-◌, ◌<◌, ◌≤◌, ◌^◌}
use native.Mathlib.Omega.{arith}
use borrow.Author.Tests.{le-ltb}
use lib.Dec.{ltb}
use lib.IntN.{ℤ, pos, negsuc, ◌-ℤ◌}
use mir.Syntax.{w32}
use mir.Val.{to_z, of_z, SFits}
use mir.ValLaws.{to_z_pos, to_z-of_z}
use Rattle.format.specs.Cells.{signed_by}

-- -1 - k
minus_one : (k : ℕ) → negsuc 0 -ℤ pos k ≡ negsuc k
minus_one zero = refl
minus_one (suc k) = ap negsuc (omega arith)

-- -1 - k as 32 bits have it
pub minus_one_fits : (k : ℕ) → k < 2 ^ 31 → SFits w32 (negsuc 0 -ℤ to_z w32 k)
minus_one_fits k h = rw (to_z_pos w32 k h, minus_one k) (record { sfits = h })

pub minus_one_is : (k : ℕ) → k < 2 ^ 31 → to_z w32 (of_z w32 (negsuc 0 -ℤ to_z w32 k)) ≡ negsuc k
minus_one_is k h = to_z-of_z w32 _ (minus_one_fits k h) ∙ ap (λ (z : ℤ). negsuc 0 -ℤ z) (to_z_pos w32 k h) ∙ minus_one k

-- the bits n, read as signed, are the number that the format has
pub signed_is : (n : ℕ) → to_z w32 n ≡ signed_by 2147483648 n
signed_is n = go (ltb n 2147483648) refl
  where
    go : (t : Bool) → ltb n 2147483648 ≡ t → to_z w32 n ≡ signed_by 2147483648 n
    go true e = rw e
    go false e = rw e

-- a number of the upper half, from -1 down
pub upper : (n : ℕ) → 2147483648 ≤ n → signed_by 2147483648 n ≡ negsuc (4294967295 - n)
upper n h = rw (le-ltb n 2147483648 h) (ap negsuc (omega arith))
