-- Floats that do not equal themselves.
use mathlib.Core.Path.{◌≡◌, refl}
use mathlib.Core.Bool.{true, false, true≢false}
use Prim.Native.Nat.{◌*◌}
use borrow.Author.Tests.{eq-eqb}
use lib.Ieee.{Float, nan, inf, fin, up, down, is_nan, eq}

-- such a one is a NaN
pub is_nan_lem : (x : Float) → eq x x ≡ false → is_nan x ≡ true
unfolding eq is_nan
is_nan_lem nan h = refl
is_nan_lem (inf true) h = absurd (true≢false h)
is_nan_lem (inf false) h = absurd (true≢false h)
is_nan_lem (fin true m e) h = absurd (true≢false (rw (eq-eqb (m * up e * down e) (m * up e * down e) refl) at h))
is_nan_lem (fin false m e) h = absurd (true≢false (rw (eq-eqb (m * up e * down e) (m * up e * down e) refl) at h))
