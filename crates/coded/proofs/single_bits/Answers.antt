use mathlib.Core.Path.{sym, subst}
use native.Mathlib.Omega.{arith}
use lib.Dec.{T}
use lib.Ieee.{binary32}
use lib.Ieee.Bits.{to_bits-lt}
use Rattle.coded.proofs.single_bits.Goals as goal

-- the bits of a float fit 64 of them
pub overflow_cast-result : goal.overflow_cast-result
overflow_cast-result c = omega (arith, to_bits-lt binary32 c.args.x (subst T (sym c.well_formed.0.1) tt))
