use native.Mathlib.Omega.{arith}
use Rattle.data.proofs.PlaceLaws.{row_in_lem}
use Rattle.write_data.proofs.PutLaws.{laid_turned}
use Rattle.write_data.proofs.put_numbers.Goals as goal

pub loop-i-preserved : goal.loop-i-preserved
loop-i-preserved c =
    let a = c.args in
    laid_turned a.w a.f.now a.q c.loop-i.i c.loop-i.invariant _ c.put_turned.ensures (omega (arith, row_in_lem c.loop-i.i a.c a.w (omega arith)))
