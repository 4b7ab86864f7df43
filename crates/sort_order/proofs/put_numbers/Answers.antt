use native.Mathlib.Omega.{arith}
use Rattle.sort_order.proofs.SortLaws.{done_none, done_on, done_all}
use Rattle.sort_order.proofs.put_numbers.Goals as goal

pub loop-i-init : goal.loop-i-init
loop-i-init c = done_none

pub bounds-out-i : goal.bounds-out-i
bounds-out-i c = omega (arith, c.loop-i.invariant.laid.whole)

pub loop-i-preserved : goal.loop-i-preserved
loop-i-preserved c = done_on c.loop-i.invariant (omega arith) (omega arith) c.number.ensures.is

pub returns : goal.returns
returns c = done_all c.loop-i.invariant (omega arith)
