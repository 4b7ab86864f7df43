use native.Mathlib.Omega.{arith}
use Rattle.sort_order.proofs.SortLaws.{counted_none, counted_stop, counted_on, counted_all}
use Rattle.sort_order.proofs.sort_count.Goals as goal

pub loop-i-init : goal.loop-i-init
loop-i-init c = counted_none

pub returns-then-number-eq0 : goal.returns-then-number-eq0
returns-then-number-eq0 c = counted_stop c.loop-i.invariant (omega arith) c.number.ensures.is (omega (arith, c.if-number-eq0.true))

pub loop-i-preserved : goal.loop-i-preserved
loop-i-preserved c = counted_on c.loop-i.invariant (omega arith) c.number.ensures.is c.if-number-eq0.false

pub returns : goal.returns
returns c = counted_all c.loop-i.invariant (omega arith)
