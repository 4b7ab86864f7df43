use native.Mathlib.Omega.{arith}
use Rattle.write_strls.proofs.LoopLaws.{turn_head, turn, longs_size}
use Rattle.write_strls.proofs.records_size.Goals as goal

pub overflow_add-at : goal.overflow_add-at
overflow_add-at c = omega (arith, turn_head c.loop-at.invariant (omega arith))

pub number-n-requires : goal.number-n-requires
number-n-requires c = (omega (arith, turn_head c.loop-at.invariant (omega arith)), omega arith)

pub overflow_add-at-in-loop-at-3 : goal.overflow_add-at-in-loop-at-3
overflow_add-at-in-loop-at-3 c = omega (arith, (turn c.loop-at.invariant (omega arith) c.number-n.result c.number-n.ensures.is).inside)

pub overflow_add-sum-in-loop-at-2 : goal.overflow_add-sum-in-loop-at-2
overflow_add-sum-in-loop-at-2 c = omega (arith, (turn c.loop-at.invariant (omega arith) c.number-n.result c.number-n.ensures.is).room)

pub loop-at-preserved : goal.loop-at-preserved
loop-at-preserved c = (turn c.loop-at.invariant (omega arith) c.number-n.result c.number-n.ensures.is).on

pub returns : goal.returns
returns c = longs_size c.loop-at.invariant (omega arith)
