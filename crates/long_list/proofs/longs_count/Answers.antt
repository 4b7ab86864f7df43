use Prim.Native.Nat.{◌-◌}
use native.Mathlib.Omega.{arith}
use Rattle.long_list.proofs.LongLaws.{longs_counted, turn_head, turn_room, turn_inside, turn_on, longs_count_lem}
use Rattle.long_list.proofs.longs_count.Goals as goal

pub loop-at-init : goal.loop-at-init
loop-at-init c = longs_counted c.requires.0

pub overflow_add-at-in-loop-at : goal.overflow_add-at-in-loop-at
overflow_add-at-in-loop-at c = omega (arith, turn_head c.loop-at.invariant (omega arith))

pub number-requires : goal.number-requires
number-requires c = (omega (arith, turn_head c.loop-at.invariant (omega arith)), omega arith)

pub overflow_add-at-in-loop-at-2 : goal.overflow_add-at-in-loop-at-2
overflow_add-at-in-loop-at-2 c = omega (arith, turn_inside c.loop-at.invariant (omega arith) c.number.result c.number.ensures.is)

pub overflow_add-at-in-loop-at-3 : goal.overflow_add-at-in-loop-at-3
overflow_add-at-in-loop-at-3 c = omega (arith, turn_inside c.loop-at.invariant (omega arith) c.number.result c.number.ensures.is)

pub overflow_add-n : goal.overflow_add-n
overflow_add-n c = omega (arith, turn_room c.loop-at.invariant (omega arith))

pub loop-at-preserved : goal.loop-at-preserved
loop-at-preserved c = turn_on c.loop-at.invariant (omega arith) c.number.result c.number.ensures.is

pub returns : goal.returns
returns c = longs_count_lem c.loop-at.invariant (omega arith)
