use Prim.Native.Nat.{◌-◌}
use native.Mathlib.Omega.{arith}
use Rattle.long_list.proofs.TellLaws.{tell_counted, counted_all}
use Rattle.set_list.proofs.SetLaws.{next_here, next_fits, next_on, next_counted}
use Rattle.set_list.proofs.sets_count.Goals as goal

pub loop-at-init : goal.loop-at-init
loop-at-init c = tell_counted c.requires

pub block_at-b-requires : goal.block_at-b-requires
block_at-b-requires c = next_here c.loop-at.invariant c.loop-at-test.true

pub overflow_mul-n : goal.overflow_mul-n
overflow_mul-n c =
    let k = next_fits c.loop-at.invariant c.loop-at-test.true c.block_at-b.ensures in
    record { fits = omega arith }

pub overflow_add-n : goal.overflow_add-n
overflow_add-n c =
    let k = next_fits c.loop-at.invariant c.loop-at-test.true c.block_at-b.ensures in
    record { fits = omega arith }

pub overflow_add-n-in-loop-at : goal.overflow_add-n-in-loop-at
overflow_add-n-in-loop-at c =
    let k = next_fits c.loop-at.invariant c.loop-at-test.true c.block_at-b.ensures in
    record { fits = omega arith }

pub loop-at-smaller : goal.loop-at-smaller
loop-at-smaller c =
    let k = next_on c.loop-at.invariant c.loop-at-test.true c.block_at-b.ensures in
    omega arith

pub loop-at-preserved : goal.loop-at-preserved
loop-at-preserved c = next_counted c.loop-at.invariant c.loop-at-test.true c.block_at-b.ensures

pub returns : goal.returns
returns c = counted_all c.loop-at.invariant (omega arith)
