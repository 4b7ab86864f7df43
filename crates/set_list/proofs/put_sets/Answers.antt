use Prim.Native.Nat.{ℕ, ◌+◌, ◌-◌, ◌*◌}
use native.Mathlib.Omega.{arith}
use lib.ListN.{length-take, length-drop, length-replicate}
use borrow.Author.Rules.{rules}
use Rattle.long_list.proofs.TellLaws.{tell_done, done_on, done_all}
use Rattle.set_list.proofs.SetLaws.{next_here, next_fits, next_on, next_far, next_table, next_name, next_puts}
use Rattle.set_list.proofs.put_sets.Goals as goal

pub loop-at-init : goal.loop-at-init
loop-at-init c = (tell_done c.requires, length-replicate {A = ℕ} 20737 0)

pub block_at-b-requires : goal.block_at-b-requires
block_at-b-requires c = next_here c.loop-at.invariant.0.counted c.loop-at-test.true

pub offset_bounds-out-n : goal.offset_bounds-out-n
offset_bounds-out-n c =
    let l = c.loop-at in
    let k = next_fits l.invariant.0.counted c.loop-at-test.true c.block_at-b.ensures in
    let long = l.invariant.0.laid.whole in
    search rules

pub slice_bounds-put_set-count : goal.slice_bounds-put_set-count
slice_bounds-put_set-count c =
    let l = c.loop-at in
    let k = next_fits l.invariant.0.counted c.loop-at-test.true c.block_at-b.ensures in
    let long = l.invariant.0.laid.whole in
    search rules

pub put_set-requires : goal.put_set-requires
put_set-requires c =
    let l = c.loop-at in
    let b = c.loop-at-test.true in
    let r = c.block_at-b.ensures in
    let k = next_fits l.invariant.0.counted b r in
    let long = l.invariant.0.laid.whole in
    (next_table l.invariant.0.counted b r, next_name l.invariant.0.counted b r, simp (length-take, length-drop) (omega arith), l.invariant.1)

pub overflow_mul-n : goal.overflow_mul-n
overflow_mul-n c =
    let l = c.loop-at in
    let k = next_fits l.invariant.0.counted c.loop-at-test.true c.block_at-b.ensures in
    let long = l.invariant.0.laid.whole in
    record { fits = omega arith }

pub overflow_add-n : goal.overflow_add-n
overflow_add-n c =
    let l = c.loop-at in
    let k = next_fits l.invariant.0.counted c.loop-at-test.true c.block_at-b.ensures in
    let long = l.invariant.0.laid.whole in
    record { fits = omega arith }

pub overflow_add-n-in-loop-at : goal.overflow_add-n-in-loop-at
overflow_add-n-in-loop-at c =
    let l = c.loop-at in
    let k = next_fits l.invariant.0.counted c.loop-at-test.true c.block_at-b.ensures in
    let long = l.invariant.0.laid.whole in
    record { fits = omega arith }

pub loop-at-smaller : goal.loop-at-smaller
loop-at-smaller c =
    let l = c.loop-at in
    let k = next_on l.invariant.0.counted c.loop-at-test.true c.block_at-b.ensures in
    omega arith

pub loop-at-preserved : goal.loop-at-preserved
loop-at-preserved c =
    let l = c.loop-at in
    let b = c.loop-at-test.true in
    let r = c.block_at-b in
    let y = c.put_set in
    (done_on l.invariant.0 b y.new.out r.result.next (3 + r.result.entries * 3) (next_far l.invariant.0.counted b r.ensures) (next_puts l.invariant.0.counted b r.ensures y.ensures.0), y.ensures.1)

pub shape_of-out : goal.shape_of-out
shape_of-out c = c.loop-at.invariant.0.laid.whole

pub returns : goal.returns
returns c = done_all c.loop-at.invariant.0 (omega arith)
