use Prim.Native.Nat.{◌-◌}
use native.Mathlib.Omega.{arith}
use borrow.Author.Rules.{scaled_Fits}
use lib.ListN.{length, length-take, length-drop}
use Rattle.long_list.proofs.LongLaws.{longs_done, counted_of, turn_head, turn_room, turn_inside, turn_puts, longs_put}
use Rattle.long_list.proofs.put_longs.Goals as goal

pub loop-from-init : goal.loop-from-init
loop-from-init c = longs_done c.requires.0

pub overflow_add-from : goal.overflow_add-from
overflow_add-from c = omega (arith, turn_head (counted_of c.loop-from.invariant) (omega arith))

pub number-n-requires : goal.number-n-requires
number-n-requires c = (omega (arith, turn_head (counted_of c.loop-from.invariant) (omega arith)), omega arith)

pub offset_bounds-out-to : goal.offset_bounds-out-to
offset_bounds-out-to c =
    let l = c.loop-from in
    scaled_Fits l.to (length c.args.out.now) 8 (omega (arith, turn_room (counted_of l.invariant) (omega arith))) c.well_formed.0.1

pub slice_bounds-put_long-count : goal.slice_bounds-put_long-count
slice_bounds-put_long-count c =
    let l = c.loop-from in
    omega (arith, turn_room (counted_of l.invariant) (omega arith), l.invariant.so.laid.whole)

pub put_long-requires : goal.put_long-requires
put_long-requires c =
    let l = c.loop-from in
    let h = counted_of l.invariant in
    (turn_head h (omega arith), simp (length-take, length-drop) (omega (arith, turn_room h (omega arith), l.invariant.so.laid.whole)), omega arith)

pub overflow_add-from-in-loop-from-2 : goal.overflow_add-from-in-loop-from-2
overflow_add-from-in-loop-from-2 c =
    omega (arith, turn_inside (counted_of c.loop-from.invariant) (omega arith) c.number-n.result c.number-n.ensures.is)

pub overflow_add-from-in-loop-from-3 : goal.overflow_add-from-in-loop-from-3
overflow_add-from-in-loop-from-3 c =
    omega (arith, turn_inside (counted_of c.loop-from.invariant) (omega arith) c.number-n.result c.number-n.ensures.is)

pub overflow_add-to : goal.overflow_add-to
overflow_add-to c = omega (arith, turn_room (counted_of c.loop-from.invariant) (omega arith))

pub loop-from-preserved : goal.loop-from-preserved
loop-from-preserved c =
    let l = c.loop-from in
    let n = c.number-n in
    turn_puts l.invariant (omega arith) n.result c.put_long.new.out n.ensures.is c.put_long.ensures

pub shape_of-out : goal.shape_of-out
shape_of-out c = c.loop-from.invariant.so.laid.whole

pub returns : goal.returns
returns c = longs_put c.loop-from.invariant (omega arith)
