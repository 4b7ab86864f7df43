use native.Mathlib.Omega.{arith}
use lib.ListN.{length-take, length-drop}
use Rattle.write_strls.proofs.LoopLaws.{longs_done, counted_of, turn_head, turn, turn_puts, longs_put}
use Rattle.write_strls.proofs.put_records.Goals as goal

pub loop-from-init : goal.loop-from-init
loop-from-init c = longs_done c.requires.0

pub overflow_add-from : goal.overflow_add-from
overflow_add-from c = omega (arith, turn_head (counted_of c.loop-from.invariant) (omega arith))

pub number-n-requires : goal.number-n-requires
number-n-requires c = (omega (arith, turn_head (counted_of c.loop-from.invariant) (omega arith)), omega arith)

pub put_record-requires : goal.put_record-requires
put_record-requires c =
    let l = c.loop-from in
    let t = turn (counted_of l.invariant) (omega arith) c.number-n.result c.number-n.ensures.is in
    let e = l.invariant.so.laid.whole in
    (omega (arith, t.inside), simp (length-take, length-drop) (omega (arith, t.room)), omega arith, omega arith)

pub overflow_add-from-in-loop-from-3 : goal.overflow_add-from-in-loop-from-3
overflow_add-from-in-loop-from-3 c =
    omega (arith, (turn (counted_of c.loop-from.invariant) (omega arith) c.number-n.result c.number-n.ensures.is).inside)

pub loop-from-preserved : goal.loop-from-preserved
loop-from-preserved c =
    let l = c.loop-from in
    let n = c.number-n in
    turn_puts l.invariant (omega arith) n.result c.put_record.new.out n.ensures.is c.put_record.ensures

pub returns : goal.returns
returns c = longs_put c.loop-from.invariant (omega arith)
