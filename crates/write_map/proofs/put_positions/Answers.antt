use native.Mathlib.Omega.{arith}
use lib.ListN.{get_or}
use Rattle.format.specs.Number.{order_by, num_slots}
use Rattle.format.specs.Slot.{fill}
use Rattle.text.proofs.Lay.{laid_as, laid_part}
use Rattle.write_map.proofs.MapLaws.{positions_turn, number_length}
use Rattle.write_map.proofs.put_positions.Goals as goal

pub loop-i-preserved : goal.loop-i-preserved
loop-i-preserved c =
    let a = c.args in
    let l = c.loop-i in
    let n = c.put_number in
    let o = order_by a.msf in
    let x = get_or a.places l.i 0 in
    let more = laid_part l.invariant (fill (num_slots o 8 x)) n.new.out 8 (number_length o 8 x) (omega arith) n.ensures in
    laid_as more (positions_turn o a.places l.i (omega arith)) (omega arith)
