use Prim.Native.Nat.{◌+◌, ◌≤◌}
use mathlib.Core.Path.{◌≡◌, refl}
use native.Mathlib.Omega.{arith}
use lib.ListN.{length}
use Rattle.format.specs.Slot.{fill}
use Rattle.format.specs.Number.{order_by, num_slots}
use Rattle.format.specs.Edition.{t_gso}
use Rattle.text.proofs.Lay.{laid_first, laid_part, laid_as}
use Rattle.writing.proofs.Chain.{puts_of}
use Rattle.write_strls.proofs.RecordLaws.{number_fills, head_parts}
use Rattle.write_strls.proofs.put_head.Goals as goal

pub returns : goal.returns
returns c =
    let a = c.args in
    let o = order_by a.msf in
    let r : 12 + a.ow ≤ length a.out.now = omega arith in
    let l0 = laid_first t_gso a.out.now c.put_bytes.new.out 3 c.put_bytes.ensures refl (omega arith) in
    let l1 = laid_part l0 (fill (num_slots o 4 a.v)) c.put_number.new.out 4 (number_fills o 4 a.v) (omega arith) c.put_number.ensures in
    let l2 = laid_part l1 (fill (num_slots o a.ow a.o)) c.put_number-2.new.out a.ow (number_fills o a.ow a.o) (omega arith) c.put_number-2.ensures in
    let l3 = laid_part l2 (fill (num_slots o 1 a.kind)) c.put_number-3.new.out 1 (number_fills o 1 a.kind) (omega arith) c.put_number-3.ensures in
    let at : 7 + a.ow + 1 ≡ 8 + a.ow = omega arith in
    let l4 = laid_part (laid_as l3 refl at) (fill (num_slots o 4 a.n)) c.put_number-4.new.out 4 (number_fills o 4 a.n) (omega arith) c.put_number-4.ensures in
    puts_of (laid_as l4 (head_parts o a.ow a.v a.o a.kind a.n) (omega arith))
