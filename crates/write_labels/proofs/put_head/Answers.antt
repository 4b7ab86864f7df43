use mathlib.Core.Path.{◌≡◌, refl, ◌∙◌}
use Prim.Native.Nat.{◌+◌}
use native.Mathlib.Omega.{arith}
use lib.ListN.{replicate}
use Rattle.format.specs.Slot.{fill}
use Rattle.format.specs.Number.{num_slots, order_by}
use Rattle.format.specs.Grammar.{text_at, text_slots}
use Rattle.format.proofs.Good.{text_length}
use Rattle.format.proofs.SlotLaws.{length_fill}
use Rattle.text.proofs.Lay.{laid_first, laid_part, laid_as}
use Rattle.write_labels.proofs.BlockLaws.{head_put}
use Rattle.write_labels.proofs.put_head.Goals as goal

pub returns : goal.returns
returns c =
    let a = c.args in
    let o = order_by a.msf in
    let z = order_by a.tomsf in
    let x = c.number-s in
    let e = x.ensures.is in
    let t = text_at a.w a.f.now (a.p + 4) in
    let l1 = laid_first (fill (num_slots z 4 x.result)) a.out.now c.put_number.new.out 4 c.put_number.ensures refl (omega arith) in
    let l2 = laid_part l1 (fill (text_slots a.tow t)) c.put_text.new.out a.tow (length_fill (text_slots a.tow t) ∙ text_length a.tow t) (omega arith) c.put_text.ensures in
    let l3 = laid_part l2 (replicate 3 0) c.put_zeros.new.out 3 refl (omega arith) c.put_zeros.ensures in
    let q : 4 + a.tow + 3 ≡ 4 + (a.tow + 3) = omega arith in
    (laid_as l3 (head_put z a.tow o a.w a.f.now a.p x.result e) q).is
