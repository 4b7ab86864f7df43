use native.Mathlib.Omega.{arith}
use Rattle.format.specs.Slot.{fill}
use Rattle.format.specs.Grammar.{text_slots}
use Rattle.writing.proofs.Chain.{puts_first, puts_part, puts_of}
use Rattle.write_old_header.proofs.put_old_texts.Goals as goal

pub returns : goal.returns
returns c =
    let a = c.args in
    let x = c.put_padded-a in
    let y = c.put_padded in
    let one = puts_first {g = fill (text_slots a.w a.label.now)} x.ensures.1 (omega arith) in
    let two = puts_part one (fill (text_slots 18 a.stamp.now)) y.new.out y.result y.ensures.1 (omega arith) in
    (omega arith, puts_of two)
