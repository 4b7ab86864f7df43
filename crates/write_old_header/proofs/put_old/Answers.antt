use mathlib.Core.Path.{refl}
use Prim.Native.Nat.{◌+◌}
use native.Mathlib.Omega.{arith}
use mathlib.Core.List.{◌++◌}
use Rattle.format.specs.Slot.{fill}
use Rattle.format.specs.Number.{order_by}
use Rattle.format.specs.Grammar.{text_slots}
use Rattle.text.proofs.Lay.{laid_as}
use Rattle.writing.proofs.Chain.{puts_first, puts_part, puts_of}
use Rattle.write_old_header.specs.Parts.{num_bytes, old_marks}
use Rattle.write_old_header.proofs.OldLaws.{old_parts}
use Rattle.write_old_header.proofs.put_old.Goals as goal

pub returns : goal.returns
returns c =
    let a = c.args in
    let x = c.put_old_counts-a in
    let y = c.put_old_texts in
    let e = a.e in
    let o = order_by a.msf in
    let label = a.label.now in
    let stamp = a.stamp.now in
    let first = old_marks e.number o ++ (num_bytes o 2 a.k ++ num_bytes o e.n_width a.n) in
    let one = puts_first {g = first} x.ensures.1 (omega arith) in
    let two = puts_part {t = first} one (fill (text_slots (e.label_max + 1) label) ++ fill (text_slots 18 stamp)) y.new.out y.result y.ensures.1 (omega arith) in
    puts_of (laid_as two (old_parts e.number o e.n_width e.label_max a.k a.n label stamp (omega arith)) refl)
