use mathlib.Core.Path.{refl}
use mathlib.Core.List.{append_assoc}
use native.Mathlib.Omega.{arith}
use Rattle.format.specs.Number.{order_by}
use Rattle.text.proofs.Lay.{laid_part, laid_as}
use Rattle.writing.proofs.Chain.{puts_first, puts_of}
use Rattle.write_old_header.specs.Parts.{num_bytes, old_marks}
use Rattle.write_old_header.proofs.OldLaws.{num_length}
use Rattle.write_old_header.proofs.put_old_counts.Goals as goal

pub returns : goal.returns
returns c =
    let a = c.args in
    let h = c.put_marks-a in
    let x = c.put_number in
    let y = c.put_number-2 in
    let o = order_by a.msf in
    let one = puts_first h.ensures.1 (omega arith) in
    let two = laid_part one (num_bytes o 2 a.k) x.new.out 2 (num_length o 2 a.k) (omega arith) x.ensures in
    let three = laid_part two (num_bytes o a.w a.n) y.new.out a.w (num_length o a.w a.n) (omega arith) y.ensures in
    (omega arith, puts_of (laid_as three (append_assoc (old_marks a.number o) (num_bytes o 2 a.k) (num_bytes o a.w a.n)) refl))
