use mathlib.Core.Path.{refl}
use mathlib.Core.List.{append_assoc}
use native.Mathlib.Omega.{arith}
use Rattle.format.specs.Number.{order_by}
use Rattle.text.proofs.Lay.{laid_part, laid_as}
use Rattle.writing.proofs.Chain.{puts_first, puts_part, puts_of}
use Rattle.write_new_header.specs.Parts.{num_bytes}
use Rattle.write_new_header.proofs.NewLaws.{num_length}
use Rattle.write_new_header.proofs.put_number_part.Goals as goal

pub returns : goal.returns
returns c =
    let a = c.args in
    let h = c.put_tag-a in
    let n = c.put_number in
    let t = c.put_tag in
    let first = a.first.now in
    let last = a.last.now in
    let digits = num_bytes (order_by a.msf) a.w a.n in
    let one = puts_first h.ensures (omega arith) in
    let two = laid_part one digits n.new.out a.w (num_length (order_by a.msf) a.w a.n) (omega arith) n.ensures in
    let three = puts_part two last t.new.out t.result t.ensures (omega arith) in
    (omega arith, puts_of (laid_as three (append_assoc first digits last) refl))
