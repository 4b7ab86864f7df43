use mathlib.Core.Path.{refl, ◌∙◌}
use mathlib.Core.List.{append_assoc}
use native.Mathlib.Omega.{arith}
use Rattle.format.specs.Number.{order_by}
use Rattle.text.proofs.Lay.{laid_as}
use Rattle.writing.proofs.Chain.{puts_first, puts_part, puts_of}
use Rattle.write_new_header.specs.Parts.{start_bytes, count_bytes, text_bytes}
use Rattle.write_new_header.proofs.NewLaws.{new_parts}
use Rattle.write_new_header.proofs.put_new.Goals as goal

pub returns : goal.returns
returns c =
    let a = c.args in
    let room = c.requires.2 in
    let x = c.put_start-a in
    let y = c.put_counts in
    let z = c.put_texts in
    let e = a.e in
    let o = order_by a.msf in
    let label = a.label.now in
    let stamp = a.stamp.now in
    let begins = start_bytes e.number o in
    let counts = count_bytes o e.n_width a.k a.n in
    let texts = text_bytes o e.label_length label stamp in
    let one = puts_first x.ensures.1 (omega (arith, room)) in
    let two = puts_part one counts y.new.out y.result y.ensures.1 (omega (arith, room)) in
    let three = puts_part two texts z.new.out z.result z.ensures.1 (omega (arith, room)) in
    puts_of
    (laid_as three
    (append_assoc begins counts texts ∙ new_parts e.number o e.n_width e.label_length e.label_max a.k a.n label stamp) refl)
