use mathlib.Core.Path.{refl}
use mathlib.Core.Bool.{true}
use mathlib.Core.List.{◌++◌}
use native.Mathlib.Omega.{arith}
use Rattle.format.specs.Number.{order_by}
use Rattle.format.specs.Edition.{opening, closing, n_label, n_timestamp, n_header}
use Rattle.text.proofs.Lay.{laid_as}
use Rattle.writing.proofs.Chain.{puts_first, puts_part, puts_of}
use Rattle.write_new_header.specs.Parts.{counted_bytes, tagged}
use Rattle.write_new_header.proofs.NewLaws.{texts_as}
use Rattle.write_new_header.proofs.put_texts.Goals as goal

pub returns : goal.returns
returns c =
    let a = c.args in
    let room = c.requires.1 in
    let x = c.put_counted_part-a in
    let y = c.put_counted_part in
    let o = order_by a.msf in
    let label = a.label.now in
    let stamp = a.stamp.now in
    let first = tagged (opening true n_label) (closing true n_label) (counted_bytes o a.w label) in
    let last = tagged (opening true n_timestamp) (closing true n_timestamp ++ closing true n_header) (counted_bytes o 1 stamp) in
    let one = puts_first {g = first} x.ensures.1 (omega (arith, room)) in
    let two = puts_part {t = first} one last y.new.out y.result y.ensures.1 (omega (arith, room)) in
    (omega arith, puts_of (laid_as two (texts_as o a.w label stamp) refl))
