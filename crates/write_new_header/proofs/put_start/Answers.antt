use mathlib.Core.Path.{refl}
use native.Mathlib.Omega.{arith}
use Rattle.format.specs.Number.{order_by}
use Rattle.format.specs.Edition.{digits}
use Rattle.text.proofs.Lay.{laid_as}
use Rattle.writing.proofs.Chain.{puts_first, puts_part, puts_of}
use Rattle.write_new_header.specs.Parts.{order_bytes}
use Rattle.write_new_header.proofs.NewLaws.{start_as}
use Rattle.write_new_header.proofs.put_start.Goals as goal

pub returns : goal.returns
returns c =
    let a = c.args in
    let room = c.requires in
    let h = c.put_tag-a in
    let x = c.put_digits in
    let y = c.put_order in
    let o = order_by a.msf in
    let one = puts_first h.ensures (omega (arith, room)) in
    let two = puts_part one (digits a.number) x.new.out x.result x.ensures.1 (omega (arith, room)) in
    let three = puts_part two (order_bytes o) y.new.out y.result y.ensures.1 (omega (arith, room)) in
    (omega arith, puts_of (laid_as three (start_as a.number o) refl))
