use mathlib.Core.Path.{refl}
use mathlib.Core.List.{append_assoc}
use native.Mathlib.Omega.{arith}
use Rattle.format.specs.Number.{order_by}
use Rattle.text.proofs.Lay.{laid_as}
use Rattle.writing.proofs.Chain.{puts_first, puts_part, puts_of}
use Rattle.write_new_header.specs.Parts.{counted_bytes}
use Rattle.write_new_header.proofs.put_counted_part.Goals as goal

pub returns : goal.returns
returns c =
    let a = c.args in
    let h = c.put_tag-a in
    let n = c.put_counted in
    let t = c.put_tag in
    let bytes = counted_bytes (order_by a.msf) a.w a.t.now in
    let one = puts_first h.ensures (omega arith) in
    let two = puts_part one bytes n.new.out n.result n.ensures.1 (omega arith) in
    let three = puts_part two a.last.now t.new.out t.result t.ensures (omega arith) in
    (omega arith, puts_of (laid_as three (append_assoc a.first.now bytes a.last.now) refl))
