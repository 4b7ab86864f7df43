use Prim.Native.Nat.{◌+◌, ◌≤◌}
use mathlib.Core.Path.{refl}
use native.Mathlib.Omega.{arith}
use lib.ListN.{length, take, drop, length-drop}
use lib.Seq.{length-take-le}
use Rattle.format.specs.Number.{order_by}
use Rattle.text.proofs.Lay.{laid_part, laid_as}
use Rattle.writing.proofs.Chain.{puts_first, puts_of}
use Rattle.write_strls.proofs.RecordLaws.{record_parts}
use Rattle.write_strls.proofs.put_record.Goals as goal

pub returns : goal.returns
returns c =
    let a = c.args in
    let part = drop (a.p + (12 + a.ow)) a.f.now in
    let inside : a.n ≤ length part = simp length-drop (omega arith) in
    let head = puts_first c.put_head.ensures (omega arith) in
    let both = laid_part head (take a.n part) c.put_bytes.new.out a.n (length-take-le a.n part inside) (omega arith) c.put_bytes.ensures in
    puts_of
    (laid_as both
    (record_parts (order_by a.msf) a.ow a.f.now a.p (order_by a.tomsf) a.toow _ _ _ a.n c.number-v.ensures.is c.number-o.ensures.is c.number-kind.ensures.is) refl)
