use mathlib.Core.Path.{sym}
use native.Mathlib.Omega.{arith}
use Rattle.format.specs.Number.{order_by}
use Rattle.write_types.proofs.TypesLaws.{types_more, types_stop}
use Rattle.write_types.proofs.types_held.Goals as goal

pub returns-then-not-has_type : goal.returns-then-not-has_type
returns-then-not-has_type c =
    let a = c.args in
    let x = c.field_at-x in
    sym (types_stop a.tagged (order_by a.msf) a.f.now a.p a.totagged a.k c.loop-i.i c.requires (omega arith) x.result x.ensures cc)

pub loop-i-preserved : goal.loop-i-preserved
loop-i-preserved c =
    let a = c.args in
    let x = c.field_at-x in
    types_more a.tagged (order_by a.msf) a.f.now a.p a.totagged a.k c.loop-i.i c.requires (omega arith) x.result x.ensures (cc) c.loop-i.invariant
