use native.Mathlib.Omega.{arith}
use Rattle.format.specs.Number.{order_by}
use Rattle.write_types.proofs.TypesLaws.{types_turn}
use Rattle.write_types.proofs.put_types.Goals as goal

pub loop-i-preserved : goal.loop-i-preserved
loop-i-preserved c =
    let a = c.args in
    let x = c.field_at-x in
    let k = c.code_of-c in
    let g = c.put_number in
    types_turn a.tagged (order_by a.msf) a.f.now a.p a.totagged (order_by a.tomsf) c.code_width-w.result c.code_width-w.ensures a.k c.loop-i.i c.requires.0 (omega arith) x.result x.ensures k.result k.ensures c.loop-i.invariant (rw c.code_width-w.ensures c.requires.1) g.new.out g.ensures
