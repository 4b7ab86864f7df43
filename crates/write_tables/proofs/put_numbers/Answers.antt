use native.Mathlib.Omega.{arith}
use Rattle.format.specs.Number.{order_by}
use Rattle.write_tables.proofs.MarkLaws.{numbers_turn}
use Rattle.write_tables.proofs.put_numbers.Goals as goal

pub loop-i-preserved : goal.loop-i-preserved
loop-i-preserved c =
    let a = c.args in
    let l = c.loop-i in
    let k = c.number-x in
    numbers_turn (order_by a.msf) (order_by a.to) a.f.now a.n l.i a.p k.result l.invariant (omega arith) (omega arith) k.ensures.is c.put_number.new.out c.put_number.ensures
