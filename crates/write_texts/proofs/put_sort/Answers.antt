use native.Mathlib.Omega.{arith}
use Rattle.format.specs.Number.{order_by}
use Rattle.write_texts.proofs.SortLaws.{sort_turn, sort_stop}
use Rattle.write_texts.proofs.put_sort.Goals as goal

pub returns-then-x-eq0 : goal.returns-then-x-eq0
returns-then-x-eq0 c =
    let a = c.args in
    sort_stop (order_by a.msf) (order_by a.to) a.f.now a.p a.n c.loop-i.invariant (omega arith) (omega arith) c.number-x.result c.number-x.ensures.is c.put_zeros.new.out c.if-x-eq0.true c.put_zeros.ensures

pub loop-i-preserved : goal.loop-i-preserved
loop-i-preserved c =
    let a = c.args in
    sort_turn (order_by a.msf) (order_by a.to) a.f.now a.p a.n c.loop-i.invariant (omega arith) (omega arith) c.number-x.result c.number-x.ensures.is c.put_number.new.out c.if-x-eq0.false c.put_number.ensures
