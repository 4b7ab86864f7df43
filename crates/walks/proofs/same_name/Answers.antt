use borrow.Author.Tests.{ne_eqb}
use Rattle.walks.proofs.BlockLaws.{name_other, name_same}
use Rattle.walks.proofs.same_name.Goals as goal

pub returns-then-n-m : goal.returns-then-n-m
returns-then-n-m c =
    let a = c.args in
    name_same a.f.now a.p a.n a.a a.m c.if-n-m.true _ c.same_at.ensures

pub returns-else-n-m : goal.returns-else-n-m
returns-else-n-m c =
    let a = c.args in
    rw (ne_eqb _ _ c.if-n-m.false) (name_other a.f.now a.p a.n a.a a.m c.if-n-m.false)
