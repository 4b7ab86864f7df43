use borrow.Author.Tests.{ne_eqb}
use Rattle.format.specs.Number.{order_by}
use Rattle.walks.proofs.RecordLaws.{not_of, of_row}
use Rattle.walks.proofs.is_of.Goals as goal

pub returns-then-number-v : goal.returns-then-number-v
returns-then-number-v c =
    let a = c.args in
    let m = c.number-then-number-v in
    of_row a.w (order_by a.msf) a.f.now a.p a.v a.o c.number.result c.number.ensures.is c.if-number-v.true m.result m.ensures.is

pub returns-else-number-v : goal.returns-else-number-v
returns-else-number-v c =
    let a = c.args in
    rw (ne_eqb _ _ c.if-number-v.false) (not_of a.w (order_by a.msf) a.f.now a.p a.v a.o c.number.result c.number.ensures.is c.if-number-v.false)
