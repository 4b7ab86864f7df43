use Rattle.format.specs.Number.{order_by}
use Rattle.reading.proofs.ReadLaws.{read_none, read_got}
use Rattle.walks.proofs.TableLaws.{sized_no_count, sized_no_size, sized_is}
use Rattle.walks.proofs.is_sized.Goals as goal

pub returns-in_default : goal.returns-in_default
returns-in_default c =
    let a = c.args in
    sized_no_count (order_by a.msf) a.f.now a.w a.p (read_none _ c.in_default.ensures.is)

pub returns-in_default-number_in : goal.returns-in_default-number_in
returns-in_default-number_in c =
    let a = c.args in
    sized_no_size (order_by a.msf) a.f.now a.w a.p _ (read_got _ _ c.in-Some.ensures.is) (read_none _ c.in_default-number_in.ensures.is)

pub returns : goal.returns
returns c =
    let a = c.args in
    sized_is (order_by a.msf) a.f.now a.w a.p _ (read_got _ _ c.in-Some.ensures.is) _ (read_got _ _ c.in-Some-number_in.ensures.is)
