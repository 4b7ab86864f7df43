use Rattle.std.proofs.lemmas.Result.{err_from_is_err_and}
use Rattle.format.specs.Number.{order_by}
use Rattle.format.specs.Header.{counted}
use Rattle.section.proofs.PartLaws.{first_refused, part_refused, part_judged}
use Rattle.header.specs.Rules.{holds}
use Rattle.header.proofs.counted_part.Goals as goal

pub returns-in_err-a : goal.returns-in_err-a
returns-in_err-a c =
    let a = c.args in
    let p = err_from_is_err_and c.from_residual.result c.from_residual.ensures.1 in
    rw (p.1, p.2) (first_refused a.first.now a.last.now (counted (order_by a.msf) a.w (holds a.rule)) a.f.now a.p _ c.in_err-a.ensures)

pub returns-in_err-b : goal.returns-in_err-b
returns-in_err-b c =
    let a = c.args in
    let p = err_from_is_err_and c.from_residual-in_err-b.result c.from_residual-in_err-b.ensures.1 in
    rw (p.1, p.2) (part_refused a.first.now a.last.now (counted (order_by a.msf) a.w (holds a.rule)) a.f.now a.p c.in_ok-a.ensures _ c.in_err-b.ensures)

pub returns : goal.returns
returns c =
    let a = c.args in
    part_judged a.first.now a.last.now (counted (order_by a.msf) a.w (holds a.rule)) a.f.now a.p c.in_ok-a.ensures c.in_ok-b.ensures _ c.tag_or-2.ensures
