use borrow.Author.Tests.{not-true}
use Rattle.std.proofs.lemmas.Result.{err_from_is_err_and}
use Rattle.strls.proofs.StrlLaws.{first_refused, linked_refused, closed_judged, first_by, none_there}
use Rattle.strls.proofs.strl_list.Goals as goal

pub returns-then-not-d : goal.returns-then-not-d
returns-then-not-d c =
    let a = c.args in none_there a.f.now a.d c.requires.0 (not-true a.d.tagged c.if-not-d.true) a.p c.requires.1

pub returns-in_err-start : goal.returns-in_err-start
returns-in_err-start c =
    let a = c.args in
    let p = err_from_is_err_and c.from_residual.result c.from_residual.ensures.1 in
    rw (p.1, p.2) (first_refused a.f.now a.d a.p _ (first_by a.f.now a.d a.p _ c.in_err-start.ensures))

pub returns-in_err-end : goal.returns-in_err-end
returns-in_err-end c =
    let a = c.args in
    let p = err_from_is_err_and c.from_residual-in_err-end.result c.from_residual-in_err-end.ensures.1 in
    rw (p.1, p.2) (linked_refused a.f.now a.d a.p (first_by a.f.now a.d a.p _ c.in_ok-start.ensures) _ c.in_err-end.ensures)

pub returns : goal.returns
returns c =
    let a = c.args in
    closed_judged a.f.now a.d a.p (first_by a.f.now a.d a.p _ c.in_ok-start.ensures) c.in_ok-end.ensures _ c.tag_or-2.ensures
