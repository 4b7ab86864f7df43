use mathlib.Core.Path.{ap, ◌∙◌}
use Rattle.std.specs.Prelude.{Ok}
use Rattle.std.proofs.lemmas.Result.{err_from_is_err_and}
use Rattle.questions.specs.Ask.{is_date}
use Rattle.checking.specs.Checks.{layout_by}
use Rattle.text_facts.proofs.DateLaws.{dated, date_refused, date_marked}
use Rattle.text_facts.proofs.date_mark.Goals as goal

pub returns-in_err-format : goal.returns-in_err-format
returns-in_err-format c =
    let a = c.args in
    let p = err_from_is_err_and c.from_residual.result c.from_residual.ensures.1 in
    rw (p.1, p.2) (date_refused _ c.in_err-format.ensures (dated a.f.now (layout_by a.l) a.i))

pub returns : goal.returns
returns c =
    let a = c.args in
    let m = date_marked _ c.in_ok-format.ensures (dated a.f.now (layout_by a.l) a.i) in
    ap Ok (c.is_date.ensures ∙ ap is_date c.part_of.ensures) ∙ m
