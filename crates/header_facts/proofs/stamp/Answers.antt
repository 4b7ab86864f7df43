use mathlib.Core.Path.{refl}
use Rattle.std.proofs.lemmas.Result.{err_from_is_err_and}
use Rattle.questions.specs.Ask.{ask_stamp}
use Rattle.checking.specs.Checks.{layout_by}
use Rattle.answers.specs.Answers.{part_by}
use Rattle.answers.proofs.TellLaws.{tells_refused, tells_open}
use Rattle.header_facts.proofs.HeadLaws.{stamp_new, stamp_old}
use Rattle.header_facts.proofs.stamp.Goals as goal

pub returns-in_err-o : goal.returns-in_err-o
returns-in_err-o c =
    let a = c.args in
    let p = err_from_is_err_and c.from_residual.result c.from_residual.ensures.1 in
    rw (p.1, p.2) (tells_refused a.f.now (layout_by a.l) ask_stamp part_by (λ n. refl) _ c.in_err-o.ensures)

pub returns-then-o : goal.returns-then-o
returns-then-o c =
    let a = c.args in
    let f = a.f.now in
    let l = layout_by a.l in
    tells_open f l ask_stamp _ c.in_ok-o.ensures part_by _ (stamp_new f l _ c.if-o.true) c.new_stamp.ensures

pub returns : goal.returns
returns c =
    let a = c.args in
    let f = a.f.now in
    let l = layout_by a.l in
    tells_open f l ask_stamp _ c.in_ok-o.ensures part_by _ (stamp_old f l _ c.if-o.false) c.text_field.ensures
