use mathlib.Core.Path.{refl}
use Rattle.std.proofs.lemmas.Result.{err_from_is_err_and}
use Rattle.questions.specs.Ask.{ask_label}
use Rattle.checking.specs.Checks.{layout_by}
use Rattle.answers.specs.Answers.{part_by}
use Rattle.answers.proofs.TellLaws.{tells_refused, tells_open}
use Rattle.header_facts.proofs.HeadLaws.{label_new, label_old}
use Rattle.header_facts.proofs.label.Goals as goal

pub returns-in_err-o : goal.returns-in_err-o
returns-in_err-o c =
    let a = c.args in
    let p = err_from_is_err_and c.from_residual.result c.from_residual.ensures.1 in
    rw (p.1, p.2) (tells_refused a.f.now (layout_by a.l) ask_label part_by (λ n. refl) _ c.in_err-o.ensures)

pub returns-then-o : goal.returns-then-o
returns-then-o c =
    let a = c.args in
    let f = a.f.now in
    let l = layout_by a.l in
    tells_open f l ask_label _ c.in_ok-o.ensures part_by _ (label_new f l _ c.if-o.true) c.counted_part.ensures

pub returns : goal.returns
returns c =
    let a = c.args in
    let f = a.f.now in
    let l = layout_by a.l in
    tells_open f l ask_label _ c.in_ok-o.ensures part_by _ (label_old f l _ c.if-o.false) c.text_field.ensures
