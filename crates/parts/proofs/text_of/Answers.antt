use mathlib.Core.Path.{ap, ◌∙◌}
use Rattle.questions.specs.Ask.{shown}
use Rattle.checking.specs.Checks.{layout_by}
use Rattle.asking.specs.Asking.{answer_by}
use Rattle.asking.proofs.AskLaws.{asked_means}
use Rattle.parts.proofs.text_of.Goals as goal

pub returns-in-Some : goal.returns-in-Some
returns-in-Some c =
    let a = c.args in
    let f = a.file.now in
    let m = ap answer_by c.ask.ensures ∙ asked_means f (layout_by a.layout) a.q in
    c.part_at.ensures ∙ (c.in-Some.ensures f ∙ ap (shown f) m)

pub returns-in-None : goal.returns-in-None
returns-in-None c =
    let a = c.args in
    let f = a.file.now in
    let m = ap answer_by c.ask.ensures ∙ asked_means f (layout_by a.layout) a.q in
    c.in-None.ensures f ∙ ap (shown f) m
