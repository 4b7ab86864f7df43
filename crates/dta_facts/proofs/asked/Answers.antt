use mathlib.Core.Path.{ap, ◌∙◌}
use Rattle.checking.specs.Checks.{layout_by}
use Rattle.asking.specs.Asking.{answer_by}
use Rattle.asking.proofs.AskLaws.{asked_means}
use Rattle.dta_facts.specs.Exports.{layout_in}
use Rattle.dta_facts.proofs.AskLaws.{asked_none, asked_some, asked_of}
use Rattle.dta_facts.proofs.asked.Goals as goal

pub returns-then-q-gt15 : goal.returns-then-q-gt15
returns-then-q-gt15 c =
    let a = c.args in
    asked_none a.file.now (layout_in a.layout.now) a.q a.i a.j c.if-q-gt15.true

pub returns : goal.returns
returns c =
    let a = c.args in
    asked_some a.file.now (layout_in a.layout.now) a.q a.i a.j _ c.if-q-gt15.false (ap answer_by c.asked.ensures ∙ asked_means a.file.now (layout_by c.layout_in.result) c.question_of.result ∙ asked_of a.file.now c.layout_in.ensures c.question_of.ensures)
