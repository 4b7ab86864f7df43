use mathlib.Core.Path.{refl, ap, ◌∙◌}
use native.Mathlib.Omega.{arith}
use Rattle.format.specs.Dta.{layout_of}
use Rattle.asking.specs.Asking.{answer_by}
use Rattle.asking.proofs.AskLaws.{asked_means}
use Rattle.dta_facts.proofs.AskLaws.{asked_none, asked_some, asked_of}
use Rattle.dta_facts.proofs.checked_by.Goals as goal

pub returns-then-q-le15 : goal.returns-then-q-le15
returns-then-q-le15 c =
    let k = c.checked_asked-x in
    let a = c.args in
    let f = a.file.now in
    (k.ensures.0, asked_some f (layout_of f) a.q a.i a.j (answer_by k.result) (omega (arith, c.if-q-le15.true)) (ap answer_by k.ensures.1 ∙ asked_means f (layout_of f) c.question_of.result ∙ asked_of f refl c.question_of.ensures))

pub returns-else-q-le15 : goal.returns-else-q-le15
returns-else-q-le15 c =
    let a = c.args in
    (c.checked_asked-x.ensures.0, asked_none a.file.now (layout_of a.file.now) a.q a.i a.j (omega arith))
