use Rattle.refusal.specs.Refusals.{number_of}
use Rattle.section.proofs.StepLaws.{refused}
use Rattle.section.proofs.TagLaws.{tag_own}
use Rattle.section.proofs.tag_or.Goals as goal

pub returns-in-Err : goal.returns-in-Err
returns-in-Err c =
    let a = c.args in
    let n = rw c.number.ensures at c.in-Err.ensures in
    refused _ a.f.now a.p a.refusal (tag_own _ (number_of a.refusal) a.f.now a.p c.in-Err.field-0 n c.in-Err.field-0-test.1)
