use mathlib.Core.Path.{sym, ◌∙◌}
use Rattle.strls.proofs.StrlLaws.{eleven_refused, eleven_passed}
use Rattle.strls.proofs.Strls.linked_records.Goals as goal

pub returns-in_ok-records : goal.returns-in_ok-records
returns-in_ok-records c =
    let r = c.rule_11-passed in
    eleven_refused c.args.self.f.now c.args.self.d c.args.start c.args.self.framed c.in_ok-records.ensures r.result r.ensures.is (sym c.is_err.ensures.value ∙ c.if-is_err.true)

pub returns-else-is_err : goal.returns-else-is_err
returns-else-is_err c =
    let r = c.rule_11-passed in
    eleven_passed c.args.self.f.now c.args.self.d c.args.start c.args.self.framed c.requires r.result r.ensures.is (sym c.is_err.ensures.value ∙ c.if-is_err.false)
