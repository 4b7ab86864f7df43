use native.Mathlib.Omega.{arith}
use Rattle.dta_facts.specs.Exports.{given}
use Rattle.dta_facts.proofs.AskLaws.{answer_room, answer_none}
use Rattle.dta_facts.proofs.put_answer.Goals as goal

pub returns-then-out-ge4 : goal.returns-then-out-ge4
returns-then-out-ge4 c =
    let a = c.args in
    answer_room a.out.now (given a.x) (omega (arith, c.if-out-ge4.true)) c.put_four.ensures c.numbers_of.ensures

pub returns-else-out-ge4 : goal.returns-else-out-ge4
returns-else-out-ge4 c =
    let a = c.args in
    answer_none a.out.now (given a.x) (omega arith)
