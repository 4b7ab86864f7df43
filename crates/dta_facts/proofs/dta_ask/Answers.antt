use Rattle.dta_facts.proofs.AskLaws.{ask_stored}
use Rattle.dta_facts.proofs.dta_ask.Goals as goal

pub returns : goal.returns
returns c =
    ask_stored c.args.answer.now c.asked-x.ensures c.put_answer.ensures c.code_of.ensures
