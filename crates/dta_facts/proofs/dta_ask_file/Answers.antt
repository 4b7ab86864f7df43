use Rattle.dta_facts.proofs.AskLaws.{file_stored}
use Rattle.dta_facts.proofs.dta_ask_file.Goals as goal

pub returns : goal.returns
returns c =
    let a = c.args in
    file_stored a.file.now a.answer.now c.checked_by-x.ensures.1 c.put_answer.ensures c.checked_by-x.ensures.0 c.code_of.ensures c.first_code.ensures
