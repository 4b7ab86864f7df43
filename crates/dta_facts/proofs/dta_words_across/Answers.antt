use Rattle.dta_facts.proofs.LayoutLaws.{across_by}
use Rattle.dta_facts.proofs.StoreLaws.{runs_stored}
use Rattle.dta_facts.proofs.dta_words_across.Goals as goal

pub returns : goal.returns
returns c =
    let a = c.args in
    runs_stored a.count.now (across_by a.variables.now a.j a.rows c.layout_in.ensures c.words_across-across.ensures) c.number_of.ensures c.count_of.ensures c.put_first.ensures
