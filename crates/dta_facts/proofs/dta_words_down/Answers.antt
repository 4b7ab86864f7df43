use Rattle.format.specs.Dta.{Layout}
use Rattle.dta_facts.proofs.LayoutLaws.{tells_by}
use Rattle.dta_facts.proofs.StoreLaws.{runs_stored}
use Rattle.dta_facts.proofs.dta_words_down.Goals as goal

pub returns : goal.returns
returns c =
    let a = c.args in
    runs_stored a.count.now (tells_by (λ (l : Layout). l.rows) a.j c.layout_in.ensures c.words_down-words.ensures) c.number_of.ensures c.count_of.ensures c.put_first.ensures
