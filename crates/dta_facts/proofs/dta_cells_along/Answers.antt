use Rattle.format.specs.Dta.{Layout}
use Rattle.dta_facts.proofs.LayoutLaws.{tells_by}
use Rattle.dta_facts.proofs.StoreLaws.{runs_stored}
use Rattle.dta_facts.proofs.dta_cells_along.Goals as goal

pub returns : goal.returns
returns c =
    let a = c.args in
    runs_stored a.count.now (tells_by (λ (l : Layout). l.variables) a.i c.layout_in.ensures c.cells_along-along.ensures) c.number_of.ensures c.count_of.ensures c.put_first.ensures
