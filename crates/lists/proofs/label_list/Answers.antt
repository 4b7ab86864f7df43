use Rattle.format.specs.Edition.{n_variable_labels}
use Rattle.lists.proofs.ListLaws.{fields_judged}
use Rattle.lists.proofs.label_list.Goals as goal

pub returns : goal.returns
returns c =
    let a = c.args in
    fields_judged a.tagged a.w a.k a.f.now a.p _ n_variable_labels c.text_list.ensures
