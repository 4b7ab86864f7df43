use Rattle.lists.proofs.ListLaws.{names_judged}
use Rattle.lists.proofs.name_list.Goals as goal

pub returns : goal.returns
returns c =
    let a = c.args in
    names_judged a.tagged a.w a.k a.f.now a.p _ c.text_list.ensures
