use mathlib.Core.Path.{refl}
use Rattle.set_tables.proofs.SameLaws.{part_there}
use Rattle.set_tables.proofs.MarkLaws.{next_named}
use Rattle.set_tables.proofs.is_next.Goals as goal

pub returns : goal.returns
returns c =
    let a = c.args in
    let n = c.name_of-name.ensures in
    next_named _ _ a.v.now _ a.t.now a.k c.if-t-k-ne0.false _ _ (part_there _ _ _ c.part_of.ensures n.inside n.is) (part_there _ _ _ c.part_of-2.ensures c.requires.0 refl) _ c.eq.ensures
