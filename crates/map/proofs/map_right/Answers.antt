use mathlib.Core.Path.{ap, ◌∙◌}
use mathlib.Core.Bool.{not}
use Rattle.format.specs.Number.{order_by}
use Rattle.map.proofs.MapLaws.{map_inside, map_tagged, map_untagged}
use Rattle.map.proofs.map_right.Goals as goal

pub map_same-requires : goal.map_same-requires
map_same-requires c =
    let a = c.args in
    (map_inside a.f.now a.p (order_by a.msf) a.tagged c.if-not-tagged.false c.requires.0, c.requires.1)

pub returns-then-not-tagged : goal.returns-then-not-tagged
returns-then-not-tagged c =
    let a = c.args in
    ap not c.if-not-tagged.true ∙ map_untagged a.f.now a.p (order_by a.msf) a.tagged c.if-not-tagged.true a.places

pub returns-else-not-tagged : goal.returns-else-not-tagged
returns-else-not-tagged c =
    let a = c.args in
    map_tagged a.f.now a.p (order_by a.msf) a.tagged c.if-not-tagged.false _ _ c.map_same.ensures
