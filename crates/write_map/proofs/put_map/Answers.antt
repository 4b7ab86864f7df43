use Rattle.format.specs.Number.{order_by}
use Rattle.write_map.proofs.MapLaws.{map_untagged}
use Rattle.write_map.proofs.put_map.Goals as goal

pub returns-else-tagged : goal.returns-else-tagged
returns-else-tagged c =
    let a = c.args in
    map_untagged a.tagged (order_by a.msf) a.places a.out.now c.if-tagged.false
