use mathlib.Core.Path.{◌≡◌, refl}
use mathlib.Core.Bool.{true}
use native.Mathlib.Omega.{arith}
use lib.ListN.{length}
use Rattle.format.specs.Number.{order_by}
use Rattle.format.specs.Edition.{closing, n_map}
use Rattle.text.proofs.Lay.{laid_part, laid_as}
use Rattle.writing.proofs.Chain.{puts_first, puts_part, puts_of}
use Rattle.write_map.proofs.MapLaws.{positions, positions_length, map_parts}
use Rattle.write_map.proofs.put_tagged.Goals as goal

pub returns : goal.returns
returns c =
    let a = c.args in
    let h = c.put_tag-a in
    let n = c.put_positions in
    let t = c.put_tag in
    let o = order_by a.msf in
    let d = a.places in
    let few : length d ≡ 14 = c.requires.0 in
    let long : length (positions o d) ≡ 112 = omega (arith, positions_length o d, few) in
    let one = puts_first h.ensures (omega arith) in
    let two = laid_part one (positions o d) n.new.out 112 long (omega arith) n.ensures in
    let three = puts_part two (closing true n_map) t.new.out t.result t.ensures (omega arith) in
    puts_of (laid_as three (map_parts o d) refl)
