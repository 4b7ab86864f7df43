use mathlib.Core.Path.{◌≡◌}
use Prim.Native.Nat.{◌+◌, ◌*◌}
use Rattle.format.specs.Number.{order_by}
use Rattle.map.specs.Maps.{positions_at}
use Rattle.format.specs.Dta.{same_list}
use Rattle.map.proofs.MapLaws.{same_from}
use Rattle.map.proofs.map_same.Given as goal

abbrev pub invariant-loop-i : goal.invariant-loop-i
invariant-loop-i l = same_from (order_by l.msf) l.f l.places l.i (l.p + l.i * 8) ≡ same_list (positions_at (order_by l.msf) l.f l.p) l.places
