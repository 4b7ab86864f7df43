use Prim.Native.Nat.{◌*◌}
use lib.ListN.{take}
use Rattle.format.specs.Number.{order_by}
use Rattle.text.proofs.Lay.{Laid}
use Rattle.write_map.proofs.MapLaws.{positions}
use Rattle.write_map.proofs.put_positions.Given as goal

abbrev pub invariant-loop-i : goal.invariant-loop-i
invariant-loop-i l = Laid (positions (order_by l.msf) (take l.i l.places)) (l.i * 8) l.initial.out l.out
