use Prim.Native.Nat.{◌*◌}
use Rattle.format.specs.Number.{order_by}
use Rattle.text.proofs.Lay.{Laid}
use Rattle.write_types.proofs.TypesLaws.{put_types}
use Rattle.write_types.proofs.put_types.Given as goal

abbrev pub invariant-loop-i : goal.invariant-loop-i
invariant-loop-i l = Laid (put_types l.tagged (order_by l.msf) l.f l.p l.totagged (order_by l.tomsf) l.i) (l.i * l.w) l.initial.out l.out
