use Prim.Native.Nat.{◌-◌}
use Rattle.format.specs.Number.{order_by}
use Rattle.write_strls.proofs.LoopLaws.{LongsDone}
use Rattle.write_strls.proofs.put_records.Given as goal

abbrev pub invariant-loop-from : goal.invariant-loop-from
invariant-loop-from l = LongsDone l.tagged (order_by l.msf) l.ow (order_by l.tomsf) l.toow l.f l.p l.q l.initial.out l.out l.from l.to

abbrev pub decreases-loop-from : goal.decreases-loop-from
decreases-loop-from l = l.q - l.from
