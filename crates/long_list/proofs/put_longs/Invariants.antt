use Prim.Native.Nat.{◌-◌}
use Rattle.format.specs.Number.{order_by}
use Rattle.long_list.proofs.LongLaws.{LongsDone}
use Rattle.long_list.proofs.put_longs.Given as goal

abbrev pub invariant-loop-from : goal.invariant-loop-from
invariant-loop-from l = LongsDone l.tagged (order_by l.msf) l.ow l.f l.p l.q l.initial.out l.out l.from l.to

abbrev pub decreases-loop-from : goal.decreases-loop-from
decreases-loop-from l = l.q - l.from
