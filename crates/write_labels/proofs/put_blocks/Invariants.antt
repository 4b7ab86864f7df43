use Prim.Native.Nat.{◌-◌}
use Rattle.format.specs.Number.{order_by}
use Rattle.write_labels.proofs.LoopLaws.{Putting}
use Rattle.write_labels.proofs.put_blocks.Given as goal

abbrev pub invariant-loop-at : goal.invariant-loop-at
invariant-loop-at l = Putting l.tagged (order_by l.msf) l.w l.f l.totagged (order_by l.tomsf) l.tow l.p l.q l.initial.out l.out l.at l.n

abbrev pub decreases-loop-at : goal.decreases-loop-at
decreases-loop-at l = l.q - l.at
