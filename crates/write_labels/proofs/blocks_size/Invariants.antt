use Prim.Native.Nat.{◌-◌}
use Rattle.format.specs.Number.{order_by}
use Rattle.write_labels.proofs.LoopLaws.{Counted}
use Rattle.write_labels.proofs.blocks_size.Given as goal

abbrev pub invariant-loop-at : goal.invariant-loop-at
invariant-loop-at l = Counted l.tagged (order_by l.msf) l.w l.f l.totagged l.tow l.p l.q l.at l.n

abbrev pub decreases-loop-at : goal.decreases-loop-at
decreases-loop-at l = l.q - l.at
