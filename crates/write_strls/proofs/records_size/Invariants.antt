use Prim.Native.Nat.{◌-◌}
use Rattle.format.specs.Number.{order_by}
use Rattle.write_strls.proofs.LoopLaws.{LongsCounted}
use Rattle.write_strls.proofs.records_size.Given as goal

abbrev pub invariant-loop-at : goal.invariant-loop-at
invariant-loop-at l = LongsCounted l.tagged (order_by l.msf) l.ow (order_by l.msf) l.toow l.f l.p l.q 18446744073709551615 l.at l.sum

abbrev pub decreases-loop-at : goal.decreases-loop-at
decreases-loop-at l = l.q - l.at
