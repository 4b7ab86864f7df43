use Prim.Native.Nat.{◌-◌}
use lib.ListN.{length}
use Rattle.format.specs.Number.{order_by}
use Rattle.long_list.proofs.LongLaws.{LongsCounted}
use Rattle.long_list.proofs.longs_count.Given as goal

abbrev pub invariant-loop-at : goal.invariant-loop-at
invariant-loop-at l = LongsCounted l.tagged (order_by l.msf) l.ow l.f l.p l.q (length l.f) l.at l.n

abbrev pub decreases-loop-at : goal.decreases-loop-at
decreases-loop-at l = l.q - l.at
