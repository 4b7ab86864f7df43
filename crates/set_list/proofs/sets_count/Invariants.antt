use Prim.Native.Nat.{◌-◌}
use lib.ListN.{length}
use Rattle.format.specs.Number.{order_by}
use Rattle.long_list.proofs.TellLaws.{TellCounted}
use Rattle.set_list.proofs.SetLaws.{set_teller}
use Rattle.set_list.proofs.sets_count.Given as goal

abbrev pub invariant-loop-at : goal.invariant-loop-at
invariant-loop-at l = TellCounted (set_teller l.tagged (order_by l.msf) l.w) l.f l.p l.q (length l.f) l.at l.n

abbrev pub decreases-loop-at : goal.decreases-loop-at
decreases-loop-at l = l.q - l.at
