use mathlib.Core.Path.{◌≡◌}
use Prim.Native.Nat.{◌-◌}
use lib.ListN.{length}
use Rattle.format.specs.Number.{order_by}
use Rattle.long_list.proofs.TellLaws.{TellDone}
use Rattle.set_list.proofs.SetLaws.{set_teller}
use Rattle.set_list.proofs.put_sets.Given as goal

abbrev pub invariant-loop-at : goal.invariant-loop-at
invariant-loop-at l = TellDone (set_teller l.tagged (order_by l.msf) l.w) l.f l.p l.q l.initial.out l.out l.at l.n × (length l.t ≡ 20737)

abbrev pub decreases-loop-at : goal.decreases-loop-at
decreases-loop-at l = l.q - l.at
