use Prim.Native.Nat.{◌-◌}
use lib.ListN.{length}
use Rattle.format.specs.Number.{order_by}
use Rattle.section.proofs.WalkSteps.{Walked}
use Rattle.expansion.specs.Parts.{blocks}
use Rattle.expansion.proofs.block_list.Given as goal

abbrev pub invariant-loop-q : goal.invariant-loop-q
invariant-loop-q l = Walked (blocks l.tagged (order_by l.msf)) l.f l.p l.q

abbrev pub decreases-loop-q : goal.decreases-loop-q
decreases-loop-q l = length l.f - l.q
