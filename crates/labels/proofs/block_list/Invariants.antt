use Prim.Native.Nat.{◌-◌}
use lib.ListN.{length}
use Rattle.format.specs.Number.{order_by}
use Rattle.section.proofs.WalkSteps.{Walked}
use Rattle.labels.specs.Parts.{block_walk}
use Rattle.labels.proofs.block_list.Given as goal

abbrev pub invariant-loop-q : goal.invariant-loop-q
invariant-loop-q l = Walked (block_walk l.tagged (order_by l.msf) l.w) l.f l.p l.q

abbrev pub decreases-loop-q : goal.decreases-loop-q
decreases-loop-q l = length l.f - l.q
