use Prim.Native.Nat.{◌-◌}
use Rattle.format.specs.Number.{order_by}
use Rattle.questions.specs.Ask.{slice}
use Rattle.walks.proofs.BlockLaws.{Come}
use Rattle.walks.proofs.find_block.Given as goal

abbrev pub invariant-loop-p : goal.invariant-loop-p
invariant-loop-p l = Come l.tagged l.w (order_by l.msf) l.f (slice l.f l.a l.m) l.end l.start l.p

abbrev pub decreases-loop-p : goal.decreases-loop-p
decreases-loop-p l = l.end - l.p
