use Prim.Native.Nat.{◌-◌}
use lib.ListN.{length}
use Rattle.format.specs.Number.{order_by}
use Rattle.walks.proofs.RecordLaws.{Come}
use Rattle.walks.proofs.records.Given as goal

abbrev pub invariant-loop-n : goal.invariant-loop-n
invariant-loop-n l = Come l.w (order_by l.msf) l.f l.v l.o l.end l.start l.p

abbrev pub decreases-loop-n : goal.decreases-loop-n
decreases-loop-n l = length l.f - l.p
