use Prim.Native.Nat.{◌-◌}
use lib.ListN.{length}
use Rattle.strls.proofs.WalkLaws.{Walking}
use Rattle.strls.proofs.Strls.records.Given as goal

abbrev pub invariant-loop-self : goal.invariant-loop-self
invariant-loop-self l =
    Walking l.self.f.now l.self.d l.start l.q

abbrev pub decreases-loop-self : goal.decreases-loop-self
decreases-loop-self l =
    length l.self.f.now - l.q
