use Prim.Native.Nat.{◌-◌}
use Rattle.strls.proofs.PassLaws.{Running}
use Rattle.strls.proofs.Pass.row_run.Given as goal

abbrev pub invariant-loop-i : goal.invariant-loop-i
invariant-loop-i l =
    Running l.self.f.now l.self.d l.j l.start l.i l.q

abbrev pub decreases-loop-i : goal.decreases-loop-i
decreases-loop-i l =
    l.self.d.k - l.i
