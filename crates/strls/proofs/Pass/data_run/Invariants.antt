use Rattle.strls.proofs.PassLaws.{Passing}
use Rattle.strls.proofs.Pass.data_run.Given as goal

abbrev pub invariant-loop-j : goal.invariant-loop-j
invariant-loop-j l =
    Passing l.self.f.now l.self.d l.start l.j l.q
