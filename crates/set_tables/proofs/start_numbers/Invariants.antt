use Rattle.checking.specs.Checks.{layout_by}
use Rattle.set_tables.proofs.StartLaws.{Starting}
use Rattle.set_tables.proofs.start_numbers.Given as goal

abbrev pub invariant-loop-k : goal.invariant-loop-k
invariant-loop-k l = Starting l.f (layout_by l.l) l.v l.k l.t
