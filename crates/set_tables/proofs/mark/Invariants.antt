use Rattle.checking.specs.Checks.{layout_by}
use Rattle.questions.specs.Ask.{slice}
use Rattle.set_tables.proofs.MarkLaws.{Marking}
use Rattle.set_tables.proofs.mark.Given as goal

abbrev pub invariant-loop-k : goal.invariant-loop-k
invariant-loop-k l = Marking l.f (layout_by l.l) l.v (slice l.f l.text.at l.text.len) l.x l.initial.t l.first l.k l.t
