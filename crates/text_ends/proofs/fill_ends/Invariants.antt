use Rattle.text_ends.proofs.EndLaws.{Ending}
use Rattle.text_ends.proofs.fill_ends.Given as goal

abbrev pub invariant-loop-b : goal.invariant-loop-b
invariant-loop-b l = Ending l.f l.a l.x l.t l.b l.y l.e
