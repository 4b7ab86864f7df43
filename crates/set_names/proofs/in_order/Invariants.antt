use Rattle.checking.specs.Checks.{layout_by}
use Rattle.set_names.proofs.ListedLaws.{Ordered}
use Rattle.set_names.proofs.in_order.Given as goal

abbrev pub invariant-loop-k : goal.invariant-loop-k
invariant-loop-k l = Ordered l.f (layout_by l.l) l.v l.k
