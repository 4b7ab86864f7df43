use Rattle.format.specs.Number.{order_by}
use Rattle.variable_facts.proofs.SortLaws.{Sorting}
use Rattle.variable_facts.proofs.sort_find.Given as goal

abbrev pub invariant-loop-x : goal.invariant-loop-x
invariant-loop-x l = Sorting (order_by l.msf) l.f l.i l.k l.start l.x l.p
