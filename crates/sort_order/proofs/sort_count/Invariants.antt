use Rattle.format.specs.Number.{order_by}
use Rattle.sort_order.proofs.SortLaws.{Counted}
use Rattle.sort_order.proofs.sort_count.Given as goal

abbrev pub invariant-loop-i : goal.invariant-loop-i
invariant-loop-i l = Counted (order_by l.msf) l.f l.p l.n l.i
