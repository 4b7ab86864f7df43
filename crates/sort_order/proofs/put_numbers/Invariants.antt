use Rattle.format.specs.Number.{order_by}
use Rattle.sort_order.proofs.SortLaws.{Done}
use Rattle.sort_order.proofs.put_numbers.Given as goal

abbrev pub invariant-loop-i : goal.invariant-loop-i
invariant-loop-i l = Done (order_by l.msf) l.f l.p l.n l.initial.out l.out l.i
