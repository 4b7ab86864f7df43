use Rattle.format.specs.Number.{order_by}
use Rattle.write_texts.proofs.SortLaws.{Sorting}
use Rattle.write_texts.proofs.put_sort.Given as goal

abbrev pub invariant-loop-i : goal.invariant-loop-i
invariant-loop-i l = Sorting (order_by l.msf) (order_by l.to) l.f l.p l.n l.i l.initial.out l.out
