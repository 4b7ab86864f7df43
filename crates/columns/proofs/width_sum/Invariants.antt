use Rattle.format.specs.Number.{order_by}
use Rattle.columns.proofs.ColumnLaws.{Summed}
use Rattle.columns.proofs.width_sum.Given as goal

abbrev pub invariant-loop-j : goal.invariant-loop-j
invariant-loop-j l = Summed l.tagged (order_by l.msf) l.f l.n l.p l.sum l.j
