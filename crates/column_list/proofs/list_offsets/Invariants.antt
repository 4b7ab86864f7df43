use Rattle.checking.specs.Checks.{layout_by}
use Rattle.column_list.proofs.ListLaws.{Listed}
use Rattle.column_list.proofs.list_offsets.Given as goal

abbrev pub invariant-loop-v : goal.invariant-loop-v
invariant-loop-v l = Listed l.f (layout_by l.fn.l) l.n l.initial.t l.t l.v l.c
