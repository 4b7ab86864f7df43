use Prim.Native.Nat.{ℕ, ◌+◌}
use Rattle.questions.specs.Ask.{ask_cell}
use Rattle.checking.specs.Checks.{layout_by}
use Rattle.cell_runs.proofs.NextLaws.{Along}
use Rattle.cell_runs.proofs.RunLaws.{Run}
use Rattle.cell_runs.proofs.cells_along.Given as goal

abbrev pub invariant-loop-m : goal.invariant-loop-m
invariant-loop-m l =
    (Run l.f (layout_by l.l) l.i l.j (λ (x : ℕ). ask_cell (l.i + x) l.j) l.i l.l.k l.initial.out l.n l.m l.out) × Along l.f (layout_by l.l) l.i l.initial.c l.m l.c
