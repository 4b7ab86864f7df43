use Prim.Native.Nat.{ℕ, ◌+◌}
use Rattle.questions.specs.Ask.{ask_cell}
use Rattle.checking.specs.Checks.{layout_by}
use Rattle.cell_runs.proofs.RunLaws.{Run}
use Rattle.cell_runs.proofs.cells_down.Given as goal

abbrev pub invariant-loop-m : goal.invariant-loop-m
invariant-loop-m l = Run l.f (layout_by l.l) l.i l.j (λ (x : ℕ). ask_cell l.i (l.j + x)) l.j l.l.n l.initial.out l.n l.m l.out
