use Prim.Native.Nat.{◌*◌}
use Rattle.text.proofs.Lay.{Laid}
use Rattle.std.specs.Prelude.{Err}
use Rattle.asking.specs.Asking.{answer_by, by_cell}
use Rattle.coded.specs.Coded.{numbers_of}
use Rattle.cell_runs.specs.Held.{times}
use Rattle.cell_runs.proofs.put_refused.Given as goal

abbrev pub invariant-loop-m : goal.invariant-loop-m
invariant-loop-m l = Laid (times l.m (numbers_of (answer_by (by_cell (Err l.fn.refusal))))) (l.m * 4) l.initial.out l.out
