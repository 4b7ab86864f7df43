use mathlib.Core.Path.{refl}
use native.Mathlib.Omega.{arith}
use Rattle.std.specs.Prelude.{Err}
use Rattle.asking.specs.Asking.{answer_by, by_cell}
use Rattle.coded.specs.Coded.{numbers_of}
use Rattle.cell_runs.proofs.RunLaws.{times_none, times_on}
use Rattle.cell_runs.proofs.put_refused.Goals as goal

pub loop-m-init : goal.loop-m-init
loop-m-init c = times_none (numbers_of (answer_by (by_cell (Err c.args.refusal)))) c.args.out.now

pub loop-m-preserved : goal.loop-m-preserved
loop-m-preserved c =
    times_on (numbers_of (answer_by (by_cell (Err c.args.refusal)))) c.loop-m.m c.loop-m.invariant refl (omega (arith, c.requires, c.loop-m-test.true)) _ c.put_said.ensures
