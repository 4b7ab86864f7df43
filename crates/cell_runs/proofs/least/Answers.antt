use native.Mathlib.Omega.{arith}
use Rattle.cell_runs.proofs.RunLaws.{least_left, least_right}
use Rattle.cell_runs.proofs.least.Goals as goal

pub returns-then-a-b : goal.returns-then-a-b
returns-then-a-b c = let a = c.args in least_left a.a a.b c.if-a-b.true

pub returns-else-a-b : goal.returns-else-a-b
returns-else-a-b c = let a = c.args in least_right a.a a.b (omega arith)
