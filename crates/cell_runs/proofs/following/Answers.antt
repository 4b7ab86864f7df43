use mathlib.Core.Path.{sym}
use native.Mathlib.Omega.{arith}
use Rattle.columns.proofs.ColumnLaws.{among_in}
use Rattle.cell_runs.proofs.RunLaws.{following_none, following_some}
use Rattle.cell_runs.proofs.following.Goals as goal

pub returns-then-not-is_among : goal.returns-then-not-is_among
returns-then-not-is_among c = following_none c.args.i c.args.k (sym c.if-not-is_among.ensures)

pub overflow_add-result : goal.overflow_add-result
overflow_add-result c = let b = among_in c.args.i c.args.k (sym c.if-not-is_among.ensures) in omega (arith, b, c.well_formed)

pub returns : goal.returns
returns c = following_some c.args.i c.args.k (sym c.if-not-is_among.ensures)
