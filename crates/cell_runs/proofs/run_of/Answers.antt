use mathlib.Core.Path.{sym, ap, ◌∙◌}
use Prim.Native.Nat.{◌/◌}
use Rattle.checking.specs.Checks.{layout_by}
use Rattle.coded.specs.Coded.{following, least}
use Rattle.cell_runs.proofs.RunLaws.{run_there, run_none}
use Rattle.cell_runs.proofs.run_of.Goals as goal

pub returns-then-is_cell : goal.returns-then-is_cell
returns-then-is_cell c =
    let a = c.args in
    run_there (layout_by a.l) a.i a.j (following a.first a.last) a.room (sym c.if-is_cell.ensures) _
    (c.least.ensures ∙ ap (least (a.room / 4)) c.following.ensures)

pub returns : goal.returns
returns c =
    let a = c.args in
    run_none (layout_by a.l) a.i a.j (following a.first a.last) a.room (sym c.if-is_cell.ensures)
