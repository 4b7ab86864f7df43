use mathlib.Core.Path.{◌≡◌, refl, sym, ap, ◌∙◌}
use native.Mathlib.Omega.{arith}
use lib.ListN.{get_or}
use Rattle.std.specs.Prelude.{Ok, Err}
use Rattle.format.specs.Edition.{n_data}
use Rattle.questions.specs.Ask.{ask_cell}
use Rattle.checking.specs.Checks.{layout_by}
use Rattle.reading.proofs.AnswerLaws.{answer_out}
use Rattle.reading.proofs.PlaceLaws.{start_is}
use Rattle.cells.specs.Cells.{said_by, row_in}
use Rattle.cells.proofs.RowLaws.{can_read, said_in_lem, read_is}
use Rattle.cell_runs.proofs.HeldLaws.{held_is, held_open, held_unread}
use Rattle.cell_runs.proofs.cell_in.Goals as goal

pub returns-then-not-is_cell : goal.returns-then-not-is_cell
returns-then-not-is_cell c =
    let a = c.args in sym (ap said_by (answer_out a.f.now (layout_by a.l.now) (ask_cell a.i a.j) (sym c.if-not-is_cell.ensures)))

pub returns-in-Err : goal.returns-in-Err
returns-in-Err c =
    let a = c.args in
    let d : Err c.in-Err.e ≡ a.h.now = grind arith in
    held_unread a.f.now (layout_by a.l.now) a.i a.j (sym c.if-not-is_cell.ensures) _ (d ∙ c.requires)

pub cell_in_row-requires : goal.cell_in_row-requires
cell_in_row-requires c =
    let a = c.args in
    let f = a.f.now in
    let l = layout_by a.l.now in
    let h = c.in-Ok.h in
    let d : Ok h ≡ a.h.now = grind arith in
    let H = d ∙ c.requires in
    let s = start_is h.o.e.tagged n_data 6 (get_or a.l.now.places 9 0) c.tag_size-gap.result refl c.tag_size-gap.ensures in
    let R = c.row_in-row.ensures ∙ ap (row_in f (Ok h.c.row) a.j a.l.now.n) s in
    can_read f l a.i a.j h.o (read_is (held_open f l a.i h H)) (Ok h.c) (held_is f l a.i h H).1 h.c refl c.row_in-row.result R

pub returns-in-Ok : goal.returns-in-Ok
returns-in-Ok c =
    let a = c.args in
    let f = a.f.now in
    let l = layout_by a.l.now in
    let h = c.in-Ok.h in
    let d : Ok h ≡ a.h.now = grind arith in
    let H = d ∙ c.requires in
    let s = start_is h.o.e.tagged n_data 6 (get_or a.l.now.places 9 0) c.tag_size-gap.result refl c.tag_size-gap.ensures in
    let R = c.row_in-row.ensures ∙ ap (row_in f (Ok h.c.row) a.j a.l.now.n) s in
    said_in_lem f l a.i a.j h.o (read_is (held_open f l a.i h H)) (Ok h.c) (held_is f l a.i h H).1 h.c refl c.row_in-row.result R
    (omega (arith, c.well_formed.0.0)) _ c.cell_in_row.ensures
