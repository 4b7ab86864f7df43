use mathlib.Core.Path.{◌≡◌, refl, ap, ◌∙◌}
use native.Mathlib.Omega.{arith}
use lib.ListN.{get_or}
use Rattle.std.specs.Prelude.{Ok, Err}
use Rattle.std.proofs.lemmas.Result.{err_from_is_err_and}
use Rattle.format.specs.Edition.{n_data}
use Rattle.questions.specs.Ask.{ask_cell}
use Rattle.checking.specs.Checks.{layout_by}
use Rattle.reading.proofs.PlaceLaws.{start_is}
use Rattle.answers.proofs.TellLaws.{is_open, tells_refused}
use Rattle.cells.specs.Cells.{said_by, row_in}
use Rattle.cells.proofs.CellLaws.{cell_unread}
use Rattle.cells.proofs.RowLaws.{can_read, said_in_lem, read_is}
use Rattle.cells.proofs.cell_in_column.Goals as goal

pub returns-in_err-o : goal.returns-in_err-o
returns-in_err-o c =
    let a = c.args in
    let p = err_from_is_err_and c.from_residual.result c.from_residual.ensures.1 in
    rw (p.1, p.2) (tells_refused a.f.now (layout_by a.l) (ask_cell a.i a.j) said_by (λ n. refl) _ (rw c.is_cell.ensures at c.in_err-o.ensures))

pub returns-in_err-c : goal.returns-in_err-c
returns-in_err-c c =
    let a = c.args in
    let p = err_from_is_err_and c.from_residual-in_err-c.result c.from_residual-in_err-c.ensures.1 in
    let d : Err c.in_err-c.field-0.0 ≡ a.c = grind arith in
    rw (p.1, p.2) (cell_unread a.f.now (layout_by a.l) a.i a.j c.in_ok-o.o (rw c.is_cell.ensures at c.in_ok-o.ensures) _ (d ∙ c.requires))

pub cell_in_row-requires : goal.cell_in_row-requires
cell_in_row-requires c =
    let a = c.args in
    let l = layout_by a.l in
    let o = c.in_ok-o.o in
    let k = c.in_ok-c.c in
    let d : Ok k ≡ a.c = grind arith in
    let s = start_is o.e.tagged n_data 6 (get_or a.l.places 9 0) c.tag_size-gap.result refl c.tag_size-gap.ensures in
    let R = c.row_in-row.ensures ∙ ap (row_in a.f.now (Ok k.row) a.j a.l.n) s in
    can_read a.f.now l a.i a.j o (read_is (is_open a.f.now l (ask_cell a.i a.j) o (rw c.is_cell.ensures at c.in_ok-o.ensures))) (Ok k) (d ∙ c.requires) k refl c.row_in-row.result R

pub returns : goal.returns
returns c =
    let a = c.args in
    let l = layout_by a.l in
    let o = c.in_ok-o.o in
    let k = c.in_ok-c.c in
    let d : Ok k ≡ a.c = grind arith in
    let s = start_is o.e.tagged n_data 6 (get_or a.l.places 9 0) c.tag_size-gap.result refl c.tag_size-gap.ensures in
    let R = c.row_in-row.ensures ∙ ap (row_in a.f.now (Ok k.row) a.j a.l.n) s in
    said_in_lem a.f.now l a.i a.j o (read_is (is_open a.f.now l (ask_cell a.i a.j) o (rw c.is_cell.ensures at c.in_ok-o.ensures))) (Ok k) (d ∙ c.requires) k refl c.row_in-row.result R
    (omega (arith, c.well_formed.0.0)) _ c.cell_in_row.ensures
