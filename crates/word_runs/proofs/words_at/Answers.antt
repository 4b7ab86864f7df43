use mathlib.Core.Path.{◌≡◌, refl, ◌∙◌}
use native.Mathlib.Omega.{arith}
use Rattle.std.specs.Prelude.{Ok, Err}
use Rattle.std.proofs.lemmas.Result.{err_from_is_err_and}
use Rattle.checking.specs.Checks.{layout_by}
use Rattle.cells.proofs.CellLaws.{said_lettered}
use Rattle.label_words.proofs.WordLaws.{words_refused}
use Rattle.word_runs.proofs.ColumnLaws.{said_held, words_all, row_reads, row_says}
use Rattle.word_runs.proofs.words_at.Goals as goal

pub cell_in_row-said-requires : goal.cell_in_row-said-requires
cell_in_row-said-requires c =
    let a = c.args in
    let h = c.in-Ok.h in
    let d : Ok h ≡ a.h.now = grind arith in
    row_reads a.f.now (layout_by a.l.now) a.i a.j h _ d c.requires.0 a.gap c.requires.1 c.row_in-row.result c.row_in-row.ensures

pub words_of-requires : goal.words_of-requires
words_of-requires c =
    let a = c.args in
    let h = c.in-Ok.h in
    let d : Ok h ≡ a.h.now = grind arith in
    let S = row_says a.f.now (layout_by a.l.now) a.i a.j h _ d c.requires.0 a.gap c.requires.1 c.row_in-row.result c.row_in-row.ensures (omega (arith, c.well_formed.0.0)) _ c.cell_in_row-said.ensures in
    (said_lettered a.f.now (layout_by a.l.now) a.i a.j S, c.requires.3)

pub returns-in-Ok : goal.returns-in-Ok
returns-in-Ok c =
    let a = c.args in
    let h = c.in-Ok.h in
    let d : Ok h ≡ a.h.now = grind arith in
    let S = row_says a.f.now (layout_by a.l.now) a.i a.j h _ d c.requires.0 a.gap c.requires.1 c.row_in-row.result c.row_in-row.ensures (omega (arith, c.well_formed.0.0)) _ c.cell_in_row-said.ensures in
    c.words_of.ensures ∙ words_all a.f.now (layout_by a.l.now) a.i a.j c.cell_in_row-said.result S h (d ∙ c.requires.0) a.s c.requires.2

pub returns-in_err-cell_in-in-Err : goal.returns-in_err-cell_in-in-Err
returns-in_err-cell_in-in-Err c =
    let a = c.args in
    let p = err_from_is_err_and c.from_residual.result c.from_residual.ensures.1 in
    rw (p.1, p.2) (words_refused a.f.now (layout_by a.l.now) a.i a.j _ refl _ c.in_err-cell_in-in-Err.ensures)

pub returns-in_ok-cell_in-in-Err : goal.returns-in_ok-cell_in-in-Err
returns-in_ok-cell_in-in-Err c =
    let a = c.args in
    let d : Err c.in-Err.refusal ≡ a.h.now = grind arith in
    absurd (said_held a.f.now (layout_by a.l.now) a.i a.j _ c.in_ok-cell_in-in-Err.ensures _ (d ∙ c.requires.0))
