use mathlib.Core.Path.{refl, ap, ◌∙◌}
use Prim.Native.Nat.{ℕ, ◌+◌}
use native.Mathlib.Omega.{arith}
use Rattle.std.specs.Prelude.{Ok}
use Rattle.std.proofs.lemmas.Result.{err_from_is_err_and}
use Rattle.format.specs.Edition.{n_data}
use Rattle.questions.specs.Ask.{place, ask_cell}
use Rattle.checking.specs.Checks.{layout_by}
use Rattle.reading.proofs.PlaceLaws.{start_is}
use Rattle.cells.specs.Cells.{row_in}
use Rattle.cells.proofs.RowLaws.{can_read, said_in_lem, read_is}
use Rattle.asking.proofs.AskLaws.{cell_means}
use Rattle.cell_runs.specs.Held.{held_by}
use Rattle.cell_runs.proofs.NextLaws.{in_among}
use Rattle.cell_runs.proofs.HeldLaws.{held_is, held_open, refused_cell}
use Rattle.cell_runs.proofs.RunLaws.{run_start, run_out, run_end, run_on, run_within, run_among, run_times}
use Rattle.cell_runs.proofs.cells_down.Goals as goal

pub returns-in_err-n : goal.returns-in_err-n
returns-in_err-n c =
    let a = c.args in
    let p = err_from_is_err_and c.from_residual.result c.from_residual.ensures.1 in
    rw (p.1, p.2) (run_out a.f.now (layout_by a.l) a.i a.j (λ (x : ℕ). ask_cell a.i (a.j + x)) a.j a.l.n a.out.now _ c.in_err-n.ensures)

pub returns-in-Err : goal.returns-in-Err
returns-in-Err c =
    let a = c.args in
    let f = a.f.now in
    let l = layout_by a.l in
    let q = λ (x : ℕ). ask_cell a.i (a.j + x) in
    let R = c.in_ok-n.ensures in
    let I = (run_among f l a.i a.j q a.j a.l.n a.out.now _ R).0 in
    run_times f l a.i a.j q a.j a.l.n a.out.now _ R _ _
    (λ m h.
    let b = run_within f l a.i a.j q a.j a.l.n a.out.now _ R m h in
    refused_cell f l a.i a.j I _ (c.in-Err.ensures ∙ ap (held_by l) c.column_of.ensures) a.i (a.j + m) I (in_among (a.j + m) a.l.n (omega (arith, b)) b.1))
    c.put_refused.ensures

pub loop-m-init : goal.loop-m-init
loop-m-init c =
    let a = c.args in
    run_start a.f.now (layout_by a.l) a.i a.j (λ (x : ℕ). ask_cell a.i (a.j + x)) a.j a.l.n a.out.now _ c.in_ok-n.ensures

pub cell_in_row-x-requires : goal.cell_in_row-x-requires
cell_in_row-x-requires c =
    let a = c.args in
    let f = a.f.now in
    let l = layout_by a.l in
    let h = c.in-Ok.h in
    let H = c.in-Ok.ensures ∙ ap (held_by l) c.column_of.ensures in
    let t = c.tag_size-gap in
    let s = ap (λ (x : ℕ). x + t.result) c.place_of-start.ensures ∙ start_is h.o.e.tagged n_data 6 (place l 9) t.result refl t.ensures in
    let R = c.row_in-row.ensures ∙ ap (row_in f (Ok h.c.row) (a.j + c.loop-m.m) a.l.n) s in
    can_read f l a.i (a.j + c.loop-m.m) h.o (read_is (held_open f l a.i h H)) (Ok h.c) (held_is f l a.i h H).1 h.c refl c.row_in-row.result R

pub loop-m-preserved : goal.loop-m-preserved
loop-m-preserved c =
    let a = c.args in
    let f = a.f.now in
    let l = layout_by a.l in
    let h = c.in-Ok.h in
    let H = c.in-Ok.ensures ∙ ap (held_by l) c.column_of.ensures in
    let t = c.tag_size-gap in
    let s = ap (λ (x : ℕ). x + t.result) c.place_of-start.ensures ∙ start_is h.o.e.tagged n_data 6 (place l 9) t.result refl t.ensures in
    let R = c.row_in-row.ensures ∙ ap (row_in f (Ok h.c.row) (a.j + c.loop-m.m) a.l.n) s in
    let S = said_in_lem f l a.i (a.j + c.loop-m.m) h.o (read_is (held_open f l a.i h H)) (Ok h.c) (held_is f l a.i h H).1 h.c refl c.row_in-row.result R (omega (arith, c.well_formed.0.0)) _ c.cell_in_row-x.ensures in
    run_on c.loop-m.invariant c.loop-m-test.true _ _ (cell_means f l a.i (a.j + c.loop-m.m) S) c.put_said.ensures

pub returns : goal.returns
returns c = run_end c.loop-m.invariant c.loop-m-test.false
