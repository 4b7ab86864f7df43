use mathlib.Core.Path.{refl, ap, ◌∙◌}
use Prim.Native.Nat.{ℕ, ◌+◌, ◌≤◌}
use native.Mathlib.Omega.{arith}
use lib.ListN.{length}
use Rattle.std.specs.Prelude.{Ok}
use Rattle.std.proofs.lemmas.Result.{err_from_is_err_and}
use Rattle.format.specs.Number.{order_by}
use Rattle.format.specs.Edition.{n_data}
use Rattle.data.specs.Places.{field_at}
use Rattle.questions.specs.Ask.{place, start_of, ask_cell}
use Rattle.checking.specs.Checks.{layout_by}
use Rattle.reading.proofs.PlaceLaws.{start_is}
use Rattle.cells.specs.Cells.{row_in}
use Rattle.cells.proofs.RowLaws.{can_read, said_in_lem, read_is}
use Rattle.asking.proofs.AskLaws.{cell_means}
use Rattle.cell_runs.specs.Held.{held_by}
use Rattle.cell_runs.proofs.NextLaws.{Along, in_among, code_inside, column_next, along_start, along_next, along_end, along_row}
use Rattle.cell_runs.proofs.HeldLaws.{held_is, held_open, refused_cell}
use Rattle.cell_runs.proofs.RunLaws.{run_start, run_out, run_end, run_in, run_on, run_within, run_among, run_times}
use Rattle.cell_runs.proofs.cells_along.Goals.{then-v-l, else-v-l}
use Rattle.cell_runs.proofs.cells_along.Goals as goal

pub returns-in_err-n : goal.returns-in_err-n
returns-in_err-n c =
    let a = c.args in
    let p = err_from_is_err_and c.from_residual.result c.from_residual.ensures.1 in
    rw (p.1, p.2) (run_out a.f.now (layout_by a.l) a.i a.j (λ (x : ℕ). ask_cell (a.i + x) a.j) a.i a.l.k a.out.now _ c.in_err-n.ensures)

pub returns-in-Err : goal.returns-in-Err
returns-in-Err c =
    let a = c.args in
    let f = a.f.now in
    let l = layout_by a.l in
    let q = λ (x : ℕ). ask_cell (a.i + x) a.j in
    let R = c.in_ok-n.ensures in
    let I = run_among f l a.i a.j q a.i a.l.k a.out.now _ R in
    run_times f l a.i a.j q a.i a.l.k a.out.now _ R _ _
    (λ m h.
    let b = run_within f l a.i a.j q a.i a.l.k a.out.now _ R m h in
    refused_cell f l a.i a.j I.0 _ (c.in-Err.ensures ∙ ap (held_by l) c.column_of.ensures) (a.i + m) a.j (in_among (a.i + m) a.l.k (omega (arith, b)) b.1) I.1)
    c.put_refused.ensures

pub loop-m-init : goal.loop-m-init
loop-m-init c =
    let a = c.args in
    let f = a.f.now in
    let l = layout_by a.l in
    let H = c.in-Ok.ensures ∙ ap (held_by l) c.column_of.ensures in (
      run_start f l a.i a.j (λ (x : ℕ). ask_cell (a.i + x) a.j) a.i a.l.k a.out.now _ c.in_ok-n.ensures,
      along_start f l a.i c.in-Ok.h.c (held_is f l a.i c.in-Ok.h H).1,
    )

pub cell_in_row-x-requires : goal.cell_in_row-x-requires
cell_in_row-x-requires c =
    let a = c.args in
    let f = a.f.now in
    let l = layout_by a.l in
    let h = c.in-Ok.h in
    let H = c.in-Ok.ensures ∙ ap (held_by l) c.column_of.ensures in
    let v = a.i + c.loop-m.m in
    let t = c.tag_size-gap in
    let s = ap (λ (x : ℕ). x + t.result) c.place_of-start.ensures ∙ start_is h.o.e.tagged n_data 6 (place l 9) t.result refl t.ensures in
    let R = along_row c.loop-m.invariant.1 a.j a.l.n (start_of h.o.e.tagged l 9 n_data) (c.row_in-row.ensures ∙ ap (row_in f (Ok h.c.row) a.j a.l.n) s) in
    let C = c.loop-m.invariant.1.column (run_in c.loop-m.invariant.0 c.loop-m-test.true).1 in
    can_read f l v a.j h.o (read_is (held_open f l a.i h H)) (Ok c.loop-m.c) C c.loop-m.c refl c.row_in-row.result R

pub column_after-c-requires : goal.column_after-c-requires
column_after-c-requires c =
    let a = c.args in
    let f = a.f.now in
    let l = layout_by a.l in
    let h = c.in-Ok.h in
    let H = c.in-Ok.ensures ∙ ap (held_by l) c.column_of.ensures in
    let v = a.i + c.loop-m.m in
    let b = run_in c.loop-m.invariant.0 c.loop-m-test.true in
    code_inside f l v h.o (held_open f l a.i h H) (in_among v a.l.k (omega (arith, b)) b.1) c.loop-m.c (c.loop-m.invariant.1.column b.1) (omega (arith, c.well_formed.0.0)) _ c.types_of-types.ensures v (omega (arith, c.if-v-l.true))

pub loop-m-preserved : goal.loop-m-preserved
loop-m-preserved c =
    let a = c.args in
    let f = a.f.now in
    let l = layout_by a.l in
    let h = c.in-Ok.h in
    let H = c.in-Ok.ensures ∙ ap (held_by l) c.column_of.ensures in
    let Q = held_open f l a.i h H in
    let v = a.i + c.loop-m.m in
    let b = run_in c.loop-m.invariant.0 c.loop-m-test.true in
    let A = c.loop-m.invariant.1 in
    let C = A.column b.1 in
    let n : length f ≤ 18446744073709551615 = omega (arith, c.well_formed.0.0) in
    let t = c.tag_size-gap in
    let s = ap (λ (x : ℕ). x + t.result) c.place_of-start.ensures ∙ start_is h.o.e.tagged n_data 6 (place l 9) t.result refl t.ensures in
    let R = along_row A a.j a.l.n (start_of h.o.e.tagged l 9 n_data) (c.row_in-row.ensures ∙ ap (row_in f (Ok h.c.row) a.j a.l.n) s) in
    let S = said_in_lem f l v a.j h.o (read_is Q) (Ok c.loop-m.c) C c.loop-m.c refl c.row_in-row.result R n _ c.cell_in_row-x.ensures in
    let N : Along f l a.i h.c (c.loop-m.m + 1) c.if-v-l.c = elim c.if-v-l.branch [
      | then-v-l w ↦
          along_next A (field_at h.o.e.tagged (order_by h.o.msf) f c.types_of-types.result v) c.if-v-l.c (w.c-is ∙ w.column_after-c.ensures)
          (column_next f l v h.o Q (in_among v a.l.k (omega (arith, b)) b.1) c.loop-m.c C n _ c.types_of-types.ensures (omega (arith, b)) (omega (arith, w.if-v-l.true)))
      | else-v-l w ↦ along_end A c.if-v-l.c w.c-is w.if-v-l.false
    ] in
    (run_on c.loop-m.invariant.0 c.loop-m-test.true _ _ (cell_means f l v a.j S) c.put_said.ensures, N)

pub returns : goal.returns
returns c = run_end c.loop-m.invariant.0 c.loop-m-test.false
