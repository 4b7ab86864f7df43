use mathlib.Core.Path.{◌≡◌, sym, ap, ◌∙◌}
use Prim.Native.Nat.{ℕ, ◌+◌}
use native.Mathlib.Omega.{arith}
use Rattle.std.specs.Prelude.{Ok, Err}
use Rattle.cells.specs.Cells.{row_at, row_numbered}
use Rattle.cells.proofs.RowLaws.{numbered_out, numbered_among, ok_row}
use Rattle.cells.proofs.row_in.Goals as goal

pub returns-then-not-is_among : goal.returns-then-not-is_among
returns-then-not-is_among g c =
    let a = c.args in
    numbered_out _ a.f.now a.width a.j a.n (a.start + a.gap) (sym c.if-not-is_among.ensures)

pub returns-in-Ok : goal.returns-in-Ok
returns-in-Ok g c =
    let a = c.args in
    let w : a.width ≡ Ok c.in-Ok.w = grind arith in
    let m = g.E.Told.own in
    ok_row _ c.ok_or.ensures.value c.place_in.ensures
    ∙ ap (λ x. row_at m a.f.now x a.j (a.start + a.gap)) (sym w)
    ∙ sym (numbered_among m a.f.now a.width a.j a.n (a.start + a.gap) (sym c.if-not-is_among.ensures))

pub returns-in-Err : goal.returns-in-Err
returns-in-Err g c =
    let a = c.args in
    let w : a.width ≡ Err c.in-Err.e = grind arith in
    let m = g.E.Told.own in
    ap Err c.refusal_of_rows.ensures
    ∙ ap (λ x. row_at m a.f.now x a.j (a.start + a.gap)) (sym w)
    ∙ sym (numbered_among m a.f.now a.width a.j a.n (a.start + a.gap) (sym c.if-not-is_among.ensures))
