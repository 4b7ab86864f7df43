use mathlib.Core.Path.{◌≡◌, refl, sym, ap, ◌∙◌}
use Prim.Native.Nat.{ℕ, ◌+◌, ◌≤◌}
use native.Mathlib.Omega.{arith}
use lib.ListN.{length}
use Rattle.std.specs.Prelude.{Ok}
use Rattle.std.proofs.lemmas.Result.{IfOk-at_ok}
use Rattle.refusal.specs.Refusals.{retold}
use Rattle.format.specs.Number.{order_by}
use Rattle.codes.specs.Fields.{type_of}
use Rattle.cells.specs.Cells.{cell_said, cell_told}
use Rattle.cells.proofs.CellLaws.{said_other, said_retold, cell_after}
use Rattle.cells.proofs.cell_in_row.Goals as goal

pub returns-then-f-p : goal.returns-then-f-p
returns-then-f-p g c =
    let a = c.args in
    let t = g.E.Told.told in
    let x = type_of a.c.field.kind a.c.field.width in
    let p = c.in_ok-p.p in
    let o = order_by a.msf in
    let w : a.row ≡ Ok p = c.in_ok-p.was in
    let h : p ≤ length a.f.now = IfOk-at_ok (λ (y : ℕ). y ≤ length a.f.now) w c.requires.inside in
    λ e v u.
    said_other t (cell_said e o a.f.now x (p + a.c.offset)) _ c.tell.ensures (cell_after e o a.f.now x (p + a.c.offset) (omega (arith, h, c.if-f-p.true)))
    ∙ ap (λ y. cell_told t e o a.f.now y x a.c.offset) (sym w)

pub returns : goal.returns
returns g c =
    let a = c.args in
    let t = g.E.Told.told in
    let x = type_of a.c.field.kind a.c.field.width in
    let w : a.row ≡ Ok c.in_ok-p.p = c.in_ok-p.was in
    λ e v u.
    c.retell.ensures ∙ ap (retold t) (c.read_cell.ensures e v u) ∙ said_retold t (cell_said e (order_by a.msf) a.f.now x (c.in_ok-p.p + a.c.offset))
    ∙ ap (λ y. cell_told t e (order_by a.msf) a.f.now y x a.c.offset) (sym w)
