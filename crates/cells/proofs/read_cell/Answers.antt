use mathlib.Core.Path.{◌≡◌, refl, sym}
use Prim.Native.Nat.{ℕ, ◌+◌, ◌<◌}
use lib.ListN.{length}
use native.Mathlib.Omega.{arith}
use Rattle.format.specs.Number.{order_by}
use Rattle.format.specs.Edition.{Edition}
use Rattle.format.specs.Data.{cell_width}
use Rattle.codes.specs.declared.Kind.{Kind}
use Rattle.codes.specs.Fields.{type_of}
use Rattle.cells.specs.Cells.{cell_said, HasKind}
use Rattle.cells.proofs.CellLaws.{said_none, text_kind, cell_out, cell_got}
use Rattle.cells.proofs.read_cell.Goals.{then-f-q-via-then-f-q, then-f-q-via-else-f-q+then-f-q-2}
use Rattle.cells.proofs.read_cell.Goals as goal

-- the width, in an edition with these widths of v and o
width_in : (e : Edition) (vw ow : ℕ) → e.v_width ≡ vw → e.o_width ≡ ow → (k : Kind) (w : ℕ) → HasKind k w vw ow → w ≡ cell_width e.v_width e.o_width (type_of k w)
width_in e vw ow v u k w h = rw (v, u) h.width

pub returns-then-is_text : goal.returns-then-is_text
returns-then-is_text c =
    let a = c.args in
    λ e v u. text_kind e (order_by a.msf) a.f.now a.field.kind a.field.width a.p (sym c.if-is_text.ensures) _ (c.read_text.ensures e (order_by a.msf))

pub returns-then-f-q : goal.returns-then-f-q
returns-then-f-q c =
    let a = c.args in
    let g = c.requires in
    let out : length a.f.now < a.p + a.field.width = elim c.then-f-q.branch [
      | then-f-q-via-then-f-q x ↦ omega arith
      | then-f-q-via-else-f-q+then-f-q-2 x ↦ omega arith
    ] in
    λ e v u.
    said_none (cell_said e (order_by a.msf) a.f.now (type_of a.field.kind a.field.width) a.p) 17 _ refl
    (cell_out e (order_by a.msf) a.f.now a.field.kind a.field.width a.p (sym c.if-is_text.ensures) g.kind (width_in e a.vw a.ow v u a.field.kind a.field.width g) out)

pub cell_at-requires : goal.cell_at-requires
cell_at-requires c =
    let g = c.requires in record { kind = g.kind; variable = g.variable; observation = g.observation; room = omega (arith, g.width) }

pub returns : goal.returns
returns c =
    let a = c.args in
    let g = c.requires in
    λ e v u.
    cell_got e (order_by a.msf) a.f.now a.field.kind a.field.width a.p (sym c.if-is_text.ensures) g.kind (width_in e a.vw a.ow v u a.field.kind a.field.width g) (omega arith) _
    (rw (v, u) c.cell_at.ensures)
