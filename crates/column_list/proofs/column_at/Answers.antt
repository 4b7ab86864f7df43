use mathlib.Core.Path.{◌≡◌, sym, ap, subst, ◌∙◌}
use native.Mathlib.Omega.{arith}
use mathlib.Core.Bool.{true}
use Rattle.std.specs.Prelude.{Ok, Err, min}
use Rattle.std.proofs.lemmas.Result.{err_from_is_err_and}
use Rattle.questions.specs.Ask.{among}
use Rattle.checking.specs.Checks.{layout_by}
use Rattle.column_list.specs.Offsets.{Offsets}
use Rattle.column_list.proofs.ListLaws.{told_opens, refused_all, at_inside, column_is}
use Rattle.column_list.proofs.column_at.Goals as goal

pub returns-in_err-first : goal.returns-in_err-first
returns-in_err-first c =
    let a = c.args in
    let p = err_from_is_err_and c.from_residual.result c.from_residual.ensures.1 in
    let d : Err c.in_err-first.field-0.0 ≡ a.first = grind arith in
    let b : among a.i (min a.l.k 32768) ≡ true = ap (among a.i) (sym c.min.ensures) ∙ sym c.if-not-is_among.ensures in
    rw (p.1, p.2) (refused_all _ (subst (Offsets a.f.now (layout_by a.l) a.t.now) (sym d) c.requires) a.i b)

pub returns-in_err-o : goal.returns-in_err-o
returns-in_err-o c =
    let a = c.args in
    let d : Ok c.in_ok-first.first ≡ a.first = grind arith in
    absurd (told_opens a.f.now (layout_by a.l) 1 c.in_ok-first.first (d ∙ c.requires.first) _ c.in_err-o.ensures)

pub field_at-field-requires : goal.field_at-field-requires
field_at-field-requires c =
    let a = c.args in
    let d : Ok c.in_ok-first.first ≡ a.first = grind arith in
    let T = subst (Offsets a.f.now (layout_by a.l) a.t.now) (sym d) c.requires in
    at_inside a.f.now (layout_by a.l) c.in_ok-o.o c.in_ok-o.ensures (omega (arith, c.well_formed)) _ c.types_of-types.ensures T a.i (ap (among a.i) (sym c.min.ensures) ∙ sym c.if-not-is_among.ensures)

pub returns : goal.returns
returns c =
    let a = c.args in
    let d : Ok c.in_ok-first.first ≡ a.first = grind arith in
    let T = subst (Offsets a.f.now (layout_by a.l) a.t.now) (sym d) c.requires in
    column_is a.f.now (layout_by a.l) c.in_ok-o.o c.in_ok-o.ensures (omega (arith, c.well_formed)) _ c.types_of-types.ensures T a.i (ap (among a.i) (sym c.min.ensures) ∙ sym c.if-not-is_among.ensures) _ c.field_at-field.ensures
