use mathlib.Core.Path.{◌≡◌, refl, ap, ◌∙◌}
use Prim.Native.Nat.{ℕ, ◌+◌, ◌*◌, ◌<◌}
use native.Mathlib.Omega.{arith}
use lib.ListN.{length, get_or}
use Rattle.std.specs.Prelude.{None, Some, Err}
use Rattle.refusal.specs.declared.Refusal.TheVariants.{NotReadable}
use Rattle.format.specs.Edition.{code_width, n_variable_types}
use Rattle.questions.specs.Ask.{ask_column}
use Rattle.reading.proofs.ReadLaws.{read_none, read_got, place_past}
use Rattle.std.proofs.lemmas.Result.{err_from_is_err_and}
use Rattle.answers.proofs.TellLaws.{tells_refused}
use Rattle.reading.proofs.PlaceLaws.{start_is}
use Rattle.checking.specs.Checks.{layout_by}
use Rattle.columns.specs.Columns.{column_by}
use Rattle.columns.proofs.ColumnLaws.{told_out, told_none, told_before, told_got}
use Rattle.columns.proofs.column_of.Goals as goal

pub returns-in_err-o : goal.returns-in_err-o
returns-in_err-o c =
    let a = c.args in
    let p = err_from_is_err_and c.from_residual.result c.from_residual.ensures.1 in
    rw (p.1, p.2) (tells_refused a.f.now (layout_by a.l) (ask_column a.i) column_by (λ n. refl) _ (rw c.is_among.ensures at c.in_err-o.ensures))

pub returns-in_err-ok_or : goal.returns-in_err-ok_or
returns-in_err-ok_or c =
    let a = c.args in
    let f = a.f.now in
    let o = c.in_ok-o.o in
    let r : c.from_residual-in_err-ok_or.result ≡ Err NotReadable = grind arith in
    let q = rw c.is_among.ensures at c.in_ok-o.ensures in
    let z : None ≡ c.place_in.result = grind arith in
    let g = c.tag_size-a in
    let p = get_or a.l.places 2 0 + g.result in
    let P = start_is o.e.tagged n_variable_types 16 (get_or a.l.places 2 0) g.result refl g.ensures in
    let w : p + a.l.k * c.code_width-w.result ≡ p + a.l.k * code_width o.e.tagged = ap (λ (x : ℕ). p + a.l.k * x) c.code_width-w.ensures in
    let h : length f < p + a.l.k * code_width o.e.tagged = omega (arith, w, place_past f _ (z ∙ c.place_in.ensures)) in
    r ∙ told_out f (layout_by a.l) a.i o q p P h

pub returns-in_err-row : goal.returns-in_err-row
returns-in_err-row c =
    let a = c.args in
    let o = c.in_ok-o.o in
    let r : c.from_residual-in_err-row.result ≡ Err NotReadable = grind arith in
    let q = rw c.is_among.ensures at c.in_ok-o.ensures in
    let z : None ≡ c.width_sum.result = grind arith in
    let g = c.tag_size-a in
    let P = start_is o.e.tagged n_variable_types 16 (get_or a.l.places 2 0) g.result refl g.ensures in
    r ∙ told_none a.f.now (layout_by a.l) a.i o q _ P (read_none _ (z ∙ c.width_sum.ensures))

pub returns-in_err-offset : goal.returns-in_err-offset
returns-in_err-offset c =
    let a = c.args in
    let o = c.in_ok-o.o in
    let r : c.from_residual-in_err-offset.result ≡ Err NotReadable = grind arith in
    let q = rw c.is_among.ensures at c.in_ok-o.ensures in
    let s : Some c.in_ok-row.row ≡ c.width_sum.result = grind arith in
    let z : None ≡ c.width_sum-2.result = grind arith in
    let g = c.tag_size-a in
    let P = start_is o.e.tagged n_variable_types 16 (get_or a.l.places 2 0) g.result refl g.ensures in
    r ∙ told_before a.f.now (layout_by a.l) a.i o q _ P _ (read_got _ _ (s ∙ c.width_sum.ensures))
    (read_none _ (z ∙ c.width_sum-2.ensures))

pub returns : goal.returns
returns c =
    let a = c.args in
    let o = c.in_ok-o.o in
    let q = rw c.is_among.ensures at c.in_ok-o.ensures in
    let s : Some c.in_ok-row.row ≡ c.width_sum.result = grind arith in
    let b : Some c.in_ok-offset.offset ≡ c.width_sum-2.result = grind arith in
    let g = c.tag_size-a in
    let P = start_is o.e.tagged n_variable_types 16 (get_or a.l.places 2 0) g.result refl g.ensures in
    told_got a.f.now (layout_by a.l) a.i o q _ P _ (read_got _ _ (s ∙ c.width_sum.ensures))
    _ c.field_at.ensures _ (read_got _ _ (b ∙ c.width_sum-2.ensures))
