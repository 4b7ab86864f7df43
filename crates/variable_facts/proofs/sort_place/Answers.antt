use mathlib.Core.Path.{refl, sym, ap, ◌∙◌}
use mathlib.Core.Bool.{Bool}
use Prim.Native.Nat.{ℕ, suc}
use Rattle.std.specs.Prelude.{Err}
use Rattle.std.proofs.lemmas.Result.{err_from_is_err_and}
use Rattle.format.specs.Number.{order_by}
use Rattle.format.specs.Edition.{n_sortlist}
use Rattle.questions.specs.Readings.{Try}
use Rattle.questions.specs.Ask.{ask_sort, or_refused, sort_in, place, start_of}
use Rattle.checking.specs.Checks.{layout_by}
use Rattle.reading.specs.Reads.{read_by, place_in, edition_in}
use Rattle.reading.proofs.ReadLaws.{place_is}
use Rattle.reading.proofs.PlaceLaws.{list_start}
use Rattle.answers.specs.Answers.{number_by, opened_if}
use Rattle.answers.proofs.TellLaws.{tells_refused, tells_open, not_read, is_read}
use Rattle.variable_facts.proofs.SortLaws.{sort_past, number_told}
use Rattle.variable_facts.proofs.sort_place.Goals as goal

pub returns-in_err-o : goal.returns-in_err-o
returns-in_err-o c =
    let a = c.args in
    let l = layout_by a.l in
    let p = err_from_is_err_and c.from_residual.result c.from_residual.ensures.1 in
    rw (p.1, p.2) (tells_refused a.f.now l (ask_sort a.i) number_by (λ n. refl) _ (c.in_err-o.ensures ∙ ap (λ (b : Bool). opened_if b (edition_in l.release l.order)) c.is_among.ensures))

pub returns-in_err-start : goal.returns-in_err-start
returns-in_err-start c =
    let a = c.args in
    let f = a.f.now in
    let l = layout_by a.l in
    let o = c.in_ok-o.o in
    let b = c.in_ok-o.ensures ∙ ap (λ (b : Bool). opened_if b (edition_in l.release l.order)) c.is_among.ensures in
    let p = err_from_is_err_and c.from_residual-in_err-start.result c.from_residual-in_err-start.ensures.1 in
    let e = not_read _ c.place_in.result c.in_err-start.ensures.value in
    let A = e.1 ∙ c.place_in.ensures ∙ ap (λ (x : ℕ). read_by (place_in f x)) (list_start o.e.tagged n_sortlist 10 (place l 4) _ 2 refl c.tag_size-gap.ensures) in
    let q = sort_past (order_by o.msf) f a.i l.variables (start_of o.e.tagged l 4 n_sortlist) A in
    rw (p.1, p.2) (tells_open f l (ask_sort a.i) o b number_by _ refl (ap Err e.0 ∙ ap (λ (x : Try ℕ). number_by (or_refused (number_told x))) (sym q)))

pub returns : goal.returns
returns c =
    let a = c.args in
    let f = a.f.now in
    let l = layout_by a.l in
    let o = c.in_ok-o.o in
    let b = c.in_ok-o.ensures ∙ ap (λ (b : Bool). opened_if b (edition_in l.release l.order)) c.is_among.ensures in
    let A = is_read _ c.place_in.result c.in_ok-start.ensures.value ∙ c.place_in.ensures ∙ ap (λ (x : ℕ). read_by (place_in f x)) (list_start o.e.tagged n_sortlist 10 (place l 4) _ 2 refl c.tag_size-gap.ensures) in
    tells_open f l (ask_sort a.i) o b number_by _ (ap (λ (x : ℕ). number_told (sort_in (order_by o.msf) f a.i (suc l.variables) 0 x)) (place_is f (start_of o.e.tagged l 4 n_sortlist) _ A)) c.sort_find.ensures
