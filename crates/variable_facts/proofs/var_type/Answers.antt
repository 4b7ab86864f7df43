use mathlib.Core.Path.{refl, ap, ◌∙◌}
use mathlib.Core.Bool.{Bool}
use Prim.Native.Nat.{ℕ}
use Rattle.std.proofs.lemmas.Result.{err_from_is_err_and}
use Rattle.format.specs.Number.{order_by}
use Rattle.format.specs.Edition.{code_width, n_variable_types}
use Rattle.questions.specs.Ask.{ask_type, type_in, place}
use Rattle.checking.specs.Checks.{layout_by}
use Rattle.reading.specs.Reads.{edition_in}
use Rattle.reading.proofs.PlaceLaws.{list_place}
use Rattle.answers.specs.Answers.{opened_if}
use Rattle.answers.proofs.TellLaws.{tells_refused, tells_open}
use Rattle.variable_facts.specs.Types.{typed_by}
use Rattle.variable_facts.proofs.TypeLaws.{type_told}
use Rattle.variable_facts.proofs.var_type.Goals as goal

pub returns-in_err-o : goal.returns-in_err-o
returns-in_err-o c =
    let a = c.args in
    let l = layout_by a.l in
    let p = err_from_is_err_and c.from_residual.result c.from_residual.ensures.1 in
    rw (p.1, p.2) (tells_refused a.f.now l (ask_type a.i) typed_by (λ n. refl) _ (c.in_err-o.ensures ∙ ap (λ (b : Bool). opened_if b (edition_in l.release l.order)) c.is_among.ensures))

pub returns : goal.returns
returns c =
    let a = c.args in
    let f = a.f.now in
    let l = layout_by a.l in
    let o = c.in_ok-o.o in
    let b = c.in_ok-o.ensures ∙ ap (λ (b : Bool). opened_if b (edition_in l.release l.order)) c.is_among.ensures in
    let k = list_place o.e.tagged n_variable_types 16 (place l 2) _ _ _ (code_width o.e.tagged) refl c.tag_size-gap.ensures c.less.ensures.0 in
    tells_open f l (ask_type a.i) o b typed_by _ (ap (λ (p : ℕ). type_told (type_in o.e.tagged (order_by o.msf) f p)) k) c.type_field.ensures
