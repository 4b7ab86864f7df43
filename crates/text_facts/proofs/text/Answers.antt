use mathlib.Core.Path.{refl, sym, ap, ◌∙◌}
use mathlib.Core.Bool.{Bool}
use Rattle.std.proofs.lemmas.Result.{err_from_is_err_and}
use Rattle.format.specs.Number.{order_by}
use Rattle.editions.specs.Editions.{numbers_of}
use Rattle.questions.specs.Ask.{text_part, place}
use Rattle.checking.specs.Checks.{layout_by}
use Rattle.reading.specs.Reads.{edition_in}
use Rattle.reading.proofs.PlaceLaws.{list_place}
use Rattle.answers.specs.Answers.{part_by, opened_if}
use Rattle.answers.proofs.TellLaws.{tells_refused, tells_open}
use Rattle.text_facts.specs.Lists.{name_of, asked}
use Rattle.text_facts.proofs.ListTexts.{asked_of, text_asked}
use Rattle.text_facts.proofs.text.Goals as goal

pub returns-in_err-o : goal.returns-in_err-o
returns-in_err-o c =
    let a = c.args in
    let l = layout_by a.l in
    let p = err_from_is_err_and c.from_residual.result c.from_residual.ensures.1 in
    let b = c.is_among.ensures ∙ sym (asked_of a.list l a.i) in
    rw (p.1, p.2) (tells_refused a.f.now l (asked a.list a.i) part_by (λ n. refl) _ (c.in_err-o.ensures ∙ ap (λ (x : Bool). opened_if x (edition_in l.release l.order)) b))

pub returns : goal.returns
returns c =
    let a = c.args in
    let f = a.f.now in
    let l = layout_by a.l in
    let o = c.in_ok-o.o in
    let b = c.is_among.ensures ∙ sym (asked_of a.list l a.i) in
    let w = c.width.result in
    let q = list_place o.e.tagged (name_of a.list) _ (place l c.part.result) _ _ _ w (sym c.tag.ensures) c.tag_size-gap.ensures c.less.ensures.0 in
    let t = text_asked a.list (numbers_of o.e) (order_by o.msf) f l a.i c.width.ensures in
    tells_open f l (asked a.list a.i) o (c.in_ok-o.ensures ∙ ap (λ (x : Bool). opened_if x (edition_in l.release l.order)) b) part_by _ (ap (text_part w f) q ∙ rw c.part.ensures.0 t) c.text_field.ensures
