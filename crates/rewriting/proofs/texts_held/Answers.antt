use Rattle.rewriting.proofs.RewriteLaws.{held_no, held_on}
use Rattle.sources.proofs.PartReads.{names_of, formats_of, sets_of, labels_of}
use Rattle.format.specs.Dta.{all_shorter}
use Rattle.format.specs.Slot.{Bytes}
use borrow.Author.Tests.{not-true, not-false}
use native.Mathlib.Omega.{arith}
use mathlib.Core.Path.{ap, ◌∙◌}
use Rattle.rewriting.proofs.texts_held.Goals as goal

pub texts_held-requires : goal.texts_held-requires
texts_held-requires c =
    let a = c.args in
    let f = a.f.now in
    let u : Bytes f = (λ i. omega (arith, c.shared_slice_known-1.given i)) in
    (names_of f u a.s.edition a.s.msf c.requires.opened a.s c.requires).inside

pub returns-then-not-texts_held : goal.returns-then-not-texts_held
returns-then-not-texts_held c =
    let a = c.args in
    let f = a.f.now in
    let u : Bytes f = (λ i. omega (arith, c.shared_slice_known-1.given i)) in
    held_no _ _ _ (c.texts_held.ensures ∙ ap (all_shorter a.to.name_width) (names_of f u a.s.edition a.s.msf c.requires.opened a.s c.requires).reads) (not-true _ c.if-not-texts_held.true-raw)

pub texts_held-requires-2 : goal.texts_held-requires-2
texts_held-requires-2 c =
    let a = c.args in
    let f = a.f.now in
    let u : Bytes f = (λ i. omega (arith, c.shared_slice_known-1.given i)) in
    (formats_of f u a.s.edition a.s.msf c.requires.opened a.s c.requires).inside

pub returns-then-not-texts_held-2 : goal.returns-then-not-texts_held-2
returns-then-not-texts_held-2 c =
    let a = c.args in
    let f = a.f.now in
    let u : Bytes f = (λ i. omega (arith, c.shared_slice_known-1.given i)) in
    held_on _ _ _ _ (c.texts_held.ensures ∙ ap (all_shorter a.to.name_width) (names_of f u a.s.edition a.s.msf c.requires.opened a.s c.requires).reads) (not-false _ c.if-not-texts_held.false-raw) (held_no _ _ _ (c.texts_held-2.ensures ∙ ap (all_shorter a.to.format_width) (formats_of f u a.s.edition a.s.msf c.requires.opened a.s c.requires).reads) (not-true _ c.if-not-texts_held-2.true-raw))

pub texts_held-requires-3 : goal.texts_held-requires-3
texts_held-requires-3 c =
    let a = c.args in
    let f = a.f.now in
    let u : Bytes f = (λ i. omega (arith, c.shared_slice_known-1.given i)) in
    (sets_of f u a.s.edition a.s.msf c.requires.opened a.s c.requires).inside

pub returns-then-not-texts_held-3 : goal.returns-then-not-texts_held-3
returns-then-not-texts_held-3 c =
    let a = c.args in
    let f = a.f.now in
    let u : Bytes f = (λ i. omega (arith, c.shared_slice_known-1.given i)) in
    held_on _ _ _ _ (c.texts_held.ensures ∙ ap (all_shorter a.to.name_width) (names_of f u a.s.edition a.s.msf c.requires.opened a.s c.requires).reads) (not-false _ c.if-not-texts_held.false-raw) (held_on _ _ _ _ (c.texts_held-2.ensures ∙ ap (all_shorter a.to.format_width) (formats_of f u a.s.edition a.s.msf c.requires.opened a.s c.requires).reads) (not-false _ c.if-not-texts_held-2.false-raw) (held_no _ _ _ (c.texts_held-3.ensures ∙ ap (all_shorter a.to.name_width) (sets_of f u a.s.edition a.s.msf c.requires.opened a.s c.requires).reads) (not-true _ c.if-not-texts_held-3.true-raw)))

pub texts_held-requires-4 : goal.texts_held-requires-4
texts_held-requires-4 c =
    let a = c.args in
    let f = a.f.now in
    let u : Bytes f = (λ i. omega (arith, c.shared_slice_known-1.given i)) in
    (labels_of f u a.s.edition a.s.msf c.requires.opened a.s c.requires).inside

pub returns : goal.returns
returns c =
    let a = c.args in
    let f = a.f.now in
    let u : Bytes f = (λ i. omega (arith, c.shared_slice_known-1.given i)) in
    held_on _ _ _ _ (c.texts_held.ensures ∙ ap (all_shorter a.to.name_width) (names_of f u a.s.edition a.s.msf c.requires.opened a.s c.requires).reads) (not-false _ c.if-not-texts_held.false-raw) (held_on _ _ _ _ (c.texts_held-2.ensures ∙ ap (all_shorter a.to.format_width) (formats_of f u a.s.edition a.s.msf c.requires.opened a.s c.requires).reads) (not-false _ c.if-not-texts_held-2.false-raw) (held_on _ _ _ _ (c.texts_held-3.ensures ∙ ap (all_shorter a.to.name_width) (sets_of f u a.s.edition a.s.msf c.requires.opened a.s c.requires).reads) (not-false _ c.if-not-texts_held-3.false-raw) (c.texts_held-4.ensures ∙ ap (all_shorter a.to.var_label_width) (labels_of f u a.s.edition a.s.msf c.requires.opened a.s c.requires).reads)))
