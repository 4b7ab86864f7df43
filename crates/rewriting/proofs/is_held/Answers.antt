use Rattle.sources.specs.Sources.{Known}
use Rattle.rewriting.proofs.RewriteLaws.{held_no, held_on}
use Rattle.plans.proofs.SizeLaws.{file_short, blocks_room, blocks_widths}
use Rattle.sources.proofs.PartReads.{types_of, typed_of, blocks_of}
use Rattle.format.specs.Dta.{release_of, dataset_of, all_types}
use Rattle.format.specs.Slot.{Bytes}
use borrow.Author.Tests.{not-true, not-false, lt-leb, le-leb}
use lib.Dec.{leb}
use lib.ListN.{length}
use native.Mathlib.Omega.{arith}
use mathlib.Core.Path.{refl, ap, ◌∙◌}
use Rattle.rewriting.proofs.is_held.Goals as goal

pub types_held-requires : goal.types_held-requires
types_held-requires c =
    let a = c.args in
    let f = a.f.now in
    let u : Bytes f = (λ i. omega (arith, c.shared_slice_known-1.given i)) in
    typed_of f u a.s.edition a.s.msf c.requires.opened a.s c.requires

pub returns-then-not-types_held : goal.returns-then-not-types_held
returns-then-not-types_held c =
    let a = c.args in
    let f = a.f.now in
    let u : Bytes f = (λ i. omega (arith, c.shared_slice_known-1.given i)) in
    held_no _ _ _ (c.types_held.ensures ∙ ap (all_types a.to.tagged) (types_of f u a.s.edition a.s.msf c.requires.opened a.s c.requires)) (not-true _ c.if-not-types_held.true-raw)

pub returns-then-to-s : goal.returns-then-to-s
returns-then-to-s c =
    let a = c.args in
    let f = a.f.now in
    let u : Bytes f = (λ i. omega (arith, c.shared_slice_known-1.given i)) in
    held_on _ _ _ _ (c.types_held.ensures ∙ ap (all_types a.to.tagged) (types_of f u a.s.edition a.s.msf c.requires.opened a.s c.requires)) (not-false _ c.if-not-types_held.false-raw) (held_no (leb (length (dataset_of f).label) a.to.label_max) _ _ refl (lt-leb (length (dataset_of f).label) a.to.label_max (omega (arith, c.requires.label.long, c.if-to-s.true))))

pub returns-then-not-texts_held : goal.returns-then-not-texts_held
returns-then-not-texts_held c =
    let a = c.args in
    let f = a.f.now in
    let u : Bytes f = (λ i. omega (arith, c.shared_slice_known-1.given i)) in
    held_on _ _ _ _ (c.types_held.ensures ∙ ap (all_types a.to.tagged) (types_of f u a.s.edition a.s.msf c.requires.opened a.s c.requires)) (not-false _ c.if-not-types_held.false-raw) (held_on (leb (length (dataset_of f).label) a.to.label_max) _ _ _ refl (le-leb (length (dataset_of f).label) a.to.label_max (omega (arith, c.requires.label.long, c.if-to-s.false))) (held_no _ _ _ c.texts_held.ensures (not-true _ c.if-not-texts_held.true-raw)))

pub names_held-requires : goal.names_held-requires
names_held-requires c =
    let a = c.args in
    let f = a.f.now in
    let u : Bytes f = (λ i. omega (arith, c.shared_slice_known-1.given i)) in
    let k : Known a.s.edition = record { release = release_of f; is = c.requires.opened.edition } in
    (blocks_room f u a.s.edition a.s.msf c.requires.opened a.s c.requires a.s.edition k, file_short f u a.s.edition a.s.msf c.requires.opened a.s c.requires a.s.edition k, (blocks_widths f u a.s.edition a.s.msf c.requires.opened a.s c.requires a.s.edition k).0)

pub returns-then-not-names_held : goal.returns-then-not-names_held
returns-then-not-names_held c =
    let a = c.args in
    let f = a.f.now in
    let u : Bytes f = (λ i. omega (arith, c.shared_slice_known-1.given i)) in
    held_on _ _ _ _ (c.types_held.ensures ∙ ap (all_types a.to.tagged) (types_of f u a.s.edition a.s.msf c.requires.opened a.s c.requires)) (not-false _ c.if-not-types_held.false-raw) (held_on (leb (length (dataset_of f).label) a.to.label_max) _ _ _ refl (le-leb (length (dataset_of f).label) a.to.label_max (omega (arith, c.requires.label.long, c.if-to-s.false))) (held_on _ _ _ _ c.texts_held.ensures (not-false _ c.if-not-texts_held.false-raw) (held_no _ _ _ (c.names_held.ensures.all (dataset_of f).label_blocks (blocks_of f u a.s.edition a.s.msf c.requires.opened a.s c.requires)) (not-true _ c.if-not-names_held.true-raw))))

pub returns : goal.returns
returns c =
    let a = c.args in
    let f = a.f.now in
    let u : Bytes f = (λ i. omega (arith, c.shared_slice_known-1.given i)) in
    held_on _ _ _ _ (c.types_held.ensures ∙ ap (all_types a.to.tagged) (types_of f u a.s.edition a.s.msf c.requires.opened a.s c.requires)) (not-false _ c.if-not-types_held.false-raw) (held_on (leb (length (dataset_of f).label) a.to.label_max) _ _ _ refl (le-leb (length (dataset_of f).label) a.to.label_max (omega (arith, c.requires.label.long, c.if-to-s.false))) (held_on _ _ _ _ c.texts_held.ensures (not-false _ c.if-not-texts_held.false-raw) (held_on _ _ _ _ (c.names_held.ensures.all (dataset_of f).label_blocks (blocks_of f u a.s.edition a.s.msf c.requires.opened a.s c.requires)) (not-false _ c.if-not-names_held.false-raw) (ap (leb a.size) c.length_max.ensures))))
