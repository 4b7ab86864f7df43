use mathlib.Core.Path.{refl, sym, ap, ◌∙◌}
use mathlib.Core.Bool.{Bool, true}
use Rattle.format.specs.Edition.{opening, n_lbl}
use Rattle.format.specs.Labels.{block_next}
use Rattle.section.proofs.TagLaws.{tag_test}
use Rattle.labels.proofs.block_next.Goals as goal

pub returns-then-tagged : goal.returns-then-tagged
returns-then-tagged c =
    let a = c.args in
    c.is_ok.ensures.value ∙ tag_test (opening true n_lbl) 3 a.f.now a.p _ refl c.requires c.tag_or.ensures
    ∙ sym (ap (λ (b : Bool). block_next b a.f.now a.p) c.if-tagged.true)
