use mathlib.Core.Path.{refl, sym, ap, ◌∙◌}
use mathlib.Core.Bool.{Bool, true}
use Rattle.format.specs.Edition.{opening, n_ch}
use Rattle.format.specs.Expansion.{expansion_next}
use Rattle.section.proofs.TagLaws.{tag_test}
use Rattle.expansion.proofs.block_next.Goals as goal

pub returns-then-tagged : goal.returns-then-tagged
returns-then-tagged c =
    let a = c.args in
    c.is_ok.ensures.value ∙ tag_test (opening true n_ch) 3 a.f.now a.p _ refl c.requires c.tag_or.ensures
    ∙ sym (ap (λ (b : Bool). expansion_next b a.f.now a.p) c.if-tagged.true)
