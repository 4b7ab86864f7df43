use Rattle.section.proofs.StepLaws.{exit_judged}
use Rattle.format.specs.Number.{order_by}
use Rattle.format.specs.Grammar.{tag}
use Rattle.format.specs.Edition.{opening, n_characteristics}
use Rattle.expansion.specs.Parts.{blocks}
use Rattle.section.proofs.SeqLaws.{seq_refused, seq_on}
use Rattle.expansion.proofs.BlockLaws.{list_told}
use Rattle.section.proofs.TagLaws.{opening_by, tag_by}
use Rattle.expansion.proofs.expansion_list.Goals as goal

pub returns-in_err-at : goal.returns-in_err-at
returns-in_err-at c =
    let a = c.args in
    let f = a.f.now in
    let t = a.tagged in
    let o = order_by a.msf in
    exit_judged _ c.from_residual.ensures.1 (list_told t o f a.p _ (seq_refused (tag (opening t n_characteristics) 4) (λ x. blocks t o) f a.p _ (tag_by 4 f a.p _ (opening_by t n_characteristics) c.in_err-at.ensures)))

pub returns : goal.returns
returns c =
    let a = c.args in
    let f = a.f.now in
    let t = a.tagged in
    let o = order_by a.msf in
    list_told t o f a.p _ (seq_on (tag (opening t n_characteristics) 4) (λ x. blocks t o) f a.p _ (tag_by 4 f a.p _ (opening_by t n_characteristics) c.in_ok-at.ensures) _ c.block_list.ensures)
