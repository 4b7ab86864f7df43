use Rattle.section.proofs.StepLaws.{exit_judged}
use Rattle.format.specs.Number.{order_by}
use Rattle.format.specs.Grammar.{tag}
use Rattle.format.specs.Edition.{opening, n_value_labels}
use Rattle.section.proofs.SeqLaws.{seq_refused, seq_on}
use Rattle.section.proofs.TagLaws.{opening_by, tag_by}
use Rattle.labels.specs.Parts.{block_walk}
use Rattle.labels.proofs.BlockLaws.{list_told}
use Rattle.labels.proofs.label_list.Goals as goal

pub returns-in_err-at : goal.returns-in_err-at
returns-in_err-at c =
    let a = c.args in
    let f = a.f.now in
    let t = a.tagged in
    let o = order_by a.msf in
    let A = tag_by 4 f a.p _ (opening_by t n_value_labels) c.in_err-at.ensures in
    exit_judged _ c.from_residual.ensures.1 (list_told t o a.w f a.p _ (seq_refused (tag (opening t n_value_labels) 4) (λ x. block_walk t o a.w) f a.p _ A))

pub returns : goal.returns
returns c =
    let a = c.args in
    let f = a.f.now in
    let t = a.tagged in
    let o = order_by a.msf in
    let A = tag_by 4 f a.p _ (opening_by t n_value_labels) c.in_ok-at.ensures in
    list_told t o a.w f a.p _ (seq_on (tag (opening t n_value_labels) 4) (λ x. block_walk t o a.w) f a.p _ A _ c.block_list.ensures)
