use Rattle.section.proofs.StepLaws.{exit_judged}
use Rattle.format.specs.Number.{order_by}
use Rattle.format.specs.Grammar.{tag}
use Rattle.format.specs.Edition.{opening, closing, n_ch}
use Rattle.format.specs.Expansion.{expansion_head, expansion_body}
use Rattle.expansion.specs.Parts.{contents_of}
use Rattle.section.proofs.SeqLaws.{seq_refused, seq_on, regroup}
use Rattle.expansion.proofs.BlockLaws.{block_rest, block_told}
use Rattle.section.proofs.TagLaws.{opening_by, closing_by, tag_by}
use Rattle.expansion.proofs.block.Goals as goal

pub returns-in_err-start : goal.returns-in_err-start
returns-in_err-start c =
    let a = c.args in
    let f = a.f.now in
    let t = a.tagged in
    let o = order_by a.msf in
    exit_judged _ c.from_residual.ensures.1 (block_told t o f a.p _ (seq_refused (tag (opening t n_ch) 4) (λ x. block_rest t o) f a.p _ (tag_by 4 f a.p _ (opening_by t n_ch) c.in_err-start.ensures)))

pub returns-in_err-end : goal.returns-in_err-end
returns-in_err-end c =
    let a = c.args in
    let f = a.f.now in
    let t = a.tagged in
    let o = order_by a.msf in
    exit_judged _ c.from_residual-in_err-end.ensures.1 (block_told t o f a.p _
    (seq_on (tag (opening t n_ch) 4) (λ x. block_rest t o) f a.p _ (tag_by 4 f a.p _ (opening_by t n_ch) c.in_ok-start.ensures) _
    (regroup (expansion_head t o) (λ h. expansion_body h.1) (tag (closing t n_ch) 4) f _ _
    (seq_refused (contents_of t o) (λ v. tag (closing t n_ch) 4) f _ _ c.in_err-end.ensures))))

pub returns : goal.returns
returns c =
    let a = c.args in
    let f = a.f.now in
    let t = a.tagged in
    let o = order_by a.msf in
    block_told t o f a.p _
    (seq_on (tag (opening t n_ch) 4) (λ x. block_rest t o) f a.p _ (tag_by 4 f a.p _ (opening_by t n_ch) c.in_ok-start.ensures) _
    (regroup (expansion_head t o) (λ h. expansion_body h.1) (tag (closing t n_ch) 4) f _ _
    (seq_on (contents_of t o) (λ v. tag (closing t n_ch) 4) f _ _ c.in_ok-end.ensures _ (tag_by 4 f _ _ (closing_by t n_ch) c.tag_or-2.ensures))))
