use native.Mathlib.Omega.{arith}
use Rattle.section.proofs.StepLaws.{exit_judged}
use Rattle.format.specs.Number.{order_by}
use Rattle.format.specs.Grammar.{tag}
use Rattle.format.specs.Edition.{opening, closing, n_lbl}
use Rattle.format.specs.Labels.{table, block_head}
use Rattle.section.proofs.SeqLaws.{seq_refused, seq_on}
use Rattle.section.proofs.TagLaws.{opening_by, closing_by, tag_by}
use Rattle.labels.proofs.BlockLaws.{head_room, head_on, from_table, from_head, block_told}
use Rattle.labels.proofs.label_block.Goals as goal

pub returns-in_err-head : goal.returns-in_err-head
returns-in_err-head c =
    let a = c.args in
    let f = a.f.now in
    let t = a.tagged in
    let o = order_by a.msf in
    let A = tag_by 4 f a.p _ (opening_by t n_lbl) c.in_err-head.ensures in
    exit_judged _ c.from_residual.ensures.1 (block_told t o a.w f a.p _ (seq_refused (tag (opening t n_lbl) 4) (λ u. from_head t o a.w) f a.p _ A))

pub returns-in_err-at : goal.returns-in_err-at
returns-in_err-at c =
    let a = c.args in
    let f = a.f.now in
    let t = a.tagged in
    let o = order_by a.msf in
    let w = a.w in
    let A = tag_by 4 f a.p _ (opening_by t n_lbl) c.in_ok-head.ensures in
    exit_judged _ c.from_residual-in_err-at.ensures.1 (block_told t o w f a.p _
    (seq_on (tag (opening t n_lbl) 4) (λ u. from_head t o w) f a.p _ A _
    (seq_refused (block_head o w) (λ h. from_table t o w h.0) f _ _ c.in_err-at.ensures)))

pub number-n-requires : goal.number-n-requires
number-n-requires c =
    let a = c.args in
    let h = head_room (order_by a.msf) a.w a.f.now c.in_ok-head.head c.in_ok-at.ensures in
    (omega arith, omega arith)

pub returns-in_err-end : goal.returns-in_err-end
returns-in_err-end c =
    let a = c.args in
    let f = a.f.now in
    let t = a.tagged in
    let o = order_by a.msf in
    let w = a.w in
    let A = tag_by 4 f a.p _ (opening_by t n_lbl) c.in_ok-head.ensures in
    exit_judged _ c.from_residual-in_err-end.ensures.1 (block_told t o w f a.p _
    (seq_on (tag (opening t n_lbl) 4) (λ u. from_head t o w) f a.p _ A _
    (head_on t o w f _ c.in_ok-at.ensures _ c.number-n.ensures.is _
    (seq_refused (table o c.number-n.result) (λ b. tag (closing t n_lbl) 4) f _ _ c.in_err-end.ensures))))

pub returns : goal.returns
returns c =
    let a = c.args in
    let f = a.f.now in
    let t = a.tagged in
    let o = order_by a.msf in
    let w = a.w in
    let A = tag_by 4 f a.p _ (opening_by t n_lbl) c.in_ok-head.ensures in
    block_told t o w f a.p _
    (seq_on (tag (opening t n_lbl) 4) (λ u. from_head t o w) f a.p _ A _
    (head_on t o w f _ c.in_ok-at.ensures _ c.number-n.ensures.is _
    (seq_on (table o c.number-n.result) (λ b. tag (closing t n_lbl) 4) f _ _ c.in_ok-end.ensures _ (tag_by 4 f _ _ (closing_by t n_lbl) c.tag_or-2.ensures))))
