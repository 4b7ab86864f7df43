use mathlib.Core.Path.{sym, ◌∙◌}
use Rattle.section.proofs.StepLaws.{exit_judged}
use Rattle.format.specs.Number.{order_by}
use Rattle.format.specs.Labels.{block, block_next}
use Rattle.format.proofs.LabelLaws.{block_some}
use Rattle.section.proofs.WalkSteps.{walked_stop, walked_turn, walked_less}
use Rattle.labels.specs.Parts.{file_end}
use Rattle.labels.proofs.BlockLaws.{next_inside}
use Rattle.labels.proofs.block_list.Goals as goal

pub returns-in_err-q : goal.returns-in_err-q
returns-in_err-q c =
    let a = c.args in
    let t = a.tagged in
    let o = order_by a.msf in
    let l = c.loop-q in
    let m = sym c.block_next.ensures ∙ c.loop-q-test.true in
    exit_judged _ c.from_residual.ensures.1 (walked_stop (block_next t) (block t o a.w) (file_end t) (next_inside t) (block_some t o a.w) a.f.now a.p l.q l.invariant m _ c.in_err-q.ensures)

pub loop-q-smaller : goal.loop-q-smaller
loop-q-smaller c =
    let a = c.args in
    let t = a.tagged in
    let o = order_by a.msf in
    let l = c.loop-q in
    let m = sym c.block_next.ensures ∙ c.loop-q-test.true in
    walked_less (block_next t) (block t o a.w) (file_end t) (next_inside t) (block_some t o a.w) a.f.now a.p l.q l.invariant m c.in_ok-q.ensures

pub loop-q-preserved : goal.loop-q-preserved
loop-q-preserved c =
    let a = c.args in
    let t = a.tagged in
    let o = order_by a.msf in
    let l = c.loop-q in
    let m = sym c.block_next.ensures ∙ c.loop-q-test.true in
    walked_turn (block_next t) (block t o a.w) (file_end t) (next_inside t) (block_some t o a.w) a.f.now a.p l.q l.invariant m c.in_ok-q.ensures
