use mathlib.Core.Path.{sym, ◌∙◌}
use Rattle.section.proofs.StepLaws.{exit_judged}
use Rattle.format.specs.Number.{order_by}
use Rattle.format.specs.Expansion.{expansion_next, expansion}
use Rattle.format.proofs.ExpansionLaws.{expansion_some}
use Rattle.section.proofs.WalkSteps.{walked_stop, walked_turn, walked_less}
use Rattle.expansion.specs.Parts.{blocks_tail}
use Rattle.expansion.proofs.BlockLaws.{next_inside}
use Rattle.expansion.proofs.block_list.Goals as goal

pub returns-in_err-q : goal.returns-in_err-q
returns-in_err-q c =
    let a = c.args in
    let t = a.tagged in
    let o = order_by a.msf in
    let l = c.loop-q in
    let m = sym c.block_next.ensures ∙ c.loop-q-test.true in
    exit_judged _ c.from_residual.ensures.1 (walked_stop (expansion_next t) (expansion t o) (blocks_tail t) (next_inside t) (expansion_some t o) a.f.now a.p l.q l.invariant m _ c.in_err-q.ensures)

pub loop-q-smaller : goal.loop-q-smaller
loop-q-smaller c =
    let a = c.args in
    let t = a.tagged in
    let o = order_by a.msf in
    let l = c.loop-q in
    let m = sym c.block_next.ensures ∙ c.loop-q-test.true in
    walked_less (expansion_next t) (expansion t o) (blocks_tail t) (next_inside t) (expansion_some t o) a.f.now a.p l.q l.invariant m c.in_ok-q.ensures

pub loop-q-preserved : goal.loop-q-preserved
loop-q-preserved c =
    let a = c.args in
    let t = a.tagged in
    let o = order_by a.msf in
    let l = c.loop-q in
    let m = sym c.block_next.ensures ∙ c.loop-q-test.true in
    walked_turn (expansion_next t) (expansion t o) (blocks_tail t) (next_inside t) (expansion_some t o) a.f.now a.p l.q l.invariant m c.in_ok-q.ensures
