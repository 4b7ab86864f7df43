use mathlib.Core.Path.{ap, ◌∙◌}
use native.Mathlib.Omega.{arith}
use Rattle.format.specs.Number.{order_by}
use Rattle.format.specs.Labels.{signed}
use Rattle.labels.proofs.TableLaws.{ascend_turn, ascend_stop}
use Rattle.labels.proofs.all_ascend.Goals as goal

pub returns-then-y-x : goal.returns-then-y-x
returns-then-y-x c =
    let a = c.args in
    let x = c.signed_place-x.ensures ∙ ap signed c.number.ensures.is in
    let y = c.signed_place-y.ensures ∙ ap signed c.number-in-loop-i.ensures.is in
    ascend_stop (order_by a.msf) a.f.now a.p a.n c.loop-i.i (omega arith) (omega arith) (omega arith) ∙ c.loop-i.invariant

pub loop-i-preserved : goal.loop-i-preserved
loop-i-preserved c =
    let a = c.args in
    let x = c.signed_place-x.ensures ∙ ap signed c.number.ensures.is in
    let y = c.signed_place-y.ensures ∙ ap signed c.number-in-loop-i.ensures.is in
    ascend_turn (order_by a.msf) a.f.now a.p a.n c.loop-i.i (omega arith) (omega arith) (omega arith) ∙ c.loop-i.invariant
