use mathlib.Core.Path.{◌∙◌}
use native.Mathlib.Omega.{arith}
use Rattle.format.specs.Number.{order_by}
use Rattle.labels.proofs.TableLaws.{below_turn}
use Rattle.labels.proofs.all_below.Goals as goal

pub loop-i-preserved : goal.loop-i-preserved
loop-i-preserved c =
    let a = c.args in
    below_turn (order_by a.msf) a.f.now a.p a.n c.loop-i.i (omega arith) a.z (omega (arith, c.number.ensures.is)) ∙ c.loop-i.invariant
