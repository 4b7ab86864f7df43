use mathlib.Core.Path.{◌≡◌, ◌∙◌}
use Prim.Native.Nat.{◌+◌, ◌-◌}
use native.Mathlib.Omega.{arith}
use lib.ListN.{get_or}
use Rattle.labels.proofs.TableLaws.{past_less}
use Rattle.labels.proofs.past_zero.Goals as goal

pub loop-i-preserved : goal.loop-i-preserved
loop-i-preserved c =
    let a = c.args in
    let i = c.loop-i.i in
    let e : a.t + a.n - 1 - i ≡ a.t + (a.n - (i + 1)) = omega arith in
    past_less (λ i. get_or a.f.now (a.t + i) 0) (a.n - (i + 1)) (a.n - i) (omega arith) (rw e at c.if-f-t-eq0.false) ∙ c.loop-i.invariant
