use Prim.Native.Nat.{◌+◌}
use mathlib.Core.Path.{sym, ap, ◌∙◌}
use mathlib.Core.Bool.{Bool, ◌||◌}
use lib.ListN.{get_or}
use lib.Dec.{eqb}
use Rattle.text.proofs.TextLaws.{zero_none, zero_turn}
use Rattle.text.proofs.has_zero.Goals as goal

pub loop-k-init : goal.loop-k-init
loop-k-init c = sym (zero_none _ _)

pub loop-k-preserved : goal.loop-k-preserved
loop-k-preserved c =
    let a = c.args in
    ap (λ (t : Bool). t || eqb (get_or a.f.now (a.p + c.loop-k.k) 0) 0) c.loop-k.invariant ∙ zero_turn a.f.now a.p c.loop-k.k
