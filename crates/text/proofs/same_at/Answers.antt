use mathlib.Core.Path.{sym, ◌∙◌}
use native.Mathlib.Nat.{add-zero}
use native.Mathlib.Omega.{arith}
use Rattle.text.proofs.TextLaws.{same_turn, same_stop, same_none}
use Rattle.text.proofs.same_at.Goals as goal

pub loop-k-init : goal.loop-k-init
loop-k-init c = rw add-zero

pub returns-then-f-p : goal.returns-then-f-p
returns-then-f-p c =
    let a = c.args in
    sym (c.loop-k.invariant ∙ same_stop a.t.now a.f.now a.p c.loop-k.k (omega arith) c.if-f-p.true)

pub loop-k-preserved : goal.loop-k-preserved
loop-k-preserved c =
    let a = c.args in
    c.loop-k.invariant ∙ same_turn a.t.now a.f.now a.p c.loop-k.k (omega arith) c.if-f-p.false

pub returns : goal.returns
returns c =
    let a = c.args in
    sym (c.loop-k.invariant ∙ same_none a.t.now a.f.now a.p c.loop-k.k (omega arith))
