use Prim.Native.Nat.{◌-◌}
use mathlib.Core.Path.{sym, ◌∙◌}
use native.Mathlib.Omega.{arith}
use Rattle.text.proofs.TextLaws.{zero_none, zero_block, zero_found, zero_end}
use Rattle.text.proofs.zero_by.Goals as goal

pub loop-m-init : goal.loop-m-init
loop-m-init c =
    (omega arith, omega arith, zero_none _ _)

pub returns-then-has_zero : goal.returns-then-has_zero
returns-then-has_zero c =
    let a = c.args in
    let l = c.loop-m in
    zero_found a.f.now a.p a.n l.m a.b (omega arith) (sym c.has_zero.ensures ∙ c.if-has_zero.true)

pub loop-m-preserved : goal.loop-m-preserved
loop-m-preserved c =
    let a = c.args in
    let l = c.loop-m in
    (l.invariant.0, omega arith, zero_block a.f.now a.p l.m a.b l.invariant.2 (sym c.has_zero.ensures ∙ c.if-has_zero.false))

pub returns : goal.returns
returns c =
    let a = c.args in
    let l = c.loop-m in
    c.has_zero-2.ensures ∙ zero_end a.f.now a.p a.n l.m a.b (a.n - a.b) (omega arith) (omega arith) l.invariant.2
