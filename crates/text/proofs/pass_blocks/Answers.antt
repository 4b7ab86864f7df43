use mathlib.Core.Path.{sym, ◌∙◌}
use native.Mathlib.Omega.{arith}
use Rattle.text.proofs.TextLaws.{zero_block}
use Rattle.text.proofs.pass_blocks.Goals as goal

pub loop-m-init : goal.loop-m-init
loop-m-init c = (omega arith, c.requires.3)

pub returns-then-has_zero : goal.returns-then-has_zero
returns-then-has_zero c = c.loop-m.invariant

pub loop-m-preserved : goal.loop-m-preserved
loop-m-preserved c =
    let a = c.args in
    let z = sym c.has_zero.ensures ∙ c.if-has_zero.false in
    (omega arith, zero_block a.f.now a.p c.loop-m.m a.b c.loop-m.invariant.1 z)

pub returns : goal.returns
returns c = c.loop-m.invariant
