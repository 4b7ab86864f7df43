use native.Mathlib.Omega.{arith}
use Rattle.text.proofs.TextLaws.{text_stop, text_turn, text_none, zero_past}
use Rattle.text.proofs.text_len.Goals as goal

pub loop-n-init : goal.loop-n-init
loop-n-init c =
    let a = c.args in
    let e = c.pass_start-n.ensures in
    zero_past a.f.now a.p a.w c.pass_start-n.result e.0 e.1

pub returns-then-f-p-eq0 : goal.returns-then-f-p-eq0
returns-then-f-p-eq0 c =
    let a = c.args in
    record { is = omega (arith, text_stop a.w a.f.now a.p c.loop-n.n (omega arith) c.if-f-p-eq0.true, c.loop-n.invariant); short = omega arith }

pub loop-n-preserved : goal.loop-n-preserved
loop-n-preserved c =
    let a = c.args in
    omega (arith, text_turn a.w a.f.now a.p c.loop-n.n (omega arith) c.if-f-p-eq0.false, c.loop-n.invariant)

pub returns : goal.returns
returns c =
    let a = c.args in
    record { is = omega (arith, text_none a.w a.f.now a.p c.loop-n.n (omega arith), c.loop-n.invariant); short = omega arith }
