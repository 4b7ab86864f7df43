use mathlib.Core.Path.{◌∙◌}
use Prim.Native.Nat.{◌<◌}
use native.Mathlib.Omega.{arith}
use Rattle.format.specs.Number.{order_by}
use Rattle.write_labels.proofs.LoopLaws.{holding_turn, holding_stop, holding_next, holding_end}
use Rattle.write_labels.proofs.names_held.Goals as goal

pub overflow_add-at : goal.overflow_add-at
overflow_add-at c =
    let a = c.args in
    let N = holding_turn a.tagged (order_by a.msf) a.w a.f.now a.tow a.p a.q c.loop-at.invariant (omega arith) in
    record { fits = omega (arith, N.inside) }

pub text_len-requires : goal.text_len-requires
text_len-requires c =
    let a = c.args in
    let N = holding_turn a.tagged (order_by a.msf) a.w a.f.now a.tow a.p a.q c.loop-at.invariant (omega arith) in
    omega (arith, N.inside)

pub returns-then-tow-text_len : goal.returns-then-tow-text_len
returns-then-tow-text_len c =
    let a = c.args in
    let x = c.text_len in
    holding_stop a.tagged (order_by a.msf) a.w a.f.now a.tow a.p a.q c.loop-at.invariant (omega arith) _ x.result
    (omega (arith, c.open_size-name.ensures.0)) x.ensures.is (omega arith)

pub table_len-t-requires : goal.table_len-t-requires
table_len-t-requires c =
    let a = c.args in
    let N = holding_turn a.tagged (order_by a.msf) a.w a.f.now a.tow a.p a.q c.loop-at.invariant (omega arith) in
    omega (arith, N.inside)

pub overflow_add-at-in-loop-at-2 : goal.overflow_add-at-in-loop-at-2
overflow_add-at-in-loop-at-2 c =
    let a = c.args in
    let N = holding_turn a.tagged (order_by a.msf) a.w a.f.now a.tow a.p a.q c.loop-at.invariant (omega arith) in
    record { fits = omega (arith, N.inside, N.wide) }

pub loop-at-preserved : goal.loop-at-preserved
loop-at-preserved c =
    let a = c.args in
    let x = c.text_len in
    let s = c.frame_size-from in
    let b : c.loop-at.at < a.q = omega arith in
    let next = holding_turn a.tagged (order_by a.msf) a.w a.f.now a.tow a.p a.q c.loop-at.invariant b in
    holding_next a.tagged (order_by a.msf) a.w a.f.now a.tow a.p a.q c.loop-at.invariant b _ x.result
    (omega (arith, c.open_size-name.ensures.0)) x.ensures.is (omega arith) s.result c.table_len-t.result s.ensures.0 (c.table_len-t.ensures.is ∙ next.wide)

pub returns : goal.returns
returns c =
    let a = c.args in
    holding_end a.tagged (order_by a.msf) a.w a.f.now a.tow a.p a.q c.loop-at.invariant (omega arith)
