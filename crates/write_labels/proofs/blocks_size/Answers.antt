use mathlib.Core.Path.{◌∙◌}
use Prim.Native.Nat.{◌<◌}
use native.Mathlib.Omega.{arith}
use Rattle.format.specs.Number.{order_by}
use Rattle.write_labels.proofs.LoopLaws.{counted_turn, counted_next, counted_end}
use Rattle.write_labels.proofs.blocks_size.Goals as goal

pub table_len-t-requires : goal.table_len-t-requires
table_len-t-requires c =
    let l = c.loop-at in
    let a = c.args in
    let N = counted_turn a.tagged (order_by a.msf) a.w a.f.now a.totagged a.tow a.p a.q l.invariant (omega arith) in
    omega (arith, N.inside)

pub overflow_add-n-in-loop-at : goal.overflow_add-n-in-loop-at
overflow_add-n-in-loop-at c =
    let l = c.loop-at in
    let a = c.args in
    let N = counted_turn a.tagged (order_by a.msf) a.w a.f.now a.totagged a.tow a.p a.q l.invariant (omega arith) in
    record { fits = omega (arith, N.inside, N.wide) }

pub overflow_add-at-in-loop-at : goal.overflow_add-at-in-loop-at
overflow_add-at-in-loop-at c =
    let l = c.loop-at in
    let a = c.args in
    let N = counted_turn a.tagged (order_by a.msf) a.w a.f.now a.totagged a.tow a.p a.q l.invariant (omega arith) in
    record { fits = omega (arith, N.inside, N.wide) }

pub loop-at-preserved : goal.loop-at-preserved
loop-at-preserved c =
    let l = c.loop-at in
    let a = c.args in
    let b : l.at < a.q = omega arith in
    let N = counted_turn a.tagged (order_by a.msf) a.w a.f.now a.totagged a.tow a.p a.q l.invariant b in
    let x = c.frame_size-from in
    let y = c.frame_size-to in
    counted_next a.tagged (order_by a.msf) a.w a.f.now a.totagged a.tow a.p a.q l.invariant b x.result y.result c.table_len-t.result x.ensures.0 y.ensures.0 y.ensures.1 (c.table_len-t.ensures.is ∙ N.wide)

pub returns : goal.returns
returns c =
    let l = c.loop-at in
    let a = c.args in
    counted_end a.tagged (order_by a.msf) a.w a.f.now a.totagged a.tow a.p a.q l.invariant (omega arith)
