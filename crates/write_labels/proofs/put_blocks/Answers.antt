use mathlib.Core.Path.{◌∙◌}
use Prim.Native.Nat.{◌<◌}
use native.Mathlib.Omega.{arith}
use lib.ListN.{length-take, length-drop}
use Rattle.format.specs.Number.{order_by}
use Rattle.write_labels.proofs.LoopLaws.{putting_turn, putting_room, put_inside, putting_next, putting_end}
use Rattle.write_labels.proofs.put_blocks.Goals as goal

pub table_len-t-requires : goal.table_len-t-requires
table_len-t-requires c =
    let l = c.loop-at in
    let a = c.args in
    let b : l.at < a.q = omega arith in
    let N = putting_turn a.tagged (order_by a.msf) a.w a.f.now a.totagged (order_by a.tomsf) a.tow a.p a.q a.out.now l.invariant b in
    omega (arith, N.inside, l.invariant.laid.long)

pub put_block-n-requires : goal.put_block-n-requires
put_block-n-requires c =
    let l = c.loop-at in
    let a = c.args in
    let b : l.at < a.q = omega arith in
    putting_room a.tagged (order_by a.msf) a.w a.f.now a.totagged (order_by a.tomsf) a.tow a.p a.q a.out.now l.invariant b _ (simp (length-take, length-drop) (omega (arith, l.invariant.laid.long, l.invariant.sum, l.invariant.room)))

pub overflow_add-n : goal.overflow_add-n
overflow_add-n c =
    let l = c.loop-at in
    let a = c.args in
    let b : l.at < a.q = omega arith in
    let N = putting_turn a.tagged (order_by a.msf) a.w a.f.now a.totagged (order_by a.tomsf) a.tow a.p a.q a.out.now l.invariant b in
    let x = c.frame_size-frame in
    let k = c.put_block-n in
    record { fits = omega (arith, l.invariant.laid.long, put_inside a.tagged (order_by a.msf) a.w a.f.now a.totagged (order_by a.tomsf) a.tow a.p a.q a.out.now l.invariant b x.result c.table_len-t.result k.result k.new.out x.ensures.0 (c.table_len-t.ensures.is ∙ N.wide) k.ensures) }

pub overflow_add-at-in-loop-at : goal.overflow_add-at-in-loop-at
overflow_add-at-in-loop-at c =
    let l = c.loop-at in
    let a = c.args in
    let b : l.at < a.q = omega arith in
    let N = putting_turn a.tagged (order_by a.msf) a.w a.f.now a.totagged (order_by a.tomsf) a.tow a.p a.q a.out.now l.invariant b in
    record { fits = omega (arith, N.inside, N.wide) }

pub loop-at-preserved : goal.loop-at-preserved
loop-at-preserved c =
    let l = c.loop-at in
    let a = c.args in
    let b : l.at < a.q = omega arith in
    let N = putting_turn a.tagged (order_by a.msf) a.w a.f.now a.totagged (order_by a.tomsf) a.tow a.p a.q a.out.now l.invariant b in
    let x = c.frame_size-frame in
    let k = c.put_block-n in
    putting_next a.tagged (order_by a.msf) a.w a.f.now a.totagged (order_by a.tomsf) a.tow a.p a.q a.out.now l.invariant b x.result c.table_len-t.result k.result k.new.out x.ensures.0 (c.table_len-t.ensures.is ∙ N.wide) k.ensures

pub returns : goal.returns
returns c =
    let l = c.loop-at in
    let a = c.args in
    putting_end a.tagged (order_by a.msf) a.w a.f.now a.totagged (order_by a.tomsf) a.tow a.p a.q a.out.now l.invariant (omega arith)
