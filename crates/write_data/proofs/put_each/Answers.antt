use mathlib.Core.Path.{sym, ◌∙◌}
use Prim.Native.Nat.{◌+◌, ◌≤◌}
use native.Mathlib.Omega.{arith}
use lib.ListN.{length-take, length-drop}
use Rattle.write_data.proofs.RowLaws.{rows_end, block_inside, block_room, rows_block}
use Rattle.write_data.proofs.put_each.Goals as goal

pub put_block-requires : goal.put_block-requires
put_block-requires c =
    let a = c.args in
    let p = c.requires in
    let j = c.loop-j.j in
    let m = c.block_rows-m.result in
    let inside = block_inside a.f.now a.g a.h p.0 p.4 a.w p.2 a.t.now a.r j m (omega arith) p.1 in
    let room = block_room a.f.now a.g a.h p.0 p.4 a.w p.2 a.t.now a.r j m (omega arith) p.1 a.out.now p.3 in
    (inside, simp (length-take, length-drop) (omega arith), p.1.size ∙ sym p.2, p.1.few, p.4)

pub loop-j-preserved : goal.loop-j-preserved
loop-j-preserved c =
    let a = c.args in
    let p = c.requires in
    let l = c.loop-j in
    let m = c.block_rows-m.result in
    let b : l.j + m ≤ a.g.n = omega arith in
    (b, rows_block a.f.now a.g a.h p.0 p.4 a.w p.2 a.t.now a.r l.j m b p.1 l.invariant.1 _ c.put_block.ensures p.3)

pub returns : goal.returns
returns c =
    let a = c.args in
    let l = c.loop-j in
    rows_end a.f.now a.g a.h c.requires.0 c.requires.4 a.w c.requires.2 l.j l.invariant.1 (omega arith)
