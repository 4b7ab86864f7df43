use mathlib.Core.Path.{refl, sym}
use mathlib.Core.Bool.{true, cond}
use mathlib.Core.List.{[], ◌++◌}
use Prim.Native.Nat.{◌+◌}
use native.Mathlib.Omega.{arith}
use lib.ListN.{length, length-take, length-drop}
use Rattle.format.specs.Slot.{fill}
use Rattle.format.specs.Number.{order_by}
use Rattle.format.specs.Edition.{opening, closing, n_lbl}
use Rattle.format.specs.Labels.{table, table_size, block_head}
use Rattle.text.proofs.Lay.{laid_part, laid_as}
use Rattle.writing.proofs.Chain.{puts_first, puts_part, puts_of}
use Rattle.write_labels.proofs.BlockLaws.{open_puts, close_puts, head_long, block_fill, room_read, room_inside, room_tabled, table_puts, room_last, room_open, room_after, room_puts}
use borrow.Author.Rules.{rules}
use Rattle.write_labels.proofs.put_block.Goals as goal

pub overflow_add-h : goal.overflow_add-h
overflow_add-h c = record { fits = omega (arith, room_inside c.requires c.open_size.result c.open_size.ensures.0) }

pub overflow_add-q : goal.overflow_add-q
overflow_add-q c = record { fits = omega (arith, room_inside c.requires c.open_size.result c.open_size.ensures.0) }

pub overflow_add-q-2 : goal.overflow_add-q-2
overflow_add-q-2 c = record { fits = omega (arith, room_inside c.requires c.open_size.result c.open_size.ensures.0) }

pub overflow_add-q-3 : goal.overflow_add-q-3
overflow_add-q-3 c = record { fits = omega (arith, room_inside c.requires c.open_size.result c.open_size.ensures.0) }

pub put_tag-a-requires : goal.put_tag-a-requires
put_tag-a-requires c =
    room_open c.requires

pub put_head-requires : goal.put_head-requires
put_head-requires c =
    let x = c.open_size in
    let A = room_inside c.requires x.result x.ensures.0 in
    let g = c.put_tag-a in
    let D = room_after c.requires g.result g.ensures.long in
    let N = c.requires.named in
    (omega (arith, A), simp (length-take, length-drop) (omega (arith, D)), rw (room_read c.requires x.result x.ensures.0).called (omega (arith, N)))

pub overflow_add-b : goal.overflow_add-b
overflow_add-b c = record { fits = omega (arith, room_after c.requires c.put_tag-a.result c.put_tag-a.ensures.long) }

pub overflow_add-b-2 : goal.overflow_add-b-2
overflow_add-b-2 c = record { fits = omega (arith, room_after c.requires c.put_tag-a.result c.put_tag-a.ensures.long) }

pub overflow_add-b-3 : goal.overflow_add-b-3
overflow_add-b-3 c = record { fits = omega (arith, room_after c.requires c.put_tag-a.result c.put_tag-a.ensures.long) }

pub slice_bounds-put_counted-count : goal.slice_bounds-put_counted-count
slice_bounds-put_counted-count c = let D = room_after c.requires c.put_tag-a.result c.put_tag-a.ensures.long in search rules

pub put_counted-requires : goal.put_counted-requires
put_counted-requires c =
    let x = c.open_size in
    let A = room_inside c.requires x.result x.ensures.0 in
    let g = c.put_tag-a in
    let D = room_after c.requires g.result g.ensures.long in
    let T = room_tabled c.requires x.result x.ensures.0 in
    (omega (arith, A), record { this = c.requires.this.entries; stands = T; room = simp (length-take, length-drop) (omega (arith, D)) })

pub overflow_add-c : goal.overflow_add-c
overflow_add-c c =
    let x = c.open_size in
    let g = c.put_tag-a in
    let D = room_last c.requires x.result x.ensures.0 c.put_counted.ensures g.result g.ensures.long (length (cond c.args.totagged (closing true n_lbl) [])) refl in
    record { fits = omega (arith, D) }

pub slice_bounds-put_tag-count : goal.slice_bounds-put_tag-count
slice_bounds-put_tag-count c =
    let x = c.open_size in
    let g = c.put_tag-a in
    let D = room_last c.requires x.result x.ensures.0 c.put_counted.ensures g.result g.ensures.long (length (cond c.args.totagged (closing true n_lbl) [])) refl in
    search rules

pub put_tag-requires : goal.put_tag-requires
put_tag-requires c =
    let x = c.open_size in
    let g = c.put_tag-a in
    let D = room_last c.requires x.result x.ensures.0 c.put_counted.ensures g.result g.ensures.long (length (cond c.args.totagged (closing true n_lbl) [])) refl in
    simp (length-take, length-drop) (omega (arith, D))

pub overflow_add-result : goal.overflow_add-result
overflow_add-result c =
    let x = c.open_size in
    let g = c.put_tag-a in
    let D = room_last c.requires x.result x.ensures.0 c.put_counted.ensures g.result g.ensures.long c.put_tag.result c.put_tag.ensures.long in
    record { fits = omega (arith, D) }

pub returns : goal.returns
returns c =
    let x = c.open_size in
    let g = c.put_tag-a in
    let D = room_last c.requires x.result x.ensures.0 c.put_counted.ensures g.result g.ensures.long c.put_tag.result c.put_tag.ensures.long in
    let a = c.args in
    let K = c.requires in
    let h = c.put_head in
    let k = c.put_counted in
    let y = c.put_tag in
    let z = order_by a.tomsf in
    let b = K.this in
    let w = table_size b.entries in
    let O = opening a.totagged n_lbl in
    let H = fill ((block_head z a.tow).slots (w, (b.set_name, tt))) in
    let T = fill ((table z w).slots b.entries) in
    let head = rw (room_read K x.result x.ensures.0).head at h.ensures in
    let l1 = puts_first {g = O} (open_puts a.totagged g.ensures) (omega (arith, D)) in
    let l2 = laid_part {t = O} l1 H h.new.out (4 + (a.tow + 3)) (head_long z a.tow w b.set_name) (omega (arith, D)) head in
    let l3 = puts_part {t = O ++ H} l2 T k.new.out k.result (table_puts K x.result x.ensures.0 k.ensures) (omega (arith, D)) in
    let l4 = puts_part {t = (O ++ H) ++ T} l3 (closing a.totagged n_lbl) y.new.out y.result (close_puts a.totagged y.ensures) (omega (arith, D)) in
    room_puts K (puts_of (laid_as l4 (sym (block_fill z a.tow a.totagged b)) refl))

pub slice_bounds-put_counted-start : goal.slice_bounds-put_counted-start
slice_bounds-put_counted-start c = let D = room_after c.requires c.put_tag-a.result c.put_tag-a.ensures.long in search rules

pub slice_bounds-put_tag-start : goal.slice_bounds-put_tag-start
slice_bounds-put_tag-start c =
    let x = c.open_size in
    let g = c.put_tag-a in
    let D = room_last c.requires x.result x.ensures.0 c.put_counted.ensures g.result g.ensures.long (length (cond c.args.totagged (closing true n_lbl) [])) refl in
    search rules
