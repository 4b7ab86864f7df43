use mathlib.Core.Path.{refl}
use mathlib.Core.List.{◌++◌}
use Prim.Native.Nat.{◌+◌, ◌*◌}
use native.Mathlib.Omega.{arith}
use lib.ListN.{length-take, length-drop}
use Rattle.format.specs.Slot.{fill}
use Rattle.format.specs.Number.{num_slots, order_by}
use Rattle.format.proofs.SlotLaws.{length_tab}
use Rattle.text.proofs.Lay.{laid_first, laid_part, laid_as}
use Rattle.writing.proofs.Chain.{puts_of}
use Rattle.write_tables.proofs.MarkLaws.{numbers_fill}
use Rattle.write_tables.proofs.TableLaws.{room_inside, table_read, area_fill, table_parts, entries_length}
use Rattle.write_tables.proofs.put_table.Goals as goal

pub overflow_add-q : goal.overflow_add-q
overflow_add-q c =
    let a = c.args in
    let h = room_inside (order_by a.msf) a.f.now a.p a.n a.m _ c.requires in
    record { fits = omega (arith, h) }

pub put_entries-requires : goal.put_entries-requires
put_entries-requires c =
    let a = c.args in
    let h = room_inside (order_by a.msf) a.f.now a.p a.n a.m _ c.requires in
    (omega (arith, h), simp (length-take, length-drop) (omega (arith, h)))

pub overflow_add-p : goal.overflow_add-p
overflow_add-p c =
    let a = c.args in
    let h = room_inside (order_by a.msf) a.f.now a.p a.n a.m _ c.requires in
    record { fits = omega (arith, h) }

pub put_area-requires : goal.put_area-requires
put_area-requires c =
    let a = c.args in
    let h = room_inside (order_by a.msf) a.f.now a.p a.n a.m _ c.requires in
    let k = table_read (order_by a.msf) a.f.now a.p a.n a.m c.requires.this c.requires.stands in
    (omega (arith, h), omega (arith, h), simp (length-take, length-drop) (omega (arith, h)), rw k.offs k.low)

pub overflow_add-result : goal.overflow_add-result
overflow_add-result c =
    let a = c.args in
    let h = room_inside (order_by a.msf) a.f.now a.p a.n a.m _ c.requires in
    record { fits = omega (arith, h) }

pub returns : goal.returns
returns c =
    let a = c.args in
    let x = c.put_counts in
    let y = c.put_entries in
    let w = c.put_area in
    let o = order_by a.msf in
    let z = order_by a.to in
    let f = a.f.now in
    let p = a.p in
    let n = a.n in
    let m = a.m in
    let h = room_inside o f p n m _ c.requires in
    let counts = fill (num_slots z 4 n) ++ fill (num_slots z 4 m) in
    let entries = numbers_fill o z f n (p + 8) ++ numbers_fill o z f n (p + 8 + n * 4) in
    let l1 = laid_first counts a.out.now x.new.out 8 x.ensures refl (omega (arith, h)) in
    let l2 = laid_part {t = counts} l1 entries y.new.out (n * 4 + n * 4) (entries_length o z f n (p + 8)) (omega (arith, h)) y.ensures in
    let l3 = laid_as {t = counts ++ entries} {b = 8 + n * 4 + n * 4} l2 refl (omega arith) in
    let l4 = laid_part {t = counts ++ entries} l3 (area_fill o f p n m) w.new.out m (length_tab m _) (omega (arith, h)) w.ensures in
    record { all = λ t T. puts_of (laid_as l4 (table_parts o f z p n m t T) refl) }
