use native.Mathlib.Omega.{arith}
use Rattle.format.specs.Number.{order_by}
use Rattle.long_list.proofs.ListsLaws.{counted_room, counted_short, counted_done}
use Rattle.long_list.proofs.TellLaws.{told_room}
use Rattle.long_list.proofs.LongLaws.{long_teller}
use Rattle.long_list.proofs.LongsAt.{longs_at}
use Rattle.long_list.proofs.long_list.Goals as goal

pub longs_count-n-requires : goal.longs_count-n-requires
longs_count-n-requires c =
    let s = c.in_ok-s.s in
    let r = longs_at (λ i. omega (arith, c.shared_slice_known-1.given i)) c.in_ok-s.ensures.parts in
    (told_room (long_teller s.edition.tagged (order_by s.msf) s.edition.record_width) r.stand, r.narrow)

pub returns-then-out-n : goal.returns-then-out-n
returns-then-out-n c =
    let r = longs_at (λ i. omega (arith, c.shared_slice_known-1.given i)) c.in_ok-s.ensures.parts in
    counted_short c.longs_count-n.ensures r.stand r.told r.accepted (omega arith)

pub put_longs-requires : goal.put_longs-requires
put_longs-requires c =
    let r = longs_at (λ i. omega (arith, c.shared_slice_known-1.given i)) c.in_ok-s.ensures.parts in
    (counted_room c.longs_count-n.ensures r.stand r.told (omega (arith, c.if-out-n.false)), r.narrow)

pub returns : goal.returns
returns c =
    let r = longs_at (λ i. omega (arith, c.shared_slice_known-1.given i)) c.in_ok-s.ensures.parts in
    counted_done c.longs_count-n.ensures r.stand r.told r.accepted (omega (arith, c.if-out-n.false)) c.put_longs.ensures
