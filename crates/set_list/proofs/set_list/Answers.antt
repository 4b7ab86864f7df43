use native.Mathlib.Omega.{arith}
use Rattle.format.specs.Number.{order_by}
use Rattle.long_list.proofs.ListsLaws.{counted_room, counted_short, counted_done}
use Rattle.long_list.proofs.TellLaws.{told_room}
use Rattle.set_list.proofs.SetLaws.{set_teller}
use Rattle.set_list.proofs.SetsAt.{sets_at}
use Rattle.set_list.proofs.set_list.Goals as goal

pub sets_count-n-requires : goal.sets_count-n-requires
sets_count-n-requires c =
    let s = c.in_ok-s.s in
    let r = sets_at (λ i. omega (arith, c.shared_slice_known-1.given i)) c.in_ok-s.ensures.parts in
    told_room (set_teller s.edition.tagged (order_by s.msf) s.edition.name_width) r.stand

pub returns-then-out-n : goal.returns-then-out-n
returns-then-out-n c =
    let r = sets_at (λ i. omega (arith, c.shared_slice_known-1.given i)) c.in_ok-s.ensures.parts in
    counted_short c.sets_count-n.ensures r.stand r.told r.accepted (omega arith)

pub put_sets-requires : goal.put_sets-requires
put_sets-requires c =
    let r = sets_at (λ i. omega (arith, c.shared_slice_known-1.given i)) c.in_ok-s.ensures.parts in
    counted_room c.sets_count-n.ensures r.stand r.told (omega (arith, c.if-out-n.false))

pub returns : goal.returns
returns c =
    let r = sets_at (λ i. omega (arith, c.shared_slice_known-1.given i)) c.in_ok-s.ensures.parts in
    counted_done c.sets_count-n.ensures r.stand r.told r.accepted (omega (arith, c.if-out-n.false)) c.put_sets.ensures
