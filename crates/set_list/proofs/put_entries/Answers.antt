use Prim.Native.Nat.{◌-◌}
use native.Mathlib.Omega.{arith}
use lib.ListN.{length-take, length-drop}
use Rattle.format.specs.Number.{order_by}
use Rattle.set_list.proofs.EntryLaws.{room_in, room_small, entered_none, entered_low, entered_on, entered_all}
use Rattle.set_list.proofs.put_entries.Goals as goal

pub overflow_add-o : goal.overflow_add-o
overflow_add-o c =
    let h = room_in (order_by c.args.msf) c.args.f.now c.args.p c.args.n c.args.x c.requires.0 in
    record { fits = omega arith }

pub overflow_mul-v : goal.overflow_mul-v
overflow_mul-v c =
    let h = room_in (order_by c.args.msf) c.args.f.now c.args.p c.args.n c.args.x c.requires.0 in
    record { fits = omega arith }

pub overflow_add-v : goal.overflow_add-v
overflow_add-v c =
    let h = room_in (order_by c.args.msf) c.args.f.now c.args.p c.args.n c.args.x c.requires.0 in
    record { fits = omega arith }

pub overflow_mul-a : goal.overflow_mul-a
overflow_mul-a c =
    let h = room_in (order_by c.args.msf) c.args.f.now c.args.p c.args.n c.args.x c.requires.0 in
    record { fits = omega arith }

pub overflow_add-a : goal.overflow_add-a
overflow_add-a c =
    let h = room_in (order_by c.args.msf) c.args.f.now c.args.p c.args.n c.args.x c.requires.0 in
    record { fits = omega arith }

pub fill_ends-requires : goal.fill_ends-requires
fill_ends-requires c =
    let h = room_in (order_by c.args.msf) c.args.f.now c.args.p c.args.n c.args.x c.requires.0 in
    (omega arith, room_small (order_by c.args.msf) c.args.f.now c.args.p c.args.n c.args.x c.requires.0, c.requires.2)

pub loop-m-init : goal.loop-m-init
loop-m-init c =
    entered_none (order_by c.args.msf) c.args.f.now c.args.p c.args.n c.args.x c.requires.0

pub put_entry-requires : goal.put_entry-requires
put_entry-requires c =
    let a = c.args in
    let H = c.loop-m.invariant in
    let low = entered_low (order_by a.msf) a.f.now a.p a.n a.x H (omega arith) in
    (omega arith, omega arith, omega arith, low, simp (length-take, length-drop) (omega arith), room_small (order_by a.msf) a.f.now a.p a.n a.x H.some, c.fill_ends.ensures)

pub loop-m-preserved : goal.loop-m-preserved
loop-m-preserved c =
    let l = c.loop-m in
    let a = c.args in
    let y = c.put_entry in
    entered_on (order_by a.msf) a.f.now a.p a.n a.x l.invariant y.new.out (omega arith) c.requires.1 y.ensures

pub shape_of-out : goal.shape_of-out
shape_of-out c = c.loop-m.invariant.whole

pub returns : goal.returns
returns c =
    let a = c.args in
    (entered_all (order_by a.msf) a.f.now a.p a.n a.x c.loop-m.invariant (omega arith), c.fill_ends.ensures.long)
