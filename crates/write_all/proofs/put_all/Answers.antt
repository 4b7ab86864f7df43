use Prim.Native.Nat.{◌≤◌}
use native.Mathlib.Omega.{arith}
use lib.ListN.{length}
use Rattle.format.specs.Number.{order_by}
use Rattle.format.specs.Dta.{dataset_of}
use Rattle.editions.specs.Editions.{numbers_of}
use Rattle.write_parts.proofs.EnclosedLaws.{three_room, content_room, enclosed_put, last_room}
use Rattle.write_lists.proofs.ListLaws.{puts_as, room_as}
use Rattle.write_all.proofs.AllLaws.{first_part, second_part, third_part, written_is}
use Rattle.write_all.proofs.put_all.Goals as goal

pub put_first-a-requires : goal.put_first-a-requires
put_first-a-requires c =
    let a = c.args in
    let f = a.f.now in
    let S = c.requires.0 in
    let to = a.to in
    let z = a.tomsf in
    let H = c.requires.1 in
    let E = numbers_of to in
    let d = dataset_of f in
    let room = room_as _ _ (length a.out.now) (written_is E (order_by z) d) c.requires.3 in
    let L = first_part E (order_by z) d in
    let G = second_part E (order_by z) d in
    let R = third_part E (order_by z) d in
    let h = three_room L G R (length a.out.now) room in
    let k : length L ≤ length a.out.now = omega (arith, h) in
    (S, H, c.requires.2, k)

pub put_second-requires : goal.put_second-requires
put_second-requires c =
    let a = c.args in
    let f = a.f.now in
    let S = c.requires.0 in
    let to = a.to in
    let z = a.tomsf in
    let H = c.requires.1 in
    let E = numbers_of to in
    let d = dataset_of f in
    let room = room_as _ _ (length a.out.now) (written_is E (order_by z) d) c.requires.3 in
    let L = first_part E (order_by z) d in
    let G = second_part E (order_by z) d in
    let R = third_part E (order_by z) d in
    let P = c.put_first-a.ensures in
    let k = content_room L G R a.out.now c.put_first-a.new.out c.put_first-a.result room P (omega arith) in
    (S, H, k)

pub put_third-requires : goal.put_third-requires
put_third-requires c =
    let a = c.args in
    let f = a.f.now in
    let S = c.requires.0 in
    let to = a.to in
    let z = a.tomsf in
    let H = c.requires.1 in
    let E = numbers_of to in
    let d = dataset_of f in
    let room = room_as _ _ (length a.out.now) (written_is E (order_by z) d) c.requires.3 in
    let L = first_part E (order_by z) d in
    let G = second_part E (order_by z) d in
    let R = third_part E (order_by z) d in
    let P = c.put_first-a.ensures in
    let Q = c.put_second.ensures in
    let k = last_room L G R a.out.now room P Q in
    (S, H, k)

pub returns : goal.returns
returns c =
    let a = c.args in
    let f = a.f.now in
    let to = a.to in
    let z = a.tomsf in
    let E = numbers_of to in
    let d = dataset_of f in
    let room = room_as _ _ (length a.out.now) (written_is E (order_by z) d) c.requires.3 in
    let L = first_part E (order_by z) d in
    let G = second_part E (order_by z) d in
    let R = third_part E (order_by z) d in
    let P = c.put_first-a.ensures in
    let Q = c.put_second.ensures in
    let X = c.put_third.ensures in
    puts_as (written_is E (order_by z) d) (enclosed_put L G R a.out.now room P Q c.put_third.new.out c.put_third.result X)
