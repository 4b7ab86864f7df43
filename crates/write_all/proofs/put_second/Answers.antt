use native.Mathlib.Omega.{arith}
use Rattle.format.specs.Number.{order_by}
use Rattle.format.specs.Dta.{dataset_of}
use Rattle.editions.specs.Editions.{numbers_of}
use Rattle.sources.specs.Parts.{extras_to, rows_to}
use Rattle.write_parts.proofs.EnclosedLaws.{content_room, enclosed_put, last_room}
use Rattle.write_lists.specs.Lists.{later_lists}
use Rattle.write_lists.proofs.ListLaws.{puts_as, room_as}
use Rattle.write_all.proofs.AllLaws.{extras_is}
use Rattle.write_all.proofs.put_second.Goals as goal

pub extra_part-requires : goal.extra_part-requires
extra_part-requires c =
    let a = c.args in
    let f = a.f.now in
    let to = a.to in
    let z = a.tomsf in
    let E = numbers_of to in
    let d = dataset_of f in
    let room = c.requires.2 in
    let L = later_lists E (order_by z) d in
    let G = extras_to E (order_by z) d in
    let R = rows_to E (order_by z) d in
    let P = c.later_lists-a.ensures in
    let k = content_room L G R a.out.now c.later_lists-a.new.out c.later_lists-a.result room P (omega arith) in
    room_as _ G _ (extras_is E (order_by z) d) k

pub data_part-requires : goal.data_part-requires
data_part-requires c =
    let a = c.args in
    let f = a.f.now in
    let S = c.requires.0 in
    let to = a.to in
    let z = a.tomsf in
    let H = c.requires.1 in
    let E = numbers_of to in
    let d = dataset_of f in
    let room = c.requires.2 in
    let L = later_lists E (order_by z) d in
    let G = extras_to E (order_by z) d in
    let R = rows_to E (order_by z) d in
    let P = c.later_lists-a.ensures in
    let Q = puts_as (extras_is E (order_by z) d) c.extra_part.ensures in
    let k = last_room L G R a.out.now room P Q in
    (S, H, k)

pub returns : goal.returns
returns c =
    let a = c.args in
    let f = a.f.now in
    let to = a.to in
    let z = a.tomsf in
    let E = numbers_of to in
    let d = dataset_of f in
    let room = c.requires.2 in
    let L = later_lists E (order_by z) d in
    let G = extras_to E (order_by z) d in
    let R = rows_to E (order_by z) d in
    let P = c.later_lists-a.ensures in
    let Q = puts_as (extras_is E (order_by z) d) c.extra_part.ensures in
    let X = c.data_part.ensures in
    enclosed_put L G R a.out.now room P Q c.data_part.new.out c.data_part.result X
