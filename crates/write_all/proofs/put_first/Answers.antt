use Prim.Native.Nat.{◌≤◌}
use mathlib.Core.Path.{ap}
use native.Mathlib.Omega.{arith}
use lib.ListN.{length}
use Rattle.format.specs.Slot.{Bytes}
use Rattle.format.specs.Number.{order_by}
use Rattle.format.specs.Edition.{Edition}
use Rattle.format.specs.Dta.{dataset_of}
use Rattle.format.proofs.FileLaws.{number_small}
use Rattle.editions.specs.Editions.{numbers_of}
use Rattle.sources.specs.Parts.{head_to, map_to}
use Rattle.sources.proofs.SourceLaws.{stamp_small}
use Rattle.editions.proofs.WidthLaws.{code_widths}
use Rattle.sources.proofs.PartReads.{held_parts}
use Rattle.write_parts.proofs.EnclosedLaws.{three_room, content_room, enclosed_put, enclosed_long, last_room}
use Rattle.write_lists.specs.Lists.{first_lists}
use Rattle.write_lists.proofs.ListLaws.{puts_as}
use Rattle.write_all.proofs.AllLaws.{map_is, map_long, fourteen, label_is, stamp_is, head_is, head_room}
use Rattle.write_all.proofs.put_first.Goals as goal

pub put_header-a-requires : goal.put_header-a-requires
put_header-a-requires c =
    let a = c.args in
    let f = a.f.now in
    let u : Bytes f = (λ i. omega (arith, c.shared_slice_known-1.given i)) in
    let s = a.s in
    let op = c.requires.0.opened in
    let S = c.requires.0 in
    let to = a.to in
    let z = a.tomsf in
    let H = c.requires.1 in
    let E = numbers_of to in
    let d = dataset_of f in
    let room = c.requires.3 in
    let L = head_to E (order_by z) d in
    let G = map_to E (order_by z) d in
    let R = first_lists E (order_by z) d in
    let h = three_room L G R (length a.out.now) room in
    let k : length L ≤ length a.out.now = omega (arith, h) in
    let W = code_widths to H.known.release H.known.is in
    let wide : to.number ≤ 255 = omega (arith, ap (λ (x : Edition). x.number) H.known.is, number_small H.known.release) in
    let label = ap length (label_is f s S E (order_by z)) in
    let stamp = ap length (stamp_is f s S E (order_by z)) in
    (omega (arith, label, (held_parts f to (order_by z) H).label), omega (arith, stamp, stamp_small f u op.accepted), omega (arith, W.n_most), omega (arith, W.length_most), omega (arith, W.label_most), head_room f s S E (order_by z) wide _ k)

pub slice_bounds-put_map-count : goal.slice_bounds-put_map-count
slice_bounds-put_map-count c =
    let a = c.args in
    let f = a.f.now in
    let s = a.s in
    let S = c.requires.0 in
    let z = a.tomsf in
    let E = numbers_of a.to in
    let d = dataset_of f in
    let L = head_to E (order_by z) d in
    let G = map_to E (order_by z) d in
    let R = first_lists E (order_by z) d in
    let h = three_room L G R (length a.out.now) c.requires.3 in
    let P = puts_as (head_is f s S E (order_by z)) c.put_header-a.ensures in
    omega (arith, h, P.long)

pub put_map-requires : goal.put_map-requires
put_map-requires c =
    let a = c.args in
    let f = a.f.now in
    let s = a.s in
    let S = c.requires.0 in
    let to = a.to in
    let z = a.tomsf in
    let E = numbers_of to in
    let d = dataset_of f in
    let room = c.requires.3 in
    let L = head_to E (order_by z) d in
    let G = map_to E (order_by z) d in
    let R = first_lists E (order_by z) d in
    let P = puts_as (head_is f s S E (order_by z)) c.put_header-a.ensures in
    let k = content_room L G R a.out.now c.put_header-a.new.out c.put_header-a.result room P (omega arith) in
    (fourteen E (order_by z) d a.places c.requires.2, omega (arith, k, map_long E (order_by z) d))

pub overflow_add-b : goal.overflow_add-b
overflow_add-b c =
    let a = c.args in
    let f = a.f.now in
    let s = a.s in
    let S = c.requires.0 in
    let to = a.to in
    let z = a.tomsf in
    let E = numbers_of to in
    let d = dataset_of f in
    let room = c.requires.3 in
    let L = head_to E (order_by z) d in
    let G = map_to E (order_by z) d in
    let R = first_lists E (order_by z) d in
    let h = three_room L G R (length a.out.now) room in
    let P = puts_as (head_is f s S E (order_by z)) c.put_header-a.ensures in
    let Q = puts_as (map_is E (order_by z) d a.places c.requires.2) c.put_map.ensures in
    record { fits = omega (arith, h, P.long, Q.long) }

pub slice_bounds-first_lists-count : goal.slice_bounds-first_lists-count
slice_bounds-first_lists-count c =
    let a = c.args in
    let f = a.f.now in
    let s = a.s in
    let S = c.requires.0 in
    let z = a.tomsf in
    let E = numbers_of a.to in
    let d = dataset_of f in
    let L = head_to E (order_by z) d in
    let G = map_to E (order_by z) d in
    let R = first_lists E (order_by z) d in
    let h = three_room L G R (length a.out.now) c.requires.3 in
    let P = puts_as (head_is f s S E (order_by z)) c.put_header-a.ensures in
    let Q = puts_as (map_is E (order_by z) d a.places c.requires.2) c.put_map.ensures in
    let w = enclosed_long L G R a.out.now c.requires.3 P Q in
    omega (arith, h, w, P.long, Q.long)

pub first_lists-requires : goal.first_lists-requires
first_lists-requires c =
    let a = c.args in
    let f = a.f.now in
    let s = a.s in
    let S = c.requires.0 in
    let to = a.to in
    let z = a.tomsf in
    let H = c.requires.1 in
    let E = numbers_of to in
    let d = dataset_of f in
    let room = c.requires.3 in
    let L = head_to E (order_by z) d in
    let G = map_to E (order_by z) d in
    let R = first_lists E (order_by z) d in
    let P = puts_as (head_is f s S E (order_by z)) c.put_header-a.ensures in
    let Q = puts_as (map_is E (order_by z) d a.places c.requires.2) c.put_map.ensures in
    let k = last_room L G R a.out.now room P Q in
    (S, H, k)

pub overflow_add-result : goal.overflow_add-result
overflow_add-result c =
    let a = c.args in
    let f = a.f.now in
    let s = a.s in
    let S = c.requires.0 in
    let to = a.to in
    let z = a.tomsf in
    let E = numbers_of to in
    let d = dataset_of f in
    let room = c.requires.3 in
    let L = head_to E (order_by z) d in
    let G = map_to E (order_by z) d in
    let R = first_lists E (order_by z) d in
    let h = three_room L G R (length a.out.now) room in
    let P = puts_as (head_is f s S E (order_by z)) c.put_header-a.ensures in
    let Q = puts_as (map_is E (order_by z) d a.places c.requires.2) c.put_map.ensures in
    let X = c.first_lists.ensures in
    record { fits = omega (arith, h, P.long, Q.long, X.long) }

pub returns : goal.returns
returns c =
    let a = c.args in
    let f = a.f.now in
    let s = a.s in
    let S = c.requires.0 in
    let to = a.to in
    let z = a.tomsf in
    let E = numbers_of to in
    let d = dataset_of f in
    let room = c.requires.3 in
    let L = head_to E (order_by z) d in
    let G = map_to E (order_by z) d in
    let R = first_lists E (order_by z) d in
    let P = puts_as (head_is f s S E (order_by z)) c.put_header-a.ensures in
    let Q = puts_as (map_is E (order_by z) d a.places c.requires.2) c.put_map.ensures in
    let X = c.first_lists.ensures in
    enclosed_put L G R a.out.now room P Q c.first_lists.new.out c.first_lists.result X
