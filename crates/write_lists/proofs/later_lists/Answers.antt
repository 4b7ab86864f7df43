use borrow.Author.Rules.{rules}
use Prim.Native.Nat.{◌-◌, ◌≤◌}
use native.Mathlib.Omega.{arith}
use lib.ListN.{length}
use Rattle.format.specs.Slot.{Bytes}
use Rattle.format.specs.Number.{order_by}
use Rattle.format.specs.Dta.{dataset_of}
use Rattle.editions.specs.Editions.{numbers_of}
use Rattle.sources.specs.Parts.{formats_to, sets_to, labels_to}
use Rattle.sources.proofs.PartReads.{formats_of, sets_of, labels_of}
use Rattle.write_parts.proofs.EnclosedLaws.{three_room, content_room, enclosed_put, enclosed_long, last_room}
use Rattle.write_lists.proofs.ListLaws.{puts_as, room_as, formats_eq, sets-eq, labels_eq, formats_short, sets_short, labels_short}
use Rattle.write_lists.proofs.later_lists.Goals as goal

pub text_part-a-requires : goal.text_part-a-requires
text_part-a-requires c =
    let a = c.args in
    let f = a.f.now in
    let u : Bytes f = (λ i. omega (arith, c.shared_slice_known-1.given i)) in
    let e = a.s.edition in
    let m = a.s.msf in
    let s = a.s in
    let op = c.requires.0.opened in
    let S = c.requires.0 in
    let to = a.to in
    let z = a.tomsf in
    let H = c.requires.1 in
    let room = c.requires.2 in
    let E = numbers_of to in
    let d = dataset_of f in
    let L = formats_to E (order_by z) d in
    let G = sets_to E (order_by z) d in
    let R = labels_to E (order_by z) d in
    let h = three_room L G R (length a.out.now) room in
    let k : length L ≤ length a.out.now = omega (arith, h) in
    ((formats_of f u e m op s S).inside, formats_short f u e m op s S to z H, room_as _ L _ (formats_eq f u e m op s S to z) k)

pub slice_bounds-text_part-count : goal.slice_bounds-text_part-count
slice_bounds-text_part-count c =
    let a = c.args in
    let f = a.f.now in
    let u : Bytes f = (λ i. omega (arith, c.shared_slice_known-1.given i)) in
    let e = a.s.edition in
    let m = a.s.msf in
    let s = a.s in
    let op = c.requires.0.opened in
    let S = c.requires.0 in
    let to = a.to in
    let z = a.tomsf in
    let room = c.requires.2 in
    let E = numbers_of to in
    let d = dataset_of f in
    let L = formats_to E (order_by z) d in
    let G = sets_to E (order_by z) d in
    let R = labels_to E (order_by z) d in
    let h = three_room L G R (length a.out.now) room in
    let P = puts_as (formats_eq f u e m op s S to z) c.text_part-a.ensures in
    omega (arith, h, P.long)

pub text_part-requires : goal.text_part-requires
text_part-requires c =
    let a = c.args in
    let f = a.f.now in
    let u : Bytes f = (λ i. omega (arith, c.shared_slice_known-1.given i)) in
    let e = a.s.edition in
    let m = a.s.msf in
    let s = a.s in
    let op = c.requires.0.opened in
    let S = c.requires.0 in
    let to = a.to in
    let z = a.tomsf in
    let H = c.requires.1 in
    let room = c.requires.2 in
    let E = numbers_of to in
    let d = dataset_of f in
    let L = formats_to E (order_by z) d in
    let G = sets_to E (order_by z) d in
    let R = labels_to E (order_by z) d in
    let P = puts_as (formats_eq f u e m op s S to z) c.text_part-a.ensures in
    let k = content_room L G R a.out.now c.text_part-a.new.out c.text_part-a.result room P (omega arith) in
    ((sets_of f u e m op s S).inside, sets_short f u e m op s S to z H, room_as _ G _ (sets-eq f u e m op s S to z) k)

pub overflow_add-b : goal.overflow_add-b
overflow_add-b c =
    let a = c.args in
    let f = a.f.now in
    let u : Bytes f = (λ i. omega (arith, c.shared_slice_known-1.given i)) in
    let e = a.s.edition in
    let m = a.s.msf in
    let s = a.s in
    let op = c.requires.0.opened in
    let S = c.requires.0 in
    let to = a.to in
    let z = a.tomsf in
    let room = c.requires.2 in
    let E = numbers_of to in
    let d = dataset_of f in
    let L = formats_to E (order_by z) d in
    let G = sets_to E (order_by z) d in
    let R = labels_to E (order_by z) d in
    let h = three_room L G R (length a.out.now) room in
    let P = puts_as (formats_eq f u e m op s S to z) c.text_part-a.ensures in
    let Q = puts_as (sets-eq f u e m op s S to z) c.text_part.ensures in
    record { fits = omega (arith, h, P.long, Q.long) }

pub slice_bounds-text_part-count-2 : goal.slice_bounds-text_part-count-2
slice_bounds-text_part-count-2 c =
    let a = c.args in
    let f = a.f.now in
    let u : Bytes f = (λ i. omega (arith, c.shared_slice_known-1.given i)) in
    let e = a.s.edition in
    let m = a.s.msf in
    let s = a.s in
    let op = c.requires.0.opened in
    let S = c.requires.0 in
    let to = a.to in
    let z = a.tomsf in
    let room = c.requires.2 in
    let E = numbers_of to in
    let d = dataset_of f in
    let L = formats_to E (order_by z) d in
    let G = sets_to E (order_by z) d in
    let R = labels_to E (order_by z) d in
    let h = three_room L G R (length a.out.now) room in
    let P = puts_as (formats_eq f u e m op s S to z) c.text_part-a.ensures in
    let Q = puts_as (sets-eq f u e m op s S to z) c.text_part.ensures in
    let w = enclosed_long L G R a.out.now room P Q in
    omega (arith, h, w, P.long, Q.long)

pub text_part-requires-2 : goal.text_part-requires-2
text_part-requires-2 c =
    let a = c.args in
    let f = a.f.now in
    let u : Bytes f = (λ i. omega (arith, c.shared_slice_known-1.given i)) in
    let e = a.s.edition in
    let m = a.s.msf in
    let s = a.s in
    let op = c.requires.0.opened in
    let S = c.requires.0 in
    let to = a.to in
    let z = a.tomsf in
    let H = c.requires.1 in
    let room = c.requires.2 in
    let E = numbers_of to in
    let d = dataset_of f in
    let L = formats_to E (order_by z) d in
    let G = sets_to E (order_by z) d in
    let R = labels_to E (order_by z) d in
    let P = puts_as (formats_eq f u e m op s S to z) c.text_part-a.ensures in
    let Q = puts_as (sets-eq f u e m op s S to z) c.text_part.ensures in
    let k = last_room L G R a.out.now room P Q in
    ((labels_of f u e m op s S).inside, labels_short f u e m op s S to z H, room_as _ R _ (labels_eq f u e m op s S to z) k)

pub overflow_add-result : goal.overflow_add-result
overflow_add-result c =
    let a = c.args in
    let f = a.f.now in
    let u : Bytes f = (λ i. omega (arith, c.shared_slice_known-1.given i)) in
    let e = a.s.edition in
    let m = a.s.msf in
    let s = a.s in
    let op = c.requires.0.opened in
    let S = c.requires.0 in
    let to = a.to in
    let z = a.tomsf in
    let room = c.requires.2 in
    let E = numbers_of to in
    let d = dataset_of f in
    let L = formats_to E (order_by z) d in
    let G = sets_to E (order_by z) d in
    let R = labels_to E (order_by z) d in
    let h = three_room L G R (length a.out.now) room in
    let P = puts_as (formats_eq f u e m op s S to z) c.text_part-a.ensures in
    let Q = puts_as (sets-eq f u e m op s S to z) c.text_part.ensures in
    let X = puts_as (labels_eq f u e m op s S to z) c.text_part-2.ensures in
    record { fits = omega (arith, h, P.long, Q.long, X.long) }

pub returns : goal.returns
returns c =
    let a = c.args in
    let f = a.f.now in
    let u : Bytes f = (λ i. omega (arith, c.shared_slice_known-1.given i)) in
    let e = a.s.edition in
    let m = a.s.msf in
    let s = a.s in
    let op = c.requires.0.opened in
    let S = c.requires.0 in
    let to = a.to in
    let z = a.tomsf in
    let room = c.requires.2 in
    let E = numbers_of to in
    let d = dataset_of f in
    let L = formats_to E (order_by z) d in
    let G = sets_to E (order_by z) d in
    let R = labels_to E (order_by z) d in
    let P = puts_as (formats_eq f u e m op s S to z) c.text_part-a.ensures in
    let Q = puts_as (sets-eq f u e m op s S to z) c.text_part.ensures in
    let X = puts_as (labels_eq f u e m op s S to z) c.text_part-2.ensures in
    enclosed_put L G R a.out.now room P Q c.text_part-2.new.out c.text_part-2.result X
