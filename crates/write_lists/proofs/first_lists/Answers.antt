use borrow.Author.Rules.{rules}
use Prim.Native.Nat.{ℕ, ◌+◌, ◌-◌, ◌*◌, ◌≤◌}
use mathlib.Core.Path.{sym, subst}
use native.Mathlib.Omega.{arith}
use native.Mathlib.Numerals.{add-one}
use lib.ListN.{length}
use Rattle.format.specs.Slot.{Bytes}
use Rattle.format.specs.Number.{order_by}
use Rattle.format.specs.Dta.{dataset_of}
use Rattle.editions.specs.Editions.{numbers_of}
use Rattle.sources.specs.Parts.{types_to, names_to, sort_to}
use Rattle.sources.proofs.PartReads.{few, typed_of, names_of, sort_room}
use Rattle.write_parts.proofs.EnclosedLaws.{three_room, content_room, enclosed_put, enclosed_long, last_room}
use Rattle.write_lists.proofs.ListLaws.{puts_as, room_as, types_eq, names_eq, sort_eq, names_short}
use Rattle.write_lists.proofs.first_lists.Goals as goal

pub type_part-a-requires : goal.type_part-a-requires
type_part-a-requires c =
    let a = c.args in
    let f = a.f.now in
    let u : Bytes f = (λ i. omega (arith, c.shared_slice_known-1.given i)) in
    let e = a.s.edition in
    let m = a.s.msf in
    let s = a.s in
    let op = c.requires.0.opened in
    let S = c.requires.0 in
    let to = a.to in
    let z = a.tomsf in
    let room = c.requires.2 in
    let E = numbers_of to in
    let d = dataset_of f in
    let L = types_to E (order_by z) d in
    let G = names_to E (order_by z) d in
    let R = sort_to E (order_by z) d in
    let h = three_room L G R (length a.out.now) room in
    let k : length L ≤ length a.out.now = omega (arith, h) in
    (typed_of f u e m op s S, room_as _ L _ (types_eq f u e m op s S to z) k)

pub slice_bounds-text_part-count : goal.slice_bounds-text_part-count
slice_bounds-text_part-count c =
    let a = c.args in
    let f = a.f.now in
    let u : Bytes f = (λ i. omega (arith, c.shared_slice_known-1.given i)) in
    let e = a.s.edition in
    let m = a.s.msf in
    let s = a.s in
    let op = c.requires.0.opened in
    let S = c.requires.0 in
    let to = a.to in
    let z = a.tomsf in
    let room = c.requires.2 in
    let E = numbers_of to in
    let d = dataset_of f in
    let L = types_to E (order_by z) d in
    let G = names_to E (order_by z) d in
    let R = sort_to E (order_by z) d in
    let h = three_room L G R (length a.out.now) room in
    let P = puts_as (types_eq f u e m op s S to z) c.type_part-a.ensures in
    omega (arith, h, P.long)

pub text_part-requires : goal.text_part-requires
text_part-requires c =
    let a = c.args in
    let f = a.f.now in
    let u : Bytes f = (λ i. omega (arith, c.shared_slice_known-1.given i)) in
    let e = a.s.edition in
    let m = a.s.msf in
    let s = a.s in
    let op = c.requires.0.opened in
    let S = c.requires.0 in
    let to = a.to in
    let z = a.tomsf in
    let H = c.requires.1 in
    let room = c.requires.2 in
    let E = numbers_of to in
    let d = dataset_of f in
    let L = types_to E (order_by z) d in
    let G = names_to E (order_by z) d in
    let R = sort_to E (order_by z) d in
    let P = puts_as (types_eq f u e m op s S to z) c.type_part-a.ensures in
    let k = content_room L G R a.out.now c.type_part-a.new.out c.type_part-a.result room P (omega arith) in
    ((names_of f u e m op s S).inside, names_short f u e m op s S to z H, room_as _ G _ (names_eq f u e m op s S to z) k)

pub overflow_add-b : goal.overflow_add-b
overflow_add-b c =
    let a = c.args in
    let f = a.f.now in
    let u : Bytes f = (λ i. omega (arith, c.shared_slice_known-1.given i)) in
    let e = a.s.edition in
    let m = a.s.msf in
    let s = a.s in
    let op = c.requires.0.opened in
    let S = c.requires.0 in
    let to = a.to in
    let z = a.tomsf in
    let room = c.requires.2 in
    let E = numbers_of to in
    let d = dataset_of f in
    let L = types_to E (order_by z) d in
    let G = names_to E (order_by z) d in
    let R = sort_to E (order_by z) d in
    let h = three_room L G R (length a.out.now) room in
    let P = puts_as (types_eq f u e m op s S to z) c.type_part-a.ensures in
    let Q = puts_as (names_eq f u e m op s S to z) c.text_part.ensures in
    record { fits = omega (arith, h, P.long, Q.long) }

pub slice_bounds-sort_part-count : goal.slice_bounds-sort_part-count
slice_bounds-sort_part-count c =
    let a = c.args in
    let f = a.f.now in
    let u : Bytes f = (λ i. omega (arith, c.shared_slice_known-1.given i)) in
    let e = a.s.edition in
    let m = a.s.msf in
    let s = a.s in
    let op = c.requires.0.opened in
    let S = c.requires.0 in
    let to = a.to in
    let z = a.tomsf in
    let room = c.requires.2 in
    let E = numbers_of to in
    let d = dataset_of f in
    let L = types_to E (order_by z) d in
    let G = names_to E (order_by z) d in
    let R = sort_to E (order_by z) d in
    let h = three_room L G R (length a.out.now) room in
    let P = puts_as (types_eq f u e m op s S to z) c.type_part-a.ensures in
    let Q = puts_as (names_eq f u e m op s S to z) c.text_part.ensures in
    let w = enclosed_long L G R a.out.now room P Q in
    omega (arith, h, w, P.long, Q.long)

pub overflow_add-s : goal.overflow_add-s
overflow_add-s c =
    let a = c.args in
    let f = a.f.now in
    let u : Bytes f = (λ i. omega (arith, c.shared_slice_known-1.given i)) in
    let e = a.s.edition in
    let m = a.s.msf in
    let s = a.s in
    let op = c.requires.0.opened in
    let S = c.requires.0 in
    record { fits = omega (arith, few f u e m op s S) }

pub sort_part-requires : goal.sort_part-requires
sort_part-requires c =
    let a = c.args in
    let f = a.f.now in
    let u : Bytes f = (λ i. omega (arith, c.shared_slice_known-1.given i)) in
    let e = a.s.edition in
    let m = a.s.msf in
    let s = a.s in
    let op = c.requires.0.opened in
    let S = c.requires.0 in
    let to = a.to in
    let z = a.tomsf in
    let room = c.requires.2 in
    let E = numbers_of to in
    let d = dataset_of f in
    let L = types_to E (order_by z) d in
    let G = names_to E (order_by z) d in
    let R = sort_to E (order_by z) d in
    let P = puts_as (types_eq f u e m op s S to z) c.type_part-a.ensures in
    let Q = puts_as (names_eq f u e m op s S to z) c.text_part.ensures in
    let k = last_room L G R a.out.now room P Q in
    (let w = sort_room f u e m op s S in (subst (λ (x : ℕ). s.sort + x * 2 ≤ length f) (sym (add-one s.k)) w, room_as _ R _ (sort_eq f u e m op s S to z) k))

pub overflow_add-result : goal.overflow_add-result
overflow_add-result c =
    let a = c.args in
    let f = a.f.now in
    let u : Bytes f = (λ i. omega (arith, c.shared_slice_known-1.given i)) in
    let e = a.s.edition in
    let m = a.s.msf in
    let s = a.s in
    let op = c.requires.0.opened in
    let S = c.requires.0 in
    let to = a.to in
    let z = a.tomsf in
    let room = c.requires.2 in
    let E = numbers_of to in
    let d = dataset_of f in
    let L = types_to E (order_by z) d in
    let G = names_to E (order_by z) d in
    let R = sort_to E (order_by z) d in
    let h = three_room L G R (length a.out.now) room in
    let P = puts_as (types_eq f u e m op s S to z) c.type_part-a.ensures in
    let Q = puts_as (names_eq f u e m op s S to z) c.text_part.ensures in
    let X = puts_as (sort_eq f u e m op s S to z) c.sort_part.ensures in
    record { fits = omega (arith, h, P.long, Q.long, X.long) }

pub returns : goal.returns
returns c =
    let a = c.args in
    let f = a.f.now in
    let u : Bytes f = (λ i. omega (arith, c.shared_slice_known-1.given i)) in
    let e = a.s.edition in
    let m = a.s.msf in
    let s = a.s in
    let op = c.requires.0.opened in
    let S = c.requires.0 in
    let to = a.to in
    let z = a.tomsf in
    let room = c.requires.2 in
    let E = numbers_of to in
    let d = dataset_of f in
    let L = types_to E (order_by z) d in
    let G = names_to E (order_by z) d in
    let R = sort_to E (order_by z) d in
    let P = puts_as (types_eq f u e m op s S to z) c.type_part-a.ensures in
    let Q = puts_as (names_eq f u e m op s S to z) c.text_part.ensures in
    let X = puts_as (sort_eq f u e m op s S to z) c.sort_part.ensures in
    enclosed_put L G R a.out.now room P Q c.sort_part.new.out c.sort_part.result X
