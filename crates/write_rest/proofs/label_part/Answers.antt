use borrow.Author.Rules.{rules}
use Prim.Native.Nat.{◌+◌, ◌-◌, ◌≤◌}
use mathlib.Core.Path.{sym}
use mathlib.Core.List.{[], ◌++◌}
use mathlib.Core.Bool.{true, cond}
use native.Mathlib.Omega.{arith}
use lib.ListN.{length}
use Rattle.format.specs.Slot.{Bytes}
use Rattle.format.specs.Number.{order_by}
use Rattle.format.specs.Edition.{opening, closing, n_value_labels, n_stata_dta}
use Rattle.format.specs.Dta.{dataset_of, release_of}
use Rattle.editions.specs.Editions.{numbers_of}
use Rattle.editions.proofs.WidthLaws.{code_widths}
use Rattle.write_parts.proofs.EnclosedLaws.{three_room, content_room, enclosed_put, enclosed_long, last_room}
use Rattle.write_lists.proofs.ListLaws.{puts_as, room_as}
use Rattle.write_rest.proofs.RestLaws.{blocks_in, blocks_eq, blocks_room, blocks_put}
use Rattle.write_rest.proofs.label_part.Goals as goal

pub put_tag-a-requires : goal.put_tag-a-requires
put_tag-a-requires c =
    let a = c.args in
    let f = a.f.now in
    let to = a.to in
    let z = a.tomsf in
    let E = numbers_of to in
    let d = dataset_of f in
    let room = room_as _ _ (length a.out.now) (sym (blocks_eq E (order_by z) d)) c.requires.2 in
    let L = cond to.tagged (opening true n_value_labels) [] in
    let G = blocks_in E (order_by z) d in
    let R = cond to.tagged (closing true n_value_labels ++ closing true n_stata_dta) [] in
    let h = three_room L G R (length a.out.now) room in
    let k : length L ≤ length a.out.now = omega (arith, h) in
    k

pub slice_bounds-put_blocks-count : goal.slice_bounds-put_blocks-count
slice_bounds-put_blocks-count c =
    let a = c.args in
    let f = a.f.now in
    let to = a.to in
    let z = a.tomsf in
    let E = numbers_of to in
    let d = dataset_of f in
    let room = room_as _ _ (length a.out.now) (sym (blocks_eq E (order_by z) d)) c.requires.2 in
    let L = cond to.tagged (opening true n_value_labels) [] in
    let G = blocks_in E (order_by z) d in
    let R = cond to.tagged (closing true n_value_labels ++ closing true n_stata_dta) [] in
    let h = three_room L G R (length a.out.now) room in
    let P = c.put_tag-a.ensures in
    omega (arith, h, P.long)

pub put_blocks-requires : goal.put_blocks-requires
put_blocks-requires c =
    let a = c.args in
    let f = a.f.now in
    let u : Bytes f = (λ i. omega (arith, c.shared_slice_known-1.given i)) in
    let e = a.s.edition in
    let m = a.s.msf in
    let s = a.s in
    let op = c.requires.0.opened in
    let S = c.requires.0 in
    let to = a.to in
    let z = a.tomsf in
    let H = c.requires.1 in
    let E = numbers_of to in
    let d = dataset_of f in
    let room = room_as _ _ (length a.out.now) (sym (blocks_eq E (order_by z) d)) c.requires.2 in
    let L = cond to.tagged (opening true n_value_labels) [] in
    let G = blocks_in E (order_by z) d in
    let R = cond to.tagged (closing true n_value_labels ++ closing true n_stata_dta) [] in
    let P = c.put_tag-a.ensures in
    let k = content_room L G R a.out.now c.put_tag-a.new.out c.put_tag-a.result room P (omega arith) in
    (blocks_room f u e m op s S to z H _ k, omega (arith, (code_widths e (release_of f) op.edition).name_most))

pub overflow_add-b : goal.overflow_add-b
overflow_add-b c =
    let a = c.args in
    let f = a.f.now in
    let u : Bytes f = (λ i. omega (arith, c.shared_slice_known-1.given i)) in
    let e = a.s.edition in
    let m = a.s.msf in
    let s = a.s in
    let op = c.requires.0.opened in
    let S = c.requires.0 in
    let to = a.to in
    let z = a.tomsf in
    let E = numbers_of to in
    let d = dataset_of f in
    let room = room_as _ _ (length a.out.now) (sym (blocks_eq E (order_by z) d)) c.requires.2 in
    let L = cond to.tagged (opening true n_value_labels) [] in
    let G = blocks_in E (order_by z) d in
    let R = cond to.tagged (closing true n_value_labels ++ closing true n_stata_dta) [] in
    let h = three_room L G R (length a.out.now) room in
    let P = c.put_tag-a.ensures in
    let Q = blocks_put f u e m op s S to z c.put_blocks.ensures in
    record { fits = omega (arith, h, P.long, Q.long) }

pub slice_bounds-put_tag-count : goal.slice_bounds-put_tag-count
slice_bounds-put_tag-count c =
    let a = c.args in
    let f = a.f.now in
    let u : Bytes f = (λ i. omega (arith, c.shared_slice_known-1.given i)) in
    let e = a.s.edition in
    let m = a.s.msf in
    let s = a.s in
    let op = c.requires.0.opened in
    let S = c.requires.0 in
    let to = a.to in
    let z = a.tomsf in
    let E = numbers_of to in
    let d = dataset_of f in
    let room = room_as _ _ (length a.out.now) (sym (blocks_eq E (order_by z) d)) c.requires.2 in
    let L = cond to.tagged (opening true n_value_labels) [] in
    let G = blocks_in E (order_by z) d in
    let R = cond to.tagged (closing true n_value_labels ++ closing true n_stata_dta) [] in
    let h = three_room L G R (length a.out.now) room in
    let P = c.put_tag-a.ensures in
    let Q = blocks_put f u e m op s S to z c.put_blocks.ensures in
    let w = enclosed_long L G R a.out.now room P Q in
    omega (arith, h, w, P.long, Q.long)

pub put_tag-requires : goal.put_tag-requires
put_tag-requires c =
    let a = c.args in
    let f = a.f.now in
    let u : Bytes f = (λ i. omega (arith, c.shared_slice_known-1.given i)) in
    let e = a.s.edition in
    let m = a.s.msf in
    let s = a.s in
    let op = c.requires.0.opened in
    let S = c.requires.0 in
    let to = a.to in
    let z = a.tomsf in
    let E = numbers_of to in
    let d = dataset_of f in
    let room = room_as _ _ (length a.out.now) (sym (blocks_eq E (order_by z) d)) c.requires.2 in
    let L = cond to.tagged (opening true n_value_labels) [] in
    let G = blocks_in E (order_by z) d in
    let R = cond to.tagged (closing true n_value_labels ++ closing true n_stata_dta) [] in
    let P = c.put_tag-a.ensures in
    let Q = blocks_put f u e m op s S to z c.put_blocks.ensures in
    let k = last_room L G R a.out.now room P Q in
    k

pub overflow_add-result : goal.overflow_add-result
overflow_add-result c =
    let a = c.args in
    let f = a.f.now in
    let u : Bytes f = (λ i. omega (arith, c.shared_slice_known-1.given i)) in
    let e = a.s.edition in
    let m = a.s.msf in
    let s = a.s in
    let op = c.requires.0.opened in
    let S = c.requires.0 in
    let to = a.to in
    let z = a.tomsf in
    let E = numbers_of to in
    let d = dataset_of f in
    let room = room_as _ _ (length a.out.now) (sym (blocks_eq E (order_by z) d)) c.requires.2 in
    let L = cond to.tagged (opening true n_value_labels) [] in
    let G = blocks_in E (order_by z) d in
    let R = cond to.tagged (closing true n_value_labels ++ closing true n_stata_dta) [] in
    let h = three_room L G R (length a.out.now) room in
    let P = c.put_tag-a.ensures in
    let Q = blocks_put f u e m op s S to z c.put_blocks.ensures in
    let X = c.put_tag.ensures in
    record { fits = omega (arith, h, P.long, Q.long, X.long) }

pub returns : goal.returns
returns c =
    let a = c.args in
    let f = a.f.now in
    let u : Bytes f = (λ i. omega (arith, c.shared_slice_known-1.given i)) in
    let e = a.s.edition in
    let m = a.s.msf in
    let s = a.s in
    let op = c.requires.0.opened in
    let S = c.requires.0 in
    let to = a.to in
    let z = a.tomsf in
    let E = numbers_of to in
    let d = dataset_of f in
    let room = room_as _ _ (length a.out.now) (sym (blocks_eq E (order_by z) d)) c.requires.2 in
    let L = cond to.tagged (opening true n_value_labels) [] in
    let G = blocks_in E (order_by z) d in
    let R = cond to.tagged (closing true n_value_labels ++ closing true n_stata_dta) [] in
    let P = c.put_tag-a.ensures in
    let Q = blocks_put f u e m op s S to z c.put_blocks.ensures in
    let X = c.put_tag.ensures in
    puts_as (sym (blocks_eq E (order_by z) d)) (enclosed_put L G R a.out.now room P Q c.put_tag.new.out c.put_tag.result X)

pub slice_bounds-put_tag-start : goal.slice_bounds-put_tag-start
slice_bounds-put_tag-start c =
    let a = c.args in
    let f = a.f.now in
    let u : Bytes f = (λ i. omega (arith, c.shared_slice_known-1.given i)) in
    let e = a.s.edition in
    let m = a.s.msf in
    let s = a.s in
    let op = c.requires.0.opened in
    let S = c.requires.0 in
    let to = a.to in
    let z = a.tomsf in
    let E = numbers_of to in
    let d = dataset_of f in
    let room = room_as _ _ (length a.out.now) (sym (blocks_eq E (order_by z) d)) c.requires.2 in
    let L = cond to.tagged (opening true n_value_labels) [] in
    let G = blocks_in E (order_by z) d in
    let R = cond to.tagged (closing true n_value_labels ++ closing true n_stata_dta) [] in
    let h = three_room L G R (length a.out.now) room in
    let P = c.put_tag-a.ensures in
    let Q = blocks_put f u e m op s S to z c.put_blocks.ensures in
    let w = enclosed_long L G R a.out.now room P Q in
    omega (arith, h, w, P.long, Q.long)
