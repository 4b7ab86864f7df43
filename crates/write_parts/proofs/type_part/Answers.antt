use borrow.Author.Rules.{rules}
use Prim.Native.Nat.{◌-◌}
use mathlib.Core.List.{[]}
use mathlib.Core.Bool.{true, cond}
use native.Mathlib.Omega.{arith}
use lib.ListN.{length}
use Rattle.format.specs.Number.{order_by}
use Rattle.format.specs.Edition.{opening, closing, n_variable_types}
use Rattle.write_parts.specs.Enclosed.{type_bytes}
use Rattle.write_parts.proofs.EnclosedLaws.{three_room, content_room, enclosed_put, enclosed_long, last_room, type_long}
use Rattle.write_parts.proofs.type_part.Goals as goal

pub put_tag-a-requires : goal.put_tag-a-requires
put_tag-a-requires c =
    let a = c.args in
    let L = cond a.there (opening true n_variable_types) [] in
    let R = cond a.there (closing true n_variable_types) [] in
    let G = type_bytes a.there (order_by a.to) a.k a.tagged (order_by a.msf) a.f.now a.p in
    let h = three_room L G R (length a.out.now) c.requires.1 in
    omega (arith, h)

pub slice_bounds-put_types-count : goal.slice_bounds-put_types-count
slice_bounds-put_types-count c =
    let a = c.args in
    let L = cond a.there (opening true n_variable_types) [] in
    let R = cond a.there (closing true n_variable_types) [] in
    let G = type_bytes a.there (order_by a.to) a.k a.tagged (order_by a.msf) a.f.now a.p in
    let h = three_room L G R (length a.out.now) c.requires.1 in
    search rules

pub put_types-requires : goal.put_types-requires
put_types-requires c =
    let a = c.args in
    let L = cond a.there (opening true n_variable_types) [] in
    let R = cond a.there (closing true n_variable_types) [] in
    let G = type_bytes a.there (order_by a.to) a.k a.tagged (order_by a.msf) a.f.now a.p in
    let h = three_room L G R (length a.out.now) c.requires.1 in
    let k = content_room L G R a.out.now c.put_tag-a.new.out c.put_tag-a.result c.requires.1 c.put_tag-a.ensures (omega arith) in
    (c.requires.0, omega (arith, k, type_long a.there (order_by a.to) a.k a.tagged (order_by a.msf) a.f.now a.p))

pub overflow_add-b : goal.overflow_add-b
overflow_add-b c =
    let a = c.args in
    let L = cond a.there (opening true n_variable_types) [] in
    let R = cond a.there (closing true n_variable_types) [] in
    let G = type_bytes a.there (order_by a.to) a.k a.tagged (order_by a.msf) a.f.now a.p in
    let h = three_room L G R (length a.out.now) c.requires.1 in
    record { fits = omega (arith, h, c.put_tag-a.ensures.long, c.put_types.ensures.long) }

pub slice_bounds-put_tag-count : goal.slice_bounds-put_tag-count
slice_bounds-put_tag-count c =
    let a = c.args in
    let L = cond a.there (opening true n_variable_types) [] in
    let R = cond a.there (closing true n_variable_types) [] in
    let G = type_bytes a.there (order_by a.to) a.k a.tagged (order_by a.msf) a.f.now a.p in
    let h = three_room L G R (length a.out.now) c.requires.1 in
    let e = enclosed_long L G R a.out.now c.requires.1 c.put_tag-a.ensures c.put_types.ensures in
    search rules

pub put_tag-requires : goal.put_tag-requires
put_tag-requires c =
    let a = c.args in
    let L = cond a.there (opening true n_variable_types) [] in
    let R = cond a.there (closing true n_variable_types) [] in
    let G = type_bytes a.there (order_by a.to) a.k a.tagged (order_by a.msf) a.f.now a.p in
    let h = three_room L G R (length a.out.now) c.requires.1 in
    last_room L G R a.out.now c.requires.1 c.put_tag-a.ensures c.put_types.ensures

pub overflow_add-result : goal.overflow_add-result
overflow_add-result c =
    let a = c.args in
    let L = cond a.there (opening true n_variable_types) [] in
    let R = cond a.there (closing true n_variable_types) [] in
    let G = type_bytes a.there (order_by a.to) a.k a.tagged (order_by a.msf) a.f.now a.p in
    let h = three_room L G R (length a.out.now) c.requires.1 in
    record { fits = omega (arith, h, c.put_tag-a.ensures.long, c.put_types.ensures.long, c.put_tag.ensures.long) }

pub returns : goal.returns
returns c =
    let a = c.args in
    let L = cond a.there (opening true n_variable_types) [] in
    let R = cond a.there (closing true n_variable_types) [] in
    let G = type_bytes a.there (order_by a.to) a.k a.tagged (order_by a.msf) a.f.now a.p in
    let h = three_room L G R (length a.out.now) c.requires.1 in
    enclosed_put L G R a.out.now c.requires.1 c.put_tag-a.ensures c.put_types.ensures c.put_tag.new.out c.put_tag.result c.put_tag.ensures
