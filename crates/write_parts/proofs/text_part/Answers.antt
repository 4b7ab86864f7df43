use borrow.Author.Rules.{rules}
use Prim.Native.Nat.{◌-◌}
use mathlib.Core.List.{[]}
use mathlib.Core.Bool.{cond}
use native.Mathlib.Omega.{arith}
use lib.ListN.{length}
use Rattle.write_parts.specs.Enclosed.{text_bytes}
use Rattle.write_parts.proofs.EnclosedLaws.{three_room, content_room, enclosed_put, enclosed_long, last_room, text_long}
use Rattle.write_parts.proofs.text_part.Goals as goal

pub put_tag-a-requires : goal.put_tag-a-requires
put_tag-a-requires c =
    let a = c.args in
    let L = cond a.there a.first.now [] in
    let R = cond a.there a.last.now [] in
    let G = text_bytes a.to a.k a.w a.f.now a.p in
    let h = three_room L G R (length a.out.now) c.requires.2 in
    omega (arith, h)

pub slice_bounds-put_texts-count : goal.slice_bounds-put_texts-count
slice_bounds-put_texts-count c =
    let a = c.args in
    let L = cond a.there a.first.now [] in
    let R = cond a.there a.last.now [] in
    let G = text_bytes a.to a.k a.w a.f.now a.p in
    let h = three_room L G R (length a.out.now) c.requires.2 in
    search rules

pub put_texts-requires : goal.put_texts-requires
put_texts-requires c =
    let a = c.args in
    let L = cond a.there a.first.now [] in
    let R = cond a.there a.last.now [] in
    let G = text_bytes a.to a.k a.w a.f.now a.p in
    let h = three_room L G R (length a.out.now) c.requires.2 in
    let k = content_room L G R a.out.now c.put_tag-a.new.out c.put_tag-a.result c.requires.2 c.put_tag-a.ensures (omega arith) in
    (c.requires.0, omega (arith, k, text_long a.to a.k a.w a.f.now a.p), c.requires.1)

pub overflow_add-b : goal.overflow_add-b
overflow_add-b c =
    let a = c.args in
    let L = cond a.there a.first.now [] in
    let R = cond a.there a.last.now [] in
    let G = text_bytes a.to a.k a.w a.f.now a.p in
    let h = three_room L G R (length a.out.now) c.requires.2 in
    record { fits = omega (arith, h, c.put_tag-a.ensures.long, c.put_texts.ensures.long) }

pub slice_bounds-put_tag-count : goal.slice_bounds-put_tag-count
slice_bounds-put_tag-count c =
    let a = c.args in
    let L = cond a.there a.first.now [] in
    let R = cond a.there a.last.now [] in
    let G = text_bytes a.to a.k a.w a.f.now a.p in
    let h = three_room L G R (length a.out.now) c.requires.2 in
    let e = enclosed_long L G R a.out.now c.requires.2 c.put_tag-a.ensures c.put_texts.ensures in
    search rules

pub put_tag-requires : goal.put_tag-requires
put_tag-requires c =
    let a = c.args in
    let L = cond a.there a.first.now [] in
    let R = cond a.there a.last.now [] in
    let G = text_bytes a.to a.k a.w a.f.now a.p in
    let h = three_room L G R (length a.out.now) c.requires.2 in
    last_room L G R a.out.now c.requires.2 c.put_tag-a.ensures c.put_texts.ensures

pub overflow_add-result : goal.overflow_add-result
overflow_add-result c =
    let a = c.args in
    let L = cond a.there a.first.now [] in
    let R = cond a.there a.last.now [] in
    let G = text_bytes a.to a.k a.w a.f.now a.p in
    let h = three_room L G R (length a.out.now) c.requires.2 in
    record { fits = omega (arith, h, c.put_tag-a.ensures.long, c.put_texts.ensures.long, c.put_tag.ensures.long) }

pub returns : goal.returns
returns c =
    let a = c.args in
    let L = cond a.there a.first.now [] in
    let R = cond a.there a.last.now [] in
    let G = text_bytes a.to a.k a.w a.f.now a.p in
    let h = three_room L G R (length a.out.now) c.requires.2 in
    enclosed_put L G R a.out.now c.requires.2 c.put_tag-a.ensures c.put_texts.ensures c.put_tag.new.out c.put_tag.result c.put_tag.ensures
