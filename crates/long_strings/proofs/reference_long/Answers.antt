use mathlib.Core.Path.{◌≡◌, refl, sym, ◌∙◌}
use Prim.Native.Nat.{◌+◌}
use native.Mathlib.Omega.{arith}
use lib.ListN.{get_or}
use Rattle.format.specs.Number.{order_by}
use Rattle.format.specs.Edition.{n_strls}
use Rattle.format.specs.Cells.{reference}
use Rattle.editions.specs.Editions.{numbers_of}
use Rattle.questions.specs.Ask.{refused, long, or_refused, start_of, end_of}
use Rattle.checking.specs.Checks.{layout_by}
use Rattle.walks.specs.Walks.{records_from}
use Rattle.long_strings.specs.Longs.{long_said}
use Rattle.reading.proofs.PlaceLaws.{start_is}
use Rattle.long_strings.proofs.LongLaws.{long_alone, long_empty, long_walk, long_past, long_out}
use Rattle.reading.proofs.PlaceLaws.{end_is, part_more}
use Rattle.long_strings.proofs.reference_long.Goals as goal

-- src/lib.rt:264:9
pub returns-then-is_empty : goal.returns-then-is_empty
returns-then-is_empty c =
    let a = c.args in
    let f = a.f.now in
    let l = layout_by a.l in
    let e = numbers_of a.e in
    let o = order_by a.msf in
    let v = a.v in
    let x = a.x in
    let A = long_said e o f l (reference v x) in
    long_alone A (long 0 0 0) _ refl (long_empty e o f l v x (sym c.is_empty.ensures ∙ c.if-is_empty.true))

-- src/lib.rt:268:9
pub returns-then-end-l : goal.returns-then-end-l
returns-then-end-l c =
    let a = c.args in
    let f = a.f.now in
    let l = layout_by a.l in
    let e = numbers_of a.e in
    let o = order_by a.msf in
    let v = a.v in
    let x = a.x in
    let A = long_said e o f l (reference v x) in
    let h = sym c.is_empty.ensures ∙ c.if-is_empty.false in
    let z = c.less-end.result in
    let Z : z ≡ end_of e.tagged l 10 n_strls = end_is e.tagged n_strls 8 (get_or a.l.places 11 0) c.tag_size.result z refl c.tag_size.ensures c.less-end.ensures.0 in
    long_alone A (refused 17) _ refl (long_past e o f l v x h (start_of e.tagged l 10 n_strls) z refl Z (omega (arith, c.if-end-l.true)))

-- src/lib.rt:270:14
pub overflow_add-p : goal.overflow_add-p
overflow_add-p c =
    let a = c.args in
    let f = a.f.now in
    let l = layout_by a.l in
    let e = numbers_of a.e in
    let o = order_by a.msf in
    let v = a.v in
    let x = a.x in
    let A = long_said e o f l (reference v x) in
    let h = sym c.is_empty.ensures ∙ c.if-is_empty.false in
    let z = c.less-end.result in
    let Z : z ≡ end_of e.tagged l 10 n_strls = end_is e.tagged n_strls 8 (get_or a.l.places 11 0) c.tag_size.result z refl c.tag_size.ensures c.less-end.ensures.0 in
    let m = part_more e.tagged 7 8 c.tag_size-2.result c.tag_size.result (omega arith) c.tag_size-2.ensures c.tag_size.ensures in
    omega (arith, m, c.if-end-l.false, c.less-end.ensures.0, c.less-end.ensures.1)

-- src/lib.rt:272:9
pub returns-then-f-p : goal.returns-then-f-p
returns-then-f-p c =
    let a = c.args in
    let f = a.f.now in
    let l = layout_by a.l in
    let e = numbers_of a.e in
    let o = order_by a.msf in
    let v = a.v in
    let x = a.x in
    let A = long_said e o f l (reference v x) in
    let h = sym c.is_empty.ensures ∙ c.if-is_empty.false in
    let z = c.less-end.result in
    let Z : z ≡ end_of e.tagged l 10 n_strls = end_is e.tagged n_strls 8 (get_or a.l.places 11 0) c.tag_size.result z refl c.tag_size.ensures c.less-end.ensures.0 in
    let p = get_or a.l.places 10 0 + c.tag_size-2.result in
    let P : p ≡ start_of e.tagged l 10 n_strls = start_is e.tagged n_strls 7 (get_or a.l.places 10 0) c.tag_size-2.result refl c.tag_size-2.ensures in
    long_alone A (refused 17) _ refl (long_out e o f l v x h p z P Z c.if-f-p.true)

-- src/lib.rt:259:1
pub returns : goal.returns
returns c =
    let a = c.args in
    let f = a.f.now in
    let l = layout_by a.l in
    let e = numbers_of a.e in
    let o = order_by a.msf in
    let v = a.v in
    let x = a.x in
    let A = long_said e o f l (reference v x) in
    let h = sym c.is_empty.ensures ∙ c.if-is_empty.false in
    let z = c.less-end.result in
    let Z : z ≡ end_of e.tagged l 10 n_strls = end_is e.tagged n_strls 8 (get_or a.l.places 11 0) c.tag_size.result z refl c.tag_size.ensures c.less-end.ensures.0 in
    let p = get_or a.l.places 10 0 + c.tag_size-2.result in
    let P : p ≡ start_of e.tagged l 10 n_strls = start_is e.tagged n_strls 7 (get_or a.l.places 10 0) c.tag_size-2.result refl c.tag_size-2.ensures in
    long_alone A (or_refused (records_from e.record_width o f v x z p)) _ c.records.ensures (sym (long_walk e o f l v x h p z P Z))
