use mathlib.Core.Path.{refl, sym, ap, ◌∙◌}
use Prim.Native.Nat.{◌+◌, ◌*◌}
use native.Mathlib.Omega.{arith}
use mathlib.Core.List.{[]}
use lib.ListN.{length}
use Rattle.format.specs.Number.{order_by}
use Rattle.format.specs.Search.{search_at}
use Rattle.questions.specs.Ask.{refused, plain}
use Rattle.search.specs.Slots.{slot_of}
use Rattle.walks.specs.Walks.{slot_place, entry_place}
use Rattle.walks.proofs.TableLaws.{words_as, slot_below, slot_found, slot_missing, slot_lost, search_tail}
use lib.IntN.{ℤ}
use mir.Syntax.{w32}
use mir.Val.{to_z, of_z}
use mir.ValLaws.{to_z-of_z}
use Rattle.walks.proofs.slot_place.Goals as goal

-- src/lib.rt:150:27
pub entry_place-requires : goal.entry_place-requires
entry_place-requires c =
    let a = c.args in
    let f = a.f.now in
    let p = a.p in
    let n = a.n in
    let x = a.x in
    let o = order_by a.msf in
    let g = c.requires in
    let s = search_tail o f a.v (p + 8 + n * 4) n (to_z w32 (of_z w32 a.q)) g.0 g.1 _ c.find_value-s.ensures
    ∙ ap (λ (z : ℤ). (search_at o f (p + 8 + n * 4) (length f) n z).slot) (to_z-of_z w32 a.q c.ranges.q) in
    let m = c.in-Found.m in
    let e = ap slot_of (sym c.in-Found.is) ∙ s in
    (omega (arith, g.0, g.1), slot_below o f (p + 8 + n * 4) n a.q m e)

-- src/lib.rt:143:1
pub returns-in-Found : goal.returns-in-Found
returns-in-Found c =
    let a = c.args in
    let f = a.f.now in
    let p = a.p in
    let n = a.n in
    let x = a.x in
    let o = order_by a.msf in
    let g = c.requires in
    let s = search_tail o f a.v (p + 8 + n * 4) n (to_z w32 (of_z w32 a.q)) g.0 g.1 _ c.find_value-s.ensures
    ∙ ap (λ (z : ℤ). (search_at o f (p + 8 + n * 4) (length f) n z).slot) (to_z-of_z w32 a.q c.ranges.q) in
    let m = c.in-Found.m in
    let e = ap slot_of (sym c.in-Found.is) ∙ s in
    words_as _ (entry_place o f p n x m) (slot_place o f p n x a.q) c.entry_place.ensures (slot_found o f p n x a.q m e)

-- src/lib.rt:143:1
pub returns-in-Missing : goal.returns-in-Missing
returns-in-Missing c =
    let a = c.args in
    let f = a.f.now in
    let p = a.p in
    let n = a.n in
    let x = a.x in
    let o = order_by a.msf in
    let g = c.requires in
    let s = search_tail o f a.v (p + 8 + n * 4) n (to_z w32 (of_z w32 a.q)) g.0 g.1 _ c.find_value-s.ensures
    ∙ ap (λ (z : ℤ). (search_at o f (p + 8 + n * 4) (length f) n z).slot) (to_z-of_z w32 a.q c.ranges.q) in
    words_as _ (plain []) (slot_place o f p n x a.q) refl (slot_missing o f p n x a.q (ap slot_of (sym c.in-Missing.is) ∙ s))

-- src/lib.rt:143:1
pub returns-in-Lost : goal.returns-in-Lost
returns-in-Lost c =
    let a = c.args in
    let f = a.f.now in
    let p = a.p in
    let n = a.n in
    let x = a.x in
    let o = order_by a.msf in
    let g = c.requires in
    let s = search_tail o f a.v (p + 8 + n * 4) n (to_z w32 (of_z w32 a.q)) g.0 g.1 _ c.find_value-s.ensures
    ∙ ap (λ (z : ℤ). (search_at o f (p + 8 + n * 4) (length f) n z).slot) (to_z-of_z w32 a.q c.ranges.q) in
    words_as _ (refused 17) (slot_place o f p n x a.q) refl (slot_lost o f p n x a.q (ap slot_of (sym c.in-Lost.is) ∙ s))
