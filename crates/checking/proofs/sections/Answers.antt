use mathlib.Core.Path.{◌≡◌, ap, ◌∙◌}
use Prim.Native.Nat.{ℕ, ◌+◌, ◌<◌}
use native.Mathlib.Omega.{arith}
use lib.ListN.{length}
use Rattle.std.proofs.lemmas.Result.{err_from_is_err_and}
use Rattle.format.specs.Number.{order_by}
use Rattle.editions.specs.Editions.{numbers_of}
use Rattle.checking.proofs.WalkLaws.{types_tag, header_refused, map_refused, lists_refused, lists_typed, lists_room, rest_refused, sections_met}
use Rattle.checking.proofs.sections.Goals as goal

pub returns-in_err-h : goal.returns-in_err-h
returns-in_err-h c =
    let a = c.args in
    let p = err_from_is_err_and c.from_residual.result c.from_residual.ensures.1 in
    rw (p.1, p.2) (header_refused (numbers_of a.e) (order_by a.msf) a.f.now c.in_err-h.ensures)

pub returns-in_err-m : goal.returns-in_err-m
returns-in_err-m c =
    let a = c.args in
    let p = err_from_is_err_and c.from_residual-in_err-m.result c.from_residual-in_err-m.ensures.1 in
    rw (p.1, p.2) (map_refused (numbers_of a.e) (order_by a.msf) a.f.now c.in_ok-h.ensures c.in_err-m.ensures)

pub list_parts-requires : goal.list_parts-requires
list_parts-requires c =
    ((c.in_ok-m.ensures (order_by c.args.msf)).inside, c.in_ok-h.ensures.says.few, c.requires.1)

pub returns-in_err-l : goal.returns-in_err-l
returns-in_err-l c =
    let a = c.args in
    let p = err_from_is_err_and c.from_residual-in_err-l.result c.from_residual-in_err-l.ensures.1 in
    rw (p.1, p.2) (lists_refused (numbers_of a.e) (order_by a.msf) a.f.now c.in_ok-h.ensures c.in_ok-m.ensures c.in_err-l.ensures)

pub overflow_add-types : goal.overflow_add-types
overflow_add-types c =
    let a = c.args in
    let q : c.in_ok-m.m + c.tag_size.result ≡ c.in_ok-m.m + _ = ap (λ (x : ℕ). c.in_ok-m.m + x) (c.tag_size.ensures ∙ types_tag a.e.tagged) in
    let n : length a.f.now < 18446744073709551616 = c.well_formed.0.0 in
    omega (arith, lists_room (numbers_of a.e) (order_by a.msf) a.f.now c.in_ok-h.ensures c.in_ok-m.ensures c.in_ok-l.ensures _ q)

pub later_sections-requires : goal.later_sections-requires
later_sections-requires c =
    let a = c.args in
    let q : c.in_ok-m.m + c.tag_size.result ≡ c.in_ok-m.m + _ = ap (λ (x : ℕ). c.in_ok-m.m + x) (c.tag_size.ensures ∙ types_tag a.e.tagged) in
    let H = c.in_ok-h.ensures in (
      c.in_ok-l.ensures.inside,
      H.says.bounded,
      lists_typed (numbers_of a.e) (order_by a.msf) a.f.now H c.in_ok-m.ensures c.in_ok-l.ensures _ q,
      c.requires.1,
      c.requires.2,
    )

pub returns-in_err-r : goal.returns-in_err-r
returns-in_err-r c =
    let a = c.args in
    let q : c.in_ok-m.m + c.tag_size.result ≡ c.in_ok-m.m + _ = ap (λ (x : ℕ). c.in_ok-m.m + x) (c.tag_size.ensures ∙ types_tag a.e.tagged) in
    let p = err_from_is_err_and c.from_residual-in_err-r.result c.from_residual-in_err-r.ensures.1 in
    rw (p.1, p.2)
    (rest_refused (numbers_of a.e) (order_by a.msf) a.f.now c.in_ok-h.ensures c.in_ok-m.ensures c.in_ok-l.ensures _ q c.in_err-r.ensures)

pub returns : goal.returns
returns c =
    let a = c.args in
    let q : c.in_ok-m.m + c.tag_size.result ≡ c.in_ok-m.m + _ = ap (λ (x : ℕ). c.in_ok-m.m + x) (c.tag_size.ensures ∙ types_tag a.e.tagged) in
    sections_met (numbers_of a.e) (order_by a.msf) a.f.now c.in_ok-h.ensures c.in_ok-m.ensures c.in_ok-l.ensures _ q c.in_ok-r.ensures
