use mathlib.Core.Path.{ap, ◌∙◌}
use Prim.Native.Nat.{ℕ, ◌-◌}
use native.Mathlib.Omega.{arith}
use lib.ListN.{length}
use Rattle.std.proofs.lemmas.Result.{err_from_is_err_and}
use Rattle.format.specs.Slot.{Bytes}
use Rattle.format.specs.Number.{order_by}
use Rattle.format.specs.Grammar.{read_times}
use Rattle.format.specs.Variables.{type_code}
use Rattle.editions.specs.Editions.{numbers_of}
use Rattle.checking.proofs.RestLaws.{end_tag, expansions_refused, data_refused, strls_refused, blocks_refused, end_room, rest_met}
use Rattle.checking.proofs.later_sections.Goals as goal

pub returns-in_err-x : goal.returns-in_err-x
returns-in_err-x c =
    let a = c.args in
    let o = order_by a.msf in
    let t = read_times (type_code a.e.tagged o) a.k a.f.now a.types in
    let p = err_from_is_err_and c.from_residual.result c.from_residual.ensures.1 in
    rw (p.1, p.2) (expansions_refused (numbers_of a.e) o a.n t a.f.now a.p c.in_err-x.ensures)

pub returns-in_err-d : goal.returns-in_err-d
returns-in_err-d c =
    let a = c.args in
    let o = order_by a.msf in
    let t = read_times (type_code a.e.tagged o) a.k a.f.now a.types in
    let p = err_from_is_err_and c.from_residual-in_err-d.result c.from_residual-in_err-d.ensures.1 in
    rw (p.1, p.2)
    (data_refused (numbers_of a.e) o a.n t a.f.now a.p c.in_ok-x.ensures (c.in_err-d.ensures a.e.v_width a.e.o_width c.requires.4.eight))

pub long_strings-requires : goal.long_strings-requires
long_strings-requires c =
    let e = c.args.e in
    (c.requires.2, c.requires.4, c.in_ok-d.ensures e.v_width e.o_width c.requires.4.eight)

pub returns-in_err-s : goal.returns-in_err-s
returns-in_err-s c =
    let a = c.args in
    let o = order_by a.msf in
    let t = read_times (type_code a.e.tagged o) a.k a.f.now a.types in
    let D = c.in_ok-d.ensures a.e.v_width a.e.o_width c.requires.4.eight in
    let p = err_from_is_err_and c.from_residual-in_err-s.result c.from_residual-in_err-s.ensures.1 in
    rw (p.1, p.2) (strls_refused (numbers_of a.e) o a.n t a.f.now a.p c.in_ok-x.ensures D c.in_err-s.ensures)

pub label_list-requires : goal.label_list-requires
label_list-requires c =
    (c.in_ok-s.ensures.inside, c.requires.3.names)

pub returns-in_err-label_list : goal.returns-in_err-label_list
returns-in_err-label_list c =
    let a = c.args in
    let o = order_by a.msf in
    let t = read_times (type_code a.e.tagged o) a.k a.f.now a.types in
    let D = c.in_ok-d.ensures a.e.v_width a.e.o_width c.requires.4.eight in
    let p = err_from_is_err_and c.from_residual-in_err-label_list.result c.from_residual-in_err-label_list.ensures.1 in
    rw (p.1, p.2) (blocks_refused (numbers_of a.e) o a.n t a.f.now a.p c.in_ok-x.ensures D c.in_ok-s.ensures c.in_err-label_list.ensures)

pub overflow_sub-result : goal.overflow_sub-result
overflow_sub-result c =
    let a = c.args in
    let o = order_by a.msf in
    let t = read_times (type_code a.e.tagged o) a.k a.f.now a.types in
    let D = c.in_ok-d.ensures a.e.v_width a.e.o_width c.requires.4.eight in
    let u : Bytes a.f.now = λ i. omega (arith, c.shared_slice_known-1.given i) in
    let z = end_room (numbers_of a.e) o a.n t a.f.now a.p c.in_ok-x.ensures D c.in_ok-s.ensures c.in_ok-label_list.ensures u in
    omega (arith, c.tag_size.ensures, end_tag a.e.tagged)

pub returns : goal.returns
returns c =
    let a = c.args in
    let o = order_by a.msf in
    let t = read_times (type_code a.e.tagged o) a.k a.f.now a.types in
    let D = c.in_ok-d.ensures a.e.v_width a.e.o_width c.requires.4.eight in
    let u : Bytes a.f.now = λ i. omega (arith, c.shared_slice_known-1.given i) in
    rest_met (numbers_of a.e) o a.n t a.f.now a.p c.in_ok-x.ensures D c.in_ok-s.ensures c.in_ok-label_list.ensures u _
    (ap (λ (y : ℕ). length a.f.now - y) (c.tag_size.ensures ∙ end_tag a.e.tagged))
