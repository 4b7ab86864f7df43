use mathlib.Core.Path.{sym, ap, ◌∙◌}
use Prim.Native.Nat.{ℕ, ◌<◌}
use lib.ListN.{length}
use native.Mathlib.Omega.{arith}
use Rattle.std.specs.Prelude.{Err}
use Rattle.std.proofs.lemmas.Result.{err_from_is_err_and}
use Rattle.format.specs.Number.{order_by}
use Rattle.questions.specs.Readings.{Try}
use Rattle.questions.specs.Ask.{or_refused}
use Rattle.answers.specs.Answers.{number_by}
use Rattle.answers.proofs.TellLaws.{not_read, is_read}
use Rattle.variable_facts.proofs.SortLaws.{sort_starts, sort_ends, sort_cut, sort_room, sort_zero, sort_found, sort_turns, number_told}
use Rattle.variable_facts.proofs.sort_find.Goals as goal

pub loop-x-init : goal.loop-x-init
loop-x-init c = sort_starts (order_by c.args.msf) c.args.f.now c.args.i c.args.k c.args.start c.requires

pub returns-in_err-v : goal.returns-in_err-v
returns-in_err-v c =
    let a = c.args in
    let p = err_from_is_err_and c.from_residual.result c.from_residual.ensures.1 in
    let e = not_read _ c.number_in.result c.in_err-v.ensures.value in
    let q = sort_cut (order_by a.msf) a.f.now a.i a.k a.start c.loop-x.invariant (omega arith) (e.1 ∙ c.number_in.ensures.is) in
    rw (p.1, p.2) (ap Err e.0 ∙ ap (λ (x : Try ℕ). number_by (or_refused (number_told x))) (sym q))

pub returns-then-v-eq0 : goal.returns-then-v-eq0
returns-then-v-eq0 c =
    let a = c.args in
    let v = is_read _ c.number_in.result c.in_ok-v.ensures.value ∙ c.number_in.ensures.is in
    let q = sort_zero (order_by a.msf) a.f.now a.i a.k a.start c.loop-x.invariant (omega arith) _ v c.if-v-eq0.true in
    ap (λ (x : Try ℕ). number_by (or_refused (number_told x))) (sym q)

pub overflow_add-result : goal.overflow_add-result
overflow_add-result c =
    let a = c.args in
    let v = is_read _ c.number_in.result c.in_ok-v.ensures.value ∙ c.number_in.ensures.is in
    let n : length a.f.now < 18446744073709551616 = c.well_formed.0.0 in
    omega (arith, sort_room (order_by a.msf) a.f.now a.i a.k a.start c.loop-x.invariant (omega arith) _ v, c.loop-x.invariant.few)

pub returns-then-v-i : goal.returns-then-v-i
returns-then-v-i c =
    let a = c.args in
    let v = is_read _ c.number_in.result c.in_ok-v.ensures.value ∙ c.number_in.ensures.is in
    let q = sort_found (order_by a.msf) a.f.now a.i a.k a.start c.loop-x.invariant (omega arith) _ v c.if-v-eq0.false c.if-v-i.true in
    ap (λ (x : Try ℕ). number_by (or_refused (number_told x))) (sym q)

pub loop-x-preserved : goal.loop-x-preserved
loop-x-preserved c =
    let a = c.args in
    let v = is_read _ c.number_in.result c.in_ok-v.ensures.value ∙ c.number_in.ensures.is in
    sort_turns (order_by a.msf) a.f.now a.i a.k a.start c.loop-x.invariant (omega arith) _ v c.if-v-eq0.false c.if-v-i.false

pub returns-else-v-i : goal.returns-else-v-i
returns-else-v-i c =
    let a = c.args in
    let v = is_read _ c.number_in.result c.in_ok-v.ensures.value ∙ c.number_in.ensures.is in
    let s = sort_turns (order_by a.msf) a.f.now a.i a.k a.start c.loop-x.invariant (omega arith) _ v c.if-v-eq0.false c.if-v-i.false in
    let q = sort_ends (order_by a.msf) a.f.now a.i a.k a.start s (omega arith) in
    ap (λ (x : Try ℕ). number_by (or_refused (number_told x))) (sym q)
