use mathlib.Core.Path.{sym, ◌∙◌}
use native.Mathlib.Omega.{arith}
use Rattle.std.proofs.lemmas.Result.{err_from_is_err_and}
use borrow.Author.Tests.{not-true, not-false}
use Rattle.rewriting.proofs.RewriteLaws.{refused_file, refused_15, not_offered, Begun, Ready, known_target, ready_15, ready_14, ready_holding, ready_places, ready_room, ready_done}
use Rattle.rewriting.proofs.rewrite.Goals as goal

pub returns-in_err-s : goal.returns-in_err-s
returns-in_err-s c =
    let p = err_from_is_err_and c.from_residual.result c.from_residual.ensures.1 in
    rw (p.1, p.2) (refused_file c.args.f.now c.args.edition c.args.order c.args.out.now c.in_err-s.ensures.code)

pub returns-then-not-is_offered : goal.returns-then-not-is_offered
returns-then-not-is_offered c =
    refused_15 c.args.f.now c.args.edition c.args.order c.args.out.now c.in_ok-s.ensures.parts.opened.accepted
    (not_offered c.args.f.now c.args.edition c.args.order (sym c.is_offered.ensures ∙ not-true _ c.if-not-is_offered.true-raw))

pub plan_of-places-requires : goal.plan_of-places-requires
plan_of-places-requires c = (c.in_ok-s.ensures.parts, known_target c.args.edition c.numbers_of-to.ensures)

pub returns-then-not-is_held : goal.returns-then-not-is_held
returns-then-not-is_held c =
    let begun : Begun c.args.f.now c.args.edition c.args.order c.numbers_of-to.result = record {
      bytes = λ i. omega (arith, c.shared_slice_known-1.given i);
      accepted = c.in_ok-s.ensures.parts.opened.accepted;
      offers = sym c.is_offered.ensures ∙ not-false _ c.if-not-is_offered.false-raw;
      aims = c.numbers_of-to.ensures;
    } in
    let ready : Ready c.args.f.now c.args.edition c.args.order c.numbers_of-to.result c.plan_of-places.result c.is_held.result = record { begun = begun; plan = c.plan_of-places.ensures; tests = c.is_held.ensures } in
    ready_15 ready c.args.out.now (not-true _ c.if-not-is_held.true-raw)

pub returns-then-out-places : goal.returns-then-out-places
returns-then-out-places c =
    let begun : Begun c.args.f.now c.args.edition c.args.order c.numbers_of-to.result = record {
      bytes = λ i. omega (arith, c.shared_slice_known-1.given i);
      accepted = c.in_ok-s.ensures.parts.opened.accepted;
      offers = sym c.is_offered.ensures ∙ not-false _ c.if-not-is_offered.false-raw;
      aims = c.numbers_of-to.ensures;
    } in
    let ready : Ready c.args.f.now c.args.edition c.args.order c.numbers_of-to.result c.plan_of-places.result c.is_held.result = record { begun = begun; plan = c.plan_of-places.ensures; tests = c.is_held.ensures } in
    ready_14 ready c.args.out.now (not-false _ c.if-not-is_held.false-raw) c.if-out-places.true

pub put_all-requires : goal.put_all-requires
put_all-requires c =
    let begun : Begun c.args.f.now c.args.edition c.args.order c.numbers_of-to.result = record {
      bytes = λ i. omega (arith, c.shared_slice_known-1.given i);
      accepted = c.in_ok-s.ensures.parts.opened.accepted;
      offers = sym c.is_offered.ensures ∙ not-false _ c.if-not-is_offered.false-raw;
      aims = c.numbers_of-to.ensures;
    } in
    let ready : Ready c.args.f.now c.args.edition c.args.order c.numbers_of-to.result c.plan_of-places.result c.is_held.result = record { begun = begun; plan = c.plan_of-places.ensures; tests = c.is_held.ensures } in
    let d = c.args.out.now in
    (c.in_ok-s.ensures.parts, ready_holding ready d (not-false _ c.if-not-is_held.false-raw), ready_places ready d, ready_room ready d (omega (arith, c.if-out-places.false)))

pub returns : goal.returns
returns c =
    let begun : Begun c.args.f.now c.args.edition c.args.order c.numbers_of-to.result = record {
      bytes = λ i. omega (arith, c.shared_slice_known-1.given i);
      accepted = c.in_ok-s.ensures.parts.opened.accepted;
      offers = sym c.is_offered.ensures ∙ not-false _ c.if-not-is_offered.false-raw;
      aims = c.numbers_of-to.ensures;
    } in
    let ready : Ready c.args.f.now c.args.edition c.args.order c.numbers_of-to.result c.plan_of-places.result c.is_held.result = record { begun = begun; plan = c.plan_of-places.ensures; tests = c.is_held.ensures } in
    ready_done ready c.args.out.now (not-false _ c.if-not-is_held.false-raw) (omega (arith, c.if-out-places.false)) c.put_all.new.out c.put_all.result c.put_all.ensures
