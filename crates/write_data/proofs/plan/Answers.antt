use mathlib.Core.Path.{refl}
use native.Mathlib.Omega.{arith}
use Rattle.write_data.proofs.PlanLaws.{plan_cast, plan_room, plan_more, plan_end}
use Rattle.write_data.proofs.plan.Goals as goal

pub overflow_cast-c : goal.overflow_cast-c
overflow_cast-c c =
    let a = c.args in
    let x = c.field_at-x in
    omega (arith, plan_cast a.f.now a.g a.h c.loop-i.i x.result x.ensures c.run_step.result)

pub add_run-r-requires : goal.add_run-r-requires
add_run-r-requires c =
    let a = c.args in
    let x = c.field_at-x in
    let s = c.run_kind-s in
    let b = c.run_step in
    plan_room a.f.now a.g a.h c.requires.0 c.requires.1 c.loop-i.t c.loop-i.r c.loop-i.i (omega arith) c.loop-i.invariant x.result x.ensures s.result b.result _ s.ensures b.ensures.0 refl

pub loop-i-preserved : goal.loop-i-preserved
loop-i-preserved c =
    let a = c.args in
    let x = c.field_at-x in
    let s = c.run_kind-s in
    let b = c.run_step in
    plan_more a.f.now a.g a.h c.requires.0 c.requires.1 (λ j. omega (arith, c.type_inv.f j)) c.loop-i.t _ c.loop-i.r _ c.loop-i.i (omega arith) c.loop-i.invariant x.result x.ensures s.result b.result _ s.ensures b.ensures.0 refl c.add_run-r.ensures

pub returns : goal.returns
returns c =
    let a = c.args in
    plan_end a.f.now a.g a.h c.requires.0 c.requires.1 _ _ c.loop-i.i c.loop-i.invariant (omega arith)
