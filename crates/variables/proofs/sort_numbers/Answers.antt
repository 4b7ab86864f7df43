use mathlib.Core.Path.{◌≡◌, sym, ◌∙◌}
use mathlib.Core.Bool.{Bool, false}
use mathlib.Core.List.{[], ◌∷◌}
use native.Mathlib.Omega.{arith}
use native.Mathlib.Nat.{sub-zero}
use lib.ListN.{length-set, length-replicate}
use Rattle.format.specs.Number.{order_by, num}
use Rattle.variables.proofs.SortLaws.{marks_start, marks_more, sort_large, sort_twice, sort_turn, sort_in}
use Rattle.variables.proofs.sort_numbers.Goals as goal
use Rattle.variables.proofs.sort_numbers.Goals.{then-k-x-via-then-k-x, then-k-x-via-else-k-x+then-seen-x}

pub loop-init : goal.loop-init
loop-init c =
    let a = c.args in
    (omega arith, length-replicate {A = Bool} 32768 false, ([], (marks_start 32768 a.k (omega arith), rw sub-zero (sort_in (order_by a.msf) a.f.now a.k a.p))))

pub returns-then-k-x : goal.returns-then-k-x
returns-then-k-x c =
    let a = c.args in
    let l = c.loop in
    let v = l.invariant.2 in
    let o = order_by a.msf in
    let f = a.f.now in
    let e : c.number-x.result ≡ num o 2 f l.q = c.number-x.ensures.is in
    let z = λ (y : num o 2 f l.q ≡ 0). c.if-x-eq0.false (e ∙ y) in
    elim c.then-k-x.branch [
      | then-k-x-via-then-k-x w ↦ sort_large o f a.k l.counter l.q v.0 (omega arith) z (rw e at w.if-k-x.true) ∙ v.1.1
      | then-k-x-via-else-k-x+then-seen-x w ↦
          sort_twice o f a.k l.counter l.q v.0 (omega arith) z (rw e at w.if-k-x.false)
          (rw e at (sym (v.1.0 c.number-x.result w.if-k-x.false) ∙ w.if-seen-x.true)) ∙ v.1.1
    ]

pub loop-preserved : goal.loop-preserved
loop-preserved c =
    let a = c.args in
    let l = c.loop in
    let v = l.invariant.2 in
    let o = order_by a.msf in
    let f = a.f.now in
    let x = c.number-x.result in
    let e : x ≡ num o 2 f l.q = c.number-x.ensures.is in (
      omega arith,
      rw length-set l.invariant.1,
      (
        x ∷ v.0,
        (
          marks_more a.k l.seen v.0 x (omega (arith, l.invariant.1)) v.1.0,
          rw e (sort_turn o f a.k l.counter l.q v.0 (omega arith) (λ z. c.if-x-eq0.false (e ∙ z)) (rw e at c.if-k-x.false)
              (rw e at (sym (v.1.0 x c.if-k-x.false) ∙ c.if-seen-x.false))) ∙ v.1.1,
        ),
      ),
    )
