use mathlib.Core.Path.{◌≡◌, refl, sym, ap, ◌∙◌, subst}
use mathlib.Core.Bool.{true, false}
use borrow.Author.Tests.{le-leb}
use lib.IntN.{ℤ}
use lib.Signed.{lt_z}
use mir.Syntax.{w32}
use mir.Val.{to_z, of_z}
use mir.ValLaws.{to_z-of_z}
use Rattle.format.specs.Number.{order_by}
use Rattle.format.specs.Search.{value_at, search_at, same_z}
use Rattle.format.proofs.OrderLaws.{same_no}
use Rattle.format.proofs.SearchLaws.{middle}
use Rattle.search.proofs.TurnLaws.{below, above}
use borrow.Author.Rules.{rules}
use Rattle.search.proofs.find_value.Goals as goal

pub loop-lo-init : goal.loop-lo-init
unfolding search_at
loop-lo-init c = (search rules, record { turns = c.args.n; enough = search rules; rest = refl })

pub loop-lo-preserved-then-sought-value-2 : goal.loop-lo-preserved-then-sought-value-2
loop-lo-preserved-then-sought-value-2 c = (
  search rules,
  below c.loop-lo.invariant.1 c.loop-lo-test.true (le-leb _ _ c.if-end-q.false) ((let it : same_z ((to_z w32 (of_z w32 c.args.sought))) ((let a = c.args in
      value_at (order_by a.msf) a.f.now a.p (middle c.loop-lo.lo c.loop-lo.hi))) ≡ false = same_no _ _
      (λ e. c.if-sought-value.false (ap (of_z w32) (sym ((let it : (to_z w32 (of_z w32 c.args.sought)) ≡ c.args.sought = to_z-of_z w32 c.args.sought c.ranges.sought in it)) ∙ e ∙ sym c.value_at-value.ensures))) in it))
      (subst (λ (z : ℤ). lt_z ((to_z w32 (of_z w32 c.args.sought))) z ≡ true) ((let it : to_z w32 (of_z w32 c.value_at-value.result) ≡ (let a = c.args in
      value_at (order_by a.msf) a.f.now a.p (middle c.loop-lo.lo c.loop-lo.hi)) = to_z-of_z w32 c.value_at-value.result (record { sfits = c.value_at-value.type_inv }) ∙ c.value_at-value.ensures in it)) c.if-sought-value-2.true),
)

pub loop-lo-preserved : goal.loop-lo-preserved
loop-lo-preserved c = (
  search rules,
  above c.loop-lo.invariant.1 c.loop-lo-test.true (le-leb _ _ c.if-end-q.false) ((let it : same_z ((to_z w32 (of_z w32 c.args.sought))) ((let a = c.args in
      value_at (order_by a.msf) a.f.now a.p (middle c.loop-lo.lo c.loop-lo.hi))) ≡ false = same_no _ _
      (λ e. c.if-sought-value.false (ap (of_z w32) (sym ((let it : (to_z w32 (of_z w32 c.args.sought)) ≡ c.args.sought = to_z-of_z w32 c.args.sought c.ranges.sought in it)) ∙ e ∙ sym c.value_at-value.ensures))) in it))
      (subst (λ (z : ℤ). lt_z ((to_z w32 (of_z w32 c.args.sought))) z ≡ false) ((let it : to_z w32 (of_z w32 c.value_at-value.result) ≡ (let a = c.args in
      value_at (order_by a.msf) a.f.now a.p (middle c.loop-lo.lo c.loop-lo.hi)) = to_z-of_z w32 c.value_at-value.result (record { sfits = c.value_at-value.type_inv }) ∙ c.value_at-value.ensures in it)) c.if-sought-value-2.false),
)
