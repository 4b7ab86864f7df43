use Prim.Native.Nat.{ℕ, ◌*◌}
use mathlib.Core.Path.{ap, ◌∙◌}
use Rattle.plans.proofs.PlanLaws.{sums_are}
use Rattle.plans.proofs.places_of.Goals as goal

pub returns : goal.returns
returns c = sums_are c.args.to c.args.k c.args.z _ _ _ _ _ _ _ _ _ _ _ _ _ _ _ _ _ (c.list_bytes.ensures.0 ∙ ap (λ (x : ℕ). c.args.k * x) c.code_width.ensures) c.list_bytes-b2.ensures.0 c.list_bytes-2.ensures.0 c.list_bytes-3.ensures.0 c.list_bytes-4.ensures.0 c.next-p2.ensures.0 c.next-p3.ensures.0 c.next-p4.ensures.0 c.next-p5.ensures.0 c.next-p6.ensures.0 c.next-p7.ensures.0 c.next-p8.ensures.0 c.next-p9.ensures.0 c.next-p10.ensures.0 c.next-p11.ensures.0 c.next-p12.ensures.0 c.next-p13.ensures.0
