use Rattle.write_data.proofs.PlanLaws.{Planning}
use Rattle.write_data.proofs.plan.Given as goal

abbrev pub invariant-loop-i : goal.invariant-loop-i
invariant-loop-i l = Planning l.f l.g l.h l.t l.r l.i
