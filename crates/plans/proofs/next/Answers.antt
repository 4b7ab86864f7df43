use native.Mathlib.Omega.{arith}
use Rattle.plans.proofs.PlanLaws.{next_there, next_bare}
use Rattle.plans.proofs.next.Goals as goal

pub returns-then-there : goal.returns-then-there
returns-then-there c = (next_there c.args.there c.args.p c.args.tags c.args.n c.if-there.true, omega arith)

pub returns-else-there : goal.returns-else-there
returns-else-there c = (next_bare c.args.there c.args.p c.args.tags c.args.n c.if-there.false, omega arith)
