use native.Mathlib.Omega.{arith}
use Rattle.dta.proofs.StoreLaws.{stored_room, stored_none}
use Rattle.dta.proofs.put_first.Goals as goal

pub returns-then-out-ge1 : goal.returns-then-out-ge1
returns-then-out-ge1 c = stored_room c.args.n c.args.out.now c.if-out-ge1.true

pub returns-else-out-ge1 : goal.returns-else-out-ge1
returns-else-out-ge1 c = stored_none c.args.n c.args.out.now (omega arith)
