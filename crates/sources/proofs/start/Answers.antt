use native.Mathlib.Omega.{arith}
use Rattle.sources.proofs.start.Goals as goal

pub returns-then-tagged : goal.returns-then-tagged
returns-then-tagged c = rw c.if-tagged.true

pub returns-else-tagged : goal.returns-else-tagged
returns-else-tagged c = rw c.if-tagged.false (omega arith)
