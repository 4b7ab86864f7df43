use Prim.Native.Nat.{◌≤◌}
use native.Mathlib.Omega.{arith}
use Rattle.sources.proofs.end.Goals as goal

pub overflow_sub-result : goal.overflow_sub-result
overflow_sub-result c = rw c.if-tagged.true at c.requires.1

pub returns-then-tagged : goal.returns-then-tagged
returns-then-tagged c =
    let b : c.args.n ≤ c.args.p = rw c.if-tagged.true at c.requires.1 in
    rw c.if-tagged.true (omega arith)

pub returns-else-tagged : goal.returns-else-tagged
returns-else-tagged c = rw c.if-tagged.false (omega arith)
