use Prim.Native.Nat.{◌+◌}
use mathlib.Core.Path.{◌≡◌}
use lib.ListN.{drop}
use Rattle.format.specs.Grammar.{same_at}
use Rattle.text.proofs.same_at.Given as goal

abbrev pub invariant-loop-k : goal.invariant-loop-k
invariant-loop-k l = same_at l.t l.f l.p ≡ same_at (drop l.k l.t) l.f (l.p + l.k)
