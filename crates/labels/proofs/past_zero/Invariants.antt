use mathlib.Core.Path.{◌≡◌}
use Prim.Native.Nat.{◌+◌, ◌-◌}
use lib.ListN.{get_or}
use Rattle.format.specs.Grammar.{past_zero}
use Rattle.labels.proofs.past_zero.Given as goal

abbrev pub invariant-loop-i : goal.invariant-loop-i
invariant-loop-i l = past_zero (λ i. get_or l.f (l.t + i) 0) (l.n - l.i) ≡ past_zero (λ i. get_or l.f (l.t + i) 0) l.n
