use mathlib.Core.Path.{◌≡◌}
use Prim.Native.Nat.{◌+◌}
use lib.ListN.{get_or}
use Rattle.format.specs.Number.{order_by, seat, val}
use Rattle.number.proofs.number_any.Given as goal

abbrev pub invariant-loop-k : goal.invariant-loop-k
invariant-loop-k l = l.n ≡ val (λ i. get_or l.f (l.p + seat (order_by l.msf) l.w i) 0) l.k
