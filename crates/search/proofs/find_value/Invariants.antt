use Prim.Native.Nat.{◌+◌, ◌-◌, ◌*◌, ◌≤◌}
use lib.Dec.{leb}
use Rattle.format.specs.Number.{order_by}
use Rattle.format.specs.Search.{value_at, search_at}
use Rattle.search.proofs.TurnLaws.{Left}
use Rattle.search.proofs.find_value.Given as goal

-- the search has come to the values from lo on, below hi
abbrev pub invariant-loop-lo : goal.invariant-loop-lo
invariant-loop-lo l =
    (l.hi ≤ l.n)
    × Left (value_at (order_by l.msf) l.f l.p) (λ i. leb (l.p + 4 * i + 4) l.end) l.sought (search_at (order_by l.msf) l.f l.p l.end l.n l.sought).slot l.lo l.hi

abbrev pub decreases-loop-lo : goal.decreases-loop-lo
decreases-loop-lo l = l.hi - l.lo
