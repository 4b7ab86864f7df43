use mathlib.Core.Path.{◌≡◌}
use Rattle.format.specs.Number.{lsf, digit, seat, val}
use Rattle.number.proofs.swapped.Given as goal

abbrev pub invariant-loop-k : goal.invariant-loop-k
invariant-loop-k g l = l.other ≡ val (λ i. digit g.row.W l.fn.n (seat lsf g.row.W i)) l.k
