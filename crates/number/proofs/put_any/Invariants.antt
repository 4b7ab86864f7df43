use mathlib.Core.Path.{◌≡◌}
use lib.Seq.{sets}
use Rattle.format.specs.Number.{order_by, digit, seat, tab}
use Rattle.number.proofs.put_any.Given as goal

abbrev pub invariant-loop-i : goal.invariant-loop-i
invariant-loop-i l = l.out ≡ sets l.initial.out 0 (tab l.i (λ j. digit l.w l.n (seat (order_by l.msf) l.w j)))
