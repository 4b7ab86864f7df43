use mathlib.Core.Path.{◌≡◌}
use Rattle.format.specs.Number.{order_by}
use Rattle.data.specs.Places.{off_at}
use Rattle.data.proofs.row_width.Given as goal

abbrev pub invariant-loop-i : goal.invariant-loop-i
invariant-loop-i l = l.sum ≡ off_at l.tagged (order_by l.msf) l.f l.types l.i
