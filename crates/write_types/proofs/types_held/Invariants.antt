use mathlib.Core.Path.{◌≡◌}
use mathlib.Core.Bool.{true}
use Rattle.format.specs.Number.{order_by}
use Rattle.format.specs.Dta.{all_types}
use Rattle.write_types.proofs.TypesLaws.{types_at}
use Rattle.write_types.proofs.types_held.Given as goal

abbrev pub invariant-loop-i : goal.invariant-loop-i
invariant-loop-i l = all_types l.totagged (types_at l.tagged (order_by l.msf) l.f l.p l.i) ≡ true
