use Prim.Native.Nat.{◌-◌}
use Rattle.format.specs.Number.{order_by}
use Rattle.checking.specs.Checks.{layout_by}
use Rattle.set_tables.proofs.PassLaws.{Going}
use Rattle.set_tables.proofs.pass.Given as goal

abbrev pub invariant-loop-p : goal.invariant-loop-p
invariant-loop-p l = Going l.o.e.tagged l.o.e.name_width (order_by l.o.msf) l.f (layout_by l.l) l.v l.end l.start l.initial.t l.p l.t

abbrev pub decreases-loop-p : goal.decreases-loop-p
decreases-loop-p l = l.end - l.p
