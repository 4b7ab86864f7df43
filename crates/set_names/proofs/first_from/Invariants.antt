use Prim.Native.Nat.{◌-◌}
use Rattle.questions.specs.Ask.{slice}
use Rattle.checking.specs.Checks.{layout_by}
use Rattle.set_names.proofs.ListedLaws.{Halved}
use Rattle.set_names.proofs.first_from.Given as goal

abbrev pub invariant-loop-low : goal.invariant-loop-low
invariant-loop-low l = Halved l.f (layout_by l.l) l.v (slice l.f l.text.at l.text.len) l.low l.high

abbrev pub decreases-loop-low : goal.decreases-loop-low
decreases-loop-low l = l.high - l.low
