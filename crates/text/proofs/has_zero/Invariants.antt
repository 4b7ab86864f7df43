use mathlib.Core.Path.{◌≡◌}
use Rattle.text.specs.Texts.{has_zero}
use Rattle.text.proofs.has_zero.Given as goal

abbrev pub invariant-loop-k : goal.invariant-loop-k
invariant-loop-k l = l.any ≡ has_zero l.k l.f l.p
