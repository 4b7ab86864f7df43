use mathlib.Core.Path.{◌≡◌}
use mathlib.Core.Bool.{true}
use Rattle.format.specs.Dta.{all_shorter}
use Rattle.write_texts.proofs.TextsLaws.{texts}
use Rattle.write_texts.proofs.texts_held.Given as goal

abbrev pub invariant-loop-i : goal.invariant-loop-i
invariant-loop-i l = (all_shorter l.to (texts l.w l.to l.f l.p l.i) ≡ true)
