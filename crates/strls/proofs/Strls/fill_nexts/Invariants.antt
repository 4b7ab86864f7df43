use mathlib.Core.Path.{◌≡◌}
use lib.ListN.{length}
use Rattle.strls.specs.Links.{Nexts}
use Rattle.strls.proofs.Strls.fill_nexts.Given as goal

abbrev pub invariant-loop-i : goal.invariant-loop-i
invariant-loop-i l =
    (length l.nexts ≡ 32768) × (Nexts l.self.f.now l.self.d l.i l.nexts)
