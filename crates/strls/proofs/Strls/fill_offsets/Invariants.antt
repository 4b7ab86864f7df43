use mathlib.Core.Path.{◌≡◌}
use lib.ListN.{length}
use Rattle.strls.specs.Links.{Offsets, offset_of}
use Rattle.strls.proofs.Strls.fill_offsets.Given as goal

abbrev pub invariant-loop-i : goal.invariant-loop-i
invariant-loop-i l =
    (length l.offsets ≡ 32768) × (l.sum ≡ offset_of l.self.f.now l.self.d l.i) × (Offsets l.self.f.now l.self.d l.i l.offsets)
