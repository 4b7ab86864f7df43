use mathlib.Core.Path.{◌≡◌}
use Prim.Native.Nat.{◌+◌}
use lib.ListN.{get_or}
use Rattle.text.proofs.Lay.{Laid}
use Rattle.write_tables.specs.Tables.{marked, swept}
use Rattle.write_tables.proofs.MarkLaws.{carry}
use Rattle.write_tables.proofs.sweep.Given as goal

abbrev pub invariant-loop-j : goal.invariant-loop-j
invariant-loop-j l =
    (l.on ≡ carry (marked l.initial.out) (λ i. get_or l.f (l.t + i) 0) l.j) × Laid (swept l.initial.out l.f l.t l.j) l.j l.initial.out l.out
