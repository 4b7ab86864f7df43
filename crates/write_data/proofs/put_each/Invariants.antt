use Prim.Native.Nat.{◌≤◌, ◌-◌, ◌*◌}
use Rattle.text.proofs.Lay.{Laid}
use Rattle.format.specs.Grammar.{row}
use Rattle.write_data.specs.Rows.{from, to, put_times, types_of}
use Rattle.write_data.proofs.put_each.Given as goal

abbrev pub invariant-loop-j : goal.invariant-loop-j
invariant-loop-j l = (l.j ≤ l.n) × Laid (put_times (row (from l.h) (types_of l.f l.g)) (row (to l.h) (types_of l.f l.g)) l.j l.f l.g.p) (l.j * l.w) l.initial.out l.out

abbrev pub decreases-loop-j : goal.decreases-loop-j
decreases-loop-j l = l.n - l.j
