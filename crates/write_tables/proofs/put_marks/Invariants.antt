use mathlib.Core.Path.{◌≡◌}
use mathlib.Core.Bool.{true, ◌||◌}
use Prim.Native.Nat.{ℕ, ◌<◌, ◌-◌, ◌+◌, ◌*◌}
use lib.ListN.{length, drop}
use Rattle.format.specs.Number.{order_by}
use Rattle.format.specs.Grammar.{member, read_times, number}
use Rattle.write_tables.specs.Tables.{marked}
use Rattle.write_tables.proofs.put_marks.Given as goal

abbrev pub invariant-loop-i : goal.invariant-loop-i
invariant-loop-i l =
    (length l.out ≡ length l.initial.out)
    × (drop l.m l.out ≡ drop l.m l.initial.out)
    × ((j : ℕ) → member j (read_times (number (order_by l.msf) 4) (l.n - l.i) l.f (l.p + l.i * 4)) ≡ true → j < l.m)
    × ((j : ℕ) → (marked l.out j || member j (read_times (number (order_by l.msf) 4) (l.n - l.i) l.f (l.p + l.i * 4)))
    ≡ (marked l.initial.out j || member j (read_times (number (order_by l.msf) 4) l.n l.f l.p)))
