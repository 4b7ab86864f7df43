use mathlib.Core.Path.{◌≡◌}
use Prim.Native.Nat.{◌-◌}
use Rattle.format.specs.Number.{order_by}
use Rattle.format.specs.Grammar.{read_times, number}
use Rattle.format.specs.Labels.{ascending}
use Rattle.labels.proofs.TableLaws.{rest}
use Rattle.labels.proofs.all_ascend.Given as goal

abbrev pub invariant-loop-i : goal.invariant-loop-i
invariant-loop-i l = ascending (rest (order_by l.msf) l.f l.p l.n (l.i - 1)) ≡ ascending (read_times (number (order_by l.msf) 4) l.n l.f l.p)
