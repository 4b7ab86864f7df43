use mathlib.Core.Path.{◌≡◌}
use Rattle.format.specs.Number.{order_by}
use Rattle.format.specs.Grammar.{all_below, read_times, number}
use Rattle.labels.proofs.TableLaws.{rest}
use Rattle.labels.proofs.all_below.Given as goal

abbrev pub invariant-loop-i : goal.invariant-loop-i
invariant-loop-i l = all_below l.z (rest (order_by l.msf) l.f l.p l.n l.i) ≡ all_below l.z (read_times (number (order_by l.msf) 4) l.n l.f l.p)
