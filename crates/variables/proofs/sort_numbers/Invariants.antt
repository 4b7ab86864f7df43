use mathlib.Core.Path.{◌≡◌}
use mathlib.Core.List.{List, []}
use Prim.Native.Nat.{ℕ, suc, ◌-◌, ◌+◌, ◌*◌}
use lib.ListN.{length}
use Rattle.format.specs.Number.{order_by}
use Rattle.format.specs.Grammar.{ruled, ended}
use Rattle.format.specs.Variables.{fresh}
use Rattle.variables.proofs.SortLaws.{Marks, sort_rest}
use Rattle.variables.proofs.sort_numbers.Given as goal

abbrev pub invariant-loop : goal.invariant-loop
invariant-loop l = (l.q ≡ l.p + l.counter * 2) × (length l.seen ≡ 32768)
    × ((e : List ℕ) × (Marks l.k l.seen e × (sort_rest (order_by l.msf) l.f l.k (l.k + 1 - l.counter) e l.q ≡ (ruled (ended (order_by l.msf) 2 (suc l.k) 8) (fresh l.k []) 8).judge l.f l.p)))
