use mathlib.Core.Path.{◌≡◌}
use Prim.Native.Nat.{◌+◌, ◌-◌, ◌*◌, ◌≤◌}
use lib.ListN.{length}
use Rattle.format.specs.Number.{order_by}
use Rattle.format.specs.Grammar.{judge_times}
use Rattle.format.specs.Edition.{code_width}
use Rattle.format.specs.Variables.{type_code}
use Rattle.variables.proofs.type_codes.Given as goal

abbrev pub invariant-loop : goal.invariant-loop
invariant-loop l = (l.q + (l.k - l.counter) * code_width l.tagged ≤ length l.f)
    × (judge_times (type_code l.tagged (order_by l.msf)) (l.k - l.counter) l.f l.q ≡ judge_times (type_code l.tagged (order_by l.msf)) l.k l.f l.p)
