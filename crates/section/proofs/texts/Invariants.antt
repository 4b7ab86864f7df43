use mathlib.Core.Path.{◌≡◌}
use Prim.Native.Nat.{◌+◌, ◌-◌, ◌*◌, ◌≤◌}
use lib.ListN.{length}
use Rattle.format.specs.Grammar.{judge_times}
use Rattle.section.specs.Judged.{field}
use Rattle.section.proofs.texts.Given as goal

abbrev pub invariant-loop : goal.invariant-loop
invariant-loop l = (l.q + (l.k - l.counter) * l.w ≤ length l.f) × (judge_times (field l.named l.w) (l.k - l.counter) l.f l.q ≡ judge_times (field l.named l.w) l.k l.f l.p)
