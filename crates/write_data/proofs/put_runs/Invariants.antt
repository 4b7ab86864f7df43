use mathlib.Core.Path.{◌≡◌}
use Prim.Native.Nat.{ℕ, ◌+◌, ◌*◌}
use lib.ListN.{length}
use Rattle.write_data.specs.Runs.{run_bytes}
use Rattle.write_data.specs.Blocks.{strewn}
use Rattle.write_data.proofs.put_runs.Given as goal

abbrev pub invariant-loop-i : goal.invariant-loop-i
invariant-loop-i l = (l.out ≡ strewn (λ (j : ℕ). run_bytes l.h l.s l.c l.f (l.q + (j * l.w + l.a))) l.a l.w l.i l.initial.out) × (length l.out ≡ length l.initial.out)
