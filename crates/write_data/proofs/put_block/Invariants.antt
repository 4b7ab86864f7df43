use mathlib.Core.Path.{◌≡◌}
use lib.ListN.{length}
use Rattle.write_data.specs.Runs.{runs_size}
use Rattle.write_data.proofs.BlockLaws.{columns}
use Rattle.write_data.proofs.put_block.Given as goal

abbrev pub invariant-loop-i : goal.invariant-loop-i
invariant-loop-i l = (l.a ≡ runs_size l.t l.i) × (l.out ≡ columns l.h l.f l.t l.q l.w l.m l.i l.initial.out) × (length l.out ≡ length l.initial.out)
