use mathlib.Core.Path.{refl, ap, ◌∙◌}
use Prim.Native.Nat.{◌+◌, ◌*◌}
use native.Mathlib.Omega.{arith}
use native.Mathlib.Numerals.{add-one}
use lib.ListN.{length}
use Rattle.data.proofs.PlaceLaws.{row_in_lem}
use Rattle.write_data.specs.Runs.{run_size, run_bytes}
use Rattle.write_data.specs.Blocks.{over, strewn}
use Rattle.write_data.proofs.RunLaws.{run_length}
use Rattle.write_data.proofs.BlockLaws.{over_put, over_long}
use Rattle.write_data.proofs.put_runs.Goals as goal

pub loop-i-init : goal.loop-i-init
unfolding strewn
loop-i-init c = (refl, refl)

pub loop-i-preserved : goal.loop-i-preserved
unfolding strewn
loop-i-preserved c =
    let a = c.args in
    let i = c.loop-i.i in
    let b = i * a.w + a.a in
    let room = row_in_lem i a.m a.w (omega arith) in
    let g = run_bytes a.h a.s a.c a.f.now (a.q + b) in
    let n = run_length a.h c.requires.3 a.f.now a.s a.c (a.q + b) (omega arith) in
    let put = over_put b (run_size a.s a.c) g c.loop-i.out _ n (omega arith) c.put_run.ensures in (
      rw (add-one i) (put ∙ ap (over b g) c.loop-i.invariant.0),
      ap length put ∙ over_long b g c.loop-i.out (omega arith) ∙ c.loop-i.invariant.1,
    )
