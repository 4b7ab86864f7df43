use mathlib.Core.Path.{◌≡◌, ap, ◌∙◌}
use Prim.Native.Nat.{◌+◌}
use native.Mathlib.Omega.{arith}
use native.Mathlib.Numerals.{add-one}
use lib.ListN.{length}
use Rattle.write_data.proofs.RunLaws.{size_up, run_after}
use Rattle.write_data.proofs.BlockLaws.{columns_more, columns_long, block_is}
use Rattle.write_data.proofs.put_block.Goals as goal

pub put_column-requires : goal.put_column-requires
put_column-requires c =
    let a = c.args in
    let b = size_up a.t.now c.loop-i.i a.r (omega arith) in
    (c.requires.0, omega arith, omega arith, c.requires.4)

pub overflow_add-a : goal.overflow_add-a
overflow_add-a c =
    let a = c.args in
    omega (arith, size_up a.t.now c.loop-i.i a.r (omega arith))

pub loop-i-preserved : goal.loop-i-preserved
loop-i-preserved c =
    let a = c.args in
    let l = c.loop-i in
    let i = l.i in
    let b = size_up a.t.now i a.r (omega arith) in
    let is = columns_more a.h a.f.now a.t.now a.q a.w a.m i l.a a.out.now l.out _ l.invariant.0 l.invariant.1 c.put_column.ensures in (
      run_after a.t.now i l.a _ l.invariant.0 c.run_size-a.ensures,
      is,
      ap length is ∙ columns_long a.h c.requires.4 a.f.now a.t.now a.q a.w a.m (i + 1) a.out.now c.requires.0 (rw (add-one i) (omega arith)) c.requires.1,
    )

pub returns : goal.returns
returns c =
    let a = c.args in
    let e : c.loop-i.i ≡ a.r = omega arith in
    rw e at c.loop-i.invariant.1 ∙ block_is a.h c.requires.4 a.f.now a.t.now a.q a.w a.r c.requires.2 a.m a.out.now c.requires.0 c.requires.1
