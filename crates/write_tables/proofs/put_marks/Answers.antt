use mathlib.Core.Path.{◌∙◌}
use Prim.Native.Nat.{◌<◌}
use native.Mathlib.Omega.{arith}
use lib.ListN.{length-set}
use lib.Seq.{drop-set-lt}
use Rattle.format.specs.Number.{order_by}
use Rattle.write_tables.proofs.MarkLaws.{marks_fit, marks_low, marks_turn}
use Rattle.write_tables.proofs.put_marks.Goals as goal

pub bounds-out-x : goal.bounds-out-x
bounds-out-x c =
    let a = c.args in
    let h = marks_fit (order_by a.msf) a.f.now a.n c.loop-i.i a.p (omega arith) a.m c.loop-i.invariant.2 in
    omega arith

pub loop-i-preserved : goal.loop-i-preserved
loop-i-preserved c =
    let a = c.args in
    let l = c.loop-i in
    let k = c.number-x in
    let o = order_by a.msf in
    let h = marks_fit o a.f.now a.n l.i a.p (omega arith) a.m l.invariant.2 in
    let x : k.result < a.m = omega arith in (
      length-set l.out k.result 1 ∙ l.invariant.0,
      drop-set-lt a.m l.out k.result 1 x ∙ l.invariant.1,
      marks_low o a.f.now a.n l.i a.p (omega arith) a.m l.invariant.2,
      λ j. marks_turn o a.f.now a.n l.i a.p (omega arith) l.out k.result j k.ensures.is (omega arith) ∙ l.invariant.3 j,
    )
