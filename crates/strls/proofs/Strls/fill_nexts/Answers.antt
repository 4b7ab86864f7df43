use mathlib.Core.Path.{◌≡◌, ◌∙◌}
use mathlib.Core.Bool.{cond}
use Prim.Native.Nat.{◌-◌}
use native.Mathlib.Omega.{arith}
use lib.ListN.{get_or, length-set}
use Rattle.std.proofs.lemmas.Grind.{common_steps}
use Rattle.strls.proofs.TableLaws.{nexts_more}
use Rattle.strls.proofs.Strls.fill_nexts.Goals as goal

pub loop-i-preserved : goal.loop-i-preserved
loop-i-preserved c =
    let l = c.loop-i in
    let v = c.if-long_at.nexts in
    let e : v ≡ cond c.long_at.result (l.i - 1) (get_or l.nexts l.i 0) = grind (arith, common_steps) in (
      length-set l.nexts (l.i - 1) v ∙ l.invariant.0,
      nexts_more c.args.self.f.now c.args.self.d l.nexts l.i v c.long_at.result c.loop-i-test.true (omega arith) (omega arith) c.long_at.ensures e l.invariant.1,
    )
