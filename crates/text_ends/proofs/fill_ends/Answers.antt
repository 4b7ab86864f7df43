use native.Mathlib.Omega.{arith}
use Rattle.text_ends.proofs.EndLaws.{ending_none, ending_low, ending_on, ending_all}
use Rattle.text_ends.proofs.fill_ends.Goals as goal

pub loop-b-init : goal.loop-b-init
loop-b-init c =
    ending_none c.args.f.now c.args.a c.args.x c.requires.2 c.requires.1 (omega arith) (omega arith)

pub overflow_cast-t : goal.overflow_cast-t
overflow_cast-t c =
    let l = c.loop-b in
    let k = ending_low l.invariant (omega arith) c.end_from-e.ensures in
    omega arith

pub loop-b-preserved : goal.loop-b-preserved
loop-b-preserved c = ending_on c.loop-b.invariant (omega arith) c.end_from-e.ensures

pub returns : goal.returns
returns c = ending_all c.loop-b.invariant (omega arith)
