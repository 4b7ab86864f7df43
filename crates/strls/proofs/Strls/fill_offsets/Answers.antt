use native.Mathlib.Omega.{arith}
use Rattle.strls.proofs.TableLaws.{sum_small}
use Rattle.strls.proofs.Strls.fill_offsets.Goals as goal

pub overflow_cast-sum : goal.overflow_cast-sum
overflow_cast-sum c =
    let l = c.loop-i in
    omega (arith, sum_small c.args.self.f.now c.args.self.d c.args.self.framed l.i l.sum c.field_at.result c.loop-i-test.true l.invariant.1 c.field_at.ensures)

pub overflow_add-sum : goal.overflow_add-sum
overflow_add-sum c =
    let l = c.loop-i in
    omega (arith, sum_small c.args.self.f.now c.args.self.d c.args.self.framed l.i l.sum c.field_at.result c.loop-i-test.true l.invariant.1 c.field_at.ensures)
