use Prim.Native.Nat.{◌+◌}
use native.Mathlib.Omega.{arith}
use native.Mathlib.Nat.{mul-le-mul_right}
use Rattle.format.specs.Number.{order_by}
use Rattle.data.proofs.PlaceLaws.{off_small, off_more}
use Rattle.data.proofs.row_width.Goals as goal

pub overflow_add-sum : goal.overflow_add-sum
overflow_add-sum c =
    let a = c.args in
    let i = c.loop-i.i in
    let e = off_more a.tagged (order_by a.msf) a.f.now a.types i c.loop-i.sum c.field_at-sum.result c.loop-i.invariant c.field_at-sum.ensures in
    omega (arith, e, off_small a.tagged (order_by a.msf) a.f.now a.types (i + 1), c.requires.few, mul-le-mul_right {m = i + 1} {n = 32768} 2045 (omega (arith, c.requires.few)))
