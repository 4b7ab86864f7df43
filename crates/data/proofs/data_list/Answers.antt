use mathlib.Core.Path.{ap}
use Prim.Native.Nat.{ℕ, ◌*◌, ◌≤◌}
use native.Mathlib.Nat.{mul-le-mul}
use native.Mathlib.Omega.{arith}
use Rattle.format.specs.Number.{order_by}
use Rattle.std.proofs.lemmas.Result.{err_from_is_err_and}
use Rattle.data.proofs.PlaceLaws.{off_small}
use Rattle.data.proofs.DataLaws.{data_refused, data_room, data_accepted}
use Rattle.data.proofs.data_list.Goals as goal

pub overflow_mul-m : goal.overflow_mul-m
overflow_mul-m c =
    let a = c.args in
    let b = off_small a.tagged (order_by a.msf) a.f.now a.types a.k in
    let w : c.row_width.result ≤ 67008515 = omega (arith, b, c.row_width.ensures, c.requires.2.few) in
    omega (arith, mul-le-mul c.requires.1 w)

pub returns-in_err-at : goal.returns-in_err-at
returns-in_err-at c =
    let a = c.args in
    let e = ap (λ (x : ℕ). a.n * x) c.row_width.ensures in
    let p = err_from_is_err_and c.from_residual.result c.from_residual.ensures.1 in
    rw (p.1, p.2) (data_refused a.tagged (order_by a.msf) a.f.now a.types a.k a.n a.p c.requires.2.right e _ c.in_err-at.ensures)

pub overflow_add-at : goal.overflow_add-at
overflow_add-at c =
    let a = c.args in
    let e = ap (λ (x : ℕ). a.n * x) c.row_width.ensures in
    let r = data_room a.tagged (order_by a.msf) a.f.now a.types a.k a.n a.p c.requires.2.right e c.in_ok-at.ensures in
    omega arith

pub tag_or-requires : goal.tag_or-requires
tag_or-requires c =
    let a = c.args in
    let e = ap (λ (x : ℕ). a.n * x) c.row_width.ensures in
    data_room a.tagged (order_by a.msf) a.f.now a.types a.k a.n a.p c.requires.2.right e c.in_ok-at.ensures

pub returns : goal.returns
returns c =
    let a = c.args in
    let e = ap (λ (x : ℕ). a.n * x) c.row_width.ensures in
    data_accepted a.tagged (order_by a.msf) a.f.now a.types a.k a.n a.p c.requires.2.right e c.in_ok-at.ensures _ c.tag_or.ensures
