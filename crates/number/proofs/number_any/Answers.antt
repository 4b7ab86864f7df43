use Prim.Native.Nat.{◌+◌}
use mathlib.Core.Path.{◌≡◌}
use native.Mathlib.Omega.{arith}
use lib.ListN.{get_or}
use Rattle.format.specs.Number.{order_by, seat}
use Rattle.format.proofs.NumberLaws.{num_small}
use Rattle.number.proofs.DigitLaws.{digit_fits}
use Rattle.number.proofs.number_any.Goals as goal

pub overflow_mul-n : goal.overflow_mul-n
overflow_mul-n c =
    let a = c.args in
    omega (arith, digit_fits (λ i. get_or a.f.now (a.p + seat (order_by a.msf) a.w i) 0) c.loop-k.n c.loop-k.k a.w 0 (λ i. omega (arith, c.type_inv.f (a.p + seat (order_by a.msf) a.w i))) c.loop-k.invariant (omega arith) c.requires.1 (omega arith))

pub overflow_add-n-in-loop-k : goal.overflow_add-n-in-loop-k
overflow_add-n-in-loop-k c =
    let a = c.args in
    let b = c.type_inv.f (a.p + c.seat_of.result) in
    omega (arith, digit_fits (λ i. get_or a.f.now (a.p + seat (order_by a.msf) a.w i) 0) c.loop-k.n c.loop-k.k a.w (get_or a.f.now (a.p + c.seat_of.result) 0) (λ i. omega (arith, c.type_inv.f (a.p + seat (order_by a.msf) a.w i))) c.loop-k.invariant (omega arith) c.requires.1 (omega (arith, b)))

pub returns : goal.returns
returns c =
    let a = c.args in
    let e : c.loop-k.k ≡ a.w = omega arith in
    record { is = rw e at c.loop-k.invariant; small = rw (rw e at c.loop-k.invariant) (num_small (order_by a.msf) a.w a.f.now a.p (λ i. omega (arith, c.type_inv.f i))) }
