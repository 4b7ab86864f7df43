use mathlib.Core.Path.{◌≡◌, ap, ◌∙◌}
use native.Mathlib.Omega.{arith}
use Rattle.format.specs.Number.{order_by, digit, seat}
use Rattle.number.proofs.WriteLaws.{byte_stored, bytes_written}
use Rattle.number.proofs.put_any.Goals as goal

pub loop-i-preserved : goal.loop-i-preserved
loop-i-preserved c =
    let a = c.args in
    byte_stored (λ j. digit a.w a.n (seat (order_by a.msf) a.w j)) a.out.now c.loop-i.out c.loop-i.i _
    (c.digit_of.ensures ∙ ap (digit a.w a.n) c.seat_of.ensures.0) c.loop-i.invariant

pub returns : goal.returns
returns c =
    let a = c.args in
    let e : c.loop-i.i ≡ a.w = omega arith in
    bytes_written (order_by a.msf) a.w a.n a.out.now _ c.requires.1 (rw e at c.loop-i.invariant)
