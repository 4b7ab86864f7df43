use mathlib.Core.Path.{◌≡◌, sym, ◌∙◌}
use Prim.Native.Nat.{◌+◌, ◌*◌}
use native.Mathlib.Nat.{add-zero}
use native.Mathlib.Omega.{arith}
use lib.ListN.{length}
use Rattle.format.specs.Number.{order_by}
use Rattle.map.proofs.MapLaws.{same_all, same_stop, same_turn}
use Rattle.map.proofs.map_same.Goals as goal

pub loop-i-init : goal.loop-i-init
loop-i-init c =
    let a = c.args in
    rw add-zero (same_all (order_by a.msf) a.f.now a.places a.p c.requires.1)

pub returns-then-number-places : goal.returns-then-number-places
returns-then-number-places c =
    let a = c.args in
    let l = c.loop-i in
    let m : length a.places ≡ 14 = c.requires.1 in
    same_stop (order_by a.msf) a.f.now a.places l.i (a.p + l.i * 8) (omega arith) (λ e. c.if-number-places.true (c.number.ensures.is ∙ e)) ∙ l.invariant

pub loop-i-preserved : goal.loop-i-preserved
loop-i-preserved c =
    let a = c.args in
    let l = c.loop-i in
    let m : length a.places ≡ 14 = c.requires.1 in
    let q : a.p + (l.i + 1) * 8 ≡ a.p + l.i * 8 + 8 = omega arith in
    rw q (same_turn (order_by a.msf) a.f.now a.places l.i (a.p + l.i * 8) (omega arith) (sym c.number.ensures.is ∙ c.if-number-places.false) ∙ l.invariant)
