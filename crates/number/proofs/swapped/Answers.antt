use mathlib.Core.Path.{◌≡◌}
use native.Mathlib.Omega.{arith}
use Rattle.format.specs.Number.{lsf, digit, seat}
use Rattle.format.proofs.NumberLaws.{digit_small}
use Rattle.number.specs.Numbers.{swapped}
use Rattle.number.proofs.DigitLaws.{digit_fits}
use Rattle.number.proofs.swapped.Goals as goal

pub overflow_mul-other : goal.overflow_mul-other
overflow_mul-other g c =
    let w = g.row.W in
    omega (arith, digit_fits (λ i. digit w c.args.n (seat lsf w i)) c.loop-k.other c.loop-k.k w 0 (λ i. digit_small w _ _) c.loop-k.invariant (omega arith) c.requires (omega arith))

pub overflow_add-other : goal.overflow_add-other
overflow_add-other g c =
    let w = g.row.W in
    omega (arith, digit_fits (λ i. digit w c.args.n (seat lsf w i)) c.loop-k.other c.loop-k.k w c.digit_of.result (λ i. digit_small w _ _) c.loop-k.invariant (omega arith) c.requires (omega arith))

pub returns : goal.returns
unfolding swapped
returns g c = let e : c.loop-k.k ≡ g.row.W = omega arith in rw e at c.loop-k.invariant
