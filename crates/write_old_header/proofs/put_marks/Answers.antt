use native.Mathlib.Omega.{arith}
use lib.ListN.{length-set}
use mathlib.Core.List.{[], ◌∷◌}
use mathlib.Core.Path.{refl, ap}
use Prim.Native.Nat.{ℕ}
use Rattle.text.proofs.Lay.{laid_none, laid_byte, laid_as}
use Rattle.writing.proofs.Chain.{puts_of}
use Rattle.write_old_header.proofs.put_marks.Goals as goal

pub bounds-out-1 : goal.bounds-out-1
bounds-out-1 c =
    simp length-set (omega arith)

pub bounds-out-2 : goal.bounds-out-2
bounds-out-2 c =
    simp length-set (omega arith)

pub returns : goal.returns
returns c =
    let a = c.args in
    let two = laid_byte (laid_byte (laid_none a.out.now) a.number (omega arith)) c.order_mark.result (omega arith) in
    let four = laid_byte (laid_byte two 1 (omega arith)) 1 (omega arith) in
    (refl, puts_of (laid_as four (ap (λ (x : ℕ). a.number ∷ x ∷ 1 ∷ 1 ∷ []) c.order_mark.ensures) refl))
