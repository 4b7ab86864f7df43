use native.Mathlib.Omega.{arith}
use Rattle.number.proofs.SwapLaws.{number_ordered}
use Rattle.number.proofs.number.Goals as goal

pub returns-in-6 : goal.returns-in-6
returns-in-6 c = rw c.in-6.is (number_ordered _ 6 _ _ _ _ (λ i. omega (arith, c.type_inv.f i)) c.little_6.ensures c.ordered.ensures)
