use native.Mathlib.Omega.{arith}
use Rattle.number.proofs.SwapLaws.{number_ordered}
use Rattle.number.proofs.number_of.Goals as goal

pub returns : goal.returns
returns g c = number_ordered _ _ _ _ _ _ (λ i. omega (arith, c.type_inv.f i)) c.little.ensures c.ordered.ensures
