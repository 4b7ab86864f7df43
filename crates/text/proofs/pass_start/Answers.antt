use native.Mathlib.Omega.{arith}
use Rattle.text.proofs.TextLaws.{zero_none}
use Rattle.text.proofs.pass_start.Goals as goal

pub returns-then-w-lt8 : goal.returns-then-w-lt8
returns-then-w-lt8 c = (omega arith, zero_none _ _)
