use mathlib.Core.Path.{refl}
use Rattle.number.proofs.DigitLaws.{number_parts}
use Rattle.number.proofs.little_6.Goals as goal

pub returns : goal.returns
returns c = number_parts 2 4 _ _ _ _ _ c.little-2.ensures c.little.ensures refl
