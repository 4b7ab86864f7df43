use Rattle.number.proofs.WriteLaws.{digit_shift}
use Rattle.number.proofs.digit_of.Goals as goal

pub returns : goal.returns
returns c = digit_shift _ _ _ c.requires.0
