use Rattle.std.proofs.Common.{arith}
use Rattle.cell.proofs.CellLaws.{small_bits}
use Rattle.cell.proofs.bits_at.Goals as goal

pub overflow_cast-result : goal.overflow_cast-result
overflow_cast-result c = omega (arith, small_bits c.number.result c.args.w c.number.ensures.small c.requires.1)
