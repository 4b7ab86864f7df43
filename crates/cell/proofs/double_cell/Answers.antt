use Rattle.std.proofs.Common.{arith}
use lib.Ieee.{binary64}
use Rattle.cell.proofs.CellLaws.{not_nan}
use Rattle.cell.proofs.double_cell.Goals.{then-bits-lt9214364837600034816-via-then-bits-lt9214364837600034816, then-bits-lt9214364837600034816-via-else-bits-lt9214364837600034816+then-bits-le18442240474082181119, then-bits-ge9223372036854775808, else-bits-ge9223372036854775808}
use Rattle.cell.proofs.double_cell.Goals as goal

pub float_from_bits-result : goal.float_from_bits-result
float_from_bits-result c =
    elim c.then-bits-lt9214364837600034816.branch [
      | then-bits-lt9214364837600034816-via-then-bits-lt9214364837600034816 w ↦ not_nan binary64 c.args.bits (omega arith)
      | then-bits-lt9214364837600034816-via-else-bits-lt9214364837600034816+then-bits-le18442240474082181119 w ↦
          elim w.if-bits-ge9223372036854775808.branch [
            | then-bits-ge9223372036854775808 v ↦ not_nan binary64 c.args.bits (omega arith)
            | else-bits-ge9223372036854775808 v ↦ not_nan binary64 c.args.bits (omega arith)
          ]
    ]
