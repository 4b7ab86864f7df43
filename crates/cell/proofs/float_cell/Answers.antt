use Rattle.std.proofs.Common.{arith}
use lib.Ieee.{binary32}
use Rattle.cell.proofs.CellLaws.{not_nan}
use Rattle.cell.proofs.float_cell.Goals.{then-bits-lt2130706432-via-then-bits-lt2130706432, then-bits-lt2130706432-via-else-bits-lt2130706432+then-bits-le4278190079, then-bits-ge2147483648, else-bits-ge2147483648}
use Rattle.cell.proofs.float_cell.Goals as goal

pub float_from_bits-result : goal.float_from_bits-result
float_from_bits-result c =
    elim c.then-bits-lt2130706432.branch [
      | then-bits-lt2130706432-via-then-bits-lt2130706432 w ↦ not_nan binary32 c.args.bits (omega arith)
      | then-bits-lt2130706432-via-else-bits-lt2130706432+then-bits-le4278190079 w ↦
          elim w.if-bits-ge2147483648.branch [
            | then-bits-ge2147483648 v ↦ not_nan binary32 c.args.bits (omega arith)
            | else-bits-ge2147483648 v ↦ not_nan binary32 c.args.bits (omega arith)
          ]
    ]
