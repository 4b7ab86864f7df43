use Rattle.std.proofs.Common.{◌<◌}
use Rattle.dta_rounds.proofs.checksum.Given as goal

abbrev pub invariant-loop-byte : goal.invariant-loop-byte
invariant-loop-byte l = l.sum < 4294967296
