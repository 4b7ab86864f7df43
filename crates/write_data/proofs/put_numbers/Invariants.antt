use Prim.Native.Nat.{◌*◌}
use Rattle.format.specs.Number.{msf, lsf}
use Rattle.format.specs.Grammar.{number}
use Rattle.text.proofs.Lay.{Laid}
use Rattle.write_data.specs.Rows.{put_times}
use Rattle.write_data.proofs.put_numbers.Given as goal

abbrev pub invariant-loop-i : goal.invariant-loop-i
invariant-loop-i l = Laid (put_times (number lsf l.w) (number msf l.w) l.i l.f l.q) (l.i * l.w) l.initial.out l.out
