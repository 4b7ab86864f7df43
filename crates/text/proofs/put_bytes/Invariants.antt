use lib.ListN.{take, drop}
use Rattle.text.proofs.Lay.{Laid}
use Rattle.text.proofs.put_bytes.Given as goal

abbrev pub invariant-loop-i : goal.invariant-loop-i
invariant-loop-i l = Laid (take l.i (drop l.p l.f)) l.i l.initial.out l.out
