use Rattle.write_data.proofs.WordLaws.{Copied}
use Rattle.write_data.proofs.put_word.Given as goal

abbrev pub invariant-loop-i : goal.invariant-loop-i
invariant-loop-i l = Copied l.f l.q l.w l.i l.initial.out l.out
