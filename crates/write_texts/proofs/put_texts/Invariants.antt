use Prim.Native.Nat.{◌*◌}
use Rattle.text.proofs.Lay.{Laid}
use Rattle.write_texts.proofs.TextsLaws.{put_texts}
use Rattle.write_texts.proofs.put_texts.Given as goal

abbrev pub invariant-loop-i : goal.invariant-loop-i
invariant-loop-i l = Laid (put_texts l.w l.to l.f l.p l.i) (l.i * l.to) l.initial.out l.out
