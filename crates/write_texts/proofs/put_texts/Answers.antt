use native.Mathlib.Omega.{arith}
use lib.ListN.{length-take, length-drop}
use Rattle.write_texts.proofs.TimesLaws.{entry_in}
use Rattle.write_texts.proofs.TextsLaws.{texts_fit, texts_turn}
use Rattle.write_texts.proofs.put_texts.Goals as goal

pub put_text-requires : goal.put_text-requires
put_text-requires c =
    let a = c.args in
    let h = texts_fit a.w a.to a.f.now a.p a.k c.loop-i.i (omega arith) c.requires.2 in
    (omega (arith, entry_in c.loop-i.i a.k a.w (omega arith)), simp (length-take, length-drop) (omega (arith, entry_in c.loop-i.i a.k a.to (omega arith))), omega arith)

pub loop-i-preserved : goal.loop-i-preserved
loop-i-preserved c =
    let a = c.args in
    texts_turn a.w a.to a.f.now a.p c.loop-i.i a.k c.loop-i.invariant (omega arith) (omega arith) c.put_text.new.out c.put_text.ensures
