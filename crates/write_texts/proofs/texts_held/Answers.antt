use mathlib.Core.Path.{sym}
use native.Mathlib.Omega.{arith}
use Rattle.write_texts.proofs.TextsLaws.{texts_more, texts_stop}
use Rattle.write_texts.proofs.texts_held.Goals as goal

pub returns-then-to-text_len : goal.returns-then-to-text_len
returns-then-to-text_len c =
    let a = c.args in
    sym (texts_stop a.w a.to a.f.now a.p a.k c.loop-i.i c.text_len.result (omega arith) c.text_len.ensures.is (omega arith))

pub loop-i-preserved : goal.loop-i-preserved
loop-i-preserved c =
    let a = c.args in
    texts_more a.w a.to a.f.now a.p c.loop-i.i c.text_len.result c.loop-i.invariant c.text_len.ensures.is (omega arith)
