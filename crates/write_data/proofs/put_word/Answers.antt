use native.Mathlib.Omega.{arith}
use Rattle.write_data.proofs.WordLaws.{word_more, word_zeros, word_full}
use Rattle.write_data.proofs.put_word.Goals as goal

pub returns-then-f-q-eq0 : goal.returns-then-f-q-eq0
returns-then-f-q-eq0 c =
    let a = c.args in
    (word_zeros a.f.now a.q a.w c.requires.0 c.loop-i.i c.loop-i.invariant c.requires.1 (omega arith) c.if-f-q-eq0.true _ c.put_zeros.ensures).is

pub loop-i-preserved : goal.loop-i-preserved
loop-i-preserved c =
    let a = c.args in
    word_more a.f.now a.q a.w c.requires.0 c.loop-i.i c.loop-i.invariant c.requires.1 (omega arith) c.if-f-q-eq0.false

pub returns : goal.returns
returns c =
    let a = c.args in
    word_full a.f.now a.q a.w c.requires.0 c.loop-i.i c.loop-i.invariant c.requires.1 (omega arith)
