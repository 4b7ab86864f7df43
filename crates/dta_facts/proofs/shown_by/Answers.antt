use native.Mathlib.Omega.{arith}
use Rattle.dta_facts.proofs.AskLaws.{question_case, shown_none, shown_words, shown_asked}
use Rattle.dta_facts.proofs.shown_by.Goals as goal

pub returns-then-q-eq15 : goal.returns-then-q-eq15
returns-then-q-eq15 c =
    let a = c.args in
    shown_words a.file.now a.layout.now a.plain.now a.q a.i a.j c.if-q-eq15.true c.layout_in-l.ensures c.words_asked.ensures

pub returns-then-q-eq14 : goal.returns-then-q-eq14
returns-then-q-eq14 c =
    let a = c.args in
    shown_asked a.file.now a.layout.now a.plain.now a.q a.i a.j (omega arith) c.layout_in-l.ensures (question_case a.i a.j c.if-q-eq14.true) c.long_asked.ensures

pub returns-then-q-lt14 : goal.returns-then-q-lt14
returns-then-q-lt14 c =
    let a = c.args in
    shown_asked a.file.now a.layout.now a.plain.now a.q a.i a.j (omega arith) c.layout_in-l.ensures c.question_of.ensures c.text_asked.ensures

pub returns : goal.returns
returns c =
    let a = c.args in
    shown_none a.file.now a.layout.now a.plain.now a.q a.i a.j (omega (arith, c.if-q-lt14.false, c.if-q-eq14.false, c.if-q-eq15.false))
