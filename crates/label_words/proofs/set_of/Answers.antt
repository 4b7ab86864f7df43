use mathlib.Core.Path.{refl}
use native.Mathlib.Omega.{arith}
use Rattle.std.proofs.lemmas.Result.{err_from_is_err_and}
use Rattle.questions.specs.Ask.{ask_table}
use Rattle.checking.specs.Checks.{layout_by}
use Rattle.reading.proofs.AnswerLaws.{edition_widths}
use Rattle.answers.proofs.TellLaws.{tells_refused, is_open}
use Rattle.walks.specs.Answers.{set_by}
use Rattle.label_words.proofs.WordLaws.{set_told}
use Rattle.label_words.proofs.set_of.Goals as goal

pub returns-in_err-o : goal.returns-in_err-o
returns-in_err-o c =
    let a = c.args in
    let p = err_from_is_err_and c.from_residual.result c.from_residual.ensures.1 in
    rw (p.1, p.2) (tells_refused a.f.now (layout_by a.l) (ask_table a.i) set_by (λ n. refl) _ (rw c.is_among.ensures at c.in_err-o.ensures))

pub set_in-requires : goal.set_in-requires
set_in-requires c =
    let a = c.args in
    let q = is_open a.f.now (layout_by a.l) (ask_table a.i) c.in_ok-o.o (rw c.is_among.ensures at c.in_ok-o.ensures) in
    omega (arith, (edition_widths a.l.edition a.l.order c.in_ok-o.o q).name_most)

pub returns : goal.returns
returns c =
    let a = c.args in
    set_told a.f.now (layout_by a.l) a.i c.in_ok-o.o (rw c.is_among.ensures at c.in_ok-o.ensures) c.set_in.ensures
