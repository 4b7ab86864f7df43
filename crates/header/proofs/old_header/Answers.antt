use native.Mathlib.Omega.{arith}
use Rattle.std.proofs.lemmas.Result.{err_from_is_err_and}
use Rattle.format.specs.Number.{order_by}
use Rattle.header.proofs.OldLaws.{old_short, marks_refused, k_refused, n_refused, texts_refused, old_right}
use Rattle.header.proofs.old_header.Goals.{then-k-gt32767-via-then-k-gt32767, then-k-gt32767-via-else-k-gt32767+then-n-rows_max}
use Rattle.header.proofs.old_header.Goals as goal

pub returns-then-f-at : goal.returns-then-f-at
returns-then-f-at c =
    let a = c.args in
    old_short a.e (order_by a.msf) a.f.now c.requires.0 c.requires.1 c.if-f-at.true

pub returns-in_err-old_marks : goal.returns-in_err-old_marks
returns-in_err-old_marks c =
    let a = c.args in
    let p = err_from_is_err_and c.from_residual.result c.from_residual.ensures.1 in
    rw (p.1, p.2) (marks_refused a.e (order_by a.msf) a.f.now c.requires.0 c.requires.1 c.if-f-at.false c.in_err-old_marks.ensures)

pub returns-then-k-gt32767 : goal.returns-then-k-gt32767
returns-then-k-gt32767 c =
    let a = c.args in
    let k = c.number-k.ensures.is in
    let n = c.number-n.ensures.is in
    elim c.then-k-gt32767.branch [
      | then-k-gt32767-via-then-k-gt32767 w ↦
          k_refused a.e (order_by a.msf) a.f.now c.requires.0 c.requires.1 c.if-f-at.false c.in_ok-old_marks.ensures _ _ k n (omega arith)
      | then-k-gt32767-via-else-k-gt32767+then-n-rows_max w ↦
          n_refused a.e (order_by a.msf) a.f.now c.requires.0 c.requires.1 c.if-f-at.false c.in_ok-old_marks.ensures _ _ k n (omega arith) (omega arith)
    ]

pub returns-in_err-old_texts : goal.returns-in_err-old_texts
returns-in_err-old_texts c =
    let a = c.args in
    let p = err_from_is_err_and c.from_residual-in_err-old_texts.result c.from_residual-in_err-old_texts.ensures.1 in
    rw (p.1, p.2)
    (texts_refused a.e (order_by a.msf) a.f.now c.requires.0 c.requires.1 c.if-f-at.false c.in_ok-old_marks.ensures _ _ c.number-k.ensures.is c.number-n.ensures.is
    (omega arith) (omega arith) c.in_err-old_texts.ensures)

pub returns : goal.returns
returns c =
    let a = c.args in
    old_right a.e (order_by a.msf) a.f.now c.requires.0 c.requires.1 c.if-f-at.false c.in_ok-old_marks.ensures _ _ c.number-k.ensures.is c.number-n.ensures.is
    (omega arith) (omega arith) c.in_ok-old_texts.ensures
