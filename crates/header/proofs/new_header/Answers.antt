use Rattle.std.proofs.lemmas.Result.{err_from_is_err_and}
use Rattle.format.specs.Number.{order_by}
use Rattle.header.proofs.NewLaws.{order_refused, k_refused, n_refused, texts_refused, new_right}
use Rattle.header.proofs.new_header.Goals as goal

pub returns-in_err-a : goal.returns-in_err-a
returns-in_err-a c =
    let a = c.args in
    let p = err_from_is_err_and c.from_residual.result c.from_residual.ensures.1 in
    rw (p.1, p.2) (order_refused a.e (order_by a.msf) a.f.now c.requires.0 c.requires.1 c.in_err-a.ensures)

pub returns-in_err-b : goal.returns-in_err-b
returns-in_err-b c =
    let a = c.args in
    let p = err_from_is_err_and c.from_residual-in_err-b.result c.from_residual-in_err-b.ensures.1 in
    rw (p.1, p.2) (k_refused a.e (order_by a.msf) a.f.now c.requires.0 c.requires.1 c.in_ok-a.ensures c.in_err-b.ensures.0)

pub returns-in_err-c : goal.returns-in_err-c
returns-in_err-c c =
    let a = c.args in
    let p = err_from_is_err_and c.from_residual-in_err-c.result c.from_residual-in_err-c.ensures.1 in
    rw (p.1, p.2)
    (n_refused a.e (order_by a.msf) a.f.now c.requires.0 c.requires.1 c.in_ok-a.ensures c.in_ok-b.ensures.0 (rw c.rows_max.ensures at c.in_err-c.ensures.0))

pub returns-in_err-at : goal.returns-in_err-at
returns-in_err-at c =
    let a = c.args in
    let p = err_from_is_err_and c.from_residual-in_err-at.result c.from_residual-in_err-at.ensures.1 in
    rw (p.1, p.2)
    (texts_refused a.e (order_by a.msf) a.f.now c.requires.0 c.requires.1 c.in_ok-a.ensures c.in_ok-b.ensures.0 (rw c.rows_max.ensures at c.in_ok-c.ensures.0)
    c.in_err-at.ensures)

pub returns : goal.returns
returns c =
    let a = c.args in
    new_right a.e (order_by a.msf) a.f.now c.requires.0 c.requires.1 c.in_ok-a.ensures c.in_ok-b.ensures.0 (rw c.rows_max.ensures at c.in_ok-c.ensures.0)
    c.in_ok-b.ensures.1 (rw c.rows_max.ensures at c.in_ok-c.ensures.1) c.in_ok-at.ensures
