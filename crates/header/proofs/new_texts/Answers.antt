use Rattle.std.proofs.lemmas.Result.{err_from_is_err_and}
use Rattle.format.specs.Number.{order_by}
use Rattle.header.proofs.TextLaws.{label_refused, stamp_refused, texts_end}
use Rattle.header.proofs.new_texts.Goals as goal

pub returns-in_err-a : goal.returns-in_err-a
returns-in_err-a c =
    let a = c.args in
    let p = err_from_is_err_and c.from_residual.result c.from_residual.ensures.1 in
    rw (p.1, p.2) (label_refused (order_by a.msf) a.w a.max a.f.now a.p c.in_err-a.ensures)

pub returns-in_err-b : goal.returns-in_err-b
returns-in_err-b c =
    let a = c.args in
    let p = err_from_is_err_and c.from_residual-in_err-b.result c.from_residual-in_err-b.ensures.1 in
    rw (p.1, p.2) (stamp_refused (order_by a.msf) a.w a.max a.f.now a.p c.in_ok-a.ensures c.in_err-b.ensures)

pub returns : goal.returns
returns c =
    let a = c.args in
    texts_end (order_by a.msf) a.w a.max a.f.now a.p c.in_ok-a.ensures c.in_ok-b.ensures c.tag_or.ensures
