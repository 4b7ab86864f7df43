use Rattle.std.proofs.lemmas.Result.{err_from_is_err_and}
use Rattle.format.specs.Number.{order_by}
use Rattle.editions.specs.Editions.{numbers_of}
use Rattle.lists.proofs.ListLaws.{types_refused, names_refused, sort_refused, formats_refused, sets_refused, labels_refused, lists_met}
use Rattle.lists.proofs.list_parts.Goals as goal

pub returns-in_err-types : goal.returns-in_err-types
returns-in_err-types c =
    let a = c.args in
    let p = err_from_is_err_and c.from_residual.result c.from_residual.ensures.1 in
    rw (p.1, p.2) (types_refused (numbers_of a.e) (order_by a.msf) a.k a.f.now a.p c.in_err-types.ensures)

pub returns-in_err-names : goal.returns-in_err-names
returns-in_err-names c =
    let a = c.args in
    let p = err_from_is_err_and c.from_residual-in_err-names.result c.from_residual-in_err-names.ensures.1 in
    rw (p.1, p.2) (names_refused (numbers_of a.e) (order_by a.msf) a.k a.f.now a.p c.in_ok-types.ensures c.in_err-names.ensures)

pub returns-in_err-sorted : goal.returns-in_err-sorted
returns-in_err-sorted c =
    let a = c.args in
    let p = err_from_is_err_and c.from_residual-in_err-sorted.result c.from_residual-in_err-sorted.ensures.1 in
    rw (p.1, p.2) (sort_refused (numbers_of a.e) (order_by a.msf) a.k a.f.now a.p c.in_ok-types.ensures c.in_ok-names.ensures c.in_err-sorted.ensures)

pub returns-in_err-formats : goal.returns-in_err-formats
returns-in_err-formats c =
    let a = c.args in
    let p = err_from_is_err_and c.from_residual-in_err-formats.result c.from_residual-in_err-formats.ensures.1 in
    rw (p.1, p.2)
    (formats_refused (numbers_of a.e) (order_by a.msf) a.k a.f.now a.p c.in_ok-types.ensures c.in_ok-names.ensures c.in_ok-sorted.ensures c.in_err-formats.ensures)

pub returns-in_err-sets : goal.returns-in_err-sets
returns-in_err-sets c =
    let a = c.args in
    let p = err_from_is_err_and c.from_residual-in_err-sets.result c.from_residual-in_err-sets.ensures.1 in
    rw (p.1, p.2)
    (sets_refused (numbers_of a.e) (order_by a.msf) a.k a.f.now a.p c.in_ok-types.ensures c.in_ok-names.ensures c.in_ok-sorted.ensures c.in_ok-formats.ensures
    c.in_err-sets.ensures)

pub returns-in_err-labels : goal.returns-in_err-labels
returns-in_err-labels c =
    let a = c.args in
    let p = err_from_is_err_and c.from_residual-in_err-labels.result c.from_residual-in_err-labels.ensures.1 in
    rw (p.1, p.2)
    (labels_refused (numbers_of a.e) (order_by a.msf) a.k a.f.now a.p c.in_ok-types.ensures c.in_ok-names.ensures c.in_ok-sorted.ensures c.in_ok-formats.ensures
    c.in_ok-sets.ensures c.in_err-labels.ensures)

pub returns : goal.returns
returns c =
    let a = c.args in
    lists_met (numbers_of a.e) (order_by a.msf) a.k a.f.now a.p c.in_ok-types.ensures c.in_ok-names.ensures c.in_ok-sorted.ensures c.in_ok-formats.ensures
    c.in_ok-sets.ensures c.in_ok-labels.ensures
