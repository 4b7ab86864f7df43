use Rattle.std.proofs.lemmas.Result.{err_from_is_err_and}
use Rattle.map.proofs.MapLaws.{map_refused, map_closed}
use Rattle.map.proofs.map_list.Goals as goal

pub returns-in_err-at : goal.returns-in_err-at
returns-in_err-at c =
    let a = c.args in
    let p = err_from_is_err_and c.from_residual.result c.from_residual.ensures.1 in
    rw (p.1, p.2) (map_refused a.tagged a.f.now a.p _ (rw c.map_size-n.ensures at c.in_err-at.ensures))

pub returns : goal.returns
returns c =
    let a = c.args in
    let w = c.map_size-n.ensures in
    map_closed a.tagged a.f.now a.p (rw w at c.in_ok-at.ensures) _ (rw w at c.tag_or.ensures)
