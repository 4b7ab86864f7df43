use mathlib.Core.Path.{refl}
use mathlib.Core.Bool.{true, cond}
use mathlib.Core.List.{[]}
use Prim.Native.Nat.{suc, ◌*◌}
use native.Mathlib.Numerals.{add-one}
use Rattle.section.proofs.StepLaws.{exit_judged}
use Rattle.format.specs.Number.{order_by}
use Rattle.format.specs.Grammar.{ruled, ended}
use Rattle.format.specs.Edition.{opening, closing, n_sortlist}
use Rattle.format.specs.Variables.{fresh}
use Rattle.section.proofs.PartLaws.{open_refused, content_refused, close_judged}
use Rattle.variables.proofs.WholeLaws.{sort_judged}
use Rattle.variables.proofs.sort_list.Goals as goal

pub returns-in_err-at : goal.returns-in_err-at
returns-in_err-at c =
    let a = c.args in
    let f = a.f.now in
    let l = cond a.tagged (opening true n_sortlist) [] in
    let r = cond a.tagged (closing true n_sortlist) [] in
    let S = ruled (ended (order_by a.msf) 2 (suc a.k) 8) (fresh a.k []) 8 in
    let o = rw (add-one a.k) at c.in_err-at.ensures in
    exit_judged _ c.from_residual.ensures.1 (sort_judged a.tagged (order_by a.msf) a.k f a.p _ (open_refused l r (suc a.k * 2) S f a.p _ o))

pub returns-in_err-sort_numbers : goal.returns-in_err-sort_numbers
returns-in_err-sort_numbers c =
    let a = c.args in
    let f = a.f.now in
    let l = cond a.tagged (opening true n_sortlist) [] in
    let r = cond a.tagged (closing true n_sortlist) [] in
    let S = ruled (ended (order_by a.msf) 2 (suc a.k) 8) (fresh a.k []) 8 in
    let o = rw (add-one a.k) at c.in_ok-at.ensures in
    exit_judged _ c.from_residual-in_err-sort_numbers.ensures.1 (sort_judged a.tagged (order_by a.msf) a.k f a.p _ (content_refused l r (suc a.k * 2) S f a.p o _ c.in_err-sort_numbers.ensures))

pub returns : goal.returns
returns c =
    let a = c.args in
    let f = a.f.now in
    let l = cond a.tagged (opening true n_sortlist) [] in
    let r = cond a.tagged (closing true n_sortlist) [] in
    let S = ruled (ended (order_by a.msf) 2 (suc a.k) 8) (fresh a.k []) 8 in
    let o = rw (add-one a.k) at c.in_ok-at.ensures in
    sort_judged a.tagged (order_by a.msf) a.k f a.p _
    (close_judged l r (suc a.k * 2) S f a.p o _ _ c.in_ok-sort_numbers.ensures refl (rw (add-one a.k) at c.tag_or.ensures))
