use mathlib.Core.Path.{sym}
use mathlib.Core.Bool.{true, cond}
use mathlib.Core.List.{[]}
use Prim.Native.Nat.{◌*◌}
use Rattle.section.proofs.StepLaws.{exit_judged}
use Rattle.format.specs.Number.{order_by}
use Rattle.format.specs.Grammar.{times}
use Rattle.format.specs.Edition.{code_width, opening, closing, n_variable_types}
use Rattle.format.specs.Variables.{type_code}
use Rattle.format.proofs.StepLaws.{times_next}
use Rattle.section.proofs.PartLaws.{open_refused, content_refused, close_judged}
use Rattle.variables.proofs.TypeLaws.{code_size}
use Rattle.variables.proofs.WholeLaws.{types_judged}
use Rattle.variables.proofs.type_list.Goals as goal

pub returns-in_err-at : goal.returns-in_err-at
returns-in_err-at c =
    let a = c.args in
    let f = a.f.now in
    let l = cond a.tagged (opening true n_variable_types) [] in
    let r = cond a.tagged (closing true n_variable_types) [] in
    let C = type_code a.tagged (order_by a.msf) in
    let o = rw c.code_width.ensures at c.in_err-at.ensures in
    exit_judged _ c.from_residual.ensures.1 (types_judged a.tagged (order_by a.msf) a.k f a.p _ (open_refused l r (a.k * code_width a.tagged) (times C a.k) f a.p _ o))

pub returns-in_err-type_codes : goal.returns-in_err-type_codes
returns-in_err-type_codes c =
    let a = c.args in
    let f = a.f.now in
    let l = cond a.tagged (opening true n_variable_types) [] in
    let r = cond a.tagged (closing true n_variable_types) [] in
    let C = type_code a.tagged (order_by a.msf) in
    let o = rw c.code_width.ensures at c.in_ok-at.ensures in
    exit_judged _ c.from_residual-in_err-type_codes.ensures.1 (types_judged a.tagged (order_by a.msf) a.k f a.p _ (content_refused l r (a.k * code_width a.tagged) (times C a.k) f a.p o _ c.in_err-type_codes.ensures))

pub returns : goal.returns
returns c =
    let a = c.args in
    let f = a.f.now in
    let l = cond a.tagged (opening true n_variable_types) [] in
    let r = cond a.tagged (closing true n_variable_types) [] in
    let C = type_code a.tagged (order_by a.msf) in
    let w = c.code_width.ensures in
    let o = rw w at c.in_ok-at.ensures in
    types_judged a.tagged (order_by a.msf) a.k f a.p _
    (close_judged l r (a.k * code_width a.tagged) (times C a.k) f a.p o _ _ c.in_ok-type_codes.ensures
    (sym (times_next C (code_width a.tagged) (code_size a.tagged (order_by a.msf)) a.k f c.in_ok-at.at)) (rw w at c.tag_or.ensures))
