use mathlib.Core.Path.{sym}
use mathlib.Core.Bool.{cond}
use mathlib.Core.List.{[]}
use Prim.Native.Nat.{◌*◌}
use native.Mathlib.Nat.{mul-le-mul}
use native.Mathlib.Omega.{arith}
use Rattle.std.proofs.lemmas.Result.{err_from_is_err_and}
use Rattle.format.specs.Grammar.{times}
use Rattle.format.proofs.StepLaws.{times_next}
use Rattle.section.specs.Judged.{field}
use Rattle.section.proofs.FieldLaws.{field_size}
use Rattle.section.proofs.PartLaws.{open_refused, open_room, content_refused, close_judged}
use Rattle.section.proofs.text_list.Goals as goal

pub overflow_mul-n : goal.overflow_mul-n
overflow_mul-n c = omega (arith, mul-le-mul c.requires.1 c.requires.2)

pub returns-in_err-at : goal.returns-in_err-at
returns-in_err-at c =
    let a = c.args in
    let p = err_from_is_err_and c.from_residual.result c.from_residual.ensures.1 in
    rw (p.1, p.2) (open_refused _ _ (a.k * a.w) _ a.f.now a.p _ c.in_err-at.ensures)

pub texts-requires : goal.texts-requires
texts-requires c =
    let a = c.args in
    open_room (cond a.tagged a.first.now []) (cond a.tagged a.last.now []) (a.k * a.w) (times (field a.named a.w) a.k) a.f.now a.p c.in_ok-at.ensures

pub returns-in_err-texts : goal.returns-in_err-texts
returns-in_err-texts c =
    let a = c.args in
    let p = err_from_is_err_and c.from_residual-in_err-texts.result c.from_residual-in_err-texts.ensures.1 in
    rw (p.1, p.2) (content_refused _ _ (a.k * a.w) _ a.f.now a.p c.in_ok-at.ensures _ c.in_err-texts.ensures)

pub returns : goal.returns
returns c =
    let a = c.args in
    close_judged (cond a.tagged a.first.now []) (cond a.tagged a.last.now []) (a.k * a.w) (times (field a.named a.w) a.k) a.f.now a.p c.in_ok-at.ensures
    _ _ c.in_ok-texts.ensures (sym (times_next (field a.named a.w) a.w (field_size a.named a.w) a.k a.f.now c.in_ok-at.at)) c.tag_or.ensures
