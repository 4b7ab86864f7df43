use mathlib.Core.Path.{sym, ◌∙◌}
use Prim.Native.Nat.{◌+◌}
use native.Mathlib.Omega.{arith}
use Rattle.std.proofs.lemmas.Result.{err_from_is_err_and}
use Rattle.format.specs.Number.{order_by}
use Rattle.header.proofs.NumberLaws.{clean_short, clean_right, clean_wrong, length_refused, length_on}
use Rattle.header.proofs.counted_text.Goals as goal

pub returns-in_err-n : goal.returns-in_err-n
returns-in_err-n c =
    let a = c.args in
    let p = err_from_is_err_and c.from_residual.result c.from_residual.ensures.1 in
    rw (p.1, p.2) (length_refused (order_by a.msf) a.w a.rule a.f.now a.p c.in_err-n.ensures)

pub returns-then-f-at : goal.returns-then-f-at
returns-then-f-at c =
    let a = c.args in
    length_on (order_by a.msf) a.w a.rule a.f.now a.p c.in_ok-n.ensures (clean_short c.in_ok-n.n a.f.now (a.p + a.w) (omega (arith, c.in_ok-n.ensures.room)))

pub returns-then-no_zero : goal.returns-then-no_zero
returns-then-no_zero c =
    let a = c.args in
    length_on (order_by a.msf) a.w a.rule a.f.now a.p c.in_ok-n.ensures
    (clean_right c.in_ok-n.n a.f.now (a.p + a.w) (omega (arith, c.in_ok-n.ensures.room)) (sym c.if-no_zero.true ∙ c.no_zero.ensures))

pub returns-else-no_zero : goal.returns-else-no_zero
returns-else-no_zero c =
    let a = c.args in
    length_on (order_by a.msf) a.w a.rule a.f.now a.p c.in_ok-n.ensures
    (clean_wrong c.in_ok-n.n a.f.now (a.p + a.w) (omega (arith, c.in_ok-n.ensures.room)) (sym c.if-no_zero.false ∙ c.no_zero.ensures))
