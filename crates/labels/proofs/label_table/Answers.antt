use mathlib.Core.Path.{sym, ◌∙◌}
use native.Mathlib.Omega.{arith}
use Rattle.section.proofs.StepLaws.{exit_judged}
use Rattle.format.specs.Number.{order_by}
use Rattle.labels.proofs.TableLaws.{table_short, table_small, table_sizes_lem, table_refused, table_accepted}
use Rattle.labels.proofs.label_table.Goals as goal

pub returns-then-f-p : goal.returns-then-f-p
returns-then-f-p c = let a = c.args in table_short (order_by a.msf) a.w a.f.now a.p (omega arith)

pub returns-then-w-lt8 : goal.returns-then-w-lt8
returns-then-w-lt8 c = let a = c.args in table_small (order_by a.msf) a.w a.f.now a.p (omega arith) (omega arith)

pub returns-then-not-sizes_hold : goal.returns-then-not-sizes_hold
returns-then-not-sizes_hold c =
    let a = c.args in
    table_sizes_lem (order_by a.msf) a.w a.f.now a.p (omega arith) (omega arith) _ _ c.number-n.ensures.is c.number-m.ensures.is
    (sym c.sizes_hold.ensures ∙ c.if-not-sizes_hold.true)

pub returns-in_err-table_body : goal.returns-in_err-table_body
returns-in_err-table_body c =
    let a = c.args in
    exit_judged _ c.from_residual.ensures.1 (table_refused (order_by a.msf) a.w a.f.now a.p (omega arith) (omega arith) _ _ c.number-n.ensures.is c.number-m.ensures.is
    (sym c.sizes_hold.ensures ∙ c.if-not-sizes_hold.false) _ c.in_err-table_body.ensures)

pub returns : goal.returns
returns c =
    let a = c.args in
    table_accepted (order_by a.msf) a.w a.f.now a.p (omega arith) (omega arith) _ _ c.number-n.ensures.is c.number-m.ensures.is
    (sym c.sizes_hold.ensures ∙ c.if-not-sizes_hold.false) c.in_ok-table_body.ensures
