use borrow.Author.Tests.{leb-true}
use Rattle.std.proofs.lemmas.Result.{err_from_is_err_and}
use Rattle.format.specs.Number.{order_by}
use Rattle.section.proofs.PartLaws.{first_refused, part_refused, part_judged}
use Rattle.header.specs.declared.Rule.TheVariants.{Most}
use Rattle.header.specs.Rules.{held}
use Rattle.header.proofs.NumberLaws.{held_refused, held_judged, no_value, part_value}
use Rattle.header.proofs.number_part.Goals as goal

pub returns-in_err-a : goal.returns-in_err-a
returns-in_err-a c =
    let a = c.args in
    let p = err_from_is_err_and c.from_residual.result c.from_residual.ensures.1 in
    rw (p.1, p.2) (no_value (first_refused a.first.now a.last.now (held (order_by a.msf) a.w (Most a.max)) a.f.now a.p _ c.in_err-a.ensures), tt)

pub returns-in_err-n : goal.returns-in_err-n
returns-in_err-n c =
    let a = c.args in
    let p = err_from_is_err_and c.from_residual-in_err-n.result c.from_residual-in_err-n.ensures.1 in
    rw (p.1, p.2)
    (no_value (part_refused a.first.now a.last.now (held (order_by a.msf) a.w (Most a.max)) a.f.now a.p c.in_ok-a.ensures _ (held_refused c.in_err-n.ensures)), tt)

pub returns-in_err-b : goal.returns-in_err-b
returns-in_err-b c =
    let a = c.args in
    let p = err_from_is_err_and c.from_residual-in_err-b.result c.from_residual-in_err-b.ensures.1 in
    rw (p.1, p.2)
    (no_value (part_judged a.first.now a.last.now (held (order_by a.msf) a.w (Most a.max)) a.f.now a.p c.in_ok-a.ensures (held_judged c.in_ok-n.ensures) _ c.in_err-b.ensures), tt)

pub returns : goal.returns
returns c =
    let a = c.args in
    let s = held (order_by a.msf) a.w (Most a.max) in (
      part_value a.first.now a.last.now s a.f.now a.p c.in_ok-a.ensures c.in_ok-n.ensures.is
          (part_judged a.first.now a.last.now s a.f.now a.p c.in_ok-a.ensures (held_judged c.in_ok-n.ensures) _ c.in_ok-b.ensures),
      leb-true c.in_ok-n.n a.max c.in_ok-n.ensures.ruled,
    )
