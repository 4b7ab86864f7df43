use mathlib.Core.Path.{◌≡◌, refl, sym, ap, ◌∙◌}
use native.Mathlib.Omega.{arith}
use Rattle.std.specs.Prelude.{Some, None}
use Rattle.std.proofs.lemmas.Option.{none-some, same_Some}
use Rattle.std.proofs.lemmas.Result.{err_from_is_err_and}
use Rattle.format.specs.Number.{order_by}
use Rattle.editions.specs.Editions.{numbers_of}
use Rattle.checking.specs.Checks.{layout_by}
use Rattle.cell.specs.Cells.{says}
use Rattle.questions.specs.Ask.{ask_long, long_by, or_refused}
use Rattle.reading.specs.declared.Opened.{Opened}
use Rattle.reading.proofs.AnswerLaws.{edition_widths}
use Rattle.walks.specs.Answers as Walks
use Rattle.cells.proofs.AfterLaws.{after_refused, after_said}
use Rattle.long_strings.proofs.LongLaws.{long_said_lem}
use Rattle.long_strings.proofs.long_string.Goals as goal

pub returns-in_err-cell : goal.returns-in_err-cell
returns-in_err-cell c =
    let a = c.args in
    let f = a.f.now in
    let p = err_from_is_err_and c.from_residual.result c.from_residual.ensures.1 in
    rw (p.1, p.2) (after_refused f (layout_by a.l) a.i a.j (ask_long a.i a.j) (λ e o. long_by e o f (layout_by a.l)) refl (λ e o. refl) Walks.long_by (λ n. refl) _ c.in_err-cell.ensures)

pub returns-in_err-o : goal.returns-in_err-o
returns-in_err-o c =
    let a = c.args in
    let f = a.f.now in
    let z : None ≡ c.edition_in.result = grind arith in
    let s = after_said f (layout_by a.l) a.i a.j (ask_long a.i a.j) (λ e o. long_by e o f (layout_by a.l)) refl (λ e o. refl) c.in_ok-cell.cell c.in_ok-cell.ensures in
    absurd (none-some s.opened (z ∙ c.edition_in.ensures ∙ sym s.read))

pub long_by-requires : goal.long_by-requires
long_by-requires c =
    let a = c.args in
    let z : Some c.in_ok-o.o ≡ c.edition_in.result = grind arith in
    let W = edition_widths a.l.edition a.l.order c.in_ok-o.o (z ∙ c.edition_in.ensures) in
    omega (arith, W.record_most)

pub returns : goal.returns
returns c =
    let a = c.args in
    let f = a.f.now in
    let l = layout_by a.l in
    let o = c.in_ok-o.o in
    let z : Some o ≡ c.edition_in.result = grind arith in
    let s = after_said f l a.i a.j (ask_long a.i a.j) (λ e o. long_by e o f l) refl (λ e o. refl) c.in_ok-cell.cell c.in_ok-cell.ensures in
    let q : s.opened ≡ o = same_Some _ _ (s.read ∙ sym (z ∙ c.edition_in.ensures)) in
    c.long_by.ensures
    ∙ ap Walks.long_by (sym (s.is ∙ ap (λ (y : Opened). or_refused (long_by (numbers_of y.e) (order_by y.msf) f l (says c.in_ok-cell.cell))) q
    ∙ long_said_lem (numbers_of o.e) (order_by o.msf) f l (says c.in_ok-cell.cell)))
