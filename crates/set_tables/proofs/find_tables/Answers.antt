use mathlib.Core.Path.{refl, sym, ◌∙◌}
use native.Mathlib.Omega.{arith}
use mathlib.Core.Logic.{inl}
use Rattle.format.specs.Edition.{n_value_labels}
use Rattle.reading.proofs.PlaceLaws.{start_is, end_is}
use Rattle.reading.proofs.AnswerLaws.{edition_widths}
use Rattle.set_tables.proofs.FoundLaws.{found_shut, started_alike, found_passed, found_over, finds}
use Rattle.set_tables.proofs.find_tables.Goals as goal

pub returns-in_default : goal.returns-in_default
returns-in_default c = (
  finds _ _ _ c.if-v-gt32768.false _ c.in_order.ensures c.if-not-in_order.false,
  found_shut _ _ (sym c.in_default.is ∙ c.edition_in.ensures) _ _ c.start_numbers.ensures,
  inl refl,
)

pub returns-then-end-l : goal.returns-then-end-l
returns-then-end-l c = (
  finds _ _ _ c.if-v-gt32768.false _ c.in_order.ensures c.if-not-in_order.false,
  found_over _ _ _ (sym c.in-Some.is ∙ c.edition_in.ensures) _ _ c.start_numbers.ensures _
      (end_is _ n_value_labels 15 _ _ _ refl c.tag_size.ensures c.less-end.ensures.0) (omega (arith, c.if-end-l.true)),
  inl refl,
)

pub pass-requires : goal.pass-requires
pass-requires c =
    let Q = sym c.in-Some.is ∙ c.edition_in.ensures in (
      sym c.in_order.ensures ∙ c.if-not-in_order.false,
      started_alike _ _ _ Q _ _ c.start_numbers.ensures,
      c.if-v-gt32768.false,
      c.start_numbers.ensures.long,
      omega (arith, (edition_widths c.args.l.edition c.args.l.order c.in-Some.o Q).name_most),
    )

pub returns : goal.returns
returns c = (
  finds _ _ _ c.if-v-gt32768.false _ c.in_order.ensures c.if-not-in_order.false,
  found_passed _ _ _ (sym c.in-Some.is ∙ c.edition_in.ensures) _ _ c.start_numbers.ensures _ _
      (end_is _ n_value_labels 15 _ _ _ refl c.tag_size.ensures c.less-end.ensures.0)
      (start_is _ n_value_labels 14 _ _ refl c.tag_size-2.ensures) _ _ c.pass.ensures,
  c.pass.ensures.number,
)
