use mathlib.Core.Path.{sym, ap, ◌∙◌}
use mathlib.Core.Bool.{Bool, not}
use native.Mathlib.Omega.{arith}
use Rattle.format.specs.Grammar.{unless}
use Rattle.section.specs.Judged.{field}
use Rattle.section.proofs.FieldLaws.{field_judge, field_size}
use Rattle.section.proofs.TimesLaws.{list_stop, list_turn, list_rest}
use Rattle.section.proofs.texts.Goals as goal

pub text_len-n-requires : goal.text_len-n-requires
text_len-n-requires c = let a = c.args in let l = c.loop in omega (arith, list_rest a.k l.counter (omega arith) a.w)

pub overflow_add-q : goal.overflow_add-q
overflow_add-q c = let a = c.args in let l = c.loop in omega (arith, list_rest a.k l.counter (omega arith) a.w)

pub returns-then-bad_field : goal.returns-then-bad_field
returns-then-bad_field c =
    let a = c.args in
    let l = c.loop in
    let t = c.text_len-n.ensures in
    list_stop a.k l.counter (omega arith) (field a.named a.w) a.f.now l.q
    (field_judge a.named a.w a.f.now l.q c.text_len-n.result t.is t.short
    ∙ ap (λ (b : Bool). unless (not b) 7) (sym c.bad_field.ensures ∙ c.if-bad_field.true))
    ∙ l.invariant.1

pub loop-preserved : goal.loop-preserved
loop-preserved c =
    let a = c.args in
    let l = c.loop in
    let t = c.text_len-n.ensures in (
      omega (arith, list_rest a.k l.counter (omega arith) a.w),
      list_turn a.k l.counter (omega arith) (field a.named a.w) a.f.now l.q a.w (field_size a.named a.w)
          (field_judge a.named a.w a.f.now l.q c.text_len-n.result t.is t.short
          ∙ ap (λ (b : Bool). unless (not b) 7) (sym c.bad_field.ensures ∙ c.if-bad_field.false))
          ∙ l.invariant.1,
    )
