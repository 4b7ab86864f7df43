use mathlib.Core.Path.{sym, ◌∙◌}
use mathlib.Core.Bool.{true, false}
use Rattle.format.specs.Number.{order_by}
use Rattle.labels.proofs.TableLaws.{body_ordered, body_unordered}
use Rattle.labels.proofs.table_body.Goals as goal
use Rattle.labels.proofs.table_body.Goals.{else-all_ascend-via-then-all_ascend+else-all_below, else-all_ascend-via-else-all_ascend}

pub returns-then-all_below : goal.returns-then-all_below
returns-then-all_below c =
    let a = c.args in
    let z = c.past_zero in
    body_ordered (order_by a.msf) a.n a.m a.f.now a.q c.requires (sym c.all_ascend.ensures ∙ c.if-all_ascend.true) z.result z.ensures true
    (sym c.all_below.ensures ∙ c.if-all_below.true)

pub returns-else-all_ascend : goal.returns-else-all_ascend
returns-else-all_ascend c =
    let a = c.args in
    let o = order_by a.msf in
    elim c.else-all_ascend.branch [
      | else-all_ascend-via-then-all_ascend+else-all_below w ↦
          body_ordered o a.n a.m a.f.now a.q c.requires (sym c.all_ascend.ensures ∙ w.if-all_ascend.true) w.past_zero.result w.past_zero.ensures false
          (sym w.all_below.ensures ∙ w.if-all_below.false)
      | else-all_ascend-via-else-all_ascend w ↦ body_unordered o a.n a.m a.f.now a.q c.requires (sym c.all_ascend.ensures ∙ w.if-all_ascend.false)
    ]
