use mathlib.Core.Path.{sym, ◌∙◌}
use Rattle.header.proofs.OldLaws.{stamp_right, stamp_unended, stamp_wrong}
use Rattle.header.proofs.old_stamp.Goals.{else-holds-via-then-holds+else-f-q-eq0, else-holds-via-else-holds}
use Rattle.header.proofs.old_stamp.Goals as goal

pub returns-then-f-q-eq0 : goal.returns-then-f-q-eq0
returns-then-f-q-eq0 c =
    let a = c.args in
    stamp_right a.f.now a.q _ c.text_len-n.ensures.is (sym c.if-holds.true ∙ c.holds.ensures) c.if-f-q-eq0.true

pub returns-else-holds : goal.returns-else-holds
returns-else-holds c =
    let a = c.args in
    elim c.else-holds.branch [
      | else-holds-via-then-holds+else-f-q-eq0 w ↦ stamp_unended a.f.now a.q _ c.text_len-n.ensures.is (sym w.if-holds.true ∙ c.holds.ensures) w.if-f-q-eq0.false
      | else-holds-via-else-holds w ↦ stamp_wrong a.f.now a.q _ c.text_len-n.ensures.is (sym w.if-holds.false ∙ c.holds.ensures)
    ]
