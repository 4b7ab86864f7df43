use mathlib.Core.Path.{sym, ◌∙◌}
use native.Mathlib.Omega.{arith}
use Rattle.text.proofs.TextLaws.{tag_short, tag_there}
use Rattle.text.proofs.tag_at.Goals as goal

pub returns-then-f-p : goal.returns-then-f-p
returns-then-f-p c =
    let a = c.args in
    sym (tag_short a.t.now a.c a.f.now a.p (omega arith))

pub returns-then-same_at : goal.returns-then-same_at
returns-then-same_at c =
    let a = c.args in
    sym (tag_there a.t.now a.c a.f.now a.p (omega arith) ∙ rw (sym c.same_at.ensures, c.if-same_at.true))

pub returns-else-same_at : goal.returns-else-same_at
returns-else-same_at c =
    let a = c.args in
    sym (tag_there a.t.now a.c a.f.now a.p (omega arith) ∙ rw (sym c.same_at.ensures, c.if-same_at.false))
