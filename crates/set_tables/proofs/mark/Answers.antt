use mathlib.Core.Path.{sym, ◌∙◌}
use Rattle.set_names.proofs.OrderLaws.{first_all, run_over}
use Rattle.set_tables.proofs.MarkLaws.{marking_starts, marking_ends}
use Rattle.set_tables.proofs.mark.Goals as goal

pub loop-k-init : goal.loop-k-init
loop-k-init c = marking_starts _ _ _ _ _ _ _ (first_all _ _ _ _ _ c.first_from-first.ensures)

pub returns-then-not-is_next : goal.returns-then-not-is_next
returns-then-not-is_next c =
    let p = c.loop-k in
    marking_ends _ _ _ _ _ _ _ _ _ p.invariant c.requires.1 (run_over _ _ _ _ _ c.first_from-first.ensures c.requires.0) (λ h. sym c.if-not-is_next.true ∙ c.is_next.ensures)
