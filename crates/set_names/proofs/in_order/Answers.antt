use Rattle.set_names.proofs.ListedLaws.{names_less, ordered_start, ordered_end, ordered_more, ordered_not}
use Rattle.set_names.proofs.in_order.Goals as goal

-- src/lib.rt:51:5
pub loop-k-init : goal.loop-k-init
loop-k-init c = ordered_start _ _ _

-- src/lib.rt:55:13
pub returns-then-is_less : goal.returns-then-is_less
returns-then-is_less c = ordered_not _ _ _ _ c.loop-k.invariant c.loop-k-test.true _ (names_less c.name_of-b.ensures c.name_of-a.ensures _ c.is_less.ensures) c.if-is_less.true

-- src/lib.rt:51:5
pub loop-k-preserved : goal.loop-k-preserved
loop-k-preserved c = ordered_more _ _ _ _ c.loop-k.invariant c.loop-k-test.true _ (names_less c.name_of-b.ensures c.name_of-a.ensures _ c.is_less.ensures) c.if-is_less.false

-- src/lib.rt:47:1
pub returns : goal.returns
returns c = ordered_end _ _ _ _ c.loop-k.invariant c.loop-k-test.false
