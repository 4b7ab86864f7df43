use mathlib.Core.Path.{sym, ◌∙◌}
use native.Mathlib.Omega.{arith}
use Rattle.checking.specs.Checks.{layout_by}
use Rattle.dta.proofs.StoreLaws.{laid_room, laid_none}
use Rattle.dta.proofs.store_layout.Goals as goal

pub returns-then-out-ge18 : goal.returns-then-out-ge18
returns-then-out-ge18 c = c.put_layout.ensures ∙ sym (laid_room (layout_by c.args.l) c.args.out.now c.if-out-ge18.true)

pub returns-else-out-ge18 : goal.returns-else-out-ge18
returns-else-out-ge18 c = sym (laid_none (layout_by c.args.l) c.args.out.now (omega arith))
