use Rattle.dta_facts.proofs.LayoutLaws.{layout_none, layout_some}
use Rattle.dta_facts.proofs.layout_in.Goals as goal

pub returns-then-s-lt18 : goal.returns-then-s-lt18
returns-then-s-lt18 c = layout_none c.args.s.now c.if-s-lt18.true

pub returns : goal.returns
returns c = layout_some c.args.s.now _ c.if-s-lt18.false c.copy_from_slice.ensures.after
