use native.Mathlib.Omega.{arith}
use Rattle.dta_facts.proofs.StoreLaws.{copied_room, copied_none}
use Rattle.dta_facts.proofs.dta_text.Goals as goal

pub returns-then-n-out : goal.returns-then-n-out
returns-then-n-out c =
    copied_room c.args.out.now c.shown_by-t.ensures (omega (arith, c.if-n-out.true)) c.put_bytes.ensures

pub returns-else-n-out : goal.returns-else-n-out
returns-else-n-out c =
    copied_none c.args.out.now c.shown_by-t.ensures (omega arith)
