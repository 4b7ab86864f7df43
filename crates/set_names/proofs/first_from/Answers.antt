use native.Mathlib.Omega.{arith}
use Rattle.questions.specs.Ask.{slice}
use Rattle.set_names.proofs.ListedLaws.{named_less, halved_start, halved_end, halved_up, halved_down}
use Rattle.set_names.proofs.first_from.Goals as goal

-- src/lib.rt:69:5
pub loop-low-init : goal.loop-low-init
loop-low-init c = halved_start _ _ _ _

-- src/lib.rt:69:5
pub loop-low-preserved-then-is_less : goal.loop-low-preserved-then-is_less
loop-low-preserved-then-is_less c =
    let a = c.args in
    halved_up _ _ _ _ c.loop-low.invariant c.requires.0 _ (omega arith) (omega arith) _
    (named_less c.name_of-name.ensures (slice a.f.now a.text.at a.text.len) _ c.is_less.ensures)
    c.if-is_less.true

-- src/lib.rt:69:5
pub loop-low-preserved : goal.loop-low-preserved
loop-low-preserved c =
    let a = c.args in
    halved_down _ _ _ _ c.loop-low.invariant c.requires.0 _ (omega arith) (omega arith) _
    (named_less c.name_of-name.ensures (slice a.f.now a.text.at a.text.len) _ c.is_less.ensures)
    c.if-is_less.false

-- src/lib.rt:63:1
pub returns : goal.returns
returns c = halved_end _ _ _ _ c.loop-low.invariant c.loop-low-test.false
