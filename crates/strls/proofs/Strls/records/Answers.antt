use mathlib.Core.Path.{sym, ◌∙◌}
use Rattle.strls.proofs.WalkLaws.{walk_goes, walk_less}
use Rattle.strls.proofs.Strls.records.Goals as goal

pub loop-self-smaller : goal.loop-self-smaller
loop-self-smaller c =
    walk_less c.args.self.f.now c.args.self.d c.loop-self.invariant (sym c.gso_at.ensures ∙ c.loop-self-test.true) c.in_ok-q.ensures

pub loop-self-preserved : goal.loop-self-preserved
loop-self-preserved c =
    walk_goes c.args.self.f.now c.args.self.d c.loop-self.invariant (sym c.gso_at.ensures ∙ c.loop-self-test.true) c.in_ok-q.ensures
