use Rattle.std.proofs.lemmas.Result.{err_from_is_err_and}
use Rattle.strls.proofs.PassLaws.{pass_still, pass_stops, pass_turns}
use Rattle.strls.proofs.Pass.data_run.Goals as goal

pub returns-then-self : goal.returns-then-self
returns-then-self c =
    let p = c.args.self in pass_still p.f.now p.d p.tabled c.if-self.true c.args.start c.requires

pub returns-in_err-q : goal.returns-in_err-q
returns-in_err-q c =
    let p = c.args.self in
    let e = err_from_is_err_and c.from_residual.result c.from_residual.ensures.1 in
    rw (e.1, e.2) (pass_stops p.f.now p.d c.loop-j.invariant c.loop-j-test.true _ c.in_err-q.ensures)

pub loop-j-preserved : goal.loop-j-preserved
loop-j-preserved c =
    let p = c.args.self in pass_turns p.f.now p.d c.loop-j.invariant c.loop-j-test.true c.in_ok-q.ensures
