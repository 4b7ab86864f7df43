use native.Mathlib.Omega.{arith}
use Rattle.std.proofs.lemmas.Result.{err_from_is_err_and}
use Rattle.strls.proofs.PassLaws.{run_starts, run_stops, run_turns, run_less}
use Rattle.strls.proofs.Pass.row_run.Goals as goal

pub loop-i-init : goal.loop-i-init
loop-i-init c =
    let p = c.args.self in run_starts p.f.now p.d p.tabled c.args.j c.args.start c.requires.1

pub returns-in_err-q : goal.returns-in_err-q
returns-in_err-q c =
    let p = c.args.self in
    let e = err_from_is_err_and c.from_residual.result c.from_residual.ensures.1 in
    rw (e.1, e.2) (run_stops p.f.now p.d p.tabled c.loop-i.invariant c.loop-i-test.true _ c.in_err-q.ensures)

pub loop-i-smaller : goal.loop-i-smaller
loop-i-smaller c =
    let p = c.args.self in
    let l = run_less p.f.now p.d p.tabled c.loop-i.invariant c.loop-i-test.true in
    omega (arith, l)

pub loop-i-preserved : goal.loop-i-preserved
loop-i-preserved c =
    let p = c.args.self in run_turns p.f.now p.d p.tabled c.loop-i.invariant c.loop-i-test.true c.in_ok-q.ensures
