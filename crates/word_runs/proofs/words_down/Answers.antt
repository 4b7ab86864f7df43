use Rattle.std.proofs.lemmas.Result.{err_from_is_err_and}
use Rattle.checking.specs.Checks.{layout_by}
use Rattle.cell_runs.proofs.RunLaws.{run_out}
use Rattle.word_runs.specs.Words.{words_down}
use Rattle.word_runs.proofs.words_down.Goals as goal

pub returns-in_err-n : goal.returns-in_err-n
returns-in_err-n c =
    let a = c.args in
    let p = err_from_is_err_and c.from_residual.result c.from_residual.ensures.1 in
    rw (p.1, p.2) (run_out a.f.now (layout_by a.l) a.i a.j (words_down a.i a.j) a.j a.l.n a.out.now _ c.in_err-n.ensures)
