use Prim.Native.Nat.{◌+◌}
use native.Mathlib.Omega.{arith}
use Rattle.checking.specs.Checks.{layout_by}
use Rattle.asking.proofs.AskLaws.{words_means}
use Rattle.cell_runs.proofs.RunLaws.{filled_none, filled_long, filled_on}
use Rattle.word_runs.specs.Words.{words_down}
use Rattle.word_runs.proofs.words_from.Goals as goal

pub loop-m-init : goal.loop-m-init
loop-m-init c =
    let a = c.args in
    (filled_none a.f.now (layout_by a.l.now) (words_down a.i a.j) a.out.now, c.requires.2)

pub loop-m-preserved : goal.loop-m-preserved
loop-m-preserved c =
    let a = c.args in
    let F = c.loop-m.invariant.0 in
    let k = c.listed-y.ensures in (
      filled_on F (omega (arith, c.loop-m-test.true, c.requires.3, filled_long F)) _ _
          (words_means a.f.now (layout_by a.l.now) a.i (a.j + c.loop-m.m) c.words_at-w.ensures) c.put_words.ensures,
      record { fits = k.0; cheap = k.1; bare = k.2 c.loop-m.invariant.1.bare },
    )
