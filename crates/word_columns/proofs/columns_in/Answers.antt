use Rattle.word_columns.proofs.AcrossLaws.{come_start, come_on}
use Rattle.word_columns.proofs.columns_in.Goals as goal

pub loop-k-init : goal.loop-k-init
loop-k-init c = (come_start _ _ _ _ _ _, tt)

pub loop-k-preserved : goal.loop-k-preserved
loop-k-preserved c =
    let m = c.least-m in
    (come_on c.loop-k.invariant.0 c.loop-k-test.true c.if-at-n.false m.result m.ensures _ c.words_in-x.ensures.0, c.words_in-x.ensures.1)
