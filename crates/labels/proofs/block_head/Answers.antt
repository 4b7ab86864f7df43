use native.Mathlib.Omega.{arith}
use Rattle.format.specs.Number.{order_by}
use Rattle.labels.proofs.BlockLaws.{head_short, head_full, head_empty, head_passed}
use Rattle.labels.proofs.block_head.Goals as goal
use Rattle.labels.proofs.block_head.Goals.{then-n-w-via-then-n-w, then-n-w-via-else-n-w+then-n-eq0}

pub returns-then-f-p : goal.returns-then-f-p
returns-then-f-p c = let a = c.args in head_short (order_by a.msf) a.w a.f.now a.p (omega arith)

pub returns-then-n-w : goal.returns-then-n-w
returns-then-n-w c =
    let a = c.args in
    let n = c.text_len-n in
    let o = order_by a.msf in
    elim c.then-n-w.branch [
      | then-n-w-via-then-n-w w ↦ head_full o a.w a.f.now a.p (omega arith) n.result n.ensures.is n.ensures.short w.if-n-w.true
      | then-n-w-via-else-n-w+then-n-eq0 w ↦ head_empty o a.w a.f.now a.p (omega arith) n.result n.ensures.is n.ensures.short w.if-n-w.false w.if-n-eq0.true
    ]

pub returns : goal.returns
returns c =
    let a = c.args in
    let n = c.text_len-n in
    head_passed (order_by a.msf) a.w a.f.now a.p (omega arith) n.result n.ensures.is n.ensures.short c.if-n-w.false c.if-n-eq0.false
