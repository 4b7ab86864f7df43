use mathlib.Core.Path.{sym, ap}
use Rattle.reading.specs.Reads.{read_by}
use Rattle.reading.proofs.ReadLaws.{length_cut, length_got}
use Rattle.reading.proofs.text_in.Goals as goal

pub returns-then-m-w : goal.returns-then-m-w
returns-then-m-w c =
    let a = c.args in
    ap read_by (sym (length_cut a.w a.f.now a.p c.if-f-q.false _ c.min-m.ensures _ c.text_len-n.ensures c.if-n-m.true c.if-m-w.true))

pub returns : goal.returns
returns c =
    let a = c.args in
    ap read_by (sym (length_got a.w a.f.now a.p c.if-f-q.false _ c.min-m.ensures _ c.text_len-n.ensures c.else-n-m.either))
