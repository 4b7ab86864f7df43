use native.Mathlib.Omega.{arith}
use Rattle.strls.proofs.RecordLaws.{long_short, long_cut, long_whole}
use Rattle.strls.proofs.Strls.long_record.Goals as goal

pub returns-then-f-q : goal.returns-then-f-q
returns-then-f-q c =
    let p = c.args.self in long_short p.f.now p.d c.args.q c.requires.1 c.requires.0 (omega arith)

pub returns-then-f-q-2 : goal.returns-then-f-q-2
returns-then-f-q-2 c =
    let p = c.args.self in long_cut p.f.now p.d c.args.q c.requires.1 c.requires.0 (omega arith) c.number-n.result c.number-n.ensures.is (omega arith)

pub returns : goal.returns
returns c =
    let p = c.args.self in long_whole p.f.now p.d c.args.q c.requires.1 c.requires.0 (omega arith) c.number-n.result c.number-n.ensures.is (omega arith)
