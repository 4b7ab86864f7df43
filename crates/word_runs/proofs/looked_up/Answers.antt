use Rattle.word_runs.proofs.AreaLaws.{looked_endless, looked_got}
use Rattle.word_runs.proofs.looked_up.Goals as goal

pub returns-then-w-len : goal.returns-then-w-len
returns-then-w-len c =
    let a = c.args in
    looked_endless a.f.now a.area a.w _ _ c.requires.0 c.in-Some.ensures c.length_from-len.ensures c.if-w-len.true

pub returns : goal.returns
returns c =
    let a = c.args in
    looked_got a.f.now a.area a.w _ _ c.requires.0 c.in-Some.ensures c.length_from-len.ensures c.if-w-len.false
