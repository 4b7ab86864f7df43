use native.Mathlib.Omega.{arith}
use Rattle.text_ends.proofs.EndLaws.{ends_first, ends_second}
use Rattle.text_ends.proofs.end_from.Goals as goal

pub returns-then-n-z : goal.returns-then-n-z
returns-then-n-z c =
    let a = c.args in
    ends_first a.a a.y a.z c.text_len-n.ensures c.requires.0 (omega (arith, c.if-n-z.true))

pub returns : goal.returns
returns c =
    let a = c.args in
    ends_second a.a a.y a.z c.text_len-n.ensures c.requires.0 (omega (arith, c.if-n-z.false))
