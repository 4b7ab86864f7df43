use mathlib.Core.Path.{ap, ◌∙◌}
use Rattle.std.specs.Prelude.{Ok}
use Rattle.format.specs.Number.{order_by}
use Rattle.walks.proofs.RecordLaws.{starts, come_none, come_here, come_on}
use Rattle.walks.proofs.records.Goals as goal

pub loop-n-init : goal.loop-n-init
loop-n-init c =
    let a = c.args in
    starts a.w (order_by a.msf) a.f.now a.v a.o a.end a.start c.requires.0

pub returns-then-is_of : goal.returns-then-is_of
returns-then-is_of c =
    let a = c.args in
    let l = c.loop-n in
    ap Ok c.long_at.ensures ∙ come_here a.w (order_by a.msf) a.f.now a.v a.o a.end a.start l.p l.invariant c.in-Some.n c.in-Some.ensures c.if-is_of.ensures

pub loop-n-preserved : goal.loop-n-preserved
loop-n-preserved c =
    let a = c.args in
    let l = c.loop-n in
    come_on a.w (order_by a.msf) a.f.now a.v a.o a.end a.start l.p l.invariant c.in-Some.n c.in-Some.ensures c.if-is_of.ensures

pub returns : goal.returns
returns c =
    let a = c.args in
    let l = c.loop-n in
    come_none a.w (order_by a.msf) a.f.now a.v a.o a.end a.start l.p l.invariant c.in_default.ensures
