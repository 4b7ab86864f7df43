use mathlib.Core.Path.{◌≡◌, refl, ◌∙◌}
use native.Mathlib.Omega.{arith}
use Rattle.text.proofs.Lay.{laid_none, laid_as, laid_byte}
use Rattle.text.proofs.TextLaws.{bytes_turn}
use Rattle.text.proofs.put_bytes.Goals as goal

pub loop-i-init : goal.loop-i-init
loop-i-init c = laid_none _

pub loop-i-preserved : goal.loop-i-preserved
loop-i-preserved c =
    let a = c.args in
    laid_as (laid_byte c.loop-i.invariant _ (omega arith)) (bytes_turn a.f.now a.p c.loop-i.i (omega arith)) refl

pub returns : goal.returns
returns c =
    let e : c.loop-i.i ≡ c.args.m = omega arith in
    c.loop-i.invariant.is ∙ rw e
