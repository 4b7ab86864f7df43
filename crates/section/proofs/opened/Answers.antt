use mathlib.Core.Path.{sym, ◌∙◌}
use mathlib.Core.Bool.{cond}
use mathlib.Core.List.{[]}
use Prim.Native.Nat.{◌+◌}
use native.Mathlib.Omega.{arith}
use lib.ListN.{length}
use Rattle.std.proofs.lemmas.Result.{err_from_is_err_and}
use Rattle.format.specs.Grammar.{tag}
use Rattle.section.proofs.StepLaws.{some_number, need_short, need_there}
use Rattle.section.proofs.PartLaws.{also_on}
use Rattle.section.proofs.SeqLaws.{also_first, tag_end}
use Rattle.section.proofs.opened.Goals as goal

pub returns-in_err-at : goal.returns-in_err-at
returns-in_err-at c =
    let a = c.args in
    let l = cond a.tagged a.first.now [] in
    let p = err_from_is_err_and c.from_residual.result c.from_residual.ensures.1 in
    rw (p.1, p.2) (record { code = also_first _ ((tag l 4).judge a.f.now a.p) _ c.in_err-at.ensures.code (some_number _); ends = tt; inside = tt })

pub returns-then-f-at : goal.returns-then-f-at
returns-then-f-at c =
    let a = c.args in
    let j = c.in_ok-at.ensures in
    let l = cond a.tagged a.first.now [] in
    let e = j.ends ∙ sym (tag_end l 4 a.f.now a.p) in
    record { code = sym (also_on _ _ (sym j.code) ∙ need_short a.n a.f.now (a.p + length l) (omega arith)); ends = tt; inside = tt }

pub returns : goal.returns
returns c =
    let a = c.args in
    let j = c.in_ok-at.ensures in
    let l = cond a.tagged a.first.now [] in
    let e = j.ends ∙ sym (tag_end l 4 a.f.now a.p) in
    record { code = sym (also_on _ _ (sym j.code) ∙ need_there a.n a.f.now (a.p + length l) (omega (arith, j.inside))); ends = e; inside = j.inside }
