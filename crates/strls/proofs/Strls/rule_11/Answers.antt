use mathlib.Core.Path.{sym, ap, ◌∙◌}
use mathlib.Core.Bool.{Bool, cond}
use Rattle.std.specs.Prelude.{Ok}
use Rattle.std.proofs.lemmas.Result.{err_from_is_err_and}
use Rattle.strls.specs.Links.{broken}
use Rattle.strls.proofs.PassLaws.{end_refused, end_at}
use Rattle.strls.proofs.Strls.rule_11.Goals as goal

pub returns-in_err-end : goal.returns-in_err-end
returns-in_err-end c =
    let p = err_from_is_err_and c.from_residual.result c.from_residual.ensures.1 in
    rw (p.1, p.2) (record { is = end_refused c.args.self.f.now c.args.self.d c.args.start _ c.in_err-end.ensures.is; inside = tt })

pub returns-then-gso_at : goal.returns-then-gso_at
returns-then-gso_at c =
    let e = end_at c.args.self.f.now c.args.self.d c.args.start _ c.in_ok-end.ensures.is c.gso_at.result c.gso_at.ensures in
    record { is = ap (λ (b : Bool). cond b broken (Ok c.in_ok-end.end)) (sym c.if-gso_at.true) ∙ e; inside = tt }

pub returns : goal.returns
returns c =
    let e = end_at c.args.self.f.now c.args.self.d c.args.start _ c.in_ok-end.ensures.is c.gso_at.result c.gso_at.ensures in
    record { is = ap (λ (b : Bool). cond b broken (Ok c.in_ok-end.end)) (sym c.if-gso_at.false) ∙ e; inside = c.in_ok-end.ensures.inside }
