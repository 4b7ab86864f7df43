use mathlib.Core.Path.{sym, ap, ◌∙◌}
use mathlib.Core.Bool.{Bool, cond}
use mathlib.Core.List.{List, []}
use Prim.Native.Nat.{ℕ}
use native.Mathlib.Omega.{arith}
use Rattle.format.specs.Grammar.{tag}
use Rattle.section.proofs.StepLaws.{numbered_right, numbered_wrong, tag_room}
use Rattle.section.proofs.SeqLaws.{tag_right, tag_none}
use Rattle.section.proofs.TagLaws.{numbered_by}
use Rattle.section.proofs.tag_if.Goals as goal

pub returns-then-not-there : goal.returns-then-not-there
returns-then-not-there c =
    let a = c.args in
    numbered_by a.c a.f.now a.p _ (sym (ap (λ (b : Bool). cond {A = List ℕ} b a.t.now []) c.if-not-there.true))
    (numbered_right (tag [] a.c) a.f.now a.p _ (tag_none a.c a.f.now a.p c.requires))

pub returns-then-code-ne0 : goal.returns-then-code-ne0
returns-then-code-ne0 c =
    let a = c.args in
    numbered_by a.c a.f.now a.p _ (sym (ap (λ (b : Bool). cond {A = List ℕ} b a.t.now []) c.if-not-there.false))
    (numbered_wrong (tag a.t.now a.c) a.f.now a.p _ c.tag_at-code.ensures c.if-code-ne0.true)

pub overflow_add-result : goal.overflow_add-result
overflow_add-result c =
    let a = c.args in
    omega (arith, tag_room a.t.now a.c a.f.now a.p (sym c.tag_at-code.ensures ∙ c.if-code-ne0.false))

pub returns : goal.returns
returns c =
    let a = c.args in
    numbered_by a.c a.f.now a.p _ (sym (ap (λ (b : Bool). cond {A = List ℕ} b a.t.now []) c.if-not-there.false))
    (numbered_right (tag a.t.now a.c) a.f.now a.p _ (tag_right a.t.now a.c a.f.now a.p (sym c.if-code-ne0.false ∙ c.tag_at-code.ensures)))
