use mathlib.Core.Path.{sym, ap, ◌∙◌}
use Prim.Native.Nat.{ℕ, ◌+◌}
use native.Mathlib.Omega.{arith}
use Rattle.format.specs.Number.{order_by, num}
use Rattle.expansion.proofs.BlockLaws.{contents_short, contents_zero, contents_cut, contents_right}
use Rattle.expansion.proofs.contents.Goals as goal

pub returns-then-f-p : goal.returns-then-f-p
returns-then-f-p c =
    let a = c.args in
    let w = c.kind_width-k.ensures.0 in
    contents_short a.tagged (order_by a.msf) a.f.now a.p (omega arith)

pub returns-then-kind_zero : goal.returns-then-kind_zero
returns-then-kind_zero c =
    let a = c.args in
    let w = c.kind_width-k.ensures.0 in
    contents_zero a.tagged (order_by a.msf) a.f.now a.p (omega arith) (sym c.kind_zero.ensures ∙ c.if-kind_zero.true)

pub returns-then-f-q : goal.returns-then-f-q
returns-then-f-q c =
    let a = c.args in
    let w = c.kind_width-k.ensures.0 in
    let v = c.number-n.ensures.is ∙ ap (λ (k : ℕ). num (order_by a.msf) 4 a.f.now (a.p + k)) w in
    contents_cut a.tagged (order_by a.msf) a.f.now a.p (omega arith) (sym c.kind_zero.ensures ∙ c.if-kind_zero.false)
    (a.p + c.kind_width-k.result + 4) c.number-n.result (omega arith) v (omega arith)

pub returns : goal.returns
returns c =
    let a = c.args in
    let w = c.kind_width-k.ensures.0 in
    let v = c.number-n.ensures.is ∙ ap (λ (k : ℕ). num (order_by a.msf) 4 a.f.now (a.p + k)) w in
    contents_right a.tagged (order_by a.msf) a.f.now a.p (omega arith) (sym c.kind_zero.ensures ∙ c.if-kind_zero.false)
    (a.p + c.kind_width-k.result + 4) c.number-n.result (omega arith) v (omega arith)
