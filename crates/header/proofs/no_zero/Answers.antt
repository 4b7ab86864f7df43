use mathlib.Core.Path.{refl, sym, ap, ◌∙◌}
use Prim.Native.Nat.{ℕ, ◌+◌}
use lib.ListN.{get_or}
use lib.Dec.{eqb}
use Rattle.header.proofs.NumberLaws.{no_zero_by}
use Rattle.header.proofs.no_zero.Goals as goal

pub returns : goal.returns
returns c =
    let a = c.args in
    ap (λ (x : ℕ). eqb x a.n) c.text_len.ensures.is ∙ sym (no_zero_by a.n a.f.now a.p (λ i. get_or a.f.now (a.p + i) 0) (λ i. refl))
