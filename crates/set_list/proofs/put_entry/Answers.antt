use mathlib.Core.Path.{ap, ◌∙◌}
use mathlib.Core.List.{[], ◌∷◌}
use Prim.Native.Nat.{ℕ, ◌+◌, ◌-◌}
use lib.ListN.{length}
use Rattle.format.specs.Grammar.{text_at}
use Rattle.set_list.proofs.EntryLaws.{puts_as}
use Rattle.set_list.proofs.put_entry.Goals as goal

pub returns : goal.returns
returns c =
    let a = c.args in
    let v = c.number-value.ensures.is in
    let y = c.number-y.ensures.is in
    let k = c.length_from-k.ensures.is ∙ ap (λ (z : ℕ). length (text_at (a.x - z) a.f.now (a.a + z))) y in
    puts_as (λ i. v i ∷ (a.a + y i) ∷ k i ∷ []) c.put_three.ensures
