use mathlib.Core.Path.{ap}
use mathlib.Core.List.{[], ◌∷◌}
use Prim.Native.Nat.{ℕ, ◌+◌, ◌*◌}
use native.Mathlib.Omega.{arith}
use Rattle.writing.proofs.Chain.{puts_first, puts_part, puts_of}
use Rattle.set_list.specs.Sets.{entries_to}
use Rattle.set_list.proofs.EntryLaws.{puts_as}
use Rattle.set_list.proofs.put_set.Goals as goal

pub returns : goal.returns
returns c =
    let a = c.args in
    let y = c.put_entries in
    let first = puts_first (puts_as (ap (λ (z : ℕ). a.a ∷ z ∷ a.n ∷ []) c.text_len-k.ensures.is) c.put_three.ensures) (omega arith) in
    (record { all = λ u U. puts_of (puts_part first (entries_to u (a.p + 8 + a.n * 4 + a.n * 4) a.n) y.new.out (a.n * 3) (y.ensures.0.all u U) (omega arith)) }, y.ensures.1)
