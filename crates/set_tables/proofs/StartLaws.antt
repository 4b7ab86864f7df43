-- The numbers of variables before a block is looked at, stored one after another.
use mathlib.Core.Path.{◌≡◌, refl, ap, ◌∙◌}
use Prim.Native.Nat.{ℕ, ◌+◌, ◌≤◌, ◌<◌}
use native.Mathlib.Omega.{arith}
use mathlib.Core.List.{List}
use mathlib.Core.Bool.{Bool, true, false}
use lib.ListN.{length, get_or, set, length-set}
use lib.Seq.{get_or-set_same, get_or-set_other}
use lib.Dec.{eqb}
use borrow.Author.Tests.{eqb-true, eqb-false}
use Rattle.format.specs.Dta.{Layout}
use Rattle.questions.specs.Ask.{answer_of, ask_set}
use Rattle.std.specs.Prelude.{Result}
use Rattle.refusal.specs.declared.Refusal.{Refusal}
use Rattle.answers.specs.declared.Part.{Part}
use Rattle.answers.specs.Answers.{part_by}
use Rattle.set_tables.specs.Tables.{number_of, Started}

-- those of the first k are stored
pub record Starting (f : List ℕ) (l : Layout) (v : List ℕ) (k : ℕ) (t : List ℕ) : Type 0 where
  pub long : length t ≡ 32768
  pub each : (m : ℕ) → m < k → get_or t m 0 ≡ number_of (part_by (answer_of f l (ask_set (get_or v m 0))))

module _ (f : List ℕ) (l : Layout) (v t : List ℕ) where
  pub starting_none : length t ≡ 32768 → Starting f l v 0 t
  starting_none h = record { long = h; each = λ m i. absurd (omega arith) }

  module _ (k : ℕ) (S : Starting f l v k t) where
    pub starting_on : k < 32768 → (p : Result Part Refusal) → p ≡ part_by (answer_of f l (ask_set (get_or v k 0))) → (x : ℕ) → x ≡ number_of p → Starting f l v (k + 1) (set t k x)
    starting_on h p P x X = record { long = simp length-set S.long; each = λ m i. go m (eqb m k) refl i }
      where
        go : (m : ℕ) (b : Bool) → eqb m k ≡ b → m < k + 1 → get_or (set t k x) m 0 ≡ number_of (part_by (answer_of f l (ask_set (get_or v m 0))))
        go m true e i = rw (eqb-true m k e) (get_or-set_same t k x 0 (omega (arith, S.long)) ∙ X ∙ ap number_of P)
        go m false e i = let d = eqb-false m k e in get_or-set_other t k m x 0 d ∙ S.each m (omega arith)

    pub starting_all : length v ≤ k → Started f l v t
    starting_all h = record { long = S.long; each = λ m i. S.each m (omega arith) }
