-- The numbers of variables, and their label sets.
use mathlib.Core.Path.{◌≡◌, refl, sym, ap, ◌∙◌}
use Prim.Native.Nat.{ℕ, zero, suc, ◌-◌}
use native.Mathlib.Omega.{arith}
use borrow.Author.Tests.{eq-eqb, ne_eqb}
use Rattle.std.specs.Prelude.{Option, Some, Result, Ok, Err}
use Rattle.refusal.specs.declared.Refusal.{Refusal}
use Rattle.refusal.specs.Refusals as Refusals
use Rattle.answers.specs.declared.Part.{Part}
use Rattle.walks.specs.declared.LabelSet.{LabelSet}
use Rattle.set_tables.specs.Tables.{table_of, number_of}

-- ---- the label set of a number

module _ (c : Result (Unit {0}) Refusal) where
  pub table_as : (x y : ℕ) (r : Result (Option LabelSet) Refusal) → r ≡ table_of c y → x ≡ y → r ≡ table_of c x
  table_as x y r e h = e ∙ ap (table_of c) (sym h)

  pub table_at : (x : ℕ) → (x ≡ 0 → ⊥) → (x ≡ 1 → ⊥) → (x ≡ 2 → ⊥) → (x ≡ 3 → ⊥) → ◌≡◌ {A = Result (Option LabelSet) Refusal} (Ok (Some (record { at = x - 4; len = 0 }))) (table_of c x)
  table_at zero p q r s = absurd (p refl)
  table_at (suc zero) p q r s = absurd (q refl)
  table_at (suc (suc zero)) p q r s = absurd (r refl)
  table_at (suc (suc (suc zero))) p q r s = absurd (s refl)
  table_at (suc (suc (suc (suc y)))) p q r s = let e : suc (suc (suc (suc y))) - 4 ≡ y = omega arith in ap (λ (x : ℕ). table_of c (suc (suc (suc (suc x))))) e

-- ---- the number of a part

module _ (e : Refusal) where
  pub number_out : Refusals.number_of e ≡ 16 → 1 ≡ number_of (Err e)
  number_out h = rw (eq-eqb (Refusals.number_of e) 16 h)

  pub number_shut : (Refusals.number_of e ≡ 16 → ⊥) → 2 ≡ number_of (Err e)
  number_shut h = rw (ne_eqb (Refusals.number_of e) 16 h)

module _ (p : Part) where
  pub number_empty : p.len ≡ 0 → 3 ≡ number_of (Ok p)
  number_empty h = rw (eq-eqb p.len 0 h)

  pub number_named : (p.len ≡ 0 → ⊥) → 0 ≡ number_of (Ok p)
  number_named h = rw (ne_eqb p.len 0 h)
