-- Numbers and tables of bytes, one step at a time from the front.
use mathlib.Core.Path.{◌≡◌, refl, sym, ap, ◌∙◌}
use mathlib.Core.List.{List, ◌∷◌, ◌++◌}
use Prim.Native.Nat.{ℕ, zero, suc, ◌+◌, ◌-◌, ◌*◌, ◌<◌}
use native.Mathlib.Nat.{add-zero, zero-add, sub-zero}
use native.Mathlib.Omega.{arith}
use lib.ListN.{length}
use Rattle.format.specs.Slot.{fill}
use Rattle.format.specs.Number.{Order, num, num_slots, tab}
use Rattle.format.specs.Grammar.{read_times, all_slots, number}
use Rattle.format.proofs.WriteLaws.{fill_append}
use Rattle.write_tables.proofs.MarkLaws.{numbers_fill}

left : (n i : ℕ) → i < n → n - i ≡ suc (n - (i + 1))
left n i b = omega arith

pub fill_wide : (o : Order) (n : ℕ) → length (fill (num_slots o 4 n)) ≡ 4
fill_wide o n = refl

module _ (o z : Order) (f : List ℕ) (n i p : ℕ) (b : i < n) where
  step : p + i * 4 + 4 ≡ p + (i + 1) * 4
  step = omega arith

  pub numbers_next : (x : ℕ) → x ≡ num o 4 f (p + i * 4)
      → numbers_fill o z f (n - i) (p + i * 4) ≡ fill (num_slots z 4 x) ++ numbers_fill o z f (n - (i + 1)) (p + (i + 1) * 4)
  numbers_next x e =
      rw (left n i b, e)
      (fill_append (num_slots z 4 (num o 4 f (p + i * 4))) (all_slots (number z 4) (read_times (number o 4) (n - (i + 1)) f (p + i * 4 + 4)))
      ∙ ap (λ (q : ℕ). fill (num_slots z 4 (num o 4 f (p + i * 4))) ++ numbers_fill o z f (n - (i + 1)) q) step)

tab_ext : {s t : ℕ → ℕ} (n : ℕ) → ((i : ℕ) → s i ≡ t i) → tab n s ≡ tab n t
tab_ext zero h = refl
tab_ext {s = s} {t = t} (suc n) h = ap (λ (x : ℕ). x ∷ tab n (λ i. s (suc i))) (h zero) ∙ ap (λ (l : List ℕ). t zero ∷ l) (tab_ext n (λ i. h (suc i)))

pub tab_turn : (s : ℕ → ℕ) (n j : ℕ) → j < n → tab (n - j) (λ i. s (j + i)) ≡ s j ∷ tab (n - (j + 1)) (λ i. s (j + 1 + i))
tab_turn s n j h = rw (left n j h, add-zero j) (ap (λ (l : List ℕ). s j ∷ l) (tab_ext (n - (j + 1)) (λ i. ap s (same i))))
  where
    same : (i : ℕ) → j + suc i ≡ j + 1 + i
    same i = omega arith

pub tab_start : (s : ℕ → ℕ) (n : ℕ) → tab n s ≡ tab (n - 0) (λ i. s (0 + i))
tab_start s n = rw sub-zero (tab_ext {s = s} {t = λ i. s (0 + i)} n (λ i. ap s (sym (zero-add i))))
