-- A row of good sections of known widths is good.
use mathlib.Core.Path.{◌≡◌, refl, sym, ap, ◌∙◌, subst}
use Prim.Native.Nat.{ℕ, zero, suc, ◌+◌, ◌*◌, ◌≤◌, ◌<◌}
use native.Mathlib.Omega.{arith}
use mathlib.Core.List.{List, [], ◌∷◌, ◌++◌}
use lib.ListN.{length, get_or, length-append}
use Rattle.format.specs.Slot.{Slot, Fits, Bytes}
use Rattle.format.specs.Grammar.{Sect, also, next, row_slots, row_size, RowRight, judge_row, read_row, row, row_width, within, times}
use Rattle.format.proofs.SlotLaws.{fits_bound, fits_left, Small, small_append}
use Rattle.format.proofs.Good.{Good, also_left, also_right, also_both, good_bound, good_right, good_append, within_good, times_good, times_size}

module _ {A B : Type 0} (S : A → Sect B) (w : A → ℕ) (wide : (a : A) (b : B) → (S a).Right b → (S a).size b ≡ w a) (G : (a : A) → Good (w a) ◌≤◌ (S a)) where
  row_sized : (k : List A) (l : List B) → length (row_slots S k l) ≡ row_size S k l
  row_sized [] [] = refl
  row_sized [] (b ∷ l) = refl
  row_sized (a ∷ k) [] = refl
  row_sized (a ∷ k) (b ∷ l) = length-append ((S a).slots b) (row_slots S k l) ∙ rw ((G a).sized b, row_sized k l)

  row_small : (k : List A) (l : List B) → RowRight S k l → Small (row_slots S k l)
  row_small [] [] r = tt
  row_small [] (b ∷ l) r = absurd r
  row_small (a ∷ k) [] r = absurd r
  row_small (a ∷ k) (b ∷ l) r = small_append ((S a).slots b) (row_slots S k l) ((G a).small b r.0) (row_small k l r.1)

  pub row_wide : (k : List A) (l : List B) → RowRight S k l → row_size S k l ≡ row_width w k
  row_wide [] [] r = refl
  row_wide [] (b ∷ l) r = absurd r
  row_wide (a ∷ k) [] r = absurd r
  row_wide (a ∷ k) (b ∷ l) r = omega (arith, wide a b r.0, row_wide k l r.1)

  row_complete : (k : List A) (l : List B) (f : List ℕ) (p : ℕ) → RowRight S k l → Fits f p (row_slots S k l) → (judge_row S k f p ≡ 0) × (read_row S k f p ≡ l)
  row_complete [] [] f p r m = (refl, refl)
  row_complete [] (b ∷ l) f p r m = absurd r
  row_complete (a ∷ k) [] f p r m = absurd r
  row_complete (a ∷ k) (b ∷ l) f p r m =
      let h = fits_left f p ((S a).slots b) (row_slots S k l) m in
      let c = (G a).complete f p b r.0 h (good_bound (S a) (G a) f p b h) in
      let g = row_complete k l f (p + (S a).size b) r.1 (good_right (S a) (G a) f p b (row_slots S k l) m) in
      (also_both ((S a).judge f p) (judge_row S k f (next (S a) f p)) c.accepted (rw c.read_back g.0), rw c.read_back (λ i. b ∷ g.1 i))

  row_sound : (k : List A) (f : List ℕ) (p : ℕ) → Bytes f → p + row_width w k ≤ length f → judge_row S k f p ≡ 0
      → (RowRight S k (read_row S k f p)) × (Fits f p (row_slots S k (read_row S k f p)))
  row_sound [] f p u l j = (tt, omega arith)
  row_sound (a ∷ k) f p u l j =
      let c = (G a).sound f p u (omega arith) (also_left ((S a).judge f p) (judge_row S k f (next (S a) f p)) j) in
      let g = row_sound k f (next (S a) f p) u (omega (arith, wide a ((S a).read f p) c.right)) (also_right ((S a).judge f p) (judge_row S k f (next (S a) f p)) j) in
      ((c.right, g.0), good_append (S a) (G a) f p ((S a).read f p) (row_slots S k (read_row S k f (next (S a) f p))) c.fits g.1)

  pub row_of_good : (k : List A) → Good (row_width w k) ◌≤◌ (row S k)
  row_of_good k =
      record {
        sized = row_sized k;
        small = row_small k;
        complete = λ f p l r m e. (let c = row_complete k l f p r m in record { accepted = c.0; read_back = c.1 });
        sound = λ f p u l j. (let c = row_sound k f p u l j in
            record { right = c.0; fits = c.1; ends = rw (row_sized k (read_row S k f p)) at (fits_bound f p (row_slots S k (read_row S k f p)) c.1) });
      }

  -- n rows: the data of a file
  pub rows_good : (k : List A) (n : ℕ) → Good 0 ◌≤◌ (within (n * row_width w k) (times (row S k) n))
  rows_good k n =
      within_good _ (times_good (row S k) (row_wide k) (row_of_good k) n)
      (λ l r. times_size (row S k) (row_wide k) (row_of_good k) l r.1 ∙ ap (λ (x : ℕ). x * row_width w k) r.0)
