-- Beginnings of an accepted file.
use mathlib.Core.Path.{◌≡◌, refl, sym, ◌∙◌}
use Prim.Native.Nat.{ℕ, zero, suc, ◌+◌, ◌≤◌}
use native.Mathlib.Nat.{add-zero}
use native.Mathlib.Omega.{arith}
use mathlib.Core.List.{List, [], ◌∷◌}
use mathlib.Core.Logic.{◌⊎◌, inl, inr}
use mathlib.Core.Bool.{Bool, true, false, cond, true≢false}
use lib.ListN.{length, get_or, take}
use lib.Dec.{eqb}
use borrow.Author.Tests.{eqb-true, eq-eqb}
use Rattle.format.specs.Slot.{Bytes}
use Rattle.format.specs.Grammar.{Sect, sizes, each_size, member}
use Rattle.format.specs.Labels.{LabelBlock, block}
use Rattle.format.specs.Dta.{sums, edition_of, order_of, dataset_of, layout_of, verdict, cuts}
use Rattle.format.proofs.AreaLaws.{or_cases, or_left, or_right}
use Rattle.format.proofs.Theorems.{cut_files}
use Rattle.std.specs.Prelude.{Result}
use Rattle.refusal.specs.declared.Refusal.{Refusal}
use Rattle.refusal.specs.Refusals.{code_of}
use Rattle.checking.specs.declared.Layout.{Layout}
use Rattle.checking.specs.Checks.{Checks}
use Rattle.demands.specs.Cuts.{CutGiven}

-- sections from p on, and the places where they end: after none of them, after one, ..
module _ {A : Type 0} (S : Sect A) where
  EndOf : List A → ℕ → ℕ → Type 0
  EndOf l p n = (m : ℕ) × (m ≤ length l) × (n ≡ p + sizes S (take m l))

  ends_of : (l : List A) (p n : ℕ) → member n (sums p (each_size S l)) ≡ true → EndOf l p n
  unfolding EndOf
  ends_of [] p n h = go (or_cases (eqb n p) false h)
    where
      go : (eqb n p ≡ true) ⊎ (false ≡ true) → (m : ℕ) × (m ≤ 0) × (n ≡ p + sizes S (take m []))
      go (inl q) = (0, omega arith, eqb-true n p q ∙ sym (add-zero p))
      go (inr q) = absurd (true≢false (sym q))
  ends_of (a ∷ l) p n h = go (or_cases (eqb n p) (member n (sums (p + S.size a) (each_size S l))) h) (ends_of l (p + S.size a) n)
    where
      go : (eqb n p ≡ true) ⊎ (member n (sums (p + S.size a) (each_size S l)) ≡ true)
          → (member n (sums (p + S.size a) (each_size S l)) ≡ true → (m : ℕ) × (m ≤ length l) × (n ≡ p + S.size a + sizes S (take m l)))
          → (m : ℕ) × (m ≤ suc (length l)) × (n ≡ p + sizes S (take m (a ∷ l)))
      go (inl q) ih = (0, omega arith, eqb-true n p q ∙ sym (add-zero p))
      go (inr q) ih = let i = ih q in (suc i.0, omega (arith, i.1), omega (arith, i.2))

  end_in : (l : List A) (p n m : ℕ) → m ≤ length l → n ≡ p + sizes S (take m l) → member n (sums p (each_size S l)) ≡ true
  end_in [] p n zero b e = or_left (eqb n p) false (eq-eqb n p (e ∙ add-zero p))
  end_in [] p n (suc m) b e = absurd (omega arith)
  end_in (a ∷ l) p n zero b e = or_left (eqb n p) _ (eq-eqb n p (e ∙ add-zero p))
  end_in (a ∷ l) p n (suc m) b e = or_right (eqb n p) _ (end_in l (p + S.size a) n m (omega arith) (omega arith))

module _ (f : List ℕ) (u : Bytes f) (h : verdict f ≡ 0) (n : ℕ) (s : n ≤ length f) (b : Result Layout Refusal) (C : Checks (take n f) b) where
  abbrev S : Sect LabelBlock
  S = block (edition_of f).tagged (order_of f) (edition_of f).name_width

  -- accepted exactly at a cut
  at_cut : code_of b ≡ 0 → member n (cuts f) ≡ true
  at_cut z = (cut_files f u h n s).to (sym C.code ∙ z)

  of_cut : member n (cuts f) ≡ true → code_of b ≡ 0
  of_cut m = C.code ∙ (cut_files f u h n s).from m

  -- the cuts of a tagged file, and of an untagged one
  whole_cut : (edition_of f).tagged ≡ true → member n (cuts f) ≡ member n (length f ∷ [])
  unfolding cuts
  whole_cut t = rw t

  block_cut : (edition_of f).tagged ≡ false → cuts f ≡ sums (get_or (layout_of f).places 11 0) (each_size S (dataset_of f).label_blocks)
  unfolding cuts
  block_cut t = pick (edition_of f).tagged _ _ t
    where
      pick : (t : Bool) (x y : List ℕ) → t ≡ false → cond t x y ≡ y
      pick true x y q = absurd (true≢false q)
      pick false x y q = refl

  pub cut_given : CutGiven f n b
  unfolding EndOf
  cut_given =
      record {
        tagged = λ t. (λ z. whole (or_cases (eqb n (length f)) false (sym (whole_cut t) ∙ at_cut z)), λ e. of_cut (whole_cut t ∙ or_left (eqb n (length f)) false (eq-eqb n (length f) e)));
        untagged = λ t. (
          λ z. ends_of S (dataset_of f).label_blocks (get_or (layout_of f).places 11 0) n (rw (block_cut t) at (at_cut z)),
          λ e. of_cut (rw (block_cut t) (end_in S (dataset_of f).label_blocks (get_or (layout_of f).places 11 0) n e.0 e.1 e.2)),
        );
      }
    where
      whole : (eqb n (length f) ≡ true) ⊎ (false ≡ true) → n ≡ length f
      whole (inl q) = eqb-true n (length f) q
      whole (inr q) = absurd (true≢false (sym q))
