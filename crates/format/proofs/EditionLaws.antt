-- The editions that are read: each is in the list, is found there by its number, and keeps to bounds.
use mathlib.Core.Path.{◌≡◌, refl, sym, ap, ◌∙◌}
use Prim.Native.Nat.{ℕ, ◌+◌, ◌≤◌, ◌<◌}
use mathlib.Core.List.{List, [], ◌∷◌}
use mathlib.Core.Logic.{◌⊎◌, inl, inr}
use mathlib.Core.Bool.{Bool, true, false, cond, ◌&&◌, ◌||◌, true≢false}
use lib.Dec.{eqb, leb, ltb}
use borrow.Author.Tests.{eqb-true, leb-true, ltb-true}
use Rattle.format.specs.Edition.{Edition, Release, r113, r114, r115, r117, r118, edition, releases, some, first, is_release, release_by}
use Rattle.format.proofs.Good.{and_left, and_right}

-- ---- the list

-- r is in the list
abbrev In : Release → List Release → Type 0
In r [] = ⊥
In r (s ∷ l) = (r ≡ s) ⊎ In r l

-- no edition is left out
listed : (r : Release) → In r releases
listed r113 = inl refl
listed r114 = inr (inl refl)
listed r115 = inr (inr (inl refl))
listed r117 = inr (inr (inr (inl refl)))
listed r118 = inr (inr (inr (inr (inl refl))))

-- each of the list passes a test
abbrev pub every : (Release → Bool) → List Release → Bool
every p [] = true
every p (r ∷ l) = p r && every p l

every_in : (p : Release → Bool) (l : List Release) → every p l ≡ true → (r : Release) → In r l → p r ≡ true
every_in p [] h r i = absurd i
every_in p (s ∷ l) h r (inl q) = ap p q ∙ and_left (p s) (every p l) h
every_in p (s ∷ l) h r (inr i) = every_in p l (and_right (p s) (every p l) h) r i

-- a test that the list passes, by computation, each edition passes
pub each : (p : Release → Bool) → every p releases ≡ true → (r : Release) → p r ≡ true
each p h r = every_in p releases h r (listed r)

-- what one edition alone passes finds it
sole_in : (p : Release → Bool) (r : Release) → p r ≡ true → ((s : Release) → p s ≡ true → s ≡ r) → (l : List Release) → In r l → (some p l ≡ true) × (first p l ≡ r)
sole_in p r t u [] i = absurd i
sole_in p r t u (s ∷ l) i = go (p s) refl i (sole_in p r t u l)
  where
    go : (b : Bool) → p s ≡ b → In r (s ∷ l) → (In r l → (some p l ≡ true) × (first p l ≡ r)) → (some p (s ∷ l) ≡ true) × (first p (s ∷ l) ≡ r)
    go true h i k = (rw h, rw h (u s h))
    go false h (inl q) k = absurd (true≢false (sym t ∙ ap p q ∙ h))
    go false h (inr j) k = rw h (k j)

pub sole : (p : Release → Bool) (r : Release) → p r ≡ true → ((s : Release) → p s ≡ true → s ≡ r) → (some p releases ≡ true) × (first p releases ≡ r)
sole p r t u = sole_in p r t u releases (listed r)

-- what some edition passes, the first that is found passes
found_in : (p : Release → Bool) (l : List Release) → some p l ≡ true → p (first p l) ≡ true
found_in p [] h = absurd (true≢false (sym h))
found_in p (r ∷ l) h = go (p r) refl h (found_in p l)
  where
    go : (b : Bool) → p r ≡ b → (b || some p l) ≡ true → (some p l ≡ true → p (first p l) ≡ true) → p (first p (r ∷ l)) ≡ true
    go true q k n = rw q q
    go false q k n = rw q (n k)

pub found : (p : Release → Bool) → some p releases ≡ true → p (first p releases) ≡ true
found p h = found_in p releases h

-- ---- their numbers

-- an edition is found by its number
pub number_back : (r : Release) → release_by (edition r).number ≡ r
number_back r113 = refl
number_back r114 = refl
number_back r115 = refl
number_back r117 = refl
number_back r118 = refl

pub number_read : (r : Release) → is_release (edition r).number ≡ true
number_read r = each (λ s. is_release (edition s).number) refl r

-- no two have one number
pub number_same : (r s : Release) → (edition r).number ≡ (edition s).number → r ≡ s
number_same r s h = sym (number_back r) ∙ ap release_by h ∙ number_back s

-- a number that is read is its edition's
pub number_is : (n : ℕ) → is_release n ≡ true → n ≡ (edition (release_by n)).number
number_is n h = eqb-true n (edition (release_by n)).number (found (λ r. eqb n (edition r).number) h)

-- ---- their widths

pub record Widths (e : Edition) : Type 0 where
  pub number_some : 0 < e.number
  pub number_most : e.number < 256
  -- bytes of N
  pub n_most : e.n_width ≤ 8
  -- dataset label
  pub label_most : e.label_max ≤ 320
  pub length_most : e.label_length ≤ 2
  -- fields of text
  pub name_least : 33 ≤ e.name_width
  pub name_most : e.name_width ≤ 129
  pub format_most : e.format_width ≤ 57
  pub var_label_most : e.var_label_width ≤ 321
  -- strL cells and records
  pub eight : e.v_width + e.o_width ≡ 8
  pub record_most : e.record_width ≤ 8

pub widths : (r : Release) → Widths (edition r)
widths r =
    record {
      number_some = ltb-true 0 _ (each (λ s. ltb 0 (edition s).number) refl r);
      number_most = ltb-true _ 256 (each (λ s. ltb (edition s).number 256) refl r);
      n_most = leb-true _ 8 (each (λ s. leb (edition s).n_width 8) refl r);
      label_most = leb-true _ 320 (each (λ s. leb (edition s).label_max 320) refl r);
      length_most = leb-true _ 2 (each (λ s. leb (edition s).label_length 2) refl r);
      name_least = leb-true 33 _ (each (λ s. leb 33 (edition s).name_width) refl r);
      name_most = leb-true _ 129 (each (λ s. leb (edition s).name_width 129) refl r);
      format_most = leb-true _ 57 (each (λ s. leb (edition s).format_width 57) refl r);
      var_label_most = leb-true _ 321 (each (λ s. leb (edition s).var_label_width 321) refl r);
      eight = eqb-true _ 8 (each (λ s. eqb ((edition s).v_width + (edition s).o_width) 8) refl r);
      record_most = leb-true _ 8 (each (λ s. leb (edition s).record_width 8) refl r);
    }
