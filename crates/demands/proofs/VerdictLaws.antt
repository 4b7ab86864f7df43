-- A verdict by cases: 1, 2, or what the sections give.
use mathlib.Core.Path.{◌≡◌, refl, sym, ◌∙◌}
use Prim.Native.Nat.{ℕ, ◌≤◌, ◌<◌}
use native.Mathlib.Omega.{arith}
use mathlib.Core.List.{List}
use mathlib.Core.Logic.{◌⊎◌, inl, inr}
use mathlib.Core.Bool.{Bool, true, false, ◌&&◌}
use lib.ListN.{length}
use lib.Dec.{eqb, leb}
use borrow.Author.Tests.{eqb-true, leb-true, leb-false, le-leb, lt-leb, ne_eqb}
use Rattle.format.specs.Dta.{file, known, edition_of, order_of, verdict, no_layout, layout_of, length_max}
use Rattle.format.proofs.Good.{and_left, and_right}
use Rattle.format.proofs.AreaLaws.{or_cases}
use Rattle.demands.specs.Places.{BeforeHeader}
use Rattle.demands.proofs.NumberLaws.{listed, known_listed}

-- what is listed
list_of : (c : ℕ) → listed c ≡ true → (c ≡ 0) ⊎ ((3 ≤ c) × (c ≤ 13))
list_of c h = go (or_cases (eqb c 0) (leb 3 c && leb c 13) h)
  where
    go : (eqb c 0 ≡ true) ⊎ ((leb 3 c && leb c 13) ≡ true) → (c ≡ 0) ⊎ ((3 ≤ c) × (c ≤ 13))
    go (inl x) = inl (eqb-true c 0 x)
    go (inr x) = inr (leb-true 3 c (and_left (leb 3 c) (leb c 13) x), leb-true c 13 (and_right (leb 3 c) (leb c 13) x))

module _ (f : List ℕ) where
  pub long_verdict : length_max < length f → verdict f ≡ 1
  unfolding verdict
  long_verdict b = rw (lt-leb (length f) length_max b)

  pub unknown_verdict : length f ≤ length_max → known f ≡ false → verdict f ≡ 2
  unfolding verdict
  unknown_verdict b k = rw (le-leb (length f) length_max b, k)

  pub first_verdict : length f ≤ length_max → known f ≡ true → verdict f ≡ (file (edition_of f) (order_of f)).judge f 0
  unfolding verdict
  first_verdict b k = rw (le-leb (length f) length_max b, k)

  -- the three cases of a verdict
  data Case : Type 0 where
    long : length_max < length f → verdict f ≡ 1 → Case
    unknown : length f ≤ length_max → known f ≡ false → verdict f ≡ 2 → Case
    first : length f ≤ length_max → known f ≡ true → (verdict f ≡ 0) ⊎ ((3 ≤ verdict f) × (verdict f ≤ 13)) → Case

  case : Case
  case = go (leb (length f) length_max) refl (known f) refl
    where
      go : (a : Bool) → leb (length f) length_max ≡ a → (b : Bool) → known f ≡ b → Case
      go false p b q = let l = leb-false (length f) length_max p in long l (long_verdict l)
      go true p false q = let l = leb-true (length f) length_max p in unknown l q (unknown_verdict l q)
      go true p true q =
          let l = leb-true (length f) length_max p in
          first l q (rw (first_verdict l q) (list_of ((file (edition_of f) (order_of f)).judge f 0) (known_listed f q)))

  pub verdict_number : verdict f ≤ 13
  verdict_number = go case
    where
      go : Case → verdict f ≤ 13
      go (long b q) = omega (arith, q)
      go (unknown b k q) = omega (arith, q)
      go (first b k (inl q)) = omega (arith, q)
      go (first b k (inr q)) = q.1

  pub is_long : verdict f ≡ 1 → length_max < length f
  is_long h = go case
    where
      go : Case → length_max < length f
      go (long b q) = b
      go (unknown b k q) = absurd (omega (arith, h, q))
      go (first b k (inl q)) = absurd (omega (arith, h, q))
      go (first b k (inr q)) = absurd (omega (arith, h, q.0))

  pub is_unknown : verdict f ≡ 2 → (length f ≤ length_max) × (known f ≡ false)
  is_unknown h = go case
    where
      go : Case → (length f ≤ length_max) × (known f ≡ false)
      go (long b q) = absurd (omega (arith, h, q))
      go (unknown b k q) = (b, k)
      go (first b k (inl q)) = absurd (omega (arith, h, q))
      go (first b k (inr q)) = absurd (omega (arith, h, q.0))

  pub no_layout_lem : (verdict f ≡ 0 → ⊥) → layout_of f ≡ no_layout
  unfolding layout_of
  no_layout_lem h = rw (ne_eqb (verdict f) 0 h)

  -- a number from 3 on is the sections'
  pub past_start : (c : ℕ) → 3 ≤ c → verdict f ≡ c → BeforeHeader (edition_of f) (order_of f) f × ((file (edition_of f) (order_of f)).judge f 0 ≡ c)
  past_start c w h = go case
    where
      go : Case → BeforeHeader (edition_of f) (order_of f) f × ((file (edition_of f) (order_of f)).judge f 0 ≡ c)
      go (long b q) = absurd (omega (arith, w, q, h))
      go (unknown b k q) = absurd (omega (arith, w, q, h))
      go (first b k q) = ((b, k), sym (first_verdict b k) ∙ h)
