-- Variables listed in the order of their names: whether they are, and how many stand before a text.
use mathlib.Core.Path.{◌≡◌, refl, sym, ap, ◌∙◌}
use Prim.Native.Nat.{ℕ, suc, ◌+◌, ◌-◌, ◌≤◌, ◌<◌}
use native.Mathlib.Omega.{arith}
use mathlib.Core.List.{List}
use mathlib.Core.Bool.{Bool, true, false, false≢true}
use lib.ListN.{length}
use Rattle.format.specs.Dta.{Layout}
use Rattle.questions.specs.Ask.{slice}
use Rattle.answers.specs.declared.Part.{Part}
use Rattle.set_names.specs.Names.{IsName, name_of, less, name_at, ordered_to, in_order, IsFirst}
use Rattle.set_names.proofs.OrderLaws.{le_less, le_le, ordered_next, ordered_far}

module _ {f : List ℕ} {l : Layout} {i : ℕ} {x : Part} (X : IsName f l i x) where
  -- a name compared with a text, by its bytes
  pub named_less : (s : List ℕ) (r : Bool) → r ≡ less (slice f x.at x.len) s → r ≡ less (name_of f l i) s
  named_less s r e = e ∙ ap (λ (t : List ℕ). less t s) X.is

  -- .. and with another
  pub names_less : {j : ℕ} {y : Part} → IsName f l j y → (r : Bool) → r ≡ less (slice f x.at x.len) (slice f y.at y.len) → r ≡ less (name_of f l i) (name_of f l j)
  names_less {j} {y} Y r e = named_less (slice f y.at y.len) r e ∙ ap (λ (t : List ℕ). less (name_of f l i) t) Y.is

module _ (f : List ℕ) (l : Layout) (v : List ℕ) where
  -- ---- whether they are

  -- the first k are in order
  pub record Ordered (k : ℕ) : Type 0 where
    pub some : 0 < k
    pub upto : k - 1 ≤ length v - 1
    pub is : ordered_to f l v (k - 1) ≡ true

  pub ordered_start : Ordered 1
  unfolding ordered_to
  ordered_start = record { some = omega arith; upto = omega arith; is = refl }

  ordered_on : (n : ℕ) → ordered_to f l v n ≡ true → less (name_at f l v (suc n)) (name_at f l v n) ≡ false → ordered_to f l v (suc n) ≡ true
  unfolding ordered_to
  ordered_on n h e = rw (h, e)

  module _ (k : ℕ) (O : Ordered k) where
    pub ordered_end : length v ≤ k → true ≡ in_order f l v
    ordered_end h =
        let e : k - 1 ≡ length v - 1 = omega (arith, O.some, O.upto, h) in
        sym O.is ∙ ap (ordered_to f l v) e

    module _ (h : k < length v) (r : Bool) (R : r ≡ less (name_at f l v k) (name_at f l v (k - 1))) where
      stands : less (name_at f l v (suc (k - 1))) (name_at f l v (k - 1)) ≡ r
      stands =
          let e : suc (k - 1) ≡ k = omega (arith, O.some) in
          ap (λ (n : ℕ). less (name_at f l v n) (name_at f l v (k - 1))) e ∙ sym R

      pub ordered_more : r ≡ false → Ordered (k + 1)
      ordered_more z =
          let e : suc (k - 1) ≡ k + 1 - 1 = omega (arith, O.some) in
          record { some = omega arith; upto = omega (arith, h); is = ap (ordered_to f l v) (sym e) ∙ ordered_on (k - 1) O.is (stands ∙ z) }

      pub ordered_not : r ≡ true → false ≡ in_order f l v
      ordered_not z = go (in_order f l v) refl
        where
          go : (t : Bool) → in_order f l v ≡ t → false ≡ in_order f l v
          go true e = absurd (false≢true (sym (ordered_next f l v (length v - 1) e (k - 1) (omega (arith, O.some, h))) ∙ stands ∙ z))
          go false e = sym e

  -- ---- how many stand before s

  module _ (s : List ℕ) where
    -- those before low do, and those from high on do not
    pub record Halved (low high : ℕ) : Type 0 where
      pub between : low ≤ high
      pub upto : high ≤ length v
      pub before : (k : ℕ) → k < low → less (name_at f l v k) s ≡ true
      pub after : (k : ℕ) → high ≤ k → k < length v → less (name_at f l v k) s ≡ false

    pub halved_start : Halved 0 (length v)
    halved_start = record { between = omega arith; upto = omega arith; before = λ k b. absurd (omega (arith, b)); after = λ k a b. absurd (omega (arith, a, b)) }

    module _ {low high : ℕ} (H : Halved low high) where
      pub halved_end : high ≤ low → IsFirst f l v s low
      halved_end h = record { upto = omega (arith, H.between, H.upto); before = H.before; after = λ k a b. H.after k (omega (arith, a, h)) b }

      module _ (h : in_order f l v ≡ true) (m : ℕ) (a : low ≤ m) (b : m < high) (r : Bool) (R : r ≡ less (name_at f l v m) s) where
        pub halved_up : r ≡ true → Halved (m + 1) high
        halved_up z =
            record {
              between = omega (arith, b);
              upto = H.upto;
              before = λ k c. le_less (name_at f l v k) (name_at f l v m) s (ordered_far f l v h k m (omega (arith, c)) (omega (arith, b, H.upto))) (sym R ∙ z);
              after = H.after;
            }

        pub halved_down : r ≡ false → Halved low m
        halved_down z =
            record {
              between = a;
              upto = omega (arith, b, H.upto);
              before = H.before;
              after = λ k c d. le_le s (name_at f l v m) (name_at f l v k) (sym R ∙ z) (ordered_far f l v h m k c d);
            }
