-- The published search: what it depends on, what it finds, and how many values it compares.
use mathlib.Core.Path.{◌≡◌, refl, sym, ap, ◌∙◌, subst}
use mathlib.Core.Bool.{Bool, true, false, and-false}
use Prim.Native.Nat.{ℕ, zero, suc, ◌+◌, ◌-◌, ◌/◌, ◌<◌, ◌≤◌, ◌^◌}
use native.Mathlib.Nat.{pow-suc}
use native.Mathlib.Omega.{arith}
use borrow.Author.Tests.{lt-ltb, le-ltb, ltb-true, ltb-false}
use lib.Dec.{ltb}
use lib.IntN.{ℤ}
use lib.Signed.{lt_z}
use Rattle.format.specs.Search.{Slot, found, missing, lost, Searched, one_more, same_z, halve, search}
use Rattle.format.proofs.DeadSlots.{Iff}
use Rattle.format.proofs.OrderLaws.{same_yes, same_is, lt_not_le, lt_not_lt}

-- where a turn looks
abbrev pub middle : ℕ → ℕ → ℕ
middle lo hi = (lo + (hi - 1)) / 2

-- ---- only the first n values count

module _ (v u : ℕ → ℤ) (s t : ℕ → Bool) (x : ℤ) (n : ℕ) (same : (i : ℕ) → i < n → v i ≡ u i) (as-there : (i : ℕ) → i < n → s i ≡ t i) where
  halve_same : (k lo hi : ℕ) → hi ≤ n → halve v s x k lo hi ≡ halve u t x k lo hi
  halve_same zero lo hi l = refl
  halve_same (suc k) lo hi l = go (ltb lo hi) refl (halve_same k lo (middle lo hi)) (halve_same k (middle lo hi + 1) hi l)
    where
      go : (c : Bool) → ltb lo hi ≡ c → (middle lo hi ≤ n → halve v s x k lo (middle lo hi) ≡ halve u t x k lo (middle lo hi))
          → halve v s x k (middle lo hi + 1) hi ≡ halve u t x k (middle lo hi + 1) hi → halve v s x (suc k) lo hi ≡ halve u t x (suc k) lo hi
      go false e a b = rw e
      go true e a b =
          let z = ltb-true lo hi e in
          let h : middle lo hi < n = omega arith in
          rw (e, same (middle lo hi) h, as-there (middle lo hi) h, a (omega arith), b)

  pub search_same : search v s x n ≡ search u t x n
  search_same = halve_same n 0 n (omega arith)

-- ---- a turn: what holds of each of its ends holds of the search

module _ (v : ℕ → ℤ) (there : ℕ → Bool) (x : ℤ) (P : Searched → Type 0) (k lo hi : ℕ) where
  turn : P (record { slot = missing; compared = 0 })
      → (there (middle lo hi) ≡ false → P (record { slot = lost; compared = 0 }))
      → (lo < hi → v (middle lo hi) ≡ x → P (record { slot = found (middle lo hi); compared = 1 }))
      → (lo < hi → P (one_more (halve v there x k lo (middle lo hi))))
      → (lo < hi → P (one_more (halve v there x k (middle lo hi + 1) hi)))
      → P (halve v there x (suc k) lo hi)
  turn none gone here below above =
      go (ltb lo hi) refl (there (middle lo hi)) refl (same_z x (v (middle lo hi))) refl (lt_z x (v (middle lo hi))) refl
    where
      go : (a : Bool) → ltb lo hi ≡ a → (b : Bool) → there (middle lo hi) ≡ b → (c : Bool) → same_z x (v (middle lo hi)) ≡ c
          → (d : Bool) → lt_z x (v (middle lo hi)) ≡ d → P (halve v there x (suc k) lo hi)
      go false p b q c r d s = rw p none
      go true p false q c r d s = rw (p, q) (gone q)
      go true p true q true r d s = rw (p, q, r) (here (ltb-true lo hi p) (sym (same_is x (v (middle lo hi)) r)))
      go true p true q false r true s = rw (p, q, r, s) (below (ltb-true lo hi p))
      go true p true q false r false s = rw (p, q, r, s) (above (ltb-true lo hi p))

-- ---- a slot that is found has the value sought

-- every value is there
abbrev pub all : ℕ → Bool
all i = true

module _ (v : ℕ → ℤ) (x : ℤ) (n : ℕ) where
  -- where a search among n values may end
  abbrev pub Ends : Slot → Type 0
  Ends (found i) = (i < n) × (v i ≡ x)
  Ends missing = Unit {0}
  Ends lost = ⊥

  right : (k lo hi : ℕ) → hi ≤ n → Ends (halve v all x k lo hi).slot
  right zero lo hi h = tt
  right (suc k) lo hi h =
      turn v all x (λ s. Ends s.slot) k lo hi tt (λ e. let z : ◌≡◌ {A = ℕ} 0 1 = cc in omega arith) (λ l e. (omega arith, e))
      (λ l. right k lo (middle lo hi) (omega arith)) (λ l. right k (middle lo hi + 1) hi h)

  pub search_ends : Ends (search v all x n).slot
  search_ends = right n 0 n (omega arith)

  ends : {s : Slot} → (search v all x n).slot ≡ s → Ends s
  ends e = subst Ends e search_ends

-- ---- in a table that ascends, a value is found

module _ (v : ℕ → ℤ) (x : ℤ) (n : ℕ) (ascends : (i j : ℕ) → i < j → j < n → lt_z (v i) (v j) ≡ true) where
  -- a value that stands from lo on, below hi
  met : (k lo hi i : ℕ) → hi - lo ≤ k → hi ≤ n → lo ≤ i → i < hi → v i ≡ x → (halve v all x k lo hi).slot ≡ found i
  met zero lo hi i e h a b q = absurd (omega arith)
  met (suc k) lo hi i e h a b q =
      go (ltb i (middle lo hi)) refl (ltb (middle lo hi) i) refl
      (λ l. met k lo (middle lo hi) i (omega arith) (omega arith) a l q) (λ l. met k (middle lo hi + 1) hi i (omega arith) h (omega arith) b q)
    where
      go : (s : Bool) → ltb i (middle lo hi) ≡ s → (t : Bool) → ltb (middle lo hi) i ≡ t
          → (i < middle lo hi → (halve v all x k lo (middle lo hi)).slot ≡ found i)
          → (middle lo hi < i → (halve v all x k (middle lo hi + 1) hi).slot ≡ found i)
          → (halve v all x (suc k) lo hi).slot ≡ found i
      go true s t u below above =
          let l = ltb-true i (middle lo hi) s in
          let o = rw q at (ascends i (middle lo hi) l (omega arith)) in
          simp (lt-ltb lo hi (omega arith), lt_not_le x (v (middle lo hi)) o, and-false, o) (below l)
      go false s true u below above =
          let l = ltb-true (middle lo hi) i u in
          let o = rw q at (ascends (middle lo hi) i l (omega arith)) in
          simp (lt-ltb lo hi (omega arith), lt_not_le (v (middle lo hi)) x o, lt_not_lt (v (middle lo hi)) x o) (above l)
      go false s false u below above =
          let w : middle lo hi ≡ i = omega (arith, ltb-false i (middle lo hi) s, ltb-false (middle lo hi) i u) in
          simp (lt-ltb lo hi (omega arith), same_yes {a = x} {b = v (middle lo hi)} (sym (ap v w ∙ q))) (ap found w)

  -- the search finds the value sought exactly where it stands
  pub finds : (i : ℕ) → Iff ((search v all x n).slot ≡ found i) ((i < n) × (v i ≡ x))
  finds i = record { to = ends v x n; from = λ h. met n 0 n i (omega arith) (omega arith) (omega arith) h.0 h.1 }

  -- and misses exactly a value that stands nowhere
  pub misses : Iff ((search v all x n).slot ≡ missing) ((i : ℕ) → i < n → v i ≡ x → ⊥)
  misses = record { to = to; from = λ h. from h (search v all x n).slot refl }
    where
      to : (search v all x n).slot ≡ missing → (i : ℕ) → i < n → v i ≡ x → ⊥
      to e i h q = let f = (finds i).from (h, q) in let z : ◌≡◌ {A = ℕ} 0 1 = cc in omega arith

      from : ((i : ℕ) → i < n → v i ≡ x → ⊥) → (s : Slot) → (search v all x n).slot ≡ s → s ≡ missing
      from h (found i) e = let p = ends v x n e in absurd (h i p.0 p.1)
      from h missing e = refl
      from h lost e = absurd (ends v x n e)

-- ---- the values compared

module _ (v : ℕ → ℤ) (there : ℕ → Bool) (x : ℤ) where
  few : (k m lo hi : ℕ) → hi - lo < 2 ^ m → (halve v there x k lo hi).compared ≤ m
  few zero m lo hi h = omega arith
  few (suc k) zero lo hi h = rw (le-ltb lo hi (omega arith)) (omega arith)
  few (suc k) (suc m) lo hi h =
      let p = pow-suc 2 m in
      turn v there x (λ s. s.compared ≤ suc m) k lo hi (omega arith) (λ e. omega arith) (λ l e. omega arith)
      (λ l. omega (arith, few k m lo (middle lo hi) (omega arith))) (λ l. omega (arith, few k m (middle lo hi + 1) hi (omega arith)))

  -- among fewer than 2^m values at most m are compared, in whatever order they stand
  pub compares : (n m : ℕ) → n < 2 ^ m → (search v there x n).compared ≤ m
  compares n m h = few n m 0 n (omega arith)

  pub compares_17 : (n : ℕ) → n ≤ 65536 → (search v there x n).compared ≤ 17
  compares_17 n h = compares n 17 (omega arith)
