-- The sort list, step by step.
use mathlib.Core.Path.{◌≡◌, refl, sym, ◌∙◌}
use Prim.Native.Nat.{ℕ, suc, ◌+◌, ◌-◌, ◌≤◌, ◌<◌}
use native.Mathlib.Omega.{arith}
use native.Mathlib.Numerals.{add-one}
use mathlib.Core.List.{List, [], ◌∷◌}
use mathlib.Core.Bool.{Bool, true, false, ◌||◌}
use lib.ListN.{length, get_or, set, replicate, get_or-replicate}
use lib.Seq.{get_or-set_same, get_or-set_other}
use lib.Dec.{eqb, ltb, leb-suc-suc}
use borrow.Author.Tests.{eqb-true, eqb-false, ne_eqb, le-leb, lt-leb, lt-ltb}
use Rattle.format.specs.Number.{Order, num}
use Rattle.format.specs.Grammar.{also, unless, ended, ended_at, member, ruled}
use Rattle.format.specs.Variables.{fresh}

-- the verdict on the numbers l before the first zero in n places, after the numbers e
abbrev pub sort_of : ℕ → ℕ → List ℕ → List ℕ → ℕ
sort_of k n e l = also (unless (ltb (length l) n) 8) (unless (fresh k e l) 8)

-- `seen` tells which numbers are among e
abbrev pub Marks : ℕ → List Bool → List ℕ → Type 0
Marks k seen e = (x : ℕ) → x ≤ k → get_or seen x false ≡ member x e

-- at first none is seen; one more is marked
pub marks_start : (n k : ℕ) → k < n → Marks k (replicate n false) []
marks_start n k h x b = get_or-replicate n x false false (omega arith)

pub marks_more : (k : ℕ) (seen : List Bool) (e : List ℕ) (x : ℕ) → x < length seen → Marks k seen e → Marks k (set seen x true) (x ∷ e)
marks_more k seen e x h m y b = go (eqb y x) refl
  where
    go : (t : Bool) → eqb y x ≡ t → get_or (set seen x true) y false ≡ (eqb y x || member y e)
    go true q = rw (q, eqb-true y x q) (get_or-set_same seen x true false h)
    go false q = rw q (get_or-set_other seen x y true false (eqb-false y x q) ∙ m y b)

also_eight : (a : Bool) → also (unless a 8) 8 ≡ 8
also_eight true = refl
also_eight false = refl

of_nil : (k n : ℕ) (e : List ℕ) → 0 ≡ sort_of k (suc n) e []
of_nil k n e = rw (lt-ltb 0 (suc n) (omega arith))

module _ (k n x : ℕ) (e l : List ℕ) where
  of_large : k < x → 8 ≡ sort_of k n e (x ∷ l)
  of_large h = rw (lt-leb x k h) (sym (also_eight (ltb (suc (length l)) n)))

  of_twice : x ≤ k → member x e ≡ true → 8 ≡ sort_of k n e (x ∷ l)
  of_twice h m = rw (le-leb x k h, m) (sym (also_eight (ltb (suc (length l)) n)))

  of_turn : x ≤ k → member x e ≡ false → sort_of k n (x ∷ e) l ≡ sort_of k (suc n) e (x ∷ l)
  of_turn h m = rw (le-leb x k h, m, leb-suc-suc (suc (length l)) n)

module _ (o : Order) (f : List ℕ) where
  -- what is left of the sort list
  abbrev pub sort_rest : ℕ → ℕ → List ℕ → ℕ → ℕ
  sort_rest k n e q = sort_of k n e (ended_at o 2 n f q)

  module _ (k i q : ℕ) (e : List ℕ) (b : i ≤ k) where
    left : k + 1 - i ≡ suc (k + 1 - (i + 1))
    left = omega arith

    -- a zero ends the list
    pub sort_stop : num o 2 f q ≡ 0 → 0 ≡ sort_rest k (k + 1 - i) e q
    sort_stop z = of_nil k (k + 1 - (i + 1)) e ∙ rw (left, z)

    -- a number too large, or seen, is refused; after another the rest decides
    at_more : (num o 2 f q ≡ 0 → ⊥) → sort_of k (suc (k + 1 - (i + 1))) e (num o 2 f q ∷ ended_at o 2 (k + 1 - (i + 1)) f (q + 2)) ≡ sort_rest k (k + 1 - i) e q
    at_more z = rw (left, ne_eqb (num o 2 f q) 0 z)

    pub sort_large : (num o 2 f q ≡ 0 → ⊥) → k < num o 2 f q → 8 ≡ sort_rest k (k + 1 - i) e q
    sort_large z h = of_large k _ (num o 2 f q) e (ended_at o 2 (k + 1 - (i + 1)) f (q + 2)) h ∙ at_more z

    pub sort_twice : (num o 2 f q ≡ 0 → ⊥) → num o 2 f q ≤ k → member (num o 2 f q) e ≡ true → 8 ≡ sort_rest k (k + 1 - i) e q
    sort_twice z h m = of_twice k _ (num o 2 f q) e (ended_at o 2 (k + 1 - (i + 1)) f (q + 2)) h m ∙ at_more z

    pub sort_turn : (num o 2 f q ≡ 0 → ⊥) → num o 2 f q ≤ k → member (num o 2 f q) e ≡ false
        → sort_rest k (k + 1 - (i + 1)) (num o 2 f q ∷ e) (q + 2) ≡ sort_rest k (k + 1 - i) e q
    sort_turn z h m = of_turn k _ (num o 2 f q) e (ended_at o 2 (k + 1 - (i + 1)) f (q + 2)) h m ∙ at_more z

  -- no zero ends the list
  pub sort_none : (k q n : ℕ) (e : List ℕ) → n ≡ 0 → 8 ≡ sort_rest k n e q
  sort_none k q n e z = rw z

  -- the whole list
  pub sort_in : (k p : ℕ) → sort_rest k (k + 1) [] p ≡ (ruled (ended o 2 (suc k) 8) (fresh k []) 8).judge f p
  sort_in k p = rw (add-one k)
