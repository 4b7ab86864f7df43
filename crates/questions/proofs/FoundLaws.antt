-- Each value of a right table finds its own slot.
use mathlib.Core.Path.{◌≡◌, refl}
use Prim.Native.Nat.{ℕ, zero, suc, ◌+◌, ◌-◌, ◌*◌, ◌<◌}
use native.Mathlib.Nat.{not-suc-le-zero, le_of_suc-le-suc}
use native.Mathlib.Omega.{arith}
use mathlib.Core.List.{List, [], ◌∷◌}
use mathlib.Core.Bool.{Bool, true, false}
use lib.ListN.{length, get_or}
use lib.Dec.{ltb}
use lib.Signed.{lt_z}
use borrow.Author.Tests.{lt-ltb, ltb-true}
use Rattle.format.specs.Number.{Order}
use Rattle.format.specs.Grammar.{number, tag, AllRight}
use Rattle.format.specs.Labels.{Table, signed, ascending, table_head, table_body, table, LabelBlock, block}
use Rattle.format.specs.Cells.{signed_by}
use Rattle.format.specs.Search.{found}
use Rattle.format.proofs.Good.{and_left, and_right}
use Rattle.questions.specs.Fact.{slot_fact}
use Rattle.format.proofs.SearchLaws.{finds}

-- ---- the order of 32 bits is that of the numbers that they are

signed_less : (x y : ℕ) → x < 4294967296 → y < 4294967296 → signed x < signed y → lt_z (signed_by 2147483648 x) (signed_by 2147483648 y) ≡ true
signed_less x y a b h = go (ltb x 2147483648) refl (ltb y 2147483648) refl
  where
    go : (s : Bool) → ltb x 2147483648 ≡ s → (t : Bool) → ltb y 2147483648 ≡ t → lt_z (signed_by 2147483648 x) (signed_by 2147483648 y) ≡ true
    go true p true q =
        let k : x + 2147483648 < y + 2147483648 = rw (p, q) at h in
        rw (p, q) (lt-ltb x y (omega arith))
    go true p false q =
        let k : x + 2147483648 < y - 2147483648 = rw (p, q) at h in
        absurd (omega (arith, ltb-true x 2147483648 p))
    go false p true q = rw (p, q)
    go false p false q =
        let k : x - 2147483648 < y - 2147483648 = rw (p, q) at h in
        rw (p, q) (lt-ltb (2 * 2147483648 - suc y) (2 * 2147483648 - suc x) (omega arith))

-- ---- ascending lists

head_least : (x : ℕ) (l : List ℕ) (j : ℕ) → ascending (x ∷ l) ≡ true → j < length l → signed x < signed (get_or l j 0)
head_least x [] j h b = absurd (not-suc-le-zero b)
head_least x (y ∷ l) zero h b = ltb-true (signed x) (signed y) (and_left (ltb (signed x) (signed y)) (ascending (y ∷ l)) h)
head_least x (y ∷ l) (suc j) h b =
    let a = ltb-true (signed x) (signed y) (and_left (ltb (signed x) (signed y)) (ascending (y ∷ l)) h) in
    let c = head_least y l j (and_right (ltb (signed x) (signed y)) (ascending (y ∷ l)) h) (le_of_suc-le-suc b) in
    omega (arith, a, c)

tail_ascends : (x : ℕ) (l : List ℕ) → ascending (x ∷ l) ≡ true → ascending l ≡ true
tail_ascends x [] h = refl
tail_ascends x (y ∷ l) h = and_right (ltb (signed x) (signed y)) (ascending (y ∷ l)) h

ascends : (l : List ℕ) → ascending l ≡ true → (i j : ℕ) → i < j → j < length l → signed (get_or l i 0) < signed (get_or l j 0)
ascends [] h i j a b = absurd (not-suc-le-zero b)
ascends (x ∷ l) h i zero a b = absurd (not-suc-le-zero a)
ascends (x ∷ l) h zero (suc j) a b = head_least x l j h (le_of_suc-le-suc b)
ascends (x ∷ l) h (suc i) (suc j) a b = ascends l (tail_ascends x l h) i j (le_of_suc-le-suc a) (le_of_suc-le-suc b)

-- each value has 32 bits
small_at : (o : Order) (l : List ℕ) (i : ℕ) → AllRight (number o 4) l → get_or l i 0 < 4294967296
small_at o [] i r = omega arith
small_at o (x ∷ l) zero r = r.0
small_at o (x ∷ l) (suc i) r = small_at o l i r.1

-- ---- tables

found_at : (o : Order) (t : Table) → AllRight (number o 4) t.values → length t.values ≡ length t.offsets → ascending t.values ≡ true
    → (m : ℕ) → m < length t.offsets → slot_fact (signed_by 2147483648 (get_or t.values m 0)) t ≡ found m
found_at o t r e h m b =
    (finds (λ i. signed_by 2147483648 (get_or t.values i 0)) (signed_by 2147483648 (get_or t.values m 0)) (length t.offsets)
    (λ i j c d. signed_less (get_or t.values i 0) (get_or t.values j 0) (small_at o t.values i r) (small_at o t.values j r) (ascends t.values h i j c (rw e d))) m).from (b, refl)

table_found : (o : Order) (w : ℕ) (t : Table) → (table o w).Right t → (m : ℕ) → m < length t.offsets → slot_fact (signed_by 2147483648 (get_or t.values m 0)) t ≡ found m
unfolding table table_head table_body
table_found o w t r m b = found_at o t r.1.1.1.0.0.1 r.1.1.1.0.0.0 r.1.1.1.0.1 m b

block_found : (t : Bool) (o : Order) (w : ℕ) (b : LabelBlock) → (block t o w).Right b → (m : ℕ) → m < length b.entries.offsets
    → slot_fact (signed_by 2147483648 (get_or b.entries.values m 0)) b.entries ≡ found m
unfolding block tag
block_found t o w b r m l = table_found o _ b.entries r.1.1.0 m l

-- in each block of a list
pub blocks_found : (t : Bool) (o : Order) (w : ℕ) (z : LabelBlock) (l : List LabelBlock) → AllRight (block t o w) l → (i : ℕ) → i < length l
    → (m : ℕ) → m < length (get_or l i z).entries.offsets → slot_fact (signed_by 2147483648 (get_or (get_or l i z).entries.values m 0)) (get_or l i z).entries ≡ found m
blocks_found t o w z [] r i b m c = absurd (not-suc-le-zero b)
blocks_found t o w z (a ∷ l) r zero b m c = block_found t o w a r.0 m c
blocks_found t o w z (a ∷ l) r (suc i) b m c = blocks_found t o w z l r.1 i (le_of_suc-le-suc b) m c
