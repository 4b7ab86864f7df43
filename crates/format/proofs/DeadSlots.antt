-- Which places are dead where slots stand: by lists of slots, and for each primitive section over the file's own bytes.
use mathlib.Core.Path.{◌≡◌, refl, sym, ap, ◌∙◌, subst}
use Prim.Native.Nat.{ℕ, zero, suc, ◌+◌, ◌-◌, ◌*◌, ◌^◌, ◌≤◌, ◌<◌}
use native.Mathlib.Nat.{add-zero, zero-add, not-suc-le-zero, suc-mul, zero-mul, one-le-pow}
use native.Mathlib.Omega.{arith}
use mathlib.Core.Logic.{◌⊎◌, inl, inr}
use mathlib.Core.List.{List, [], ◌∷◌, ◌++◌, map}
use mathlib.Core.Bool.{Bool, true, false, cond, not, ◌&&◌, true≢false}
use lib.ListN.{length, get_or, replicate, take, length-map}
use lib.Dec.{eqb, ltb}
use borrow.Author.Tests.{eqb-true, eqb-false, eq-eqb, ltb-true, ltb-false, not-true}
use Rattle.format.specs.Slot.{Slot, byte, spare, Takes, Fits, is_spare, dead}
use Rattle.format.specs.Number.{Order, tab, num, num_slots, digit, seat}
use Rattle.format.specs.Grammar.{Sect, no_zero, text_slots, ended_slots, Ended, all_slots, sizes, AllRight, between, tag, told, seq, within, member, live, AreaRight}
use Rattle.format.specs.Dead.{Among, AfterZero, InSortList, SomeAt, Covered}
use Rattle.format.proofs.SlotLaws.{fits_left, fits_right, fits_start, tab_at, length_tab}
use Rattle.format.proofs.NumberLaws.{num_read}
use Rattle.format.proofs.Good.{Good, and_left, and_right, good_right}
use Rattle.format.proofs.AreaLaws.{live_same, slot_taken, live_covers, covers_live}

-- ---- each of two facts gives the other

pub record Iff (A B : Type 0) : Type 0 where
  pub to : A → B
  pub from : B → A

pub iff_join : {A B C : Type 0} → Iff A B → Iff B C → Iff A C
iff_join h k = record { to = λ a. k.to (h.to a); from = λ c. h.from (k.from c) }

-- ---- dead places of slots that stand at p

abbrev pub DeadAt : List Slot → ℕ → ℕ → Type 0
DeadAt [] p i = ⊥
DeadAt (s ∷ P) p i = ((is_spare s ≡ true) × (p ≡ i)) ⊎ (DeadAt P (suc p) i)

pub dead_append : (A B : List Slot) (p i : ℕ) → Iff (DeadAt (A ++ B) p i) ((DeadAt A p i) ⊎ (DeadAt B (p + length A) i))
dead_append [] B p i = record { to = λ d. inr (rw add-zero d); from = go }
  where
    go : ⊥ ⊎ (DeadAt B (p + 0) i) → DeadAt B p i
    go (inl d) = absurd d
    go (inr d) = rw add-zero at d
dead_append (s ∷ A) B p i = record { to = to (dead_append A B (suc p) i); from = from (dead_append A B (suc p) i) }
  where
    e : suc p + length A ≡ p + suc (length A)
    e = omega arith

    to : Iff (DeadAt (A ++ B) (suc p) i) ((DeadAt A (suc p) i) ⊎ (DeadAt B (suc p + length A) i)) → DeadAt (s ∷ A ++ B) p i
        → (DeadAt (s ∷ A) p i) ⊎ (DeadAt B (p + suc (length A)) i)
    to ih (inl d) = inl (inl d)
    to ih (inr d) = pick (ih.to d)
      where
        pick : (DeadAt A (suc p) i) ⊎ (DeadAt B (suc p + length A) i) → (DeadAt (s ∷ A) p i) ⊎ (DeadAt B (p + suc (length A)) i)
        pick (inl d) = inl (inr d)
        pick (inr d) = inr (rw e at d)

    from : Iff (DeadAt (A ++ B) (suc p) i) ((DeadAt A (suc p) i) ⊎ (DeadAt B (suc p + length A) i)) → (DeadAt (s ∷ A) p i) ⊎ (DeadAt B (p + suc (length A)) i)
        → DeadAt (s ∷ A ++ B) p i
    from ih (inl (inl d)) = inl d
    from ih (inl (inr d)) = inr (ih.from (inl d))
    from ih (inr d) = inr (ih.from (inr (rw e d)))

-- by index
pub dead_index : (P : List Slot) (p i : ℕ) → Iff (DeadAt P p (p + i)) (dead P i ≡ true)
dead_index [] p i = record { to = λ d. absurd d; from = λ d. absurd (true≢false (sym d)) }
dead_index (s ∷ P) p zero = record { to = to; from = λ d. inl (d, sym (add-zero p)) }
  where
    late : (P : List Slot) (q i : ℕ) → i < q → DeadAt P q i → ⊥
    late [] q i b d = d
    late (s ∷ P) q i b (inl d) = omega (arith, d.1)
    late (s ∷ P) q i b (inr d) = late P (suc q) i (omega arith) d

    to : DeadAt (s ∷ P) p (p + 0) → is_spare s ≡ true
    to (inl d) = d.0
    to (inr d) = absurd (late P (suc p) (p + 0) (omega arith) d)
dead_index (s ∷ P) p (suc i) = record { to = to (dead_index P (suc p) i); from = from (dead_index P (suc p) i) }
  where
    e : p + suc i ≡ suc p + i
    e = omega arith

    to : Iff (DeadAt P (suc p) (suc p + i)) (dead P i ≡ true) → DeadAt (s ∷ P) p (p + suc i) → dead P i ≡ true
    to ih (inl d) = absurd (omega (arith, d.1))
    to ih (inr d) = ih.to (rw e at d)

    from : Iff (DeadAt P (suc p) (suc p + i)) (dead P i ≡ true) → dead P i ≡ true → DeadAt (s ∷ P) p (p + suc i)
    from ih d = inr (rw e (ih.from d))

-- none of the slots is dead
pub record Live (P : List Slot) : Type 0 where
  pub none : (p i : ℕ) → DeadAt P p i → ⊥

bytes_none : (l : List ℕ) (p i : ℕ) → DeadAt (map byte l) p i → ⊥
bytes_none [] p i d = d
bytes_none (x ∷ l) p i (inl d) = true≢false (sym d.0)
bytes_none (x ∷ l) p i (inr d) = bytes_none l (suc p) i d

pub live_bytes : (l : List ℕ) → Live (map byte l)
live_bytes l = record { none = bytes_none l }

pub live_append : {A B : List Slot} → Live A → Live B → Live (A ++ B)
live_append {A} {B} h k = record { none = λ p i d. go p i ((dead_append A B p i).to d) }
  where
    go : (p i : ℕ) → (DeadAt A p i) ⊎ (DeadAt B (p + length A) i) → ⊥
    go p i (inl d) = h.none p i d
    go p i (inr d) = k.none (p + length A) i d

pub dead_tab : (n : ℕ) (s : ℕ → Slot) (p i : ℕ) → Iff (DeadAt (tab n s) p i) ((j : ℕ) × (j < n) × (is_spare (s j) ≡ true) × (p + j ≡ i))
dead_tab zero s p i = record { to = λ d. absurd d; from = λ d. absurd (not-suc-le-zero d.1) }
dead_tab (suc n) s p i = record { to = to (dead_tab n (λ j. s (suc j)) (suc p) i); from = from (dead_tab n (λ j. s (suc j)) (suc p) i) }
  where
    to : Iff (DeadAt (tab n (λ j. s (suc j))) (suc p) i) ((j : ℕ) × (j < n) × (is_spare (s (suc j)) ≡ true) × (suc p + j ≡ i))
        → DeadAt (tab (suc n) s) p i → (j : ℕ) × (j < suc n) × (is_spare (s j) ≡ true) × (p + j ≡ i)
    to ih (inl d) = (zero, omega arith, d.0, add-zero p ∙ d.1)
    to ih (inr d) = let k = ih.to d in (suc k.0, omega (arith, k.1), k.2, omega (arith, k.3))

    from : Iff (DeadAt (tab n (λ j. s (suc j))) (suc p) i) ((j : ℕ) × (j < n) × (is_spare (s (suc j)) ≡ true) × (suc p + j ≡ i))
        → (j : ℕ) × (j < suc n) × (is_spare (s j) ≡ true) × (p + j ≡ i) → DeadAt (tab (suc n) s) p i
    from ih (zero, b, h, q) = inl (h, sym (add-zero p) ∙ q)
    from ih (suc j, b, h, q) = inr (ih.from (j, omega arith, h, omega arith))

pub live_number : (o : Order) (w n : ℕ) → Live (num_slots o w n)
live_number o w n = record { none = λ p i d. true≢false (sym ((dead_tab w (λ k. byte (digit w n (seat o w k))) p i).to d).2) }

pub dead_idle : (n v p i : ℕ) → Iff (DeadAt (replicate n (spare v)) p i) (Among p n i)
dead_idle zero v p i = record { to = λ d. absurd d; from = λ d. absurd (omega arith) }
dead_idle (suc n) v p i = record { to = to (dead_idle n v (suc p) i); from = from (dead_idle n v (suc p) i) }
  where
    to : Iff (DeadAt (replicate n (spare v)) (suc p) i) (Among (suc p) n i) → DeadAt (replicate (suc n) (spare v)) p i → Among p (suc n) i
    to ih (inl d) = (omega (arith, d.1), omega (arith, d.1))
    to ih (inr d) = let k = ih.to d in (omega (arith, k.0), omega (arith, k.1))

    from : Iff (DeadAt (replicate n (spare v)) (suc p) i) (Among (suc p) n i) → Among p (suc n) i → DeadAt (replicate (suc n) (spare v)) p i
    from ih d = go (eqb p i) refl
      where
        go : (t : Bool) → eqb p i ≡ t → DeadAt (replicate (suc n) (spare v)) p i
        go true e = inl (refl, eqb-true p i e)
        go false e = inr (ih.from (omega (arith, eqb-false p i e), omega arith))

-- ---- texts

pub dead_text : (w : ℕ) (t f : List ℕ) (p i : ℕ) → length t ≤ w → no_zero t ≡ true → Fits f p (text_slots w t) → Iff (DeadAt (text_slots w t) p i) (AfterZero f p w i)
dead_text zero t f p i b z m = record { to = λ d. absurd d; from = λ d. absurd (omega (arith, d.1, d.2, d.3)) }
dead_text (suc w) [] f p i b z m =
    record {
      to = to;
      from = λ d. inr ((dead_idle w 0 (suc p) i).from (omega (arith, d.1, d.2), omega (arith, d.3)));
    }
  where
    to : DeadAt (byte 0 ∷ replicate w (spare 0)) p i → AfterZero f p (suc w) i
    to (inl d) = absurd (true≢false (sym d.0))
    to (inr d) = let k = (dead_idle w 0 (suc p) i).to d in (p, omega arith, omega (arith, k.0), omega (arith, k.1), m.0)
dead_text (suc w) (c ∷ t) f p i b z m =
    record { to = to (dead_text w t f (suc p) i (omega arith) zt m.1); from = from (dead_text w t f (suc p) i (omega arith) zt m.1) }
  where
    zt : no_zero t ≡ true
    zt = and_right (not (eqb c 0)) (no_zero t) z

    live_c : c ≡ 0 → ⊥
    live_c = eqb-false c 0 (not-true (eqb c 0) (and_left (not (eqb c 0)) (no_zero t) z))

    to : Iff (DeadAt (text_slots w t) (suc p) i) (AfterZero f (suc p) w i) → DeadAt (byte c ∷ text_slots w t) p i → AfterZero f p (suc w) i
    to ih (inl d) = absurd (true≢false (sym d.0))
    to ih (inr d) = let k = ih.to d in (k.0, omega (arith, k.1), k.2, omega (arith, k.3), k.4)

    from : Iff (DeadAt (text_slots w t) (suc p) i) (AfterZero f (suc p) w i) → AfterZero f p (suc w) i → DeadAt (byte c ∷ text_slots w t) p i
    from ih d = go (eqb p d.0) refl
      where
        go : (s : Bool) → eqb p d.0 ≡ s → DeadAt (byte c ∷ text_slots w t) p i
        go true e = absurd (live_c (sym m.0 ∙ subst (λ (x : ℕ). get_or f x 0 ≡ 0) (sym (eqb-true p d.0 e)) d.4))
        go false e = inr (ih.from (d.0, omega (arith, d.1, eqb-false p d.0 e), d.2, omega (arith, d.3), d.4))

-- ---- lists that end at their first zero

-- one of n entries of w bytes
entry_of : (n w q i : ℕ) → Among q (n * w) i → (b : ℕ) × (b < n) × (Among (q + b * w) w i)
entry_of zero w q i h = absurd (omega (arith, zero-mul w))
entry_of (suc n) w q i h = go (ltb i (q + w)) refl (entry_of n w (q + w) i)
  where
    go : (t : Bool) → ltb i (q + w) ≡ t → (Among (q + w) (n * w) i → (b : ℕ) × (b < n) × (Among (q + w + b * w) w i)) → (b : ℕ) × (b < suc n) × (Among (q + b * w) w i)
    go true e ih = (0, omega arith, (omega (arith, zero-mul w), omega (arith, zero-mul w, ltb-true i (q + w) e)))
    go false e ih =
        let k = ih (omega (arith, ltb-false i (q + w) e), omega (arith, suc-mul n w)) in
        (suc k.0, omega (arith, k.1), (omega (arith, suc-mul k.0 w, k.2.0), omega (arith, suc-mul k.0 w, k.2.1)))

pub dead_ended : (o : Order) (n : ℕ) (l f : List ℕ) (p i : ℕ) → Ended o 2 n l → Fits f p (ended_slots o 2 n l) → Iff (DeadAt (ended_slots o 2 n l) p i) (InSortList o f p n i)
dead_ended o zero l f p i r m = absurd r
dead_ended o (suc n) [] f p i r m = record { to = to; from = from }
  where
    A : List Slot
    A = num_slots o 2 0

    here : num o 2 f p ≡ 0
    here = num_read o 2 0 f p (omega arith) (fits_left f p (num_slots o 2 0) (replicate (n * 2) (spare 0)) m)

    split : Iff (DeadAt (ended_slots o 2 (suc n) []) p i) ((DeadAt (num_slots o 2 0) p i) ⊎ (DeadAt (replicate (n * 2) (spare 0)) (p + length (num_slots o 2 0)) i))
    split = dead_append (num_slots o 2 0) (replicate (n * 2) (spare 0)) p i

    to : DeadAt (ended_slots o 2 (suc n) []) p i → InSortList o f p (suc n) i
    to d = go (split.to d)
      where
        go : (DeadAt (num_slots o 2 0) p i) ⊎ (DeadAt (replicate (n * 2) (spare 0)) (p + length (num_slots o 2 0)) i) → InSortList o f p (suc n) i
        go (inl x) = absurd ((live_number o 2 0).none p i x)
        go (inr x) =
            let k = (dead_idle (n * 2) 0 (p + length (num_slots o 2 0)) i).to x in
            let y = length_tab 2 (λ j. byte (digit 2 0 (seat o 2 j))) in
            let b = entry_of n 2 (p + 2) i (omega (arith, k.0, y), omega (arith, k.1, y)) in
            (0, suc b.0, omega arith, omega (arith, b.1), subst (λ (x : ℕ). num o 2 f x ≡ 0) (sym (add-zero p)) here, (omega (arith, b.2.0), omega (arith, b.2.1)))

    from : InSortList o f p (suc n) i → DeadAt (ended_slots o 2 (suc n) []) p i
    from d =
        let y = length_tab 2 (λ j. byte (digit 2 0 (seat o 2 j))) in
        split.from (inr ((dead_idle (n * 2) 0 (p + length (num_slots o 2 0)) i).from
        (omega (arith, y, d.2, d.5.0), omega (arith, y, d.3, d.5.1))))
dead_ended o (suc n) (x ∷ l) f p i r m = record { to = to (dead_ended o n l f (p + 2) i r.2 after); from = from (dead_ended o n l f (p + 2) i r.2 after) }
  where
    y : length (num_slots o 2 x) ≡ 2
    y = length_tab 2 (λ j. byte (digit 2 x (seat o 2 j)))

    after : Fits f (p + 2) (ended_slots o 2 n l)
    after = rw y at (fits_right f p (num_slots o 2 x) (ended_slots o 2 n l) m)

    here : num o 2 f p ≡ x
    here = num_read o 2 x f p r.1 (fits_left f p (num_slots o 2 x) (ended_slots o 2 n l) m)

    split : Iff (DeadAt (ended_slots o 2 (suc n) (x ∷ l)) p i) ((DeadAt (num_slots o 2 x) p i) ⊎ (DeadAt (ended_slots o 2 n l) (p + length (num_slots o 2 x)) i))
    split = dead_append (num_slots o 2 x) (ended_slots o 2 n l) p i

    to : Iff (DeadAt (ended_slots o 2 n l) (p + 2) i) (InSortList o f (p + 2) n i) → DeadAt (ended_slots o 2 (suc n) (x ∷ l)) p i → InSortList o f p (suc n) i
    to ih d = go (split.to d)
      where
        go : (DeadAt (num_slots o 2 x) p i) ⊎ (DeadAt (ended_slots o 2 n l) (p + length (num_slots o 2 x)) i) → InSortList o f p (suc n) i
        go (inl z) = absurd ((live_number o 2 x).none p i z)
        go (inr z) =
            let k = ih.to (rw y at z) in
            let e : p + 2 + k.0 * 2 ≡ p + suc k.0 * 2 = omega arith in (
              suc k.0,
              suc k.1,
              omega (arith, k.2),
              omega (arith, k.3),
              subst (λ (q : ℕ). num o 2 f q ≡ 0) e k.4,
              (omega (arith, k.5.0), omega (arith, k.5.1)),
            )

    from : Iff (DeadAt (ended_slots o 2 n l) (p + 2) i) (InSortList o f (p + 2) n i) → InSortList o f p (suc n) i → DeadAt (ended_slots o 2 (suc n) (x ∷ l)) p i
    from ih (zero, b, c, d, h, k) = absurd (omega (arith, r.0, here, subst (λ (q : ℕ). num o 2 f q ≡ 0) (add-zero p) h))
    from ih (suc a, zero, c, d, h, k) = absurd (not-suc-le-zero c)
    from ih (suc a, suc b, c, d, h, k) =
        let e : p + suc a * 2 ≡ p + 2 + a * 2 = omega arith in
        let g : InSortList o f (p + 2) n i = (a, b, omega arith, omega arith, subst (λ (q : ℕ). num o 2 f q ≡ 0) e h, (omega (arith, k.0), omega (arith, k.1))) in
        split.from (inr (rw y (ih.from g)))

-- ---- areas of texts

pub dead_area : (offs : List ℕ) (n : ℕ) (a f : List ℕ) (p i : ℕ)
    → Fits f p (tab n (λ j. cond (live offs (λ k. get_or a k 0) j) (byte (get_or a j 0)) (spare 0)))
    → Iff (DeadAt (tab n (λ j. cond (live offs (λ k. get_or a k 0) j) (byte (get_or a j 0)) (spare 0))) p i) ((Among p n i) × (Covered f p offs i → ⊥))
dead_area offs n a f p i m = record { to = to; from = from }
  where
    s : ℕ → Slot
    s = λ j. cond (live offs (λ k. get_or a k 0) j) (byte (get_or a j 0)) (spare 0)

    here : ℕ → ℕ
    here = λ j. get_or f (p + j) 0

    spare_dead : (t : Bool) (x : ℕ) → is_spare (cond t (byte x) (spare 0)) ≡ true → t ≡ false
    spare_dead true x h = absurd (true≢false (sym h))
    spare_dead false x h = refl

    dead_spare : (t : Bool) (x : ℕ) → t ≡ false → is_spare (cond t (byte x) (spare 0)) ≡ true
    dead_spare true x h = absurd (true≢false h)
    dead_spare false x h = refl

    -- the live places are those of the file's own bytes
    same : (j : ℕ) → j ≤ n → live offs (λ k. get_or f (p + k) 0) j ≡ live offs (λ k. get_or a k 0) j
    same j b =
        live_same offs (λ k. get_or a k 0) (λ k. get_or f (p + k) 0) n
        (λ k c e. slot_taken (live offs (λ x. get_or a x 0) k) (get_or a k 0) (get_or f (p + k) 0) (tab_at f p n _ m k c) e) j b

    cover : (j : ℕ) → p + j ≡ i → Covered f p offs i → live offs (λ k. get_or f (p + k) 0) j ≡ true
    cover j e v =
        covers_live offs (λ k. get_or f (p + k) 0) j
        (v.0, v.1, omega (arith, v.2), λ k b c q. v.3 (p + k) (omega arith) (omega arith) q)

    covered : (j : ℕ) → p + j ≡ i → live offs (λ k. get_or f (p + k) 0) j ≡ true → Covered f p offs i
    covered j e h =
        let v = live_covers offs (λ k. get_or f (p + k) 0) j h in (
          v.0,
          v.1,
          omega (arith, v.2),
          λ z b c q. (let w : p + (z - p) ≡ z = omega arith in
              v.3 (z - p) (omega arith) (omega arith) (subst (λ (x : ℕ). get_or f x 0 ≡ 0) (sym w) q)),
        )

    to : DeadAt (tab n (λ j. cond (live offs (λ k. get_or a k 0) j) (byte (get_or a j 0)) (spare 0))) p i → (Among p n i) × (Covered f p offs i → ⊥)
    to d =
        let k = (dead_tab n (λ j. cond (live offs (λ x. get_or a x 0) j) (byte (get_or a j 0)) (spare 0)) p i).to d in
        let h = same k.0 (omega (arith, k.1)) ∙ spare_dead (live offs (λ x. get_or a x 0) k.0) (get_or a k.0 0) k.2 in
        ((omega (arith, k.3), omega (arith, k.1, k.3)), λ v. true≢false (sym (cover k.0 k.3 v) ∙ h))

    from : (Among p n i) × (Covered f p offs i → ⊥) → DeadAt (tab n (λ j. cond (live offs (λ k. get_or a k 0) j) (byte (get_or a j 0)) (spare 0))) p i
    from d = go (live offs (λ k. get_or f (p + k) 0) (i - p)) refl
      where
        e : p + (i - p) ≡ i
        e = omega (arith, d.0.0)

        go : (t : Bool) → live offs (λ k. get_or f (p + k) 0) (i - p) ≡ t → DeadAt (tab n (λ j. cond (live offs (λ k. get_or a k 0) j) (byte (get_or a j 0)) (spare 0))) p i
        go true h = absurd (d.1 (covered (i - p) e h))
        go false h =
            let b : i - p < n = omega (arith, d.0.0, d.0.1) in
            (dead_tab n (λ j. cond (live offs (λ x. get_or a x 0) j) (byte (get_or a j 0)) (spare 0)) p i).from
            (i - p, b, dead_spare (live offs (λ x. get_or a x 0) (i - p)) (get_or a (i - p) 0) (sym (same (i - p) (omega arith)) ∙ h), e)

-- ---- sections put together

-- two parts, one after another
pub dead_both : {X Y : Type 0} (A B : List Slot) (p n i : ℕ) → length A ≡ n → Iff (DeadAt A p i) X → Iff (DeadAt B (p + n) i) Y → Iff (DeadAt (A ++ B) p i) (X ⊎ Y)
dead_both {X} {Y} A B p n i e h k = record { to = λ d. to ((dead_append A B p i).to d); from = λ d. (dead_append A B p i).from (from d) }
  where
    to : (DeadAt A p i) ⊎ (DeadAt B (p + length A) i) → X ⊎ Y
    to (inl d) = inl (h.to d)
    to (inr d) = inr (k.to (rw e at d))

    from : X ⊎ Y → (DeadAt A p i) ⊎ (DeadAt B (p + length A) i)
    from (inl d) = inl (h.from d)
    from (inr d) = inr (rw e (k.from d))

-- the first part is live, or the second
pub dead_right : {Y : Type 0} (A B : List Slot) (p n i : ℕ) → length A ≡ n → Live A → Iff (DeadAt B (p + n) i) Y → Iff (DeadAt (A ++ B) p i) Y
dead_right {Y} A B p n i e h k = record { to = λ d. to ((dead_append A B p i).to d); from = λ d. (dead_append A B p i).from (inr (rw e (k.from d))) }
  where
    to : (DeadAt A p i) ⊎ (DeadAt B (p + length A) i) → Y
    to (inl d) = absurd (h.none p i d)
    to (inr d) = k.to (rw e at d)

pub dead_left : {X : Type 0} (A B : List Slot) (p i : ℕ) → Iff (DeadAt A p i) X → Live B → Iff (DeadAt (A ++ B) p i) X
dead_left {X} A B p i h k = record { to = λ d. to ((dead_append A B p i).to d); from = λ d. (dead_append A B p i).from (inl (h.from d)) }
  where
    to : (DeadAt A p i) ⊎ (DeadAt B (p + length A) i) → X
    to (inl d) = h.to d
    to (inr d) = absurd (k.none (p + length A) i d)

-- S between two tags
pub dead_between : {A : Type 0} (l r : List ℕ) (S : Sect A) (a : A) (p i : ℕ) → Iff (DeadAt ((between l r S).slots a) p i) (DeadAt (S.slots a) (p + length l) i)
unfolding between tag
dead_between l r S a p i =
    dead_right (map byte l) (S.slots a ++ map byte r) p (length l) i (length-map l byte) (live_bytes l)
    (dead_left (S.slots a) (map byte r) (p + length l) i (record { to = λ d. d; from = λ d. d }) (live_bytes r))

-- a list of sections, by what is dead in each
pub dead_some : {A : Type 0} {room : ℕ} {R : ℕ → ℕ → Type 0} (S : Sect A) (G : Good room R S) (Q : A → ℕ → Type 0) (f : List ℕ) (i : ℕ)
    → ((a : A) (p : ℕ) → S.Right a → Fits f p (S.slots a) → Iff (DeadAt (S.slots a) p i) (Q a p))
    → (l : List A) (p : ℕ) → AllRight S l → Fits f p (all_slots S l) → Iff (DeadAt (all_slots S l) p i) (SomeAt S Q p l)
dead_some S G Q f i each [] p r m = record { to = λ d. d; from = λ d. d }
dead_some S G Q f i each (a ∷ l) p r m =
    dead_both (S.slots a) (all_slots S l) p (S.size a) i (G.sized a) (each a p r.0 (fits_left f p (S.slots a) (all_slots S l) m))
    (dead_some S G Q f i each l (p + S.size a) r.1 (good_right S G f p a (all_slots S l) m))

-- .. of one width, by their numbers
some_times : {A : Type 0} (S : Sect A) (w : ℕ) (wide : (a : A) → S.Right a → S.size a ≡ w) (Q : ℕ → Type 0) (l : List A) (p : ℕ) → AllRight S l
    → Iff (SomeAt S (λ a. Q) p l) ((v : ℕ) × (v < length l) × (Q (p + v * w)))
some_times S w wide Q [] p r = record { to = λ d. absurd d; from = λ d. absurd (not-suc-le-zero d.1) }
some_times S w wide Q (a ∷ l) p r = record { to = to (some_times S w wide Q l (p + S.size a) r.1); from = from (some_times S w wide Q l (p + S.size a) r.1) }
  where
    at : (v : ℕ) → p + S.size a + v * w ≡ p + suc v * w
    at v = omega (arith, wide a r.0, suc-mul v w)

    to : Iff (SomeAt S (λ a. Q) (p + S.size a) l) ((v : ℕ) × (v < length l) × (Q (p + S.size a + v * w)))
        → (Q p) ⊎ (SomeAt S (λ a. Q) (p + S.size a) l) → (v : ℕ) × (v < length (a ∷ l)) × (Q (p + v * w))
    to ih (inl d) = (zero, omega arith, subst Q (sym (ap (λ (x : ℕ). p + x) (zero-mul w) ∙ add-zero p)) d)
    to ih (inr d) = let k = ih.to d in (suc k.0, omega (arith, k.1), subst Q (at k.0) k.2)

    from : Iff (SomeAt S (λ a. Q) (p + S.size a) l) ((v : ℕ) × (v < length l) × (Q (p + S.size a + v * w)))
        → (v : ℕ) × (v < length (a ∷ l)) × (Q (p + v * w)) → (Q p) ⊎ (SomeAt S (λ a. Q) (p + S.size a) l)
    from ih (zero, b, d) = inl (subst Q (ap (λ (x : ℕ). p + x) (zero-mul w) ∙ add-zero p) d)
    from ih (suc v, b, d) = inr (ih.from (v, omega arith, subst Q (sym (at v)) d))

pub dead_times : {A : Type 0} {room : ℕ} {R : ℕ → ℕ → Type 0} (S : Sect A) (G : Good room R S) (w : ℕ) (wide : (a : A) → S.Right a → S.size a ≡ w) (Q : ℕ → Type 0) (f : List ℕ) (i : ℕ)
    → ((a : A) (p : ℕ) → S.Right a → Fits f p (S.slots a) → Iff (DeadAt (S.slots a) p i) (Q p))
    → (l : List A) (p : ℕ) → AllRight S l → Fits f p (all_slots S l) → Iff (DeadAt (all_slots S l) p i) ((v : ℕ) × (v < length l) × (Q (p + v * w)))
dead_times S G w wide Q f i each l p r m = iff_join (dead_some S G (λ a. Q) f i each l p r m) (some_times S w wide Q l p r)

-- live sections: one between tags, and a list
pub live_between : {A : Type 0} (l r : List ℕ) (S : Sect A) (a : A) → Live (S.slots a) → Live ((between l r S).slots a)
unfolding between tag
live_between l r S a h = live_append (live_bytes l) (live_append h (live_bytes r))

pub live_all : {A : Type 0} (S : Sect A) → ((a : A) → Live (S.slots a)) → (l : List A) → Live (all_slots S l)
live_all S each [] = record { none = λ p i d. d }
live_all S each (a ∷ l) = live_append (each a) (live_all S each l)
