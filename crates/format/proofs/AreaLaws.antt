-- An area of texts with dead places is good; and what its live places and its last zero mean.
use mathlib.Core.Path.{◌≡◌, refl, sym, ap, ◌∙◌, subst}
use Prim.Native.Nat.{ℕ, zero, suc, ◌+◌, ◌≤◌, ◌<◌}
use native.Mathlib.Nat.{not-suc-le-zero}
use native.Mathlib.Omega.{arith}
use mathlib.Core.Logic.{◌⊎◌, inl, inr}
use mathlib.Core.List.{List, [], ◌∷◌}
use mathlib.Core.Bool.{Bool, true, false, cond, not, ◌&&◌, ◌||◌, true≢false}
use lib.ListN.{length, get_or}
use lib.Seq.{ext_get_or}
use lib.Dec.{eqb, ltb}
use borrow.Author.Tests.{eqb-true, eqb-false, eq-eqb, ne_eqb, ltb-true, lt-ltb, not-true}
use Rattle.format.specs.Slot.{Slot, byte, spare, Takes, Fits, Bytes, put}
use Rattle.format.specs.Number.{tab}
use Rattle.format.specs.Grammar.{Sect, unless, member, all_below, past_zero, live, masked, AreaRight, area}
use Rattle.format.proofs.SlotLaws.{fits_tab, tab_at, length_tab, get_d_tab, tab_bytes, Small, small_tab}
use Rattle.format.proofs.Good.{Good, unless_true, unless_holds, and_left, and_right}

-- ---- tests

pub or_cases : (a b : Bool) → (a || b) ≡ true → (a ≡ true) ⊎ (b ≡ true)
or_cases true b h = inl refl
or_cases false b h = inr h

pub or_left : (a b : Bool) → a ≡ true → (a || b) ≡ true
or_left a b h = rw h

pub or_right : (a b : Bool) → b ≡ true → (a || b) ≡ true
or_right true b h = refl
or_right false b h = h

-- ---- the last zero

pub past_holds : (a : ℕ → ℕ) (n x z : ℕ) → x ≤ z → z < n → a z ≡ 0 → x < past_zero a n
past_holds a zero x z b c h = absurd (not-suc-le-zero c)
past_holds a (suc n) x z b c h = go (eqb (a n) 0) refl (eqb z n) refl (past_holds a n x z b)
  where
    go : (t : Bool) → eqb (a n) 0 ≡ t → (s : Bool) → eqb z n ≡ s → (z < n → a z ≡ 0 → x < past_zero a n) → x < past_zero a (suc n)
    go true e s q ih = rw e (omega arith)
    go false e true q ih = absurd (eqb-false (a n) 0 e (subst (λ (y : ℕ). a y ≡ 0) (eqb-true z n q) h))
    go false e false q ih = rw e (ih (omega (arith, eqb-false z n q)) h)

pub past_gives : (a : ℕ → ℕ) (n x : ℕ) → x < past_zero a n → (z : ℕ) × (x ≤ z) × (z < n) × (a z ≡ 0)
past_gives a zero x h = absurd (not-suc-le-zero h)
past_gives a (suc n) x h = go (eqb (a n) 0) refl (past_gives a n x)
  where
    go : (t : Bool) → eqb (a n) 0 ≡ t → (x < past_zero a n → (z : ℕ) × (x ≤ z) × (z < n) × (a z ≡ 0)) → (z : ℕ) × (x ≤ z) × (z < suc n) × (a z ≡ 0)
    go true e ih = let k : x < suc n = rw e at h in (n, omega arith, omega arith, eqb-true (a n) 0 e)
    go false e ih = let k : x < past_zero a n = rw e at h in let r = ih k in (r.0, r.1, omega (arith, r.2), r.3)

pub past_same : (a b : ℕ → ℕ) (n : ℕ) → ((i : ℕ) → i < n → a i ≡ b i) → past_zero a n ≡ past_zero b n
past_same a b zero h = refl
past_same a b (suc n) h = rw (h n (omega arith), past_same a b n (λ i c. h i (omega arith)))

pub below_each : (b c : ℕ) (l : List ℕ) → ((x : ℕ) → member x l ≡ true → x < b → x < c) → all_below b l ≡ true → all_below c l ≡ true
below_each b c [] h k = refl
below_each b c (x ∷ l) h k =
    rw (lt-ltb x c (h x (or_left (eqb x x) (member x l) (eq-eqb x x refl)) (ltb-true x b (and_left (ltb x b) (all_below b l) k))))
    (below_each b c l (λ y m. h y (or_right (eqb y x) (member y l) m)) (and_right (ltb x b) (all_below b l) k))

-- ---- live places

-- two areas that agree where the first is live have the same live places
pub live_same : (offs : List ℕ) (a b : ℕ → ℕ) (n : ℕ) → ((i : ℕ) → i < n → live offs a i ≡ true → b i ≡ a i)
    → (j : ℕ) → j ≤ n → live offs b j ≡ live offs a j
live_same offs a b n h zero l = refl
live_same offs a b n h (suc j) l = go (live offs a j) refl (live_same offs a b n h j (omega arith))
  where
    go : (t : Bool) → live offs a j ≡ t → live offs b j ≡ live offs a j → live offs b (suc j) ≡ live offs a (suc j)
    go true e ih = rw (ih, e, h j l e)
    go false e ih = rw (ih, e)

pub masked_live : (offs : List ℕ) (a : ℕ → ℕ) (j : ℕ) → live offs a j ≡ true → masked offs a j ≡ a j
masked_live offs a j h = rw h

masked_dead : (offs : List ℕ) (a : ℕ → ℕ) (j : ℕ) → live offs a j ≡ false → masked offs a j ≡ 0
masked_dead offs a j h = rw h

pub member_live : (offs : List ℕ) (a : ℕ → ℕ) (x : ℕ) → member x offs ≡ true → live offs a x ≡ true
member_live offs a zero h = h
member_live offs a (suc x) h = rw h

-- after a live place, a dead one comes only after a zero
pub dead_after : (offs : List ℕ) (a : ℕ → ℕ) (x z : ℕ) → x ≤ z → live offs a x ≡ true → live offs a z ≡ false → (y : ℕ) × (x ≤ y) × (y < z) × (a y ≡ 0)
dead_after offs a x zero b h k = absurd (true≢false (sym (let e : x ≡ 0 = omega arith in rw e at h) ∙ k))
dead_after offs a x (suc z) b h k = go (eqb x (suc z)) refl (live offs a z) refl (eqb (a z) 0) refl (dead_after offs a x z)
  where
    no_member : member (suc z) offs ≡ true → ⊥
    no_member m = true≢false (sym (member_live offs a (suc z) m) ∙ k)

    go : (s : Bool) → eqb x (suc z) ≡ s → (t : Bool) → live offs a z ≡ t → (r : Bool) → eqb (a z) 0 ≡ r
        → (x ≤ z → live offs a x ≡ true → live offs a z ≡ false → (y : ℕ) × (x ≤ y) × (y < z) × (a y ≡ 0)) → (y : ℕ) × (x ≤ y) × (y < suc z) × (a y ≡ 0)
    go true s t e r q ih = absurd (true≢false (sym (subst (λ (y : ℕ). live offs a y ≡ true) (eqb-true x (suc z) s) h) ∙ k))
    go false s true e true q ih = (z, omega (arith, eqb-false x (suc z) s), omega arith, eqb-true (a z) 0 q)
    go false s true e false q ih = absurd (true≢false (sym (or_right (member (suc z) offs) (live offs a z && not (eqb (a z) 0)) (rw (e, q))) ∙ k))
    go false s false e r q ih = let w = ih (omega (arith, eqb-false x (suc z) s)) h e in (w.0, w.1, omega (arith, w.2), w.3)

-- the rule on offsets holds of an area exactly if it holds of the area with zeros at its dead places
pub raw_masked : (offs : List ℕ) (a : ℕ → ℕ) (n : ℕ) → all_below (past_zero a n) offs ≡ true → all_below (past_zero (masked offs a) n) offs ≡ true
raw_masked offs a n =
    below_each (past_zero a n) (past_zero (masked offs a) n) offs
    λ x m b. (let z = past_gives a n x b in past_holds (masked offs a) n x z.0 z.1 z.2 (zero_masked (live offs a z.0) (a z.0) z.3))
  where
    zero_masked : (t : Bool) (y : ℕ) → y ≡ 0 → cond t y 0 ≡ 0
    zero_masked true y h = h
    zero_masked false y h = refl

pub masked_raw : (offs : List ℕ) (a : ℕ → ℕ) (n : ℕ) → all_below (past_zero (masked offs a) n) offs ≡ true → all_below (past_zero a n) offs ≡ true
masked_raw offs a n =
    below_each (past_zero (masked offs a) n) (past_zero a n) offs
    λ x m b. (let z = past_gives (masked offs a) n x b in go x m z.0 z.1 z.2 z.3 (live offs a z.0) refl)
  where
    go : (x : ℕ) → member x offs ≡ true → (z : ℕ) → x ≤ z → z < n → masked offs a z ≡ 0 → (t : Bool) → live offs a z ≡ t → x < past_zero a n
    go x m z b c h true e = past_holds a n x z b c (sym (masked_live offs a z e) ∙ h)
    go x m z b c h false e =
        let y = dead_after offs a x z b (member_live offs a x m) e in
        past_holds a n x y.0 y.1 (omega (arith, y.2)) y.3

-- a place is live exactly if some text or its zero covers it
abbrev pub Covers : List ℕ → (ℕ → ℕ) → ℕ → Type 0
Covers offs a j = (o : ℕ) × (member o offs ≡ true) × (o ≤ j) × ((i : ℕ) → o ≤ i → i < j → a i ≡ 0 → ⊥)

last_too : (a : ℕ → ℕ) (o j : ℕ) → ((x : ℕ) → o ≤ x → x < j → a x ≡ 0 → ⊥) → (a j ≡ 0 → ⊥) → (i : ℕ) → o ≤ i → i < suc j → a i ≡ 0 → ⊥
last_too a o j w z i b c q = at (eqb i j) refl
  where
    at : (t : Bool) → eqb i j ≡ t → ⊥
    at true e = z (subst (λ (x : ℕ). a x ≡ 0) (eqb-true i j e) q)
    at false e = w i b (omega (arith, eqb-false i j e)) q

pub live_covers : (offs : List ℕ) (a : ℕ → ℕ) (j : ℕ) → live offs a j ≡ true → Covers offs a j
live_covers offs a zero h = (zero, h, omega arith, λ i b c. absurd (not-suc-le-zero c))
live_covers offs a (suc j) h = go (or_cases (member (suc j) offs) (live offs a j && not (eqb (a j) 0)) h) (live_covers offs a j)
  where
    go : (member (suc j) offs ≡ true) ⊎ ((live offs a j && not (eqb (a j) 0)) ≡ true) → (live offs a j ≡ true → Covers offs a j) → Covers offs a (suc j)
    go (inl m) ih = (suc j, m, omega arith, λ i b c. absurd (omega arith))
    go (inr k) ih =
        let v = ih (and_left (live offs a j) (not (eqb (a j) 0)) k) in
        let z = eqb-false (a j) 0 (not-true (eqb (a j) 0) (and_right (live offs a j) (not (eqb (a j) 0)) k)) in
        (v.0, v.1, omega (arith, v.2), last_too a v.0 j v.3 z)

pub covers_live : (offs : List ℕ) (a : ℕ → ℕ) (j : ℕ) → Covers offs a j → live offs a j ≡ true
covers_live offs a zero v = let e : v.0 ≡ 0 = omega (arith, v.2) in rw e at v.1
covers_live offs a (suc j) v = go (eqb v.0 (suc j)) refl (covers_live offs a j)
  where
    go : (t : Bool) → eqb v.0 (suc j) ≡ t → (Covers offs a j → live offs a j ≡ true) → live offs a (suc j) ≡ true
    go true e ih = rw (eqb-true v.0 (suc j) e) at (ap (λ (t : Bool). t || (live offs a j && not (eqb (a j) 0))) v.1)
    go false e ih =
        let l : v.0 ≤ j = omega (arith, v.2, eqb-false v.0 (suc j) e) in
        let k = ih (v.0, v.1, l, λ i b c. v.3 i b (omega arith)) in
        or_right (member (suc j) offs) (live offs a j && not (eqb (a j) 0)) (rw (k, ne_eqb (a j) 0 (v.3 j l (omega arith))))

-- ---- an area of a file

slot_takes : (t : Bool) (x y : ℕ) → (t ≡ true → y ≡ x) → Takes (cond t (byte x) (spare 0)) y
slot_takes true x y h = h refl
slot_takes false x y h = tt

pub slot_taken : (t : Bool) (x y : ℕ) → Takes (cond t (byte x) (spare 0)) y → t ≡ true → y ≡ x
slot_taken true x y h e = h
slot_taken false x y h e = absurd (true≢false (sym e))

module _ (offs : List ℕ) (n : ℕ) (f : List ℕ) (p : ℕ) where
  here : ℕ → ℕ
  here i = get_or f (p + i) 0

  area_read : List ℕ
  area_read = tab n (masked offs here)

  -- what is read has the file's live places
  area_live : (j : ℕ) → j < n → live offs (λ i. get_or area_read i 0) j ≡ live offs here j
  unfolding area_read
  area_live j b = live_same offs here (λ i. get_or area_read i 0) n (λ i c e. get_d_tab n (masked offs here) 0 i c ∙ masked_live offs here i e) j (omega arith)

  area_fits : p + n ≤ length f → Fits f p ((area offs n 12).slots area_read)
  unfolding area_read here
  area_fits b =
      fits_tab f p n _ b
      λ j c. slot_takes (live offs (λ i. get_or area_read i 0) j) (get_or area_read j 0) (get_or f (p + j) 0)
      (λ e. sym (get_d_tab n (masked offs here) 0 j c ∙ masked_live offs here j (sym (area_live j c) ∙ e)))

  masked_small : Bytes f → (j : ℕ) → masked offs here j < 256
  unfolding here
  masked_small u j = go (live offs here j) refl
    where
      go : (t : Bool) → live offs here j ≡ t → masked offs here j < 256
      go true e = rw e (u (p + j))
      go false e = rw e (omega arith)

  same_past : past_zero (λ i. get_or area_read i 0) n ≡ past_zero (masked offs here) n
  unfolding area_read
  same_past = past_same (λ i. get_or area_read i 0) (masked offs here) n (λ i b. get_d_tab n (masked offs here) 0 i b)

  area_right : Bytes f → all_below (past_zero here n) offs ≡ true → AreaRight offs n area_read
  unfolding area_read
  area_right u h =
      record {
        long = length_tab n (masked offs here);
        bytes = tab_bytes n (masked offs here) (masked_small u);
        clear = λ j c e. get_d_tab n (masked offs here) 0 j c ∙ masked_dead offs here j (sym (area_live j c) ∙ e);
        end = rw same_past (raw_masked offs here n h);
      }

  area_back : (a : List ℕ) → AreaRight offs n a → Fits f p ((area offs n 12).slots a) → area_read ≡ a
  unfolding area_read here
  area_back a r m =
      let same : (i : ℕ) → i < n → live offs (λ k. get_or a k 0) i ≡ true → here i ≡ get_or a i 0 =
      λ i c e. slot_taken (live offs (λ k. get_or a k 0) i) (get_or a i 0) (get_or f (p + i) 0) (tab_at f p n _ m i c) e in
      ext_get_or 0 area_read a (length_tab n (masked offs here) ∙ sym r.long)
      λ i c. (let d : i < n = omega (arith, length_tab n (masked offs here)) in
      get_d_tab n (masked offs here) 0 i d
      ∙ pick (live offs (λ k. get_or a k 0) i) i refl (live_same offs (λ k. get_or a k 0) here n same i (omega arith)) (same i d) (r.clear i d))
    where
      pick : (t : Bool) (i : ℕ) → live offs (λ k. get_or a k 0) i ≡ t → live offs here i ≡ live offs (λ k. get_or a k 0) i
          → (live offs (λ k. get_or a k 0) i ≡ true → here i ≡ get_or a i 0) → (live offs (λ k. get_or a k 0) i ≡ false → get_or a i 0 ≡ 0)
          → masked offs here i ≡ get_or a i 0
      pick true i e s h k = masked_live offs here i (s ∙ e) ∙ h e
      pick false i e s h k = masked_dead offs here i (s ∙ e) ∙ sym (k e)

  area_rule : (a : List ℕ) → AreaRight offs n a → area_read ≡ a → all_below (past_zero here n) offs ≡ true
  area_rule a r e =
      masked_raw offs here n
      (subst (λ (z : ℕ). all_below z offs ≡ true) same_past (subst (λ (l : List ℕ). all_below (past_zero (λ i. get_or l i 0) n) offs ≡ true) (sym e) r.end))

area_small : (offs : List ℕ) (n : ℕ) (a : List ℕ) → Bytes a → Small (tab n (λ j. cond (live offs (λ i. get_or a i 0) j) (byte (get_or a j 0)) (spare 0)))
area_small offs n a u = small_tab n _ (λ j b. pick (live offs (λ i. get_or a i 0) j) (get_or a j 0) (u j))
  where
    pick : (t : Bool) (x : ℕ) → x < 256 → put (cond t (byte x) (spare 0)) < 256
    pick true x b = b
    pick false x b = omega arith

pub area_good : (offs : List ℕ) (n c : ℕ) → 0 < c → Good n ◌≤◌ (area offs n c)
unfolding area_read here
area_good offs n c h =
    record {
      sized = λ a. length_tab n _;
      small = λ a r. area_small offs n a r.bytes;
      complete = λ f p a r m e. (let q = area_back offs n f p a r m in
          record { accepted = unless_holds (all_below (past_zero (λ i. get_or f (p + i) 0) n) offs) c (area_rule offs n f p a r q); read_back = q });
      sound = λ f p u l j. record {
        right = area_right offs n f p u (unless_true (all_below (past_zero (λ i. get_or f (p + i) 0) n) offs) c h j);
        fits = area_fits offs n f p l;
        ends = l;
      };
    }
