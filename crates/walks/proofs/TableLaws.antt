-- Label words in a table.
use mathlib.Core.Path.{◌≡◌, refl, sym, ap, ◌∙◌, subst}
use Prim.Native.Nat.{ℕ, zero, suc, ◌+◌, ◌-◌, ◌*◌, ◌/◌, ◌≤◌, ◌<◌}
use native.Mathlib.Omega.{arith}
use mathlib.Core.List.{List, []}
use mathlib.Core.Bool.{Bool, true, false, false≢true}
use lib.ListN.{length, get_or, take, drop, length-drop}
use lib.Seq.{get_or-drop, take-length}
use lib.Dec.{eqb, leb, ltb}
use lib.IntN.{ℤ}
use lib.Signed.{lt_z}
use borrow.Author.Tests.{le-leb, lt-leb, leb-true, leb-false, lt-ltb, le-ltb, ltb-true}
use Rattle.format.specs.Number.{Order, num, seat}
use Rattle.format.specs.Cells.{signed_by}
use Rattle.format.specs.Search.{Slot, found, missing, lost, Searched, same_z, halve, value_at, search_at}
use Rattle.format.proofs.NumberLaws.{val_same}
use Rattle.format.proofs.SearchLaws.{middle}
use Rattle.questions.specs.Readings.{Try, none, got, test, number_in}
use Rattle.questions.specs.Ask.{Answer, refused, part, plain, sized_in}
use Rattle.reading.proofs.ReadLaws.{number_got, place_got, place_none}
use Rattle.answers.specs.declared.Part.{Part}
use Rattle.std.specs.Prelude.{Option, Result}
use Rattle.refusal.specs.declared.Refusal.{Refusal}
use Rattle.walks.specs.Answers.{words_by}
use Rattle.walks.specs.Walks.{entry_place, slot_place, table_place, is_got, is_sized}

-- ---- answers

-- words that an answer gives, and another that is the same
pub words_as : (r : Result (Option Part) Refusal) (a b : Answer) → r ≡ words_by a → b ≡ a → r ≡ words_by b
words_as r a b e h = e ∙ ap words_by (sym h)

-- ---- the words at a slot

module _ (o : Order) (f : List ℕ) (p n x m : ℕ) (inside : p + 8 + m * 4 + 4 ≤ length f) (y : ℕ) (e : y ≡ num o 4 f (p + 8 + m * 4)) where
  abbrev at : ℕ
  at = p + 8 + n * 4 + n * 4 + y

  offset : number_in o 4 f (p + 8 + m * 4) ≡ got y
  offset = number_got o 4 f (p + 8 + m * 4) inside ∙ ap got (sym e)

  pub entry_over : x ≤ y → entry_place o f p n x m ≡ refused 17
  unfolding entry_place
  entry_over h = rw (offset, le-ltb y x h)

  module _ (h : y < x) where
    pub entry_past : length f < p + 8 + n * 4 + y + n * 4 → entry_place o f p n x m ≡ refused 17
    unfolding entry_place
    entry_past k = rw (offset, lt-ltb y x h, place_none f at (omega arith))

    pub entry_got : p + 8 + n * 4 + y + n * 4 ≤ length f → entry_place o f p n x m ≡ part at (x - y)
    unfolding entry_place
    entry_got k = rw (offset, lt-ltb y x h, place_got f at (omega arith))

-- ---- the search in the rest of the file

module _ (v v' : ℕ → ℤ) (there there' : ℕ → Bool) (x : ℤ) (a : (i : ℕ) → v i ≡ v' i) (b : (i : ℕ) → there i ≡ there' i) where
  halve_same : (k lo hi : ℕ) → halve v there x k lo hi ≡ halve v' there' x k lo hi
  halve_same zero lo hi = refl
  halve_same (suc k) lo hi =
      let i = (lo + (hi - 1)) / 2 in
      rw (a i, b i, halve_same k lo i, halve_same k (i + 1) hi)

num_drop : (o : Order) (w a : ℕ) (f : List ℕ) (p q : ℕ) → a + p ≡ q → num o w (drop a f) p ≡ num o w f q
num_drop o w a f p q e =
    val_same (λ k. get_or (drop a f) (p + seat o w k) 0) (λ k. get_or f (q + seat o w k) 0) w λ k b. (
    let s = seat o w k in
    let i : a + (p + s) ≡ q + s = omega arith in
    get_or-drop a f (p + s) 0 ∙ ap (λ (j : ℕ). get_or f j 0) i)

pub search_drop : (o : Order) (f : List ℕ) (a n : ℕ) (q : ℤ) → a ≤ length f → search_at o (drop a f) 0 (length f - a) n q ≡ search_at o f a (length f) n q
unfolding search_at
search_drop o f a n q h =
    halve_same (value_at o (drop a f) 0) (value_at o f a) (λ i. leb (0 + 4 * i + 4) (length f - a)) (λ i. leb (a + 4 * i + 4) (length f)) q
    (λ i. ap (signed_by 2147483648) (num_drop o 4 a f (0 + 4 * i) (a + 4 * i) (omega arith)))
    (λ i. by i (leb (0 + 4 * i + 4) (length f - a)) refl)
    n
    0
    n
  where
    by : (i : ℕ) (b : Bool) → leb (0 + 4 * i + 4) (length f - a) ≡ b → leb (0 + 4 * i + 4) (length f - a) ≡ leb (a + 4 * i + 4) (length f)
    by i true e = e ∙ sym (le-leb (a + 4 * i + 4) (length f) (omega (arith, leb-true (0 + 4 * i + 4) (length f - a) e)))
    by i false e = e ∙ sym (lt-leb (a + 4 * i + 4) (length f) (omega (arith, leb-false (0 + 4 * i + 4) (length f - a) e)))

-- ---- a slot that is found is one of the n

abbrev Below : Slot → ℕ → Type 0
Below (found m) n = m < n
Below missing n = Unit
Below lost n = Unit

below_more : (s : Slot) (a b : ℕ) → a ≤ b → Below s a → Below s b
below_more (found m) a b h k = omega arith
below_more missing a b h k = tt
below_more lost a b h k = tt

module _ (v : ℕ → ℤ) (there : ℕ → Bool) (x : ℤ) where
  halve_below : (k lo hi : ℕ) → Below (halve v there x k lo hi).slot hi
  halve_below zero lo hi = tt
  halve_below (suc k) lo hi = go (ltb lo hi) refl (there (middle lo hi)) refl (same_z x (v (middle lo hi))) refl (lt_z x (v (middle lo hi))) refl (halve_below k lo (middle lo hi)) (halve_below k (middle lo hi + 1) hi)
    where
      go : (a : Bool) → ltb lo hi ≡ a → (b : Bool) → there (middle lo hi) ≡ b → (c : Bool) → same_z x (v (middle lo hi)) ≡ c → (d : Bool) → lt_z x (v (middle lo hi)) ≡ d
          → Below (halve v there x k lo (middle lo hi)).slot (middle lo hi) → Below (halve v there x k (middle lo hi + 1) hi).slot hi → Below (halve v there x (suc k) lo hi).slot hi
      go false p b q c r d s l h = rw p tt
      go true p false q c r d s l h = rw (p, q) tt
      go true p true q true r d s l h = rw (p, q, r) (omega (arith, ltb-true lo hi p))
      go true p true q false r true s l h = rw (p, q, r, s) (below_more (halve v there x k lo (middle lo hi)).slot (middle lo hi) hi (omega (arith, ltb-true lo hi p)) l)
      go true p true q false r false s l h = rw (p, q, r, s) h

module _ (o : Order) (f : List ℕ) (a n : ℕ) (q : ℤ) where
  pub slot_below : (m : ℕ) → found m ≡ (search_at o f a (length f) n q).slot → m < n
  unfolding search_at
  slot_below m e = subst (λ (s : Slot). Below s n) (sym e) (halve_below (value_at o f a) (λ i. leb (a + 4 * i + 4) (length f)) q n 0 n)

-- values that are past the file
lost_all : (o : Order) (f : List ℕ) (a n : ℕ) (q : ℤ) → length f < a → 0 < n → (search_at o f a (length f) n q).slot ≡ lost
unfolding search_at
lost_all o f a zero q h b = absurd (omega arith)
lost_all o f a (suc n) q h b =
    let i = (0 + (suc n - 1)) / 2 in
    rw (lt-ltb 0 (suc n) b, lt-leb (a + 4 * i + 4) (length f) (omega arith))

-- ---- the words for a value in a table

module _ (o : Order) (f : List ℕ) (p n x : ℕ) (q : ℤ) where
  abbrev slot : Slot
  slot = (search_at o f (p + 8 + n * 4) (length f) n q).slot

  pub slot_found : (m : ℕ) → found m ≡ slot → slot_place o f p n x q ≡ entry_place o f p n x m
  unfolding slot_place
  slot_found m e = rw (sym e)

  pub slot_missing : missing ≡ slot → slot_place o f p n x q ≡ plain []
  unfolding slot_place
  slot_missing e = rw (sym e)

  pub slot_lost : lost ≡ slot → slot_place o f p n x q ≡ refused 17
  unfolding slot_place
  slot_lost e = rw (sym e)

module _ (o : Order) (f : List ℕ) (p : ℕ) (q : ℤ) where
  pub table_no_count : number_in o 4 f p ≡ none → table_place o f p q ≡ refused 17
  unfolding table_place
  table_no_count h = rw h

  module _ (n : ℕ) (a : number_in o 4 f p ≡ got n) where
    pub table_no_size : number_in o 4 f (p + 4) ≡ none → table_place o f p q ≡ refused 17
    unfolding table_place
    table_no_size h = rw (a, h)

    module _ (x : ℕ) (b : number_in o 4 f (p + 4) ≡ got x) where
      pub table_is : table_place o f p q ≡ slot_place o f p n x q
      unfolding table_place
      table_is = rw (a, b)

      pub table_past : p + 8 ≤ length f → length f < p + 8 + n * 4 → table_place o f p q ≡ refused 17
      table_past g k = table_is ∙ slot_lost o f p n x q (sym (lost_all o f (p + 8 + n * 4) n q k (omega arith)))

-- ---- a table as long as it says

module _ (o : Order) (f : List ℕ) (w p : ℕ) where
  pub sized_no_count : number_in o 4 f p ≡ none → false ≡ is_sized o f w p
  unfolding is_sized
  sized_no_count h = rw h

  module _ (n : ℕ) (a : number_in o 4 f p ≡ got n) where
    pub sized_no_size : number_in o 4 f (p + 4) ≡ none → false ≡ is_sized o f w p
    unfolding is_sized
    sized_no_size h = rw (a, h)

    pub sized_is : (x : ℕ) → number_in o 4 f (p + 4) ≡ got x → eqb w (8 + (8 * n + x)) ≡ is_sized o f w p
    unfolding is_sized
    sized_is x b = rw (a, b) (by (eqb w (8 + (8 * n + x))))
      where
        by : (b : Bool) → b ≡ is_got (test b)
        by true = refl
        by false = refl

  -- what was read of it
  pub sized_got : is_sized o f w p ≡ true → sized_in o f w p ≡ got tt
  unfolding is_sized
  sized_got h = go (sized_in o f w p) refl h
    where
      go : (r : Try (Unit {0})) → sized_in o f w p ≡ r → is_got r ≡ true → sized_in o f w p ≡ got tt
      go none e k = absurd (false≢true k)
      go (got tt) e k = e

  pub sized_none : is_sized o f w p ≡ false → sized_in o f w p ≡ none
  unfolding is_sized
  sized_none h = go (sized_in o f w p) refl h
    where
      go : (r : Try (Unit {0})) → sized_in o f w p ≡ r → is_got r ≡ false → sized_in o f w p ≡ none
      go none e k = e
      go (got u) e k = absurd (false≢true (sym k))

-- where the search in the rest of the file ends
pub search_tail : (o : Order) (f : List ℕ) (v a n : ℕ) (q : ℤ) → v ≡ a → v ≤ length f → (s : Slot)
    → s ≡ (search_at o (take (length f - v) (drop v f)) 0 (length f - v) n q).slot → s ≡ (search_at o f a (length f) n q).slot
search_tail o f v a n q e h s k =
    k
    ∙ ap (λ (g : List ℕ). (search_at o g 0 (length f - v) n q).slot) (take_all v f)
    ∙ ap (λ (r : Searched). r.slot) (search_drop o f v n q h)
    ∙ ap (λ (b : ℕ). (search_at o f b (length f) n q).slot) e
  where
    take_all : (v : ℕ) (f : List ℕ) → take (length f - v) (drop v f) ≡ drop v f
    take_all v f = ap (λ (n : ℕ). take n (drop v f)) (sym (length-drop v f)) ∙ take-length (drop v f)
