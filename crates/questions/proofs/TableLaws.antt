-- Label tables of an accepted file: the search, and the label found.
use mathlib.Core.Path.{◌≡◌, refl, sym, ap, ◌∙◌, subst}
use Prim.Native.Nat.{ℕ, zero, suc, ◌+◌, ◌-◌, ◌*◌, ◌≤◌, ◌<◌}
use native.Mathlib.Nat.{add-suc, not-suc-le-zero, le_of_suc-le-suc}
use native.Mathlib.Omega.{arith}
use mathlib.Core.List.{List, [], ◌∷◌, ◌++◌}
use mathlib.Core.Bool.{Bool, true, false, not, ◌&&◌}
use lib.ListN.{length, get_or}
use lib.Dec.{eqb, leb, ltb}
use lib.IntN.{ℤ}
use borrow.Author.Tests.{eqb-false, eq-eqb, le-leb, ltb-true, lt-ltb}
use Rattle.format.specs.Slot.{Slot, Fits}
use Rattle.format.specs.Number.{Order, num, num_slots}
use Rattle.format.specs.Grammar.{number, text_at, member, all_below, live, AreaRight, area, all_slots, AllRight}
use Rattle.format.specs.Labels.{Table, table_head, table_body, table, table_size}
use Rattle.format.specs.Cells.{signed_by}
use Rattle.format.specs.Search.{found, missing, lost, Searched, value_at, search_at}
use Rattle.format.specs.Search as Search
use Rattle.format.proofs.SlotLaws.{fits_left, fits_right, fits_after, fits_bound, length_tab, tab_at}
use Rattle.format.proofs.Good.{and_left, and_right, number_good, all_sized, element}
use Rattle.format.proofs.AreaLaws.{or_right, past_gives, member_live, slot_taken}
use Rattle.format.proofs.LabelLaws.{numbers_wide}
use Rattle.questions.specs.Readings.{got, number_in, text_in}
use Rattle.questions.specs.Ask.{slice, slot_in, table_in, sized_in}
use Rattle.questions.specs.Fact.{label_at, slot_fact, words_fact}
use Rattle.questions.proofs.ReadLaws.{number_in_lem, number_is, text_in_lem, text_part_lem}
use Rattle.format.proofs.SearchLaws.{search_same, Ends, search_ends}

-- ---- a label in the text area

module _ (offs a : List ℕ) (n : ℕ) (f : List ℕ) (p : ℕ) (m : Fits f p ((area offs n 12).slots a)) where
  same_live : (j : ℕ) → j < n → live offs (λ i. get_or a i 0) j ≡ true → get_or f (p + j) 0 ≡ get_or a j 0
  same_live j b e = slot_taken (live offs (λ i. get_or a i 0) j) (get_or a j 0) (get_or f (p + j) 0) (tab_at f p n _ m j b) e

  -- from a live place on up to the zero, file and area have the same text
  text_live : (k y : ℕ) → y + k ≤ n → live offs (λ i. get_or a i 0) y ≡ true → text_at k f (p + y) ≡ text_at k a y
  text_live zero y b h = refl
  text_live (suc k) y b h = go (eqb (get_or a y 0) 0) refl (same_live y (omega arith) h) (text_live k (suc y) (omega arith))
    where
      go : (t : Bool) → eqb (get_or a y 0) 0 ≡ t → get_or f (p + y) 0 ≡ get_or a y 0 → (live offs (λ i. get_or a i 0) (suc y) ≡ true → text_at k f (p + suc y) ≡ text_at k a (suc y))
          → text_at (suc k) f (p + y) ≡ text_at (suc k) a y
      go true e s ih = rw (s, e)
      go false e s ih =
          let i = rw (add-suc p y) at (ih (or_right (member (suc y) offs) (live offs (λ i. get_or a i 0) y && not (eqb (get_or a y 0) 0)) (rw (h, e)))) in
          rw (s, e) (ap (λ (l : List ℕ). get_or a y 0 ∷ l) i)

-- a text with a zero among its k bytes ends before them
zero_short : (l : List ℕ) (k y z : ℕ) → y ≤ z → z < y + k → get_or l z 0 ≡ 0 → length (text_at k l y) < k
zero_short l zero y z b c h = absurd (omega arith)
zero_short l (suc k) y z b c h = go (eqb (get_or l y 0) 0) refl (zero_short l k (suc y) z)
  where
    go : (t : Bool) → eqb (get_or l y 0) 0 ≡ t → (suc y ≤ z → z < suc y + k → get_or l z 0 ≡ 0 → length (text_at k l (suc y)) < k) → length (text_at (suc k) l y) < suc k
    go true e ih = rw e (omega arith)
    go false e ih =
        let d : y ≡ z → ⊥ = λ q. eqb-false (get_or l y 0) 0 e (subst (λ (x : ℕ). get_or l x 0 ≡ 0) (sym q) h) in
        let i = ih (omega (arith, d)) (omega arith) h in
        rw e (omega arith)

below_at : (b : ℕ) (l : List ℕ) (m : ℕ) → all_below b l ≡ true → m < length l → get_or l m 0 < b
below_at b [] m h c = absurd (not-suc-le-zero c)
below_at b (y ∷ l) zero h c = ltb-true y b (and_left (ltb y b) (all_below b l) h)
below_at b (y ∷ l) (suc m) h c = below_at b l m (and_right (ltb y b) (all_below b l) h) (le_of_suc-le-suc c)

member_at : (l : List ℕ) (m : ℕ) → m < length l → member (get_or l m 0) l ≡ true
member_at [] m b = absurd (not-suc-le-zero b)
member_at (y ∷ l) zero b = rw (eq-eqb y y refl)
member_at (y ∷ l) (suc m) b = or_right (eqb (get_or l m 0) y) (member (get_or l m 0) l) (member_at l m (le_of_suc-le-suc b))

-- ---- a table

-- a number that stands at p
pub record NumberAt (o : Order) (f : List ℕ) (p n : ℕ) : Type 0 where
  pub inside : p + 4 ≤ length f
  pub is : num o 4 f p ≡ n

-- what is read of a table that stands at p
pub record TableFacts (o : Order) (f : List ℕ) (p : ℕ) (t : Table) : Type 0 where
  pub read_n : number_in o 4 f p ≡ got (length t.offsets)
  pub read_x : number_in o 4 f (p + 4) ≡ got (length t.texts)
  pub read_offset : (i : ℕ) → i < length t.offsets → NumberAt o f (p + 8 + i * 4) (get_or t.offsets i 0)
  pub read_value : (i : ℕ) → i < length t.offsets → NumberAt o f (p + 8 + length t.offsets * 4 + i * 4) (get_or t.values i 0)
  pub in_text : Fits f (p + 8 + length t.offsets * 4 + length t.offsets * 4) ((area t.offsets (length t.texts) 12).slots t.texts)
  pub right_text : AreaRight t.offsets (length t.texts) t.texts

numbers_length : (o : Order) (n : ℕ) (l : List ℕ) → length l ≡ n → AllRight (number o 4) l → length (all_slots (number o 4) l) ≡ n * 4
numbers_length o n l e r = all_sized (number o 4) (number_good o 4) l ∙ numbers_wide o n l (e, r)

number_at : (o : Order) (l : List ℕ) (f : List ℕ) (p i : ℕ) → AllRight (number o 4) l → Fits f p (all_slots (number o 4) l) → i < length l → NumberAt o f (p + i * 4) (get_or l i 0)
number_at o l f p i r m b =
    let k = element (number o 4) (number_good o 4) (λ a r. refl) 0 l f p i r m b in
    record { inside = k.inside; is = k.reads }

pub table_facts : (o : Order) (w : ℕ) (f : List ℕ) (p : ℕ) (t : Table) → (table o w).Right t → Fits f p ((table o w).slots t) → TableFacts o f p t
unfolding table table_head table_body
table_facts o w f p t r m =
    let n = length t.offsets in
    let x = length t.texts in
    let A = num_slots o 4 n ++ num_slots o 4 x in
    let T = (area t.offsets x 12).slots t.texts in
    let W = all_slots (number o 4) t.values in
    let O = all_slots (number o 4) t.offsets in
    let h = fits_left f p A (O ++ (W ++ T)) m in
    let a : Fits f (p + 8) (O ++ (W ++ T)) = fits_right f p A (O ++ (W ++ T)) m in
    let b = fits_after f (p + 8) (n * 4) O (W ++ T) (numbers_length o n t.offsets r.1.1.0.0 r.1.1.0.1) a in
    let c = fits_after f (p + 8 + n * 4) (n * 4) W T (numbers_length o n t.values r.1.1.1.0.0.0 r.1.1.1.0.0.1) b in
    record {
      read_n = number_is o 4 n f p r.1.0.0.0 (fits_left f p (num_slots o 4 n) (num_slots o 4 x) h);
      read_x = number_is o 4 x f (p + 4) r.1.0.0.1 (fits_right f p (num_slots o 4 n) (num_slots o 4 x) h);
      read_offset = λ i l. number_at o t.offsets f (p + 8) i r.1.1.0.1 (fits_left f (p + 8) O (W ++ T) a) l;
      read_value = λ i l. number_at o t.values f (p + 8 + n * 4) i r.1.1.1.0.0.1 (fits_left f (p + 8 + n * 4) W T b) (rw r.1.1.1.0.0.0 l);
      in_text = c;
      right_text = r.1.1.1.1;
    }

module _ (o : Order) (f : List ℕ) (p : ℕ) (t : Table) (F : TableFacts o f p t) where
  abbrev label_placed : ℕ → ℕ
  label_placed m = p + 8 + length t.offsets * 4 + length t.offsets * 4 + get_or t.offsets m 0

  -- the label at slot m
  pub record Labelled (m : ℕ) : Type 0 where
    pub below : get_or t.offsets m 0 < length t.texts
    pub reads : text_in (length t.texts - get_or t.offsets m 0) f (label_placed m) ≡ got (label_at t m)
    pub short : length (label_at t m) < length t.texts - get_or t.offsets m 0
    pub bytes : slice f (label_placed m) (length (label_at t m)) ≡ label_at t m

  pub labelled : (m : ℕ) → m < length t.offsets → Labelled m
  labelled m b =
      let y = get_or t.offsets m 0 in
      let x = length t.texts in
      let T = p + 8 + length t.offsets * 4 + length t.offsets * 4 in
      let z = past_gives (λ i. get_or t.texts i 0) x y (below_at _ t.offsets m F.right_text.end b) in
      let l : y < x = omega (arith, z.1, z.2) in
      let h : T + x ≤ length f = rw length_tab at (fits_bound f T ((area t.offsets x 12).slots t.texts) F.in_text) in
      let i : T + y + (x - y) ≤ length f = omega arith in
      let k = text_live t.offsets t.texts x f T F.in_text (x - y) y (omega arith)
      (member_live t.offsets (λ i. get_or t.texts i 0) y (member_at t.offsets m b)) in
      record {
        below = l;
        reads = text_in_lem (x - y) f (T + y) i ∙ ap (λ (s : List ℕ). got s) k;
        short = zero_short t.texts (x - y) y z.0 z.1 (omega (arith, z.2)) z.3;
        bytes = rw k at (text_part_lem (x - y) f (T + y) i);
      }

  -- the values of the table
  abbrev value : ℕ → ℤ
  value i = signed_by 2147483648 (get_or t.values i 0)

  entry_at : (lent : List ℕ) (q : ℤ) (s : Search.Slot) → Ends value q (length t.offsets) s
      → slot_in o f lent p (length t.offsets) (length t.texts) s ≡ words_fact lent p t s
  entry_at lent q (found m) b =
      let L = labelled m b.0 in
      let N = F.read_offset m b.0 in
      let y = get_or t.offsets m 0 in
      rw (number_in_lem o 4 f (p + 8 + m * 4) N.inside, N.is, lt-ltb y (length t.texts) L.below, L.reads, lt-ltb (length (label_at t m)) (length t.texts - y) L.short)
  entry_at lent q missing b = refl
  entry_at lent q lost b = absurd b

  -- the search in the file is that in the table
  search_is : (q : ℤ) → (search_at o f (p + 8 + length t.offsets * 4) (length f) (length t.offsets) q).slot ≡ slot_fact q t
  unfolding search_at
  search_is q =
      let n = length t.offsets in
      let vals = p + 8 + n * 4 in
      ap (λ (s : Searched). s.slot)
      (search_same (value_at o f vals) value (λ i. leb (vals + 4 * i + 4) (length f)) (λ i. true) q n
      (λ i b. (let e : vals + 4 * i ≡ vals + i * 4 = omega arith in
      ap (λ (x : ℕ). signed_by 2147483648 (num o 4 f x)) e ∙ ap (λ (x : ℕ). signed_by 2147483648 x) (F.read_value i b).is))
      (λ i b. le-leb (vals + 4 * i + 4) (length f) (omega (arith, (F.read_value i b).inside))))

  pub table_at : (lent : List ℕ) (q : ℤ) → table_in o f lent q p ≡ words_fact lent p t (slot_fact q t)
  table_at lent q = rw (F.read_n, F.read_x, search_is q) (entry_at lent q (slot_fact q t) (search_ends value q (length t.offsets)))

  -- it is as long as it says
  pub table_sized : sized_in o f (table_size t) p ≡ got tt
  table_sized = rw (F.read_n, F.read_x, eq-eqb (table_size t) (8 + (8 * length t.offsets + length t.texts)) refl)
