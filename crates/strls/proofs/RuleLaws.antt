-- The pass over the bytes is the grammar's number 11 on the cells and the records.
use mathlib.Core.Path.{◌≡◌, refl, sym, ap, ◌∙◌}
use Prim.Native.Nat.{ℕ, zero, suc, ◌+◌, ◌-◌, ◌≤◌, ◌<◌}
use native.Mathlib.Nat.{not-suc-le-zero, add-zero, zero-add}
use native.Mathlib.Omega.{arith}
use mathlib.Core.List.{List, [], ◌∷◌, ◌++◌, append_assoc, append-nil}
use mathlib.Core.Bool.{Bool, true, false, cond, ◌||◌, ◌&&◌, and-false}
use lib.ListN.{length, get_or}
use lib.Dec.{eqb, leb, ltb}
use borrow.Author.Tests.{eqb-true, eqb-false, eq-eqb, ne_eqb, le-leb, leb-true, leb-false}
use Rattle.format.specs.Number.{Order, num, tab}
use Rattle.format.specs.Grammar.{text_at, unless}
use Rattle.format.specs.Variables.{VarType, text_type, strl_type, byte_type, int_type, long_type, float_type, double_type}
use Rattle.format.specs.Data.{Cell, bits, chars, link, cell, LongString, is_link, names_itself, link_rule, row_links, data_links, row_selves, data_selves, zero_last, kind_rule, record_rule, linked, long_next}
use Rattle.codes.specs.declared.Field.{Field}
use Rattle.codes.specs.Fields.{field_by}
use Rattle.data.proofs.PlaceLaws.{type_at}
use Rattle.data.proofs.PlaceLaws as P
use Rattle.std.specs.Prelude.{Ok}
use Rattle.refusal.specs.Refusals.{code_of}
use Rattle.strls.specs.declared.Frame.{Frame}
use Rattle.strls.specs.Records.{order_of, kind_ok, head_size, kind_at, len_at, record_ok}
use Rattle.strls.specs.Links.{Turn, str_l, place_of, is_long, link_at, self_at, link_ok, broken, followed, record_step, cell_step, row_run, data_run, ended, rule11, Framed, cells_of}
use Rattle.strls.proofs.RecordLaws.{long_at, tab_length}
use Rattle.strls.proofs.WalkLaws.{Recs, none, some}
use Rattle.strls.proofs.TableLaws.{never, long_type_lem, type_field_lem}
use Rattle.strls.proofs.LinkLaws.{self_none, self_past, self_first, self_after, self_other, self_is}

-- ---- numbers and texts

eqb_sym : (x y : ℕ) → eqb x y ≡ eqb y x
eqb_sym x y = go (eqb y x) refl
  where
    go : (t : Bool) → eqb y x ≡ t → eqb x y ≡ eqb y x
    go true q = rw q (eq-eqb x y (sym (eqb-true y x q)))
    go false q = rw q (ne_eqb x y (λ z. eqb-false y x q (sym z)))

eqb_suc : (x y : ℕ) → eqb (suc x) (suc y) ≡ eqb x y
eqb_suc x y = go (eqb x y) refl
  where
    go : (t : Bool) → eqb x y ≡ t → eqb (suc x) (suc y) ≡ eqb x y
    go true q = rw q (eq-eqb (suc x) (suc y) (ap suc (eqb-true x y q)))
    go false q = rw q (ne_eqb (suc x) (suc y) (λ z. eqb-false x y q (let e : suc x ≡ suc y = z in omega arith)))

-- the last byte is the only zero: the first zero is the last byte
zero_last_lem : (n : ℕ) (f : List ℕ) (p : ℕ) (s : ℕ → ℕ) → ((i : ℕ) → s i ≡ get_or f (p + i) 0) → zero_last (tab n s) ≡ eqb (suc (length (text_at n f p))) n
zero_last_lem zero f p s h = refl
zero_last_lem (suc zero) f p s h = go (eqb (get_or f p 0) 0) refl
  where
    go : (t : Bool) → eqb (get_or f p 0) 0 ≡ t → zero_last (tab 1 s) ≡ eqb (suc (length (text_at 1 f p))) 1
    go true q = rw (h 0, add-zero, q)
    go false q = rw (h 0, add-zero, q)
zero_last_lem (suc (suc n)) f p s h = go (eqb (get_or f p 0) 0) refl (zero_last_lem (suc n) f (suc p) (λ i. s (suc i)) (λ i. h (suc i) ∙ ap (λ (k : ℕ). get_or f k 0) (omega arith)))
  where
    go : (t : Bool) → eqb (get_or f p 0) 0 ≡ t → zero_last (tab (suc n) (λ i. s (suc i))) ≡ eqb (suc (length (text_at (suc n) f (suc p)))) (suc n)
        → zero_last (tab (suc (suc n)) s) ≡ eqb (suc (length (text_at (suc (suc n)) f p))) (suc (suc n))
    go true q ih = rw (h 0, add-zero, q) (sym (ne_eqb 1 (suc (suc n)) (λ z. (let e : 1 ≡ suc (suc n) = z in omega arith))))
    go false q ih = rw (h 0, add-zero, q) (ih ∙ sym (eqb_suc (suc (length (text_at (suc n) f (suc p)))) (suc n)))

-- ---- cells

-- not a reference
abbrev plain : Cell → Bool
plain (bits n) = true
plain (chars t) = true
plain (link v x) = false

plain_rule : (D : List (List Cell)) (i j : ℕ) (c : Cell) → plain c ≡ true → link_rule D i j c ≡ true
plain_rule D i j (bits n) h = refl
plain_rule D i j (chars t) h = refl
plain_rule D i j (link v x) h = absurd (never h)

plain_link : (c : Cell) (v x : ℕ) → plain c ≡ true → is_link c v x ≡ false
plain_link (bits n) v x h = refl
plain_link (chars t) v x h = refl
plain_link (link a b) v x h = absurd (never h)

-- the cells of a type are references only if it is strL
plain_type : (o : Order) (vw ow : ℕ) (f : List ℕ) (p : ℕ) (x : VarType) → str_l (field_by x).kind ≡ false → plain ((cell o vw ow x).read f p) ≡ true
plain_type o vw ow f p (text_type w) h = refl
plain_type o vw ow f p strl_type h = absurd (never (sym h))
plain_type o vw ow f p byte_type h = refl
plain_type o vw ow f p int_type h = refl
plain_type o vw ow f p long_type h = refl
plain_type o vw ow f p float_type h = refl
plain_type o vw ow f p double_type h = refl

module _ (f : List ℕ) (d : Frame) (F : Framed f d) where
  -- the cell of variable i in observation j, the cells of a row from i on, the rows from j on
  abbrev cell_at : ℕ → ℕ → Cell
  cell_at i j = P.cell_at d.tagged (order_of d) f d.types d.vwidth d.owidth F.eight d.k d.data i j

  abbrev cells_from : ℕ → ℕ → ℕ → List Cell
  cells_from m i j = P.cells_from d.tagged (order_of d) f d.types d.vwidth d.owidth F.eight d.k d.data m i j

  abbrev rows_from : ℕ → ℕ → List (List Cell)
  rows_from m j = P.rows_from d.tagged (order_of d) f d.types d.vwidth d.owidth F.eight d.k d.data m j

  -- the numbers of a reference
  abbrev v_of : ℕ → ℕ → ℕ
  v_of i j = num (order_of d) d.vwidth f (place_of f d i j)

  abbrev o_of : ℕ → ℕ → ℕ
  o_of i j = num (order_of d) d.owidth f (place_of f d i j + d.vwidth)

  kind_of : (i : ℕ) → i < d.k → is_long f d i ≡ str_l (field_by (type_at d.tagged (order_of d) f d.types i)).kind
  unfolding is_long
  kind_of i b = ap (λ (y : Field). str_l y.kind) (type_field_lem f d F i b)

  cell_long : (i j : ℕ) → i < d.k → is_long f d i ≡ true → cell_at i j ≡ link (v_of i j) (o_of i j)
  unfolding P.cell_at
  cell_long i j b h =
      ap (λ (x : VarType). (cell (order_of d) d.vwidth d.owidth x).read f (place_of f d i j))
      (long_type_lem (type_at d.tagged (order_of d) f d.types i) (sym (kind_of i b) ∙ h))

  cell_other : (i j : ℕ) → i < d.k → is_long f d i ≡ false → plain (cell_at i j) ≡ true
  unfolding P.cell_at
  cell_other i j b h =
      plain_type (order_of d) d.vwidth d.owidth f (place_of f d i j) (type_at d.tagged (order_of d) f d.types i) (sym (kind_of i b) ∙ h)

  cells_at : (m i j v : ℕ) → v < m → get_or (cells_from m i j) v (bits 0) ≡ cell_at (i + v) j
  cells_at zero i j v h = absurd (not-suc-le-zero h)
  cells_at (suc m) i j zero h = ap (λ (k : ℕ). cell_at k j) (sym (add-zero i))
  cells_at (suc m) i j (suc v) h = cells_at m (suc i) j v (omega arith) ∙ ap (λ (k : ℕ). cell_at k j) (omega arith)

  cells_past : (m i j v : ℕ) → m ≤ v → get_or (cells_from m i j) v (bits 0) ≡ bits 0
  cells_past zero i j v h = refl
  cells_past (suc m) i j zero h = absurd (not-suc-le-zero h)
  cells_past (suc m) i j (suc v) h = cells_past m (suc i) j v (omega arith)

  rows_at : (m j x : ℕ) → x < m → get_or (rows_from m j) x [] ≡ cells_from d.k 0 (j + x)
  rows_at zero j x h = absurd (not-suc-le-zero h)
  rows_at (suc m) j zero h = ap (cells_from d.k 0) (sym (add-zero j))
  rows_at (suc m) j (suc x) h = rows_at m (suc j) x (omega arith) ∙ ap (cells_from d.k 0) (omega arith)

  rows_past : (m j x : ℕ) → m ≤ x → get_or (rows_from m j) x [] ≡ []
  rows_past zero j x h = refl
  rows_past (suc m) j zero h = absurd (not-suc-le-zero h)
  rows_past (suc m) j (suc x) h = rows_past m (suc j) x (omega arith)

  -- all cells
  abbrev D : List (List Cell)
  D = rows_from d.n 0

  link_of : (i j v x : ℕ) → i < d.k → is_link (cell_at i j) v x ≡ (is_long f d i && link_at f d (place_of f d i j) v x)
  link_of i j v x b = go (is_long f d i) refl
    where
      go : (t : Bool) → is_long f d i ≡ t → is_link (cell_at i j) v x ≡ (is_long f d i && link_at f d (place_of f d i j) v x)
      go true q = rw q (ap (λ (c : Cell). is_link c v x) (cell_long i j b q))
      go false q = rw q (plain_link (cell_at i j) v x (cell_other i j b q))

  self_in : (v x : ℕ) → v < d.k → x < d.n → (is_long f d v && link_at f d (place_of f d v x) (suc v) (suc x)) ≡ self_at f d (suc v) (suc x)
  self_in v x h g = go (is_long f d v) refl
    where
      e : suc v - 1 ≡ v
      e = omega arith

      a : suc x - 1 ≡ x
      a = omega arith

      go : (t : Bool) → is_long f d v ≡ t → (is_long f d v && link_at f d (place_of f d v x) (suc v) (suc x)) ≡ self_at f d (suc v) (suc x)
      go true q =
          rw q
          (ap (λ (i : ℕ). link_at f d (place_of f d i x) (suc v) (suc x)) (sym e)
          ∙ ap (λ (j : ℕ). link_at f d (place_of f d (suc v - 1) j) (suc v) (suc x)) (sym a)
          ∙ self_is f d (suc v) (suc x) (omega arith) h (omega arith) g (ap (is_long f d) e ∙ q))
      go false q = rw q (self_other f d (suc v) (suc x) (omega arith) h (omega arith) g (ap (is_long f d) e ∙ q))

  -- cell (v, x) names itself, in the grammar and over the bytes
  self_same : (v x : ℕ) → names_itself D v x ≡ self_at f d v x
  self_same zero zero = self_none f d 0 0 (omega arith)
  self_same zero (suc x) = self_none f d 0 (suc x) (omega arith)
  self_same (suc v) zero = go (leb (suc v) d.k) refl
    where
      go : (t : Bool) → leb (suc v) d.k ≡ t → false ≡ self_at f d (suc v) 0
      go true q = self_first f d (suc v) 0 (omega arith) (leb-true (suc v) d.k q) (omega arith)
      go false q = self_past f d (suc v) 0 (omega arith) (leb-false (suc v) d.k q)
  self_same (suc v) (suc x) = go (leb (suc v) d.k) refl (leb (suc x) d.n) refl
    where
      go : (t : Bool) → leb (suc v) d.k ≡ t → (u : Bool) → leb (suc x) d.n ≡ u
          → is_link (get_or (get_or D x []) v (bits 0)) (suc v) (suc x) ≡ self_at f d (suc v) (suc x)
      go true q true p =
          ap (λ (r : List Cell). is_link (get_or r v (bits 0)) (suc v) (suc x)) (rows_at d.n 0 x (leb-true (suc x) d.n p))
          ∙ ap (λ (c : Cell). is_link c (suc v) (suc x)) (cells_at d.k 0 (0 + x) v (leb-true (suc v) d.k q))
          ∙ ap (λ (i : ℕ). is_link (cell_at i (0 + x)) (suc v) (suc x)) (zero-add v)
          ∙ ap (λ (j : ℕ). is_link (cell_at v j) (suc v) (suc x)) (zero-add x)
          ∙ link_of v x (suc v) (suc x) (leb-true (suc v) d.k q)
          ∙ self_in v x (leb-true (suc v) d.k q) (leb-true (suc x) d.n p)
      go true q false p =
          ap (λ (r : List Cell). is_link (get_or r v (bits 0)) (suc v) (suc x)) (rows_past d.n 0 x (omega (arith, leb-false (suc x) d.n p)))
          ∙ self_after f d (suc v) (suc x) (omega arith) (leb-true (suc v) d.k q) (omega arith) (leb-false (suc x) d.n p)
      go false q true p =
          ap (λ (r : List Cell). is_link (get_or r v (bits 0)) (suc v) (suc x)) (rows_at d.n 0 x (leb-true (suc x) d.n p))
          ∙ ap (λ (c : Cell). is_link c (suc v) (suc x)) (cells_past d.k 0 (0 + x) v (omega (arith, leb-false (suc v) d.k q)))
          ∙ self_past f d (suc v) (suc x) (omega arith) (leb-false (suc v) d.k q)
      go false q false p =
          ap (λ (r : List Cell). is_link (get_or r v (bits 0)) (suc v) (suc x)) (rows_past d.n 0 x (omega (arith, leb-false (suc x) d.n p)))
          ∙ self_past f d (suc v) (suc x) (omega arith) (leb-false (suc v) d.k q)

  link_rule_lem : (i j : ℕ) → i < d.k → is_long f d i ≡ true → link_rule D (suc i) (suc j) (cell_at i j) ≡ link_ok f d i j
  unfolding link_ok
  link_rule_lem i j b h =
      let v = v_of i j in
      let x = o_of i j in
      ap (link_rule D (suc i) (suc j)) (cell_long i j b h)
      ∙ ap (λ (t : Bool). (eqb v 0 && eqb x 0) || ((ltb x (suc j) || (eqb x (suc j) && leb v (suc i))) && t)) (self_same v x)

  -- ---- records

  kind_is : (q : ℕ) → kind_rule (long_at f d q) ≡ kind_ok f (q + head_size d) (kind_at f d q) (len_at f d q)
  unfolding long_at
  kind_is q =
      let n = len_at f d q in
      rw (tab_length n (λ i. get_or f (q + head_size d + i) 0), zero_last_lem n f (q + head_size d) (λ i. get_or f (q + head_size d + i) 0) (λ i. refl))

  and_assoc : (a b c : Bool) → (a && (b && c)) ≡ ((a && b) && c)
  and_assoc true b c = refl
  and_assoc false b c = refl

  record_is : (q i j : ℕ) (S : List (ℕ × ℕ)) (L : List LongString) → long_next d.tagged f q ≡ true → q + head_size d + len_at f d q ≤ length f
      → record_rule ((i, j) ∷ S) (long_at f d q ∷ L) ≡ (record_ok f d q i j && record_rule S L)
  unfolding record_ok long_at
  record_is q i j S L g h =
      let v = num (order_of d) 4 f (q + 3) in
      let x = num (order_of d) d.rwidth f (q + 7) in
      let r : q + 3 + 4 ≡ q + 7 = omega arith in
      rw (r, le-leb (q + head_size d) (length f) (omega arith), g, le-leb (q + head_size d + len_at f d q) (length f) h, ← kind_is q, eqb_sym i v, eqb_sym j x)
      (and_assoc (eqb v i && eqb x j) (kind_rule (long_at f d q)) (record_rule S L))

  -- what is left after a step: it went on, and the rest is judged by the records that are left; or it broke
  data After (s : Turn) (b : List (ℕ × ℕ) → Bool) : Type 0 where
    on : (L : List LongString) (p : ℕ) → s ≡ Ok p → Recs f d p L → ((S : List (ℕ × ℕ)) → b S ≡ record_rule S L) → After s b
    off : s ≡ broken → ((S : List (ℕ × ℕ)) → b S ≡ false) → After s b

  after_as : {s : Turn} {b e : List (ℕ × ℕ) → Bool} → After s b → ((S : List (ℕ × ℕ)) → e S ≡ b S) → After s e
  after_as (on L p z R h) g = on L p z R (λ S. g S ∙ h S)
  after_as (off n h) g = off n (λ S. g S ∙ h S)

  abbrev cell_rule : List LongString → ℕ → ℕ → List (ℕ × ℕ) → Bool
  cell_rule L i j S =
      link_rule D (suc i) (suc j) (cell_at i j) && record_rule (cond (is_link (cell_at i j) (suc i) (suc j)) ((suc i, suc j) ∷ S) S) L

  no_record : (q i j : ℕ) → long_next d.tagged f q ≡ false → record_ok f d q i j ≡ false
  unfolding record_ok
  no_record q i j g = rw (g, and-false)

  after_record : (i j q : ℕ) (L : List LongString) → Recs f d q L → After (record_step f d q (suc i) (suc j)) (λ S. record_rule ((suc i, suc j) ∷ S) L)
  after_record i j q [] (none g) = rw (no_record q (suc i) (suc j) g) (off refl (λ S. refl))
  after_record i j q (r ∷ L) (some g h R) = go (record_ok f d q (suc i) (suc j)) refl
    where
      go : (t : Bool) → record_ok f d q (suc i) (suc j) ≡ t
          → After (cond t (Ok (q + (head_size d + len_at f d q))) broken) (λ S. record_rule ((suc i, suc j) ∷ S) (long_at f d q ∷ L))
      go true e = on L (q + (head_size d + len_at f d q)) refl R (λ S. record_is q (suc i) (suc j) S L g h ∙ rw e)
      go false e = off refl (λ S. record_is q (suc i) (suc j) S L g h ∙ rw e)

  after_cell : (i j q : ℕ) (L : List LongString) → i < d.k → Recs f d q L → After (cell_step f d i j q) (cell_rule L i j)
  unfolding cell_step
  after_cell i j q L b R = go (is_long f d i) refl (link_ok f d i j) refl (link_at f d (place_of f d i j) (suc i) (suc j)) refl
    where
      seen : is_long f d i ≡ true → is_link (cell_at i j) (suc i) (suc j) ≡ link_at f d (place_of f d i j) (suc i) (suc j)
      seen q = link_of i j (suc i) (suc j) b ∙ rw q

      go : (t : Bool) → is_long f d i ≡ t → (u : Bool) → link_ok f d i j ≡ u → (w : Bool) → link_at f d (place_of f d i j) (suc i) (suc j) ≡ w
          → After (cond (is_long f d i) (cond (link_ok f d i j) (cond (link_at f d (place_of f d i j) (suc i) (suc j)) (record_step f d q (suc i) (suc j)) (Ok q)) broken) (Ok q)) (cell_rule L i j)
      go false a u c w e =
          rw a (on L q refl R (λ S. rw (plain_rule D (suc i) (suc j) (cell_at i j) (cell_other i j b a), plain_link (cell_at i j) (suc i) (suc j) (cell_other i j b a))))
      go true a false c w e = rw (a, c) (off refl (λ S. rw (link_rule_lem i j b a, c)))
      go true a true c false e = rw (a, c, e) (on L q refl R (λ S. rw (link_rule_lem i j b a, c, seen a, e)))
      go true a true c true e = rw (a, c, e) (after_as (after_record i j q L R) (λ S. rw (link_rule_lem i j b a, c, seen a, e)))

  -- ---- rows

  cond_append : (t : Bool) (x : ℕ × ℕ) (r S : List (ℕ × ℕ)) → cond t (x ∷ r) r ++ S ≡ cond t (x ∷ (r ++ S)) (r ++ S)
  cond_append true x r S = refl
  cond_append false x r S = refl

  and_swap : (a b c : Bool) → ((a && b) && c) ≡ (b && (a && c))
  and_swap true b c = refl
  and_swap false b c = sym (and-false b)

  abbrev row_rule : List LongString → ℕ → ℕ → ℕ → List (ℕ × ℕ) → Bool
  row_rule L m i j S = row_links D (suc i) (suc j) (cells_from m i j) && record_rule (row_selves (suc i) (suc j) (cells_from m i j) ++ S) L

  -- the references of a row from i on, and its cells that name themselves
  abbrev refs : ℕ → ℕ → ℕ → Bool
  refs m i j = row_links D (suc i) (suc j) (cells_from m i j)

  abbrev selves : ℕ → ℕ → ℕ → List (ℕ × ℕ)
  selves m i j = row_selves (suc i) (suc j) (cells_from m i j)

  row_split : (m i j : ℕ) (L : List LongString) (S : List (ℕ × ℕ)) → row_rule L (suc m) i j S ≡ (refs m (suc i) j && cell_rule L i j (selves m (suc i) j ++ S))
  row_split m i j L S =
      ap (λ (l : List (ℕ × ℕ)). (link_rule D (suc i) (suc j) (cell_at i j) && refs m (suc i) j) && record_rule l L)
      (cond_append (is_link (cell_at i j) (suc i) (suc j)) (suc i, suc j) (selves m (suc i) j) S)
      ∙ and_swap (link_rule D (suc i) (suc j) (cell_at i j)) (refs m (suc i) j)
      (record_rule (cond (is_link (cell_at i j) (suc i) (suc j)) ((suc i, suc j) ∷ (selves m (suc i) j ++ S)) (selves m (suc i) j ++ S)) L)

  after_row : (m i j q : ℕ) (L : List LongString) → i + m ≤ d.k → Recs f d q L → After (row_run f d m i j q) (row_rule L m i j)
  after_row zero i j q L b R = on L q refl R (λ S. refl)
  after_row (suc m) i j q L b R = go (after_cell i j q L (omega arith) R) (λ q L. after_row m (suc i) j q L (omega arith))
    where
      go : After (cell_step f d i j q) (cell_rule L i j) → ((q : ℕ) (L : List LongString) → Recs f d q L → After (row_run f d m (suc i) j q) (row_rule L m (suc i) j))
          → After (row_run f d (suc m) i j q) (row_rule L (suc m) i j)
      go (on M p z N h) ih =
          rw z
          (after_as (ih p M N) (λ S. row_split m i j L S ∙ ap (λ (b : Bool). refs m (suc i) j && b) (h (selves m (suc i) j ++ S))))
      go (off n h) ih =
          rw n
          (off refl (λ S. row_split m i j L S ∙ ap (λ (b : Bool). refs m (suc i) j && b) (h (selves m (suc i) j ++ S)) ∙ and-false (refs m (suc i) j)))

  abbrev data_rule : List LongString → ℕ → ℕ → List (ℕ × ℕ) → Bool
  data_rule L m j S = data_links D (suc j) (rows_from m j) && record_rule (data_selves (suc j) (rows_from m j) ++ S) L

  data_split : (m j : ℕ) (L : List LongString) (S : List (ℕ × ℕ))
      → data_rule L (suc m) j S ≡ (data_links D (suc (suc j)) (rows_from m (suc j)) && row_rule L d.k 0 j (data_selves (suc (suc j)) (rows_from m (suc j)) ++ S))
  data_split m j L S =
      let a = selves d.k 0 j in
      let b = data_selves (suc (suc j)) (rows_from m (suc j)) in
      ap (λ (l : List (ℕ × ℕ)). (refs d.k 0 j && data_links D (suc (suc j)) (rows_from m (suc j))) && record_rule l L) (append_assoc a b S)
      ∙ and_swap (refs d.k 0 j) (data_links D (suc (suc j)) (rows_from m (suc j))) (record_rule (a ++ (b ++ S)) L)

  after_data : (m j q : ℕ) (L : List LongString) → Recs f d q L → After (data_run f d m j q) (data_rule L m j)
  after_data zero j q L R = on L q refl R (λ S. refl)
  after_data (suc m) j q L R = go (after_row d.k 0 j q L (omega arith) R) (after_data m (suc j))
    where
      go : After (row_run f d d.k 0 j q) (row_rule L d.k 0 j) → ((q : ℕ) (L : List LongString) → Recs f d q L → After (data_run f d m (suc j) q) (data_rule L m (suc j)))
          → After (data_run f d (suc m) j q) (data_rule L (suc m) j)
      go (on M p z N h) ih =
          rw z
          (after_as (ih p M N) (λ S. data_split m j L S ∙ ap (λ (b : Bool). data_links D (suc (suc j)) (rows_from m (suc j)) && b) (h (data_selves (suc (suc j)) (rows_from m (suc j)) ++ S))))
      go (off n h) ih =
          rw n
          (off refl (λ S. data_split m j L S ∙ ap (λ (b : Bool). data_links D (suc (suc j)) (rows_from m (suc j)) && b) (h (data_selves (suc (suc j)) (rows_from m (suc j)) ++ S)) ∙ and-false (data_links D (suc (suc j)) (rows_from m (suc j)))))

  -- the pass over the bytes is the rule on the cells and on the records that stand from q on
  rule_at : (q : ℕ) (L : List LongString) → Recs f d q L → code_of (rule11 f d q) ≡ unless (linked D L) 11
  unfolding rule11 linked
  rule_at q L R = go (after_data d.n 0 q L R)
    where
      whole : data_rule L d.n 0 [] ≡ (data_links D 1 D && record_rule (data_selves 1 D) L)
      whole = ap (λ (l : List (ℕ × ℕ)). data_links D 1 D && record_rule l L) (append-nil (data_selves 1 D))

      end : (p : ℕ) (M : List LongString) → Recs f d p M → code_of (ended f d p) ≡ unless (record_rule [] M) 11
      end p [] (none g) = rw g
      end p (r ∷ M) (some g h N) = rw g

      go : After (data_run f d d.n 0 q) (data_rule L d.n 0) → code_of (followed (data_run f d d.n 0 q) (ended f d)) ≡ unless (data_links D 1 D && record_rule (data_selves 1 D) L) 11
      go (on M p z N h) = rw z (end p M N) ∙ ap (λ (b : Bool). unless b 11) (sym (h []) ∙ whole)
      go (off n h) = rw n (ap (λ (b : Bool). unless b 11) (sym (h []) ∙ whole))

  cells_are : cells_of f d ≡ D
  unfolding cells_of
  cells_are = P.cells_are d.tagged (order_of d) f d.types d.vwidth d.owidth F.eight d.k d.data d.n F.typed.right

  pub rule_is : (q : ℕ) (L : List LongString) → Recs f d q L → code_of (rule11 f d q) ≡ unless (linked (cells_of f d) L) 11
  rule_is q L R = rule_at q L R ∙ ap (λ (x : List (List Cell)). unless (linked x L) 11) (sym cells_are)
