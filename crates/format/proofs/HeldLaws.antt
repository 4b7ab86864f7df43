-- An edition that holds a dataset can say it: what is right in one edition and byte order is right in another that holds it.
use mathlib.Core.Path.{◌≡◌, refl, sym, ap, ◌∙◌, subst}
use Prim.Native.Nat.{ℕ, zero, suc, ◌+◌, ◌*◌, ◌^◌, ◌≤◌, ◌<◌}
use native.Mathlib.Omega.{arith}
use mathlib.Core.List.{List, [], ◌∷◌, ◌++◌}
use mathlib.Core.Bool.{Bool, true, false, cond, not, ◌&&◌, ◌||◌, true≢false}
use lib.ListN.{length, get_or, get_or-eq_default}
use lib.Dec.{eqb, leb, ltb}
use borrow.Author.Tests.{eqb-true, ne_eqb, leb-true, leb-false, le-leb, ltb-true}
use Rattle.format.specs.Slot.{Bytes}
use Rattle.format.specs.Number.{Order}
use Rattle.format.specs.Grammar.{Sect, number, no_zero, text, sizes, AllRight, tag, between, row, RowRight, done}
use Rattle.format.specs.Edition.{Edition, Release, edition, code_width, text_max, map_count}
use Rattle.format.specs.Header.{Head, k_rule, n_rule, stamp_length, old_stamp, old_header, counted, new_facts, new_header, header_by, header}
use Rattle.format.specs.Variables.{file_map, VarType, text_type, strl_type, byte_type, int_type, long_type, float_type, double_type, type_by, has_type, type_code, types, name, names, sort_list, fields, formats, set_names, var_labels}
use Rattle.format.specs.Expansion.{expansions}
use Rattle.format.specs.Data.{Cell, bits, chars, link, link_of, cell, observations, LongString, nth, is_link, names_itself, link_rule, row_links, data_links, row_selves, data_selves, kind_rule, record_rule, linked, long_head, long_record, strls}
use Rattle.format.specs.Labels.{table_head, table_body, table, LabelBlock, block_head, block, blocks}
use Rattle.format.specs.Dta.{Dataset, Extras, head_of, sums, part_sizes, positions, map_of, from_strls, from_data, from_expansions, from_var_labels, from_set_names, from_formats, from_sort_list, from_names, from_types, from_map, sections, file_to, file, release_of, edition_of, order_of, length_max, verdict, contents, dataset_of, Layout, layout_of, written, all_shorter, all_types, block_names, holds}
use Rattle.format.proofs.Good.{and_left, and_right}
use Rattle.format.proofs.EditionLaws.{each}
use Rattle.format.proofs.FileLaws.{Accepted, sound, read_back_lem, written_length, written_bytes}
use Rattle.format.proofs.PartLaws.{total, size_total, thirteen, SectionsRight, sections_of, of_sections}

-- ---- the header

-- bytes, none of them zero
abbrev Clean : List ℕ → Type 0
Clean t = (no_zero t ≡ true) × (Bytes t)

-- what a header says in any edition
record HeadRight (h : Head) : Type 0 where
  k_rule_lem : k_rule h.0 ≡ true
  n_rule_lem : n_rule h.0 h.1.0 ≡ true
  label_clean : Clean h.1.1.0
  stamp_clean : Clean h.1.1.1
  stamp_rule : stamp_length (length h.1.1.1) ≡ true

counted_from : (o : Order) (w : ℕ) (t : ℕ → Bool) (l : List ℕ) → (counted o w t).Right l → (t (length l) ≡ true) × (Clean l)
unfolding counted
counted_from o w t l r = (r.0.1, (r.1.1, r.1.0.1))

counted_to : (o : Order) (w : ℕ) (t : ℕ → Bool) (l : List ℕ) → length l < 256 ^ w → t (length l) ≡ true → Clean l → (counted o w t).Right l
unfolding counted
counted_to o w t l b h c = ((b, h), ((refl, c.1), c.0))

head_from : (t : Bool) (e : Edition) (o : Order) (h : Head) → (header_by t e o).Right h → HeadRight h
unfolding old_header old_stamp new_header new_facts between tag
head_from true e o h r =
    let f = r.1.1 in
    let l = counted_from o e.label_length (λ x. leb x e.label_max) h.1.1.0 f.1.1.0.1.0 in
    let s = counted_from o 1 stamp_length h.1.1.1 f.1.1.1.0.1.0 in
    record { k_rule_lem = f.0.1.0.1; n_rule_lem = f.1.0.1.0.1; label_clean = l.1; stamp_clean = s.1; stamp_rule = s.0 }
head_from false e o h r =
    let f = r.1.1.1.1 in
    let l = f.1.1.0 in
    let s = f.1.1.1.0.0 in
    record { k_rule_lem = f.0.1; n_rule_lem = f.1.0.1; label_clean = (l.1, l.2); stamp_clean = (s.1, s.2); stamp_rule = f.1.1.1.0.1 }

-- K and N are small
k_small : (h : Head) → HeadRight h → h.0 ≤ 32767
k_small h r = leb-true h.0 32767 r.k_rule_lem

n_small : (h : Head) → HeadRight h → h.1.0 ≤ 2147483647
n_small h r = leb-true h.1.0 2147483647 (and_left (leb h.1.0 2147483647) (not (eqb h.0 0) || eqb h.1.0 0) r.n_rule_lem)

stamp_short : (n : ℕ) → stamp_length n ≡ true → n ≤ 17
stamp_short n h = go (eqb n 0) refl
  where
    go : (a : Bool) → eqb n 0 ≡ a → n ≤ 17
    go true p = omega (arith, eqb-true n 0 p)
    go false p = omega (arith, eqb-true n 17 (rw p at h))

-- N, the label's length and references have room in an edition
pub record Roomy (e : Edition) : Type 0 where
  pub for_n : 2147483647 < 256 ^ e.n_width
  pub for_label : e.label_max < 256 ^ e.label_length
  pub for_v : 32767 < 256 ^ e.v_width
  pub for_o : 2147483647 < 256 ^ e.o_width
  pub for_record : 2147483647 < 256 ^ e.record_width

pub roomy : (r : Release) → Roomy (edition r)
roomy r =
    record {
      for_n = ltb-true 2147483647 _ (each (λ s. ltb 2147483647 (256 ^ (edition s).n_width)) refl r);
      for_label = ltb-true _ _ (each (λ s. ltb (edition s).label_max (256 ^ (edition s).label_length)) refl r);
      for_v = ltb-true 32767 _ (each (λ s. ltb 32767 (256 ^ (edition s).v_width)) refl r);
      for_o = ltb-true 2147483647 _ (each (λ s. ltb 2147483647 (256 ^ (edition s).o_width)) refl r);
      for_record = ltb-true 2147483647 _ (each (λ s. ltb 2147483647 (256 ^ (edition s).record_width)) refl r);
    }

-- K and N have room
head_room : (e : Edition) (h : Head) → Roomy e → HeadRight h → (h.0 < 256 ^ 2) × (h.1.0 < 256 ^ e.n_width)
head_room e h m r = (omega (arith, k_small h r), omega (arith, m.for_n, n_small h r))

head_to : (t : Bool) (e : Edition) (o : Order) (h : Head) → Roomy e → HeadRight h → length h.1.1.0 ≤ e.label_max → (header_by t e o).Right h
unfolding old_header old_stamp new_header new_facts between tag
head_to true e o h m r b =
    let n = head_room e h m r in
    let l = counted_to o e.label_length (λ x. leb x e.label_max) h.1.1.0 (omega (arith, m.for_label)) (le-leb (length h.1.1.0) e.label_max b) r.label_clean in
    let s = counted_to o 1 stamp_length h.1.1.1 (omega (arith, stamp_short (length h.1.1.1) r.stamp_rule)) r.stamp_rule r.stamp_clean in
    (tt, ((tt, (tt, tt)), ((tt, ((n.0, r.k_rule_lem), tt)), ((tt, ((n.1, r.n_rule_lem), tt)), ((tt, (l, tt)), ((tt, (s, tt)), tt))))))
head_to false e o h m r b =
    let n = head_room e h m r in
    let l : length h.1.1.0 < suc e.label_max = omega arith in
    let s = stamp_short (length h.1.1.1) r.stamp_rule in
    let c = r.label_clean in
    let x = r.stamp_clean in
    (tt, (tt, (tt, (tt, ((n.0, r.k_rule_lem), ((n.1, r.n_rule_lem), ((l, c.0, c.1), (((s, x.0, x.1), r.stamp_rule), tt))))))))

-- ---- types

-- a text's width is none of the other codes, and has room
apart : (m w c : ℕ) → w ≤ m → m < c → eqb w c ≡ false
apart m w c b h = ne_eqb w c (λ z. (let y : w ≡ c = z in omega arith))

text_back : (t : Bool) (w : ℕ) → w ≤ text_max t → type_by t w ≡ text_type w
text_back true w b =
    rw (apart 2045 w 65530 b (omega arith), apart 2045 w 65529 b (omega arith), apart 2045 w 65528 b (omega arith), apart 2045 w 65527 b (omega arith), apart 2045 w 65526 b (omega arith), apart 2045 w 32768 b (omega arith))
text_back false w b =
    rw (apart 244 w 251 b (omega arith), apart 244 w 252 b (omega arith), apart 244 w 253 b (omega arith), apart 244 w 254 b (omega arith), apart 244 w 255 b (omega arith), apart 244 w 32768 b (omega arith))

text_code : (t : Bool) (w : ℕ) → w ≤ text_max t → w < 256 ^ code_width t
text_code true w b = omega arith
text_code false w b = omega arith

-- a type of the edition can be coded in it
type_right : (t : Bool) (o : Order) (x : VarType) → has_type t x ≡ true → (type_code t o).Right x
unfolding type_code
type_right t o (text_type w) h =
    let l = leb-true w (text_max t) (and_right (leb 1 w) (leb w (text_max t)) h) in
    ((text_code t w l, text_back t w l), h)
type_right true o strl_type h = ((omega arith, refl), refl)
type_right false o strl_type h = absurd (true≢false (sym h))
type_right true o byte_type h = ((omega arith, refl), refl)
type_right false o byte_type h = ((omega arith, refl), refl)
type_right true o int_type h = ((omega arith, refl), refl)
type_right false o int_type h = ((omega arith, refl), refl)
type_right true o long_type h = ((omega arith, refl), refl)
type_right false o long_type h = ((omega arith, refl), refl)
type_right true o float_type h = ((omega arith, refl), refl)
type_right false o float_type h = ((omega arith, refl), refl)
type_right true o double_type h = ((omega arith, refl), refl)
type_right false o double_type h = ((omega arith, refl), refl)

types_right : (t : Bool) (o : Order) (l : List VarType) → all_types t l ≡ true → AllRight (type_code t o) l
types_right t o [] h = tt
types_right t o (x ∷ l) h = (
  type_right t o x (and_left (has_type t x) (all_types t l) h),
  types_right t o l (and_right (has_type t x) (all_types t l) h),
)

types_length : (t : Bool) (o : Order) (k : ℕ) (l : List VarType) → (types t o k).Right l → length l ≡ k
unfolding types between tag
types_length t o k l r = r.1.0.0

types_to : (t : Bool) (o : Order) (k : ℕ) (l : List VarType) → length l ≡ k → all_types t l ≡ true → (types t o k).Right l
unfolding types between tag
types_to t o k l n h = (tt, ((n, types_right t o l h), tt))

-- ---- names, sort list, text fields

-- texts shorter than w are right in T where they are in S, if each is
texts_held_lem : (S T : Sect (List ℕ)) (w : ℕ) → ((t : List ℕ) → length t < w → S.Right t → T.Right t) → (l : List (List ℕ)) → all_shorter w l ≡ true
    → AllRight S l → AllRight T l
texts_held_lem S T w f [] h r = tt
texts_held_lem S T w f (t ∷ l) h r = (
  f t (ltb-true (length t) w (and_left (ltb (length t) w) (all_shorter w l) h)) r.0,
  texts_held_lem S T w f l (and_right (ltb (length t) w) (all_shorter w l) h) r.1,
)

name_held : (w z : ℕ) (t : List ℕ) → length t < z → (name w).Right t → (name z).Right t
unfolding name
name_held w z t b r = ((b, r.0.1, r.0.2), r.1)

names_held_lem : (s t : Bool) (w z k : ℕ) (l : List (List ℕ)) → all_shorter z l ≡ true → (names s w k).Right l → (names t z k).Right l
unfolding names between tag
names_held_lem s t w z k l h r = (tt, ((r.1.0.0, texts_held_lem (name w) (name z) z (name_held w z) l h r.1.0.1), tt))

sort_held : (s t : Bool) (o q : Order) (k : ℕ) (l : List ℕ) → (sort_list s o k).Right l → (sort_list t q k).Right l
unfolding sort_list between tag
sort_held s t o q k l r = r

fields_held : (s t : Bool) (n : List ℕ) (w z k : ℕ) (l : List (List ℕ)) → all_shorter z l ≡ true → (fields s n w k).Right l → (fields t n z k).Right l
unfolding fields between tag
fields_held s t n w z k l h r = (tt, ((r.1.0.0, texts_held_lem (text w 7) (text z 7) z (λ x b y. (b, y.1, y.2)) l h r.1.0.1), tt))

-- ---- expansions: a writer writes none

no_expansions : (t : Bool) (o : Order) → (expansions t o).Right []
unfolding expansions tag
no_expansions t o = (tt, (tt, (tt, tt)))

-- ---- data

module _ {A B : Type 0} (S : A → Sect B) where
  row_length : (k : List A) (l : List B) → RowRight S k l → length l ≡ length k
  row_length [] [] r = refl
  row_length [] (b ∷ l) r = absurd r
  row_length (a ∷ k) [] r = absurd r
  row_length (a ∷ k) (b ∷ l) r = ap suc (row_length k l r.1)

  get_d_length : (k : List A) (d : List (List B)) (i : ℕ) → AllRight (row S k) d → length (get_or d i []) ≤ length k
  get_d_length k [] i r = omega arith
  get_d_length k (l ∷ d) zero r = omega (arith, row_length k l r.0)
  get_d_length k (l ∷ d) (suc i) r = get_d_length k d i r.1

  nth_length : (k : List A) (d : List (List B)) (i : ℕ) → AllRight (row S k) d → length (nth [] d i) ≤ length k
  nth_length k d zero r = omega arith
  nth_length k d (suc i) r = get_d_length k d i r

-- a cell that names itself lies in the data
nth_out : {A : Type 0} (d : A) (l : List A) (i : ℕ) → length l < i → nth d l i ≡ d
nth_out d l zero b = refl
nth_out d l (suc i) b = get_or-eq_default l d {n = i} (omega arith)

no_cell : (c : Cell) (v o : ℕ) → c ≡ bits 0 → is_link c v o ≡ true → ⊥
no_cell c v o q h = true≢false (sym h ∙ ap (λ (x : Cell). is_link x v o) q)

in_row : (d : List (List Cell)) (v o : ℕ) → names_itself d v o ≡ true → v ≤ length (nth [] d o)
in_row d v o h = go (leb v (length (nth [] d o))) refl
  where
    go : (t : Bool) → leb v (length (nth [] d o)) ≡ t → v ≤ length (nth [] d o)
    go true e = leb-true v (length (nth [] d o)) e
    go false e = absurd (no_cell (nth (bits 0) (nth [] d o) v) v o (nth_out (bits 0) (nth [] d o) v (leb-false v (length (nth [] d o)) e)) h)

in_data : (d : List (List Cell)) (v o : ℕ) → names_itself d v o ≡ true → o ≤ length d
in_data d v o h = go (leb o (length d)) refl
  where
    none : (v : ℕ) → nth (bits 0) [] v ≡ bits 0
    none zero = refl
    none (suc v) = refl

    go : (t : Bool) → leb o (length d) ≡ t → o ≤ length d
    go true e = leb-true o (length d) e
    go false e =
        absurd (no_cell (nth (bits 0) (nth [] d o) v) v o
        (ap (λ (l : List Cell). nth (bits 0) l v) (nth_out [] d o (leb-false o (length d) e)) ∙ none v) h)

-- cells that name themselves have small numbers
abbrev SmallLinks : List (List Cell) → Type 0
SmallLinks d = (v o : ℕ) → names_itself d v o ≡ true → (v ≤ 32767) × (o ≤ 2147483647)

links_small : (S : VarType → Sect Cell) (k : List VarType) (d : List (List Cell)) → AllRight (row S k) d → length k ≤ 32767 → length d ≤ 2147483647 → SmallLinks d
links_small S k d r a b = λ v o h. (omega (arith, in_row d v o h, nth_length S k d o r), omega (arith, in_data d v o h))

-- so have references that keep to their rule
link_small : (d : List (List Cell)) (i j v o : ℕ) → SmallLinks d → link_rule d i j (link v o) ≡ true → (v ≤ 32767) × (o ≤ 2147483647)
link_small d i j v o s h = go (eqb v 0 && eqb o 0) refl
  where
    go : (t : Bool) → (eqb v 0 && eqb o 0) ≡ t → (v ≤ 32767) × (o ≤ 2147483647)
    go true e = (omega (arith, eqb-true v 0 (and_left (eqb v 0) (eqb o 0) e)), omega (arith, eqb-true o 0 (and_right (eqb v 0) (eqb o 0) e)))
    go false e = s v o (and_right (ltb o j || (eqb o j && leb v i)) (names_itself d v o) (rw e at h))

-- cells whose references keep to their rule are right where these have room
module _ (o q : Order) (vw ow vz oz : ℕ) (v-room : 32767 < 256 ^ vz) (o-room : 2147483647 < 256 ^ oz) (d : List (List Cell)) (s : SmallLinks d) where
  cell_held : (i j : ℕ) (t : VarType) (c : Cell) → link_rule d i j c ≡ true → (cell o vw ow t).Right c → (cell q vz oz t).Right c
  cell_held i j (text_type w) c h r = r
  cell_held i j strl_type c h r =
      let b = link_small d i j (link_of c).0 (link_of c).1 s (subst (λ (x : Cell). link_rule d i j x ≡ true) (sym r.1) h) in
      ((omega (arith, b.0), omega (arith, b.1)), r.1)
  cell_held i j byte_type c h r = r
  cell_held i j int_type c h r = r
  cell_held i j long_type c h r = r
  cell_held i j float_type c h r = r
  cell_held i j double_type c h r = r

  row_held : (i j : ℕ) (t : List VarType) (l : List Cell) → row_links d i j l ≡ true → RowRight (cell o vw ow) t l → RowRight (cell q vz oz) t l
  row_held i j [] [] h r = tt
  row_held i j [] (c ∷ l) h r = absurd r
  row_held i j (t ∷ k) [] h r = absurd r
  row_held i j (t ∷ k) (c ∷ l) h r = (
    cell_held i j t c (and_left (link_rule d i j c) (row_links d (suc i) j l) h) r.0,
    row_held (suc i) j k l (and_right (link_rule d i j c) (row_links d (suc i) j l) h) r.1,
  )

  rows_held : (j : ℕ) (t : List VarType) (x : List (List Cell)) → data_links d j x ≡ true → AllRight (row (cell o vw ow) t) x → AllRight (row (cell q vz oz) t) x
  rows_held j t [] h r = tt
  rows_held j t (l ∷ x) h r = (
    row_held 1 j t l (and_left (row_links d 1 j l) (data_links d (suc j) x) h) r.0,
    rows_held (suc j) t x (and_right (row_links d 1 j l) (data_links d (suc j) x) h) r.1,
  )

-- ---- long strings

-- the cell is no reference
abbrev plain : Cell → Bool
plain (bits n) = true
plain (chars t) = true
plain (link v o) = false

plain_link : (c : Cell) (i j : ℕ) → plain c ≡ true → is_link c i j ≡ false
plain_link (bits n) i j h = refl
plain_link (chars t) i j h = refl
plain_link (link v o) i j h = absurd (true≢false (sym h))

plain_rule : (d : List (List Cell)) (i j : ℕ) (c : Cell) → plain c ≡ true → link_rule d i j c ≡ true
plain_rule d i j (bits n) h = refl
plain_rule d i j (chars t) h = refl
plain_rule d i j (link v o) h = absurd (true≢false (sym h))

-- types of an untagged edition have no references
module _ (o : Order) (vw ow : ℕ) where
  plain_cell : (t : VarType) (c : Cell) → has_type false t ≡ true → (cell o vw ow t).Right c → plain c ≡ true
  plain_cell (text_type w) c h r = ap plain (sym r.1)
  plain_cell strl_type c h r = absurd (true≢false (sym h))
  plain_cell byte_type c h r = ap plain (sym r.1)
  plain_cell int_type c h r = ap plain (sym r.1)
  plain_cell long_type c h r = ap plain (sym r.1)
  plain_cell float_type c h r = ap plain (sym r.1)
  plain_cell double_type c h r = ap plain (sym r.1)

  plain_row : (d : List (List Cell)) (t : List VarType) (l : List Cell) (i j : ℕ) → all_types false t ≡ true → RowRight (cell o vw ow) t l
      → (row_selves i j l ≡ []) × (row_links d i j l ≡ true)
  plain_row d [] [] i j h r = (refl, refl)
  plain_row d [] (c ∷ l) i j h r = absurd r
  plain_row d (t ∷ k) [] i j h r = absurd r
  plain_row d (t ∷ k) (c ∷ l) i j h r =
      let p = plain_cell t c (and_left (has_type false t) (all_types false k) h) r.0 in
      let g = plain_row d k l (suc i) j (and_right (has_type false t) (all_types false k) h) r.1 in
      (rw (plain_link c i j p) g.0, rw (plain_rule d i j c p) g.1)

  plain_data : (x : List (List Cell)) (t : List VarType) (d : List (List Cell)) (j : ℕ) → all_types false t ≡ true → AllRight (row (cell o vw ow) t) d
      → (data_selves j d ≡ []) × (data_links x j d ≡ true)
  plain_data x t [] j h r = (refl, refl)
  plain_data x t (l ∷ d) j h r =
      let p = plain_row x t l 1 j h r.0 in
      let g = plain_data x t d (suc j) h r.1 in
      (rw p.0 g.0, rw p.1 g.1)

  -- so number 11's rule is never broken in an untagged edition
  pub linked_none : (t : List VarType) (d : List (List Cell)) → all_types false t ≡ true → AllRight (row (cell o vw ow) t) d → linked d [] ≡ true
  unfolding linked
  linked_none t d h r = let p = plain_data d t d 1 h r in rw (p.1, p.0)

no_records : (l : List LongString) → record_rule [] l ≡ true → l ≡ []
no_records [] h = refl
no_records (r ∷ l) h = absurd (true≢false (sym h))

-- the observations of cells lie below a bound
abbrev Below : ℕ → List (ℕ × ℕ) → Type 0
Below b [] = Unit
Below b (s ∷ l) = (s.1 < b) × Below b l

below_append : (b : ℕ) (k l : List (ℕ × ℕ)) → Below b k → Below b l → Below b (k ++ l)
below_append b [] l r t = t
below_append b (s ∷ k) l r t = (r.0, below_append b k l r.1 t)

row_below : (b i j : ℕ) (l : List Cell) → j < b → Below b (row_selves i j l)
row_below b i j [] h = tt
row_below b i j (c ∷ l) h = go (is_link c i j) refl (row_below b (suc i) j l h)
  where
    go : (t : Bool) → is_link c i j ≡ t → Below b (row_selves (suc i) j l) → Below b (row_selves i j (c ∷ l))
    go true e r = rw e (h, r)
    go false e r = rw e r

data_below : (b j : ℕ) (d : List (List Cell)) → j + length d ≤ b → Below b (data_selves j d)
data_below b j [] h = tt
data_below b j (l ∷ d) h = below_append b (row_selves 1 j l) (data_selves (suc j) d) (row_below b 1 j l (omega arith)) (data_below b (suc j) d (omega arith))

module _ (s : Bool) (o q : Order) (ow oz : ℕ) where
  -- a record is right where its observation has room
  record_held : (a : LongString) → a.o < 256 ^ oz → (long_record s o ow).Right a → (long_record true q oz).Right a
  unfolding long_record long_head tag
  record_held a b r = let n = r.0.1.0 in ((tt, ((n.0, (b, n.1.1)), r.0.1.1)), refl)

  records_held : (b : ℕ) (k : List (ℕ × ℕ)) (l : List LongString) → b ≤ 256 ^ oz → Below b k → record_rule k l ≡ true
      → AllRight (long_record s o ow) l → AllRight (long_record true q oz) l
  records_held b [] [] w m h r = tt
  records_held b [] (a ∷ l) w m h r = absurd (true≢false (sym h))
  records_held b (c ∷ k) [] w m h r = tt
  records_held b (c ∷ k) (a ∷ l) w m h r =
      let g = and_left (eqb c.0 a.v && eqb c.1 a.o) (kind_rule a && record_rule k l) h in
      let y = eqb-true c.1 a.o (and_right (eqb c.0 a.v) (eqb c.1 a.o) g) in
      let i = and_right (kind_rule a) (record_rule k l) (and_right (eqb c.0 a.v && eqb c.1 a.o) (kind_rule a && record_rule k l) h) in
      (record_held a (omega (arith, y, m.0)) r.0, records_held b k l w m.1 i r.1)

  -- the records of the data d are right: in an untagged edition there are none
  all_records_held : (t : Bool) (vw cw : ℕ) (k : List VarType) (d : List (List Cell)) (l : List LongString) → 2147483647 < 256 ^ oz → length d ≤ 2147483647
      → all_types t k ≡ true → AllRight (row (cell o vw cw) k) d → record_rule (data_selves 1 d) l ≡ true
      → AllRight (long_record s o ow) l → AllRight (long_record t q oz) l
  all_records_held true vw cw k d l w n h r g p = records_held 2147483648 (data_selves 1 d) l w (data_below 2147483648 1 d (omega arith)) g p
  all_records_held false vw cw k d l w n h r g p =
      let y : l ≡ [] = no_records l (rw (plain_data o vw cw d k d 1 h r).0 at g) in
      subst (λ (x : List LongString). AllRight (long_record false q oz) x) (sym y) tt

  strls_held : (t : Bool) (vw cw : ℕ) (k : List VarType) (d : List (List Cell)) (l : List LongString) → 2147483647 < 256 ^ oz → length d ≤ 2147483647
      → all_types t k ≡ true → AllRight (row (cell o vw cw) k) d → (strls s o ow d).Right l → (strls t q oz d).Right l
  unfolding strls linked tag
  strls_held t vw cw k d l w n h r p =
      (tt, (all_records_held t vw cw k d l w n h r (and_right (data_links d 1 d) (record_rule (data_selves 1 d) l) p.1.1.0.1) p.1.0, p.1.1))

-- the references keep to their rule
links_of : (t : Bool) (o : Order) (ow : ℕ) (d : List (List Cell)) (l : List LongString) → (strls t o ow d).Right l → data_links d 1 d ≡ true
unfolding strls linked tag
links_of t o ow d l r = and_left (data_links d 1 d) (record_rule (data_selves 1 d) l) r.1.1.0.1

module _ (t : Bool) (o : Order) (vw ow : ℕ) (k : List VarType) (n : ℕ) (d : List (List Cell)) where
  data_from : (observations t o vw ow k n).Right d → (length d ≡ n) × (AllRight (row (cell o vw ow) k) d)
  unfolding observations between tag
  data_from r = r.1.0

  data_to : length d ≡ n → AllRight (row (cell o vw ow) k) d → (observations t o vw ow k n).Right d
  unfolding observations between tag
  data_to l r = (tt, ((l, r), tt))

-- ---- label blocks

module _ (s t : Bool) (o q : Order) (w z : ℕ) where
  block_held : (b : LabelBlock) → length b.set_name < z → (block s o w).Right b → (block t q z).Right b
  unfolding block block_head table table_head table_body tag
  block_held b h r = (tt, ((r.1.0.0, (name_held w z b.set_name h r.1.0.1.0, tt)), (r.1.1.0, tt)))

  all_blocks_held : (l : List LabelBlock) → all_shorter z (block_names l) ≡ true → AllRight (block s o w) l → AllRight (block t q z) l
  all_blocks_held [] h r = tt
  all_blocks_held (b ∷ l) h r = (
    block_held b (ltb-true (length b.set_name) z (and_left (ltb (length b.set_name) z) (all_shorter z (block_names l)) h)) r.0,
    all_blocks_held l (and_right (ltb (length b.set_name) z) (all_shorter z (block_names l)) h) r.1,
  )

  blocks_held : (l : List LabelBlock) → all_shorter z (block_names l) ≡ true → (blocks s o w (done 13)).Right l → (blocks t q z (done 13)).Right l
  unfolding blocks tag
  blocks_held l h r = (tt, (all_blocks_held l h r.1.0, (tt, (tt, tt))))

-- ---- the map

sums_right : (o : Order) (l : List ℕ) (p : ℕ) → p + total l < 256 ^ 8 → AllRight (number o 8) (sums p l)
sums_right o [] p b = (omega arith, tt)
sums_right o (x ∷ l) p b = (omega arith, sums_right o l (p + x) (omega arith))

sums_length : (l : List ℕ) (p : ℕ) → length (sums p l) ≡ suc (length l)
sums_length [] p = refl
sums_length (x ∷ l) p = ap suc (sums_length l (p + x))

map_by : (t : Bool) (o : Order) (P : List ℕ) → length P ≡ 13 → total P < 256 ^ 8 → (file_map t o).Right (cond t (sums 0 P) [])
unfolding file_map between tag
map_by true o P n b = (tt, ((sums_length P 0 ∙ ap suc n, sums_right o P 0 (omega arith)), tt))
map_by false o P n b = (tt, ((refl, tt), tt))

map_right_lem : (e : Edition) (o : Order) (w : Dataset × Extras) → (file e o).size w ≤ length_max → (file_map e.tagged o).Right (map_of e o w)
map_right_lem e o w b = map_by e.tagged o (part_sizes e o w) (thirteen e o w) (omega (arith, size_total e o w))

-- ---- the whole

-- the parts of `holds`
record Holds (e : Edition) (o : Order) (d : Dataset) : Type 0 where
  has_types : all_types e.tagged d.var_types ≡ true
  has_label : length d.label ≤ e.label_max
  has_names : all_shorter e.name_width d.var_names ≡ true
  has_formats : all_shorter e.format_width d.display_formats ≡ true
  has_sets : all_shorter e.name_width d.label_sets ≡ true
  has_labels : all_shorter e.var_label_width d.variable_labels ≡ true
  has_blocks : all_shorter e.name_width (block_names d.label_blocks) ≡ true
  has_length : (file e o).size (d, []) ≤ length_max

holds_parts : (e : Edition) (o : Order) (d : Dataset) → holds e o d ≡ true → Holds e o d
unfolding holds
holds_parts e o d h =
    let h1 = and_right (all_types e.tagged d.var_types) _ h in
    let h2 = and_right (leb (length d.label) e.label_max) _ h1 in
    let h3 = and_right (all_shorter e.name_width d.var_names) _ h2 in
    let h4 = and_right (all_shorter e.format_width d.display_formats) _ h3 in
    let h5 = and_right (all_shorter e.name_width d.label_sets) _ h4 in
    let h6 = and_right (all_shorter e.var_label_width d.variable_labels) _ h5 in
    let h7 = and_right (all_shorter e.name_width (block_names d.label_blocks)) _ h6 in
    record {
      has_types = and_left (all_types e.tagged d.var_types) _ h;
      has_label = leb-true (length d.label) e.label_max (and_left (leb (length d.label) e.label_max) _ h1);
      has_names = and_left (all_shorter e.name_width d.var_names) _ h2;
      has_formats = and_left (all_shorter e.format_width d.display_formats) _ h3;
      has_sets = and_left (all_shorter e.name_width d.label_sets) _ h4;
      has_labels = and_left (all_shorter e.var_label_width d.variable_labels) _ h5;
      has_blocks = and_left (all_shorter e.name_width (block_names d.label_blocks)) _ h6;
      has_length = leb-true ((file e o).size (d, [])) length_max h7;
    }

-- what a file may say, without its extras, a file of another edition may say that holds the dataset and has room
pub held : (e z : Edition) (o q : Order) (d : Dataset) (x : Extras) → Roomy z → (file e o).Right (d, x) → holds z q d ≡ true → (file z q).Right (d, [])
held e z o q d x m r h =
    let a = holds_parts z q d h in
    let v = sections_of e o d x r in
    let c = head_from e.tagged e o (head_of d) v.head in
    let k = types_length e.tagged o d.k d.var_types v.type_list in
    let n = data_from e.tagged o e.v_width e.o_width d.var_types d.n d.cells v.rows in
    let cols : length d.var_types ≤ 32767 = omega (arith, k_small (head_of d) c) in
    let rows : length d.cells ≤ 2147483647 = omega (arith, n.0, n_small (head_of d) c) in
    let s = links_small (cell o e.v_width e.o_width) d.var_types d.cells n.1 cols rows in
    let g = links_of e.tagged o e.record_width d.cells d.long_strings v.longs in
    of_sections z q d []
    (record {
      head = head_to z.tagged z q (head_of d) m c a.has_label;
      map = map_right_lem z q (d, []) a.has_length;
      type_list = types_to z.tagged q d.k d.var_types k a.has_types;
      name_list = names_held_lem e.tagged z.tagged e.name_width z.name_width d.k d.var_names a.has_names v.name_list;
      sort = sort_held e.tagged z.tagged o q d.k d.sorted v.sort;
      format_list = fields_held e.tagged z.tagged _ e.format_width z.format_width d.k d.display_formats a.has_formats v.format_list;
      set_list = fields_held e.tagged z.tagged _ e.name_width z.name_width d.k d.label_sets a.has_sets v.set_list;
      label_list = fields_held e.tagged z.tagged _ e.var_label_width z.var_label_width d.k d.variable_labels a.has_labels v.label_list;
      extras = no_expansions z.tagged q;
      rows = data_to z.tagged q z.v_width z.o_width d.var_types d.n d.cells n.0
          (rows_held o q e.v_width e.o_width z.v_width z.o_width m.for_v m.for_o d.cells s 1 d.var_types d.cells g n.1);
      longs = strls_held e.tagged o q e.record_width z.record_width z.tagged e.v_width e.o_width d.var_types d.cells d.long_strings m.for_record rows a.has_types n.1 v.longs;
      block_list = blocks_held e.tagged z.tagged o q e.name_width z.name_width d.label_blocks a.has_blocks v.block_list;
    })

-- ---- theorems

module _ (f : List ℕ) (r : Release) (o : Order) (u : Bytes f) (a : verdict f ≡ 0) (h : holds (edition r) o (dataset_of f) ≡ true) where
  -- an accepted file's dataset is right in an edition that holds it
  rewritten_right : (file (edition r) o).Right (dataset_of f, [])
  rewritten_right = held (edition_of f) (edition r) (order_of f) o (dataset_of f) (contents f).1 (roomy r) (sound f u a).right h

  -- round trip: an accepted file, rewritten to any edition that holds its dataset, in any byte order, is accepted and says the same
  -- dataset
  pub round_trip : Accepted r o (written (edition r) o (dataset_of f)) (dataset_of f, [])
  round_trip =
      read_back_lem r o (dataset_of f) rewritten_right (rw (written_length r o (dataset_of f)) (holds_parts (edition r) o (dataset_of f) h).has_length)

  -- what is written is bytes
  pub round_trip_bytes : Bytes (written (edition r) o (dataset_of f))
  round_trip_bytes = written_bytes r o (dataset_of f) rewritten_right

  -- a rewritten file, rewritten to the same target, stays as it is
  pub fixed_point : written (edition r) o (dataset_of (written (edition r) o (dataset_of f))) ≡ written (edition r) o (dataset_of f)
  fixed_point = ap (λ (w : Dataset × Extras). written (edition r) o w.0) round_trip.says

-- two accepted files, rewritten to one edition and byte order that hold both: equal bytes mean equal datasets
pub same_data : (f g : List ℕ) (r : Release) (o : Order) → Bytes f → Bytes g → verdict f ≡ 0 → verdict g ≡ 0
    → holds (edition r) o (dataset_of f) ≡ true → holds (edition r) o (dataset_of g) ≡ true
    → written (edition r) o (dataset_of f) ≡ written (edition r) o (dataset_of g) → dataset_of f ≡ dataset_of g
same_data f g r o u v a b h k e =
    ap (λ (w : Dataset × Extras). w.0)
    (sym (round_trip f r o u a h).says ∙ ap (λ (x : List ℕ). contents x) e ∙ (round_trip g r o v b k).says)
