-- The dead places that the grammar marks are those of document 01's list (specs/Dead.antt): section by section, then the whole file.
use mathlib.Core.Path.{◌≡◌, refl, sym, ap, ◌∙◌, subst}
use Prim.Native.Nat.{ℕ, zero, suc, ◌+◌, ◌-◌, ◌*◌, ◌≤◌, ◌<◌}
use native.Mathlib.Nat.{add-zero, zero-add, add_assoc, not-suc-le-zero}
use native.Mathlib.Omega.{arith}
use mathlib.Core.Logic.{◌⊎◌, inl, inr}
use mathlib.Core.List.{List, [], ◌∷◌, ◌++◌, map}
use mathlib.Core.Bool.{Bool, true, false, cond, not, ◌&&◌, ◌||◌, true≢false}
use lib.ListN.{length, get_or, take, replicate, length-map, length-append, length-replicate}
use lib.Dec.{eqb, leb, ltb}
use borrow.Author.Tests.{eqb-true, eqb-false, eq-eqb, ne_eqb, not-true}
use Rattle.format.specs.Slot.{Slot, byte, spare, Fits, Bytes, is_spare, dead}
use Rattle.format.specs.Number.{Order, msf, lsf, num, num_slots}
use Rattle.format.specs.Grammar.{Sect, no_zero, text_slots, number, text, fixed, all_slots, AllRight, sizes, row, row_slots, RowRight, row_width, area, tag, between, within, raw, times, done}
use Rattle.format.specs.Edition.{Edition, code_width, kind_width, map_count, blocks_end, opening, closing, tagged_start, order_text, order_mark, n_map, n_variable_types, n_varnames, n_sortlist, n_formats, n_value_label_names, n_variable_labels, n_characteristics, n_ch, n_data, n_strls, n_value_labels, n_lbl, n_stata_dta, n_k, n_n, n_label, n_timestamp, n_byteorder, n_header, t_gso}
use Rattle.format.specs.Header.{Head, stamp_length, old_stamp, old_header, counted, new_facts, new_header, header_by, header}
use Rattle.format.specs.Variables.{file_map, VarType, text_type, strl_type, byte_type, int_type, long_type, float_type, double_type, code_of, type_code, types, name, names, sort_list, fields, formats, set_names, var_labels}
use Rattle.format.specs.Expansion.{Expansion, expansion_head, expansion_body, expansion, expansions}
use Rattle.format.specs.Data.{Cell, chars_of, bits_of, link_of, cell, cell_width, observations, LongString, long_head, long_record, strls}
use Rattle.format.specs.Labels.{Table, table_head, table_body, table, table_size, LabelBlock, block_head, block, blocks}
use Rattle.format.specs.Dta.{Dataset, Extras, head_of, part_sizes, positions, map_of, from_strls, from_data, from_expansions, from_var_labels, from_set_names, from_formats, from_sort_list, from_names, from_types, from_map, sections, file_to, file, release_of, edition_of, order_of, verdict, contents, dataset_of, layout_of, Layout, dead_in}
use Rattle.format.specs.Dead.{Among, AfterZero, InFields, InSortList, InRow, InCells, SomeAt, InExpansion, name_at, texts_at, Covered, InBlock, block_name, padding, label_text, DeadPlace, unused, old_label, var_name, sort_entry, display_format, label_set, variable_label, expansion_contents, text_cell, label_block}
use Rattle.format.specs.Dead as Dead
use Rattle.format.proofs.SlotLaws.{fits_left, fits_right, fits_after, length_tab}
use Rattle.format.proofs.Good.{Good, between_fits, all_sized, text_good, number_good, good_right, and_left, and_right}
use Rattle.format.proofs.RowLaws.{row_wide, row_of_good}
use Rattle.format.proofs.HeaderLaws.{header_good}
use Rattle.format.proofs.VariableLaws.{name_good, name_wide, types_good, names_good, sort_good, fields_good}
use Rattle.format.proofs.ExpansionLaws.{expansion_good, expansions_good}
use Rattle.format.proofs.DataLaws.{cell_good, cell_wide, data_good, strls_good}
use Rattle.format.proofs.LabelLaws.{block_good, numbers_wide}
use Rattle.format.proofs.FileLaws.{sound, itself, layout_is, number_small}
use Rattle.format.proofs.PartLaws.{map_length, SectionsRight, sections_of, SectionsFit, sections_fit}
use Rattle.format.proofs.DeadSlots.{Iff, iff_join, DeadAt, dead_append, dead_index, Live, live_bytes, live_number, live_append, live_between, live_all, dead_idle, dead_text, dead_ended, dead_area, dead_both, dead_right, dead_left, dead_between, dead_some, dead_times}

iff_same : {A : Type 0} → Iff A A
iff_same = record { to = λ a. a; from = λ a. a }

-- ---- lists of variables

-- S between two tags, by what is dead in S
part_dead : {A X : Type 0} (l r : List ℕ) (S : Sect A) (a : A) (f : List ℕ) (p i : ℕ) → (between l r S).Right a → Fits f p ((between l r S).slots a)
    → (S.Right a → Fits f (p + length l) (S.slots a) → Iff (DeadAt (S.slots a) (p + length l) i) X) → Iff (DeadAt ((between l r S).slots a) p i) X
unfolding between tag
part_dead l r S a f p i q m h = iff_join (dead_between l r S a p i) (h q.1.0 (between_fits l r S a f p m))

-- k texts of w bytes
texts_dead : (S : Sect (List ℕ)) (w : ℕ) (G : Good w ◌≤◌ S) (wide : (t : List ℕ) → S.Right t → S.size t ≡ w)
    → ((t : List ℕ) (f : List ℕ) (p i : ℕ) → S.Right t → Fits f p (S.slots t) → Iff (DeadAt (S.slots t) p i) (AfterZero f p w i))
    → (k : ℕ) (l : List (List ℕ)) (f : List ℕ) (p i : ℕ) → (times S k).Right l → Fits f p (all_slots S l) → Iff (DeadAt (all_slots S l) p i) (InFields f p w k i)
texts_dead S w G wide each k l f p i r m =
    subst (λ (x : ℕ). Iff (DeadAt (all_slots S l) p i) (InFields f p w x i)) r.0
    (dead_times S G w wide (λ q. AfterZero f q w i) f i (λ t q. each t f q i) l p r.1 m)

fields_dead : (t : Bool) (n : List ℕ) (w k : ℕ) (l : List (List ℕ)) (f : List ℕ) (p i : ℕ) → (fields t n w k).Right l → Fits f p ((fields t n w k).slots l)
    → Iff (DeadAt ((fields t n w k).slots l) p i) (InFields f (p + length (opening t n)) w k i)
unfolding fields
fields_dead t n w k l f p i r m =
    part_dead (opening t n) (closing t n) (within (k * w) (times (text w 7) k)) l f p i r m
    (texts_dead (text w 7) w (text_good w 7 (omega arith)) (λ a z. refl) (λ a g q j z. dead_text w a g q j (omega (arith, z.0)) z.1) k l f (p + length (opening t n)) i)

name_dead : (w : ℕ) (t f : List ℕ) (p i : ℕ) → (name w).Right t → Fits f p ((name w).slots t) → Iff (DeadAt ((name w).slots t) p i) (AfterZero f p w i)
unfolding name
name_dead w t f p i z m = dead_text w t f p i (omega (arith, z.0.0)) z.0.1 m

names_dead : (t : Bool) (w k : ℕ) (l : List (List ℕ)) (f : List ℕ) (p i : ℕ) → (names t w k).Right l → Fits f p ((names t w k).slots l)
    → Iff (DeadAt ((names t w k).slots l) p i) (InFields f (p + length (opening t n_varnames)) w k i)
unfolding names
names_dead t w k l f p i r m =
    part_dead (opening t n_varnames) (closing t n_varnames) (within (k * w) (times (name w) k)) l f p i r m
    (texts_dead (name w) w (name_good w) (name_wide w) (name_dead w) k l f (p + length (opening t n_varnames)) i)

sort_dead : (t : Bool) (o : Order) (k : ℕ) (l f : List ℕ) (p i : ℕ) → (sort_list t o k).Right l → Fits f p ((sort_list t o k).slots l)
    → Iff (DeadAt ((sort_list t o k).slots l) p i) (InSortList o f (p + length (opening t n_sortlist)) (suc k) i)
unfolding sort_list
sort_dead t o k l f p i r m =
    part_dead (opening t n_sortlist) (closing t n_sortlist) _ l f p i r m (λ z y. dead_ended o (suc k) l f (p + length (opening t n_sortlist)) i z.0 y)

map_live : (t : Bool) (o : Order) (l : List ℕ) → Live ((file_map t o).slots l)
unfolding file_map
map_live t o l = live_between (opening t n_map) (closing t n_map) (within (map_count t * 8) (times (number o 8) (map_count t))) l (live_all (number o 8) (live_number o 8) l)

types_live : (t : Bool) (o : Order) (k : ℕ) (l : List VarType) → Live ((types t o k).slots l)
unfolding types type_code
types_live t o k l =
    live_between (opening t n_variable_types) (closing t n_variable_types) (within (k * code_width t) (times (type_code t o) k)) l
    (live_all (type_code t o) (λ x. live_number o (code_width t) (code_of t x)) l)

-- ---- expansions

expansion_dead : (t : Bool) (o : Order) (x : Expansion) (p i : ℕ) → Iff (DeadAt ((expansion t o).slots x) p i) (InExpansion t i x p)
unfolding expansion expansion_head expansion_body tag
expansion_dead t o x p i =
    let h = num_slots msf (kind_width t) x.0 ++ num_slots o 4 x.1 in
    let y : length h ≡ kind_width t + 4 = rw (length-append, length_tab, length_tab) in
    let q = p + length (opening t n_ch) in
    dead_right (map byte (opening t n_ch)) _ p (length (opening t n_ch)) i (length-map (opening t n_ch) byte) (live_bytes (opening t n_ch))
    (dead_right h (replicate x.1 (spare 0) ++ map byte (closing t n_ch)) q (kind_width t + 4) i y
    (live_append (live_number msf (kind_width t) x.0) (live_number o 4 x.1))
    (dead_left (replicate x.1 (spare 0)) (map byte (closing t n_ch)) (q + (kind_width t + 4)) i (dead_idle x.1 0 (q + (kind_width t + 4)) i)
    (live_bytes (closing t n_ch))))

-- what stands between the tags of a walk: the list, then live bytes
walk_dead : {A : Type 0} {room : ℕ} {R : ℕ → ℕ → Type 0} (S : Sect A) (G : Good room R S) (Q : A → ℕ → Type 0) (f : List ℕ) (i : ℕ)
    → ((a : A) (p : ℕ) → S.Right a → Fits f p (S.slots a) → Iff (DeadAt (S.slots a) p i) (Q a p))
    → (l : List A) (b : List ℕ) (P : List Slot) (p : ℕ) → AllRight S l → Fits f p (map byte b ++ (all_slots S l ++ P))
    → Live P → Iff (DeadAt (map byte b ++ (all_slots S l ++ P)) p i) (SomeAt S Q (p + length b) l)
walk_dead S G Q f i each l b P p r m live =
    let n : Fits f (p + length b) (all_slots S l ++ P) = rw (length-map b byte) at (fits_right f p (map byte b) (all_slots S l ++ P) m) in
    dead_right (map byte b) (all_slots S l ++ P) p (length b) i (length-map b byte) (live_bytes b)
    (dead_left (all_slots S l) P (p + length b) i (dead_some S G Q f i each l (p + length b) r (fits_left f (p + length b) (all_slots S l) P n)) live)

expansions_dead : (t : Bool) (o : Order) (l : List Expansion) (f : List ℕ) (p i : ℕ) → (expansions t o).Right l → Fits f p ((expansions t o).slots l)
    → Iff (DeadAt ((expansions t o).slots l) p i) (SomeAt (expansion t o) (InExpansion t i) (p + length (opening t n_characteristics)) l)
unfolding expansions tag
expansions_dead t o l f p i r m =
    walk_dead (expansion t o) (expansion_good t o) (InExpansion t i) f i (λ x q z y. expansion_dead t o x q i) l (opening t n_characteristics)
    (map byte (blocks_end t) ++ map byte (closing t n_characteristics)) p r.1.0 m
    (live_append (live_bytes (blocks_end t)) (live_bytes (closing t n_characteristics)))

-- ---- data

is_text : VarType → Bool
is_text (text_type w) = true
is_text strl_type = false
is_text byte_type = false
is_text int_type = false
is_text long_type = false
is_text float_type = false
is_text double_type = false

-- place i is after the first zero of a cell of type t at p
abbrev InCell : List ℕ → VarType → ℕ → ℕ → Type 0
InCell f t p i = (w : ℕ) × (t ≡ text_type w) × (AfterZero f p w i)

-- a cell that is no text is live
live_cell : (t : VarType) (P : List Slot) (f : List ℕ) (p i : ℕ) → is_text t ≡ false → Live P → Iff (DeadAt P p i) (InCell f t p i)
unfolding is_text
live_cell t P f p i h n = record { to = λ d. absurd (n.none p i d); from = λ d. absurd (true≢false (sym (ap is_text d.1) ∙ h)) }

module _ (o : Order) (vw ow : ℕ) where
  cell_dead : (t : VarType) (c : Cell) (f : List ℕ) (p i : ℕ) → (cell o vw ow t).Right c → Fits f p ((cell o vw ow t).slots c)
      → Iff (DeadAt ((cell o vw ow t).slots c) p i) (InCell f t p i)
  unfolding is_text
  cell_dead (text_type w) c f p i r m =
      let h = dead_text w (chars_of c) f p i r.0.0 r.0.1 m in
      record {
        to = λ d. (w, refl, h.to d);
        from = λ d. (let q = d.1 in let e : w ≡ d.0 = cc q in h.from (subst (λ (x : ℕ). AfterZero f p x i) (sym e) d.2));
      }
  cell_dead strl_type c f p i r m =
      live_cell strl_type ((cell o vw ow strl_type).slots c) f p i refl
      (live_append (live_number o vw (link_of c).0) (live_number o ow (link_of c).1))
  cell_dead byte_type c f p i r m = live_cell byte_type (num_slots o 1 (bits_of c)) f p i refl (live_number o 1 (bits_of c))
  cell_dead int_type c f p i r m = live_cell int_type (num_slots o 2 (bits_of c)) f p i refl (live_number o 2 (bits_of c))
  cell_dead long_type c f p i r m = live_cell long_type (num_slots o 4 (bits_of c)) f p i refl (live_number o 4 (bits_of c))
  cell_dead float_type c f p i r m = live_cell float_type (num_slots o 4 (bits_of c)) f p i refl (live_number o 4 (bits_of c))
  cell_dead double_type c f p i r m = live_cell double_type (num_slots o 8 (bits_of c)) f p i refl (live_number o 8 (bits_of c))

  row_dead : (k : List VarType) (l : List Cell) (f : List ℕ) (p i : ℕ) → RowRight (cell o vw ow) k l → Fits f p (row_slots (cell o vw ow) k l)
      → Iff (DeadAt (row_slots (cell o vw ow) k l) p i) (InRow vw ow f k p i)
  row_dead [] [] f p i r m = record { to = λ d. absurd d; from = λ d. absurd (not-suc-le-zero d.2) }
  row_dead [] (c ∷ l) f p i r m = absurd r
  row_dead (t ∷ k) [] f p i r m = absurd r
  row_dead (t ∷ k) (c ∷ l) f p i r m =
      iff_join
      (dead_both ((cell o vw ow t).slots c) (row_slots (cell o vw ow) k l) p (cell_width vw ow t) i ((cell_good o vw ow t).sized c ∙ cell_wide o vw ow t c r.0)
      (cell_dead t c f p i r.0 (fits_left f p ((cell o vw ow t).slots c) (row_slots (cell o vw ow) k l) m)) (row_dead k l f (p + cell_width vw ow t) i r.1 after))
      (record { to = to; from = from })
    where
      after : Fits f (p + cell_width vw ow t) (row_slots (cell o vw ow) k l)
      after =
          subst (λ (x : ℕ). Fits f (p + x) (row_slots (cell o vw ow) k l)) (cell_wide o vw ow t c r.0)
          (good_right (cell o vw ow t) (cell_good o vw ow t) f p c (row_slots (cell o vw ow) k l) m)

      at : (v : ℕ) → p + cell_width vw ow t + row_width (cell_width vw ow) (take v k) ≡ p + row_width (cell_width vw ow) (take (suc v) (t ∷ k))
      at v = omega arith

      to : (InCell f t p i) ⊎ (InRow vw ow f k (p + cell_width vw ow t) i) → InRow vw ow f (t ∷ k) p i
      to (inl d) = (zero, d.0, omega arith, d.1, subst (λ (x : ℕ). AfterZero f x d.0 i) (sym (add-zero p)) d.2)
      to (inr d) = (suc d.0, d.1, omega (arith, d.2), d.3, subst (λ (x : ℕ). AfterZero f x d.1 i) (at d.0) d.4)

      from : InRow vw ow f (t ∷ k) p i → (InCell f t p i) ⊎ (InRow vw ow f k (p + cell_width vw ow t) i)
      from (zero, w, b, q, d) = inl (w, q, subst (λ (x : ℕ). AfterZero f x w i) (add-zero p) d)
      from (suc v, w, b, q, d) = inr (v, w, omega arith, q, subst (λ (x : ℕ). AfterZero f x w i) (sym (at v)) d)

  data_dead : (t : Bool) (k : List VarType) (n : ℕ) (l : List (List Cell)) (f : List ℕ) (p i : ℕ) → (observations t o vw ow k n).Right l
      → Fits f p ((observations t o vw ow k n).slots l) → Iff (DeadAt ((observations t o vw ow k n).slots l) p i) (InCells vw ow f k (p + length (opening t n_data)) n i)
  unfolding observations
  data_dead t k n l f p i r m =
      part_dead (opening t n_data) (closing t n_data) _ l f p i r m
      λ z y. subst (λ (x : ℕ). Iff (DeadAt (all_slots (row (cell o vw ow) k) l) (p + length (opening t n_data)) i) (InCells vw ow f k (p + length (opening t n_data)) x i)) z.0
      (dead_times (row (cell o vw ow) k) (row_of_good (cell o vw ow) (cell_width vw ow) (cell_wide o vw ow) (cell_good o vw ow) k) (row_width (cell_width vw ow) k)
      (row_wide (cell o vw ow) (cell_width vw ow) (cell_wide o vw ow) (cell_good o vw ow) k) (λ q. InRow vw ow f k q i) f i (λ a q. row_dead k a f q i) l (p + length (opening t n_data)) z.1 y)

-- ---- long strings

record_live : (t : Bool) (o : Order) (ow : ℕ) (s : LongString) → Live ((long_record t o ow).slots s)
unfolding long_record long_head tag
record_live t o ow s =
    live_append (live_bytes t_gso)
    (live_append
    (live_append (live_number o 4 s.v) (live_append (live_number o ow s.o) (live_append (live_number o 1 s.kind) (live_number o 4 (length s.contents)))))
    (live_bytes s.contents))

strls_live : (t : Bool) (o : Order) (ow : ℕ) (d : List (List Cell)) (l : List LongString) → Live ((strls t o ow d).slots l)
unfolding strls tag
strls_live t o ow d l =
    live_append (live_bytes (opening t n_strls)) (live_append (live_all (long_record t o ow) (record_live t o ow) l) (live_bytes (closing t n_strls)))

-- ---- label blocks

numbers_length : (o : Order) (n : ℕ) (l : List ℕ) → (times (number o 4) n).Right l → length (all_slots (number o 4) l) ≡ n * 4
numbers_length o n l r = all_sized (number o 4) (number_good o 4) l ∙ numbers_wide o n l r

table_dead : (o : Order) (w : ℕ) (b : Table) (f : List ℕ) (p i : ℕ) → (table o w).Right b → Fits f p ((table o w).slots b)
    → Iff (DeadAt ((table o w).slots b) p i)
    ((Among (p + (8 + 8 * length b.offsets)) (length b.texts) i) × (Covered f (p + (8 + 8 * length b.offsets)) b.offsets i → ⊥))
unfolding table table_head table_body
table_dead o w b f p i r m =
    let n = length b.offsets in
    let H = num_slots o 4 n ++ num_slots o 4 (length b.texts) in
    let A = all_slots (number o 4) b.offsets in
    let B = all_slots (number o 4) b.values in
    let T = (area b.offsets (length b.texts) 12).slots b.texts in
    let y = numbers_length o n b.offsets r.1.1.0 in
    let z = numbers_length o n b.values r.1.1.1.0.0 in
    let q : p + 8 + n * 4 + n * 4 ≡ p + (8 + 8 * n) = omega arith in
    let g = fits_after f (p + 8 + n * 4) (n * 4) B T z (fits_after f (p + 8) (n * 4) A (B ++ T) y (fits_after f p 8 H (A ++ (B ++ T)) refl m)) in
    subst (λ (x : ℕ). Iff (DeadAt (H ++ (A ++ (B ++ T))) p i) ((Among x (length b.texts) i) × (Covered f x b.offsets i → ⊥))) q
    (dead_right H (A ++ (B ++ T)) p 8 i refl (live_append (live_number o 4 n) (live_number o 4 (length b.texts)))
    (dead_right A (B ++ T) (p + 8) (n * 4) i y (live_all (number o 4) (live_number o 4) b.offsets)
    (dead_right B T (p + 8 + n * 4) (n * 4) i z (live_all (number o 4) (live_number o 4) b.values)
    (dead_area b.offsets (length b.texts) b.texts f (p + 8 + n * 4 + n * 4) i g))))

-- what is dead in a block
abbrev DeadBlock : Edition → List ℕ → ℕ → LabelBlock → ℕ → Type 0
DeadBlock e f i b p =
    ((AfterZero f (name_at e.tagged p) e.name_width i) ⊎ (Among (name_at e.tagged p + e.name_width) 3 i))
    ⊎ ((Among (texts_at e b p) (length b.entries.texts) i) × (Covered f (texts_at e b p) b.entries.offsets i → ⊥))

block_data : (e : Edition) (f : List ℕ) (i : ℕ) (b : LabelBlock) (p : ℕ) → Iff (DeadBlock e f i b p) (InBlock e f i b p)
block_data e f i b p = record { to = to; from = from }
  where
    to : DeadBlock e f i b p → InBlock e f i b p
    to (inl (inl d)) = block_name d
    to (inl (inr d)) = padding d
    to (inr d) = label_text d.0 d.1

    from : InBlock e f i b p → DeadBlock e f i b p
    from (block_name d) = inl (inl d)
    from (padding d) = inl (inr d)
    from (label_text d c) = inr (d, c)

block_dead : (e : Edition) (o : Order) (b : LabelBlock) (f : List ℕ) (p i : ℕ) → (block e.tagged o e.name_width).Right b → Fits f p ((block e.tagged o e.name_width).slots b)
    → Iff (DeadAt ((block e.tagged o e.name_width).slots b) p i) (InBlock e f i b p)
unfolding block block_head tag
block_dead e o b f p i r m =
    let l = opening e.tagged n_lbl in
    let w = e.name_width in
    let s = table_size b.entries in
    let N = (name w).slots b.set_name in
    let H = num_slots o 4 s ++ (N ++ replicate 3 (spare 0)) in
    let T = (table o s).slots b.entries in
    let C = map byte (closing e.tagged n_lbl) in
    let q = p + length l in
    let y : length N ≡ w = (name_good w).sized b.set_name ∙ name_wide w b.set_name r.1.0.1.0 in
    let z : length H ≡ 4 + (w + 3) = rw (length-append, length_tab, length-append, y, length-replicate) in
    let g = fits_after f p (length l) (map byte l) (H ++ (T ++ C)) (length-map l byte) m in
    let h = fits_left f (q + 4) N (replicate 3 (spare 0)) (fits_after f q 4 (num_slots o 4 s) (N ++ replicate 3 (spare 0)) refl (fits_left f q H (T ++ C) g)) in
    let k = fits_left f (q + (4 + (w + 3))) T C (fits_after f q (4 + (w + 3)) H (T ++ C) z g) in
    let x : q + (4 + (w + 3)) + (8 + 8 * length b.entries.offsets) ≡ texts_at e b p = omega arith in
    let d = subst (λ (n : ℕ). Iff (DeadAt T (q + (4 + (w + 3))) i) ((Among n (length b.entries.texts) i) × (Covered f n b.entries.offsets i → ⊥))) x
    (table_dead o s b.entries f (q + (4 + (w + 3))) i r.1.1.0 k) in
    iff_join
    (dead_right (map byte l) (H ++ (T ++ C)) p (length l) i (length-map l byte) (live_bytes l)
    (dead_both H (T ++ C) q (4 + (w + 3)) i z
    (dead_right (num_slots o 4 s) (N ++ replicate 3 (spare 0)) q 4 i refl (live_number o 4 s)
    (dead_both N (replicate 3 (spare 0)) (q + 4) w i y (name_dead w b.set_name f (q + 4) i r.1.0.1.0 h) (dead_idle 3 0 (q + 4 + w) i)))
    (dead_left T C (q + (4 + (w + 3))) i d (live_bytes (closing e.tagged n_lbl)))))
    (block_data e f i b p)

blocks_dead : (e : Edition) (o : Order) (l : List LabelBlock) (f : List ℕ) (p i : ℕ) → (blocks e.tagged o e.name_width (done 13)).Right l
    → Fits f p ((blocks e.tagged o e.name_width (done 13)).slots l)
    → Iff (DeadAt ((blocks e.tagged o e.name_width (done 13)).slots l) p i)
    (SomeAt (block e.tagged o e.name_width) (InBlock e f i) (p + length (opening e.tagged n_value_labels)) l)
unfolding blocks tag
blocks_dead e o l f p i r m =
    walk_dead (block e.tagged o e.name_width) (block_good e.tagged o e.name_width) (InBlock e f i) f i (λ b q. block_dead e o b f q i) l (opening e.tagged n_value_labels)
    (map byte (closing e.tagged n_value_labels) ++ (map byte (closing e.tagged n_stata_dta) ++ [])) p r.1.0 m
    (live_append (live_bytes (closing e.tagged n_value_labels)) (live_append (live_bytes (closing e.tagged n_stata_dta)) (live_bytes [])))

-- ---- header

-- a text of full width is live
full_live : (w : ℕ) (t : List ℕ) → length t ≡ w → Live (text_slots w t)
full_live zero t e = live_bytes []
full_live (suc w) [] e = absurd (omega arith)
full_live (suc w) (c ∷ t) e = live_append (live_bytes (c ∷ [])) (full_live w t (omega arith))

stamp_cases : (t f : List ℕ) (p i : ℕ) → (length t ≤ 17) → no_zero t ≡ true → stamp_length (length t) ≡ true → Fits f p (text_slots 17 t)
    → Iff (AfterZero f p 17 i) ((get_or f p 0 ≡ 0) × (Among (suc p) 16 i))
stamp_cases t f p i b z h m = record { to = to t b z h m; from = λ d. (p, omega arith, omega (arith, d.1.0), omega (arith, d.1.1), d.0) }
  where
    seventeen : (n : ℕ) → stamp_length (suc n) ≡ true → suc n ≡ 17
    seventeen n h = eqb-true (suc n) 17 (rw (ne_eqb (suc n) 0 (λ e. (let y : suc n ≡ 0 = e in omega arith))) at h)

    to : (t : List ℕ) → length t ≤ 17 → no_zero t ≡ true → stamp_length (length t) ≡ true → Fits f p (text_slots 17 t) → AfterZero f p 17 i → (get_or f p 0 ≡ 0) × (Among (suc p) 16 i)
    to [] b z h m d = (m.0, (omega (arith, d.1, d.2), omega (arith, d.3)))
    to (c ∷ t) b z h m d = absurd ((full_live 17 (c ∷ t) (seventeen (length t) h)).none p i ((dead_text 17 (c ∷ t) f p i b z m).from d))

stamp_dead : (t f : List ℕ) (p i : ℕ) → old_stamp.Right t → Fits f p (old_stamp.slots t) → Iff (DeadAt (old_stamp.slots t) p i) ((get_or f p 0 ≡ 0) × (Among (suc p) 16 i))
unfolding old_stamp
stamp_dead t f p i r m =
    let n = fits_left f p (text_slots 17 t) (byte 0 ∷ []) m in
    dead_left (text_slots 17 t) (byte 0 ∷ []) p i
    (iff_join (dead_text 17 t f p i r.0.0.0 r.0.0.1 n) (stamp_cases t f p i r.0.0.0 r.0.0.1 r.0.1 n)) (live_bytes (0 ∷ []))

first_four : (a b c v : ℕ) (P : List Slot) (i : ℕ) → Iff (DeadAt (byte a ∷ byte b ∷ byte c ∷ spare v ∷ P) 0 i) ((i ≡ 3) ⊎ (DeadAt P 4 i))
first_four a b c v P i = record { to = to; from = from }
  where
    to : DeadAt (byte a ∷ byte b ∷ byte c ∷ spare v ∷ P) 0 i → (i ≡ 3) ⊎ (DeadAt P 4 i)
    to (inl d) = absurd (true≢false (sym d.0))
    to (inr (inl d)) = absurd (true≢false (sym d.0))
    to (inr (inr (inl d))) = absurd (true≢false (sym d.0))
    to (inr (inr (inr (inl d)))) = inl (sym d.1)
    to (inr (inr (inr (inr d)))) = inr d

    from : (i ≡ 3) ⊎ (DeadAt P 4 i) → DeadAt (byte a ∷ byte b ∷ byte c ∷ spare v ∷ P) 0 i
    from (inl d) = inr (inr (inr (inl (refl, sym d))))
    from (inr d) = inr (inr (inr (inr d)))

-- what is dead in an old header
abbrev OldDead : ℕ → ℕ → List ℕ → ℕ → Type 0
OldDead n l f i = (i ≡ 3) ⊎ ((AfterZero f (6 + n) (suc l) i) ⊎ ((get_or f (6 + n + suc l) 0 ≡ 0) × (Among (suc (6 + n + suc l)) 16 i)))

iff_right : {A B C : Type 0} → Iff B C → Iff (A ⊎ B) (A ⊎ C)
iff_right {A} {B} {C} h = record { to = to; from = from }
  where
    to : A ⊎ B → A ⊎ C
    to (inl a) = inl a
    to (inr b) = inr (h.to b)

    from : A ⊎ C → A ⊎ B
    from (inl a) = inl a
    from (inr c) = inr (h.from c)

old_dead : (d : ℕ) (o : Order) (n l : ℕ) (h : Head) (f : List ℕ) (i : ℕ) → (old_header d o n l).Right h → Fits f 0 ((old_header d o n l).slots h)
    → Iff (DeadAt ((old_header d o n l).slots h) 0 i) (OldDead n l f i)
unfolding old_header
old_dead d o n l h f i r m =
    let K = num_slots o 2 h.0 in
    let N = num_slots o n h.1.0 in
    let L = text_slots (suc l) h.1.1.0 in
    let S = old_stamp.slots h.1.1.1 in
    let a = r.1.1.1.1.1.1 in
    let y : length N ≡ n = length_tab n _ in
    let z : length L ≡ suc l = (text_good (suc l) 5 (omega arith)).sized h.1.1.0 in
    let g : Fits f (6 + n) (L ++ S) = fits_after f 6 n N (L ++ S) y (fits_after f 4 2 K (N ++ (L ++ S)) refl m.1.1.1.1) in
    iff_join (first_four d (order_mark o) 1 1 (K ++ (N ++ (L ++ S))) i)
    (iff_right
    (dead_right K (N ++ (L ++ S)) 4 2 i refl (live_number o 2 h.0)
    (dead_right N (L ++ S) 6 n i y (live_number o n h.1.0)
    (dead_both L S (6 + n) (suc l) i z
    (dead_text (suc l) h.1.1.0 f (6 + n) i (omega (arith, a.0.0)) a.0.1 (fits_left f (6 + n) L S g))
    (stamp_dead h.1.1.1 f (6 + n + suc l) i a.1 (fits_after f (6 + n) (suc l) L S z g))))))

counted_live : (o : Order) (w : ℕ) (t : ℕ → Bool) (l : List ℕ) → Live ((counted o w t).slots l)
unfolding counted
counted_live o w t l = live_append (live_number o w (length l)) (live_bytes l)

facts_live : (o : Order) (n w l : ℕ) (h : Head) → Live ((new_facts o n w l).slots h)
unfolding new_facts tag
facts_live o n w l h =
    live_append (live_between (opening true n_k) (closing true n_k) _ h.0 (live_number o 2 h.0))
    (live_append (live_between (opening true n_n) (closing true n_n) _ h.1.0 (live_number o n h.1.0))
    (live_append (live_between (opening true n_label) (closing true n_label) _ h.1.1.0 (counted_live o w (λ x. leb x l) h.1.1.0))
    (live_append (live_between (opening true n_timestamp) (closing true n_timestamp) _ h.1.1.1 (counted_live o 1 stamp_length h.1.1.1))
    (live_bytes (closing true n_header)))))

new_live : (d : ℕ) (o : Order) (n w l : ℕ) (h : Head) → Live ((new_header d o n w l).slots h)
unfolding new_header tag
new_live d o n w l h =
    live_append (live_bytes (tagged_start d))
    (live_append (live_between (opening true n_byteorder) (closing true n_byteorder) (tag (order_text o) 5) tt (live_bytes (order_text o))) (facts_live o n w l h))

-- what is dead in a header
abbrev HeadDead : Bool → Edition → List ℕ → ℕ → Type 0
HeadDead true e f i = ⊥
HeadDead false e f i = OldDead e.n_width e.label_max f i

head_dead : (t : Bool) (e : Edition) (o : Order) (h : Head) (f : List ℕ) (i : ℕ) → (header_by t e o).Right h → Fits f 0 ((header_by t e o).slots h)
    → Iff (DeadAt ((header_by t e o).slots h) 0 i) (HeadDead t e f i)
head_dead true e o h f i r m =
    record { to = λ d. (new_live e.number o e.n_width e.label_length e.label_max h).none 0 i d; from = λ d. absurd d }
head_dead false e o h f i r m = old_dead e.number o e.n_width e.label_max h f i r m

-- ---- the file

module _ (e : Edition) (o : Order) (w : Dataset × Extras) (f : List ℕ) (i : ℕ) where
  -- what is dead in a file whose parts stand at l
  abbrev AllDead : List ℕ → Type 0
  AllDead l =
      let inside : ℕ → List ℕ → ℕ = λ j n. get_or l j 0 + length (opening e.tagged n) in
      (HeadDead e.tagged e f i)
      ⊎ ((InFields f (inside 3 n_varnames) e.name_width w.0.k i)
      ⊎ ((InSortList o f (inside 4 n_sortlist) (suc w.0.k) i)
      ⊎ ((InFields f (inside 5 n_formats) e.format_width w.0.k i)
      ⊎ ((InFields f (inside 6 n_value_label_names) e.name_width w.0.k i)
      ⊎ ((InFields f (inside 7 n_variable_labels) e.var_label_width w.0.k i)
      ⊎ ((SomeAt (expansion e.tagged o) (InExpansion e.tagged i) (inside 8 n_characteristics) w.1)
      ⊎ ((InCells e.v_width e.o_width f w.0.var_types (inside 9 n_data) w.0.n i)
      ⊎ (SomeAt (block e.tagged o e.name_width) (InBlock e f i) (inside 11 n_value_labels) w.0.label_blocks))))))))

  file_dead : e.number < 256 → (file e o).Right w → Fits f 0 ((file e o).slots w) → Iff (DeadAt ((file e o).slots w) 0 i) (AllDead (positions e o w))
  unfolding file_to sections from_map from_types from_names from_sort_list from_formats from_set_names from_var_labels from_expansions from_data from_strls part_sizes
  file_dead z right m =
      let t = e.tagged in
      let d = w.0 in
      let k = d.k in
      let r = sections_of e o d w.1 right in
      let s = sections_fit e o d w.1 f z m in
      dead_both ((header e o).slots (head_of d)) _ 0 _ i ((header_good e o z).sized (head_of d)) (head_dead t e o (head_of d) f i r.head s.head)
      (dead_right ((file_map t o).slots (map_of e o w)) _ _ _ i (map_length e o w) (map_live t o (map_of e o w))
      (dead_right ((types t o k).slots d.var_types) _ _ _ i ((types_good t o k).sized d.var_types) (types_live t o k d.var_types)
      (dead_both ((names t e.name_width k).slots d.var_names) _ _ _ i ((names_good t e.name_width k).sized d.var_names) (names_dead t e.name_width k d.var_names f _ i r.name_list s.name_list)
      (dead_both ((sort_list t o k).slots d.sorted) _ _ _ i ((sort_good t o k).sized d.sorted) (sort_dead t o k d.sorted f _ i r.sort s.sort)
      (dead_both ((formats t e.format_width k).slots d.display_formats) _ _ _ i ((fields_good t n_formats e.format_width k refl).sized d.display_formats) (fields_dead t n_formats e.format_width k d.display_formats f _ i r.format_list s.format_list)
      (dead_both ((set_names t e.name_width k).slots d.label_sets) _ _ _ i ((fields_good t n_value_label_names e.name_width k refl).sized d.label_sets) (fields_dead t n_value_label_names e.name_width k d.label_sets f _ i r.set_list s.set_list)
      (dead_both ((var_labels t e.var_label_width k).slots d.variable_labels) _ _ _ i ((fields_good t n_variable_labels e.var_label_width k refl).sized d.variable_labels) (fields_dead t n_variable_labels e.var_label_width k d.variable_labels f _ i r.label_list s.label_list)
      (dead_both ((expansions t o).slots w.1) _ _ _ i ((expansions_good t o).sized w.1) (expansions_dead t o w.1 f _ i r.extras s.extras)
      (dead_both ((observations t o e.v_width e.o_width d.var_types d.n).slots d.cells) _ _ _ i ((data_good o e.v_width e.o_width t d.var_types d.n).sized d.cells) (data_dead o e.v_width e.o_width t d.var_types d.n d.cells f _ i r.rows s.rows)
      (dead_right ((strls t o e.record_width d.cells).slots d.long_strings) _ _ _ i ((strls_good t o e.record_width d.cells).sized d.long_strings) (strls_live t o e.record_width d.cells d.long_strings)
      (blocks_dead e o d.label_blocks f _ i r.block_list s.block_list)))))))))))

-- ---- document 01's list

module _ (f : List ℕ) (i : ℕ) where
  head_to : (t : Bool) → (edition_of f).tagged ≡ t → HeadDead t (edition_of f) f i → DeadPlace f i
  head_to true q d = absurd d
  head_to false q (inl d) = unused q d
  head_to false q (inr (inl d)) = old_label q d
  head_to false q (inr (inr d)) = Dead.old_stamp q d.0 d.1

  -- the parts of an old header are dead only in an untagged edition
  head_from : (t : Bool) → (edition_of f).tagged ≡ t → (edition_of f).tagged ≡ false → OldDead (edition_of f).n_width (edition_of f).label_max f i → HeadDead t (edition_of f) f i
  head_from true q n d = absurd (true≢false (sym q ∙ n))
  head_from false q n d = d

  listed : Iff (AllDead (edition_of f) (order_of f) (contents f) f i (layout_of f).places) (DeadPlace f i)
  listed = record { to = to; from = from }
    where
      to : AllDead (edition_of f) (order_of f) (contents f) f i (layout_of f).places → DeadPlace f i
      to (inl d) = head_to (edition_of f).tagged refl d
      to (inr (inl d)) = var_name d
      to (inr (inr (inl d))) = sort_entry d
      to (inr (inr (inr (inl d)))) = display_format d
      to (inr (inr (inr (inr (inl d))))) = label_set d
      to (inr (inr (inr (inr (inr (inl d)))))) = variable_label d
      to (inr (inr (inr (inr (inr (inr (inl d))))))) = expansion_contents d
      to (inr (inr (inr (inr (inr (inr (inr (inl d)))))))) = text_cell d
      to (inr (inr (inr (inr (inr (inr (inr (inr d)))))))) = label_block d

      from : DeadPlace f i → AllDead (edition_of f) (order_of f) (contents f) f i (layout_of f).places
      from (unused q d) = inl (head_from (edition_of f).tagged refl q (inl d))
      from (old_label q d) = inl (head_from (edition_of f).tagged refl q (inr (inl d)))
      from (Dead.old_stamp q c d) = inl (head_from (edition_of f).tagged refl q (inr (inr (c, d))))
      from (var_name d) = inr (inl d)
      from (sort_entry d) = inr (inr (inl d))
      from (display_format d) = inr (inr (inr (inl d)))
      from (label_set d) = inr (inr (inr (inr (inl d))))
      from (variable_label d) = inr (inr (inr (inr (inr (inl d)))))
      from (expansion_contents d) = inr (inr (inr (inr (inr (inr (inl d))))))
      from (text_cell d) = inr (inr (inr (inr (inr (inr (inr (inl d)))))))
      from (label_block d) = inr (inr (inr (inr (inr (inr (inr (inr d)))))))

  -- the grammar's dead places are document 01's
  pub marked_dead : Bytes f → verdict f ≡ 0 → Iff (dead_in f i ≡ true) (DeadPlace f i)
  unfolding dead_in
  marked_dead u h =
      let P = (file (edition_of f) (order_of f)).slots (contents f) in
      let s = sound f u h in
      let x : Iff (DeadAt P 0 i) (dead P i ≡ true) = rw zero-add at (dead_index P 0 i) in
      let l = ap (λ (y : Layout). y.places) (layout_is (release_of f) (order_of f) f (contents f) (itself f h)) in
      let d = file_dead (edition_of f) (order_of f) (contents f) f i (number_small (release_of f)) s.right s.fits in
      iff_join (record { to = x.from; from = x.to })
      (iff_join (subst (λ (y : List ℕ). Iff (DeadAt P 0 i) (AllDead (edition_of f) (order_of f) (contents f) f i y)) (sym l) d) listed)
