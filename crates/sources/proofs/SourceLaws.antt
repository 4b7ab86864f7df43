-- What stands where in an accepted file, for a writer: each part of its dataset is what is read there.
use mathlib.Core.Path.{◌≡◌, refl, sym, ap, subst}
use Prim.Native.Nat.{ℕ, suc, ◌+◌, ◌*◌, ◌≤◌}
use native.Mathlib.Omega.{arith}
use mathlib.Core.List.{List, []}
use mathlib.Core.Bool.{Bool, true, false}
use lib.ListN.{length, get_or}
use lib.Dec.{eqb}
use borrow.Author.Tests.{leb-true, eqb-true}
use Rattle.format.specs.Slot.{Fits, Bytes}
use Rattle.format.specs.Number.{Order}
use Rattle.format.specs.Grammar.{Sect, need, text, within, times, read_times, all_slots, sizes, ended_at, ended, ruled, row, row_width, tag, between}
use Rattle.format.specs.Edition.{Edition, code_width, opening, closing, n_variable_types, n_varnames, n_sortlist, n_formats, n_value_label_names, n_variable_labels, n_data, n_strls, n_value_labels}
use Rattle.format.specs.Header.{Head, stamp_length, old_stamp, old_header, counted, new_header, new_facts, header_by}
use Rattle.format.specs.Variables.{type_code, types, name, names, sort_list, fields, fresh}
use Rattle.format.specs.Data.{cell, cell_width, observations, long_record, strls}
use Rattle.format.specs.Labels.{block}
use Rattle.format.specs.Dta.{Dataset, head_of, verdict, edition_of, order_of, release_of, contents, dataset_of, layout_of, part_sizes}
use Rattle.format.specs.Dead.{content_at}
use Rattle.format.proofs.Good.{Good, and_left, between_fits, good_bound, text_good, within_good, ruled_good, also_left, also_right, need_room}
use Rattle.format.proofs.EndedLaws.{ended_good}
use Rattle.format.proofs.RowLaws.{rows_good}
use Rattle.format.proofs.VariableLaws.{list_good, code_good, name_good}
use Rattle.format.proofs.DataLaws.{cell_good, cell_wide}
use Rattle.questions.proofs.LongLaws.{longs_right, longs_fit}
use Rattle.questions.proofs.WordLaws.{blocks_right, blocks_fit}
use Rattle.format.proofs.FileLaws.{number_small, sound}
use Rattle.format.proofs.PartLaws.{place, place_is, SectionsRight, sections_of, SectionsFit, sections_fit}
use Rattle.data.specs.Places.{Typed}
use Rattle.writing.specs.Writes.{Stand}

-- S, of n bytes, is right at p of f and says a
pub record Inner {A : Type 0} (n : ℕ) (S : Sect A) (f : List ℕ) (p : ℕ) (a : A) : Type 0 where
  pub reads : S.read f p ≡ a
  pub judged : S.judge f p ≡ 0
  pub inside : p + n ≤ length f

-- what stands between two tags
inner : {A : Type 0} (l r : List ℕ) (n : ℕ) (S : Sect A) (a : A) (f : List ℕ) (p : ℕ) → Good 0 ◌≤◌ (within n S) → (between l r (within n S)).Right a
    → Fits f p ((between l r (within n S)).slots a) → Inner n S f (p + length l) a
unfolding between tag
inner l r n S a f p G R m =
    let k = between_fits l r (within n S) a f p m in
    let c = G.complete f (p + length l) a R.1.0 k (good_bound (within n S) G f (p + length l) a k) in
    let j = c.accepted in
    record {
      reads = c.read_back;
      judged = also_right (need n f (p + length l)) (S.judge f (p + length l)) j;
      inside = need_room n f (p + length l) (also_left (need n f (p + length l)) (S.judge f (p + length l)) j);
    }

-- of a header: K and N are small
head_small : (t : Bool) (e : Edition) (o : Order) (h : Head) → (header_by t e o).Right h → (h.0 ≤ 32767) × (h.1.0 ≤ 2147483647)
unfolding old_header new_header new_facts between tag
head_small true e o h r = (leb-true h.0 32767 r.1.1.0.1.0.1, leb-true h.1.0 2147483647 (and_left _ _ r.1.1.1.0.1.0.1))
head_small false e o h r = (leb-true h.0 32767 r.1.1.1.1.0.1, leb-true h.1.0 2147483647 (and_left _ _ r.1.1.1.1.1.0.1))

-- .. and label and stamp are short
stamp_17 : (n : ℕ) → stamp_length n ≡ true → n ≤ 17
stamp_17 n h = go (eqb n 0) refl
  where
    go : (b : Bool) → eqb n 0 ≡ b → n ≤ 17
    go true q = omega (arith, eqb-true n 0 q)
    go false q = omega (arith, eqb-true n 17 (rw q at h))

texts_small : (t : Bool) (e : Edition) (o : Order) (h : Head) → (header_by t e o).Right h → (length h.1.1.0 ≤ e.label_max) × (length h.1.1.1 ≤ 17)
unfolding old_header new_header new_facts old_stamp counted between tag
texts_small true e o h r =
    (leb-true (length h.1.1.0) e.label_max r.1.1.1.1.0.1.0.0.1, stamp_17 (length h.1.1.1) r.1.1.1.1.1.0.1.0.0.1)
texts_small false e o h r = (omega (arith, r.1.1.1.1.1.1.0.0), omega (arith, r.1.1.1.1.1.1.1.0.0.0))

module _ (f : List ℕ) (u : Bytes f) (h : verdict f ≡ 0) where
  abbrev e : Edition
  e = edition_of f

  abbrev o : Order
  o = order_of f

  abbrev d : Dataset
  d = dataset_of f

  pub right : SectionsRight e o d (contents f).1
  right = sections_of e o d (contents f).1 (sound f u h).right

  pub fit : SectionsFit e o d (contents f).1 f
  fit = sections_fit e o d (contents f).1 f (number_small (release_of f)) (sound f u h).fits

  -- a content's place, by the dataset
  content : (j : ℕ) (n : List ℕ) → content_at f j n ≡ place e o (contents f) j + length (opening e.tagged n)
  content j n = ap (λ (x : ℕ). x + length (opening e.tagged n)) (place_is f h j)

  pub k_small : d.k ≤ 32767
  k_small = (head_small e.tagged e o (head_of d) right.head).0

  pub n_small : d.n ≤ 2147483647
  n_small = (head_small e.tagged e o (head_of d) right.head).1

  pub label_small : length d.label ≤ e.label_max
  label_small = (texts_small e.tagged e o (head_of d) right.head).0

  pub stamp_small : length d.stamp ≤ 17
  stamp_small = (texts_small e.tagged e o (head_of d) right.head).1

  abbrev At : {A : Type 0} → ℕ → List ℕ → ℕ → Sect A → A → Type 0
  At j n w S a = Inner w S f (content_at f j n) a

  -- a part between tags
  part : {A : Type 0} (j : ℕ) (n : List ℕ) (w : ℕ) (S : Sect A) (a : A) → Good 0 ◌≤◌ (within w S) → (between (opening e.tagged n) (closing e.tagged n) (within w S)).Right a
      → Fits f (place e o (contents f) j) ((between (opening e.tagged n) (closing e.tagged n) (within w S)).slots a) → At j n w S a
  part j n w S a G r m =
      subst (λ (x : ℕ). Inner w S f x a) (sym (content j n)) (inner (opening e.tagged n) (closing e.tagged n) w S a f (place e o (contents f) j) G r m)

  -- types
  types_at : At 2 n_variable_types (d.k * code_width e.tagged) (times (type_code e.tagged o) d.k) d.var_types
  unfolding types type_code
  types_at = part 2 n_variable_types _ _ d.var_types (list_good (type_code e.tagged o) (λ a r. refl) (code_good e.tagged o) d.k) right.type_list fit.type_list

  -- names
  names_at : At 3 n_varnames (d.k * e.name_width) (times (name e.name_width) d.k) d.var_names
  unfolding names name
  names_at = part 3 n_varnames _ _ d.var_names (list_good (name e.name_width) (λ a r. refl) (name_good e.name_width) d.k) right.name_list fit.name_list

  -- display formats, label-set names, variable labels
  field_at : (j w : ℕ) (n : List ℕ) (l : List (List ℕ)) → (fields e.tagged n w d.k).Right l → Fits f (place e o (contents f) j) ((fields e.tagged n w d.k).slots l)
      → At j n (d.k * w) (times (text w 7) d.k) l
  unfolding fields
  field_at j w n l r m = part j n _ _ l (list_good (text w 7) (λ a r. refl) (text_good w 7 (omega arith)) d.k) r m

  -- sort list
  sort_at : At 4 n_sortlist (suc d.k * 2) (ruled (ended o 2 (suc d.k) 8) (fresh d.k []) 8) d.sorted
  unfolding sort_list
  sort_at =
      part 4 n_sortlist _ _ d.sorted (within_good _ (ruled_good _ (ended_good o 2 (suc d.k) 8 (omega arith)) (fresh d.k []) 8 (omega arith)) (λ l r. refl)) right.sort fit.sort

  -- rows
  rows_at : At 9 n_data (d.n * row_width (cell_width e.v_width e.o_width) d.var_types) (times (row (cell o e.v_width e.o_width) d.var_types) d.n) d.cells
  unfolding observations
  rows_at =
      part 9 n_data _ _ d.cells (rows_good (cell o e.v_width e.o_width) (cell_width e.v_width e.o_width) (cell_wide o e.v_width e.o_width) (cell_good o e.v_width e.o_width) d.var_types d.n) right.rows fit.rows

  -- ---- what a writer needs of each

  pub types_read : read_times (type_code e.tagged o) d.k f (content_at f 2 n_variable_types) ≡ d.var_types
  types_read = types_at.reads

  pub types_typed : Typed e.tagged o f (content_at f 2 n_variable_types) d.k
  types_typed = record { few = k_small; inside = types_at.inside; right = types_at.judged }

  pub record Texts (p k w : ℕ) (l : List (List ℕ)) : Type 0 where
    pub reads : read_times (text w 7) k f p ≡ l
    pub inside : p + k * w ≤ length f

  texts : (j w : ℕ) (n : List ℕ) (l : List (List ℕ)) → (fields e.tagged n w d.k).Right l → Fits f (place e o (contents f) j) ((fields e.tagged n w d.k).slots l)
      → Texts (content_at f j n) d.k w l
  texts j w n l r m = record { reads = (field_at j w n l r m).reads; inside = (field_at j w n l r m).inside }

  pub names_read : Texts (content_at f 3 n_varnames) d.k e.name_width d.var_names
  unfolding name
  names_read = record { reads = names_at.reads; inside = names_at.inside }

  pub formats_read : Texts (content_at f 5 n_formats) d.k e.format_width d.display_formats
  formats_read = texts 5 e.format_width n_formats d.display_formats right.format_list fit.format_list

  pub sets_read : Texts (content_at f 6 n_value_label_names) d.k e.name_width d.label_sets
  sets_read = texts 6 e.name_width n_value_label_names d.label_sets right.set_list fit.set_list

  pub labels_read : Texts (content_at f 7 n_variable_labels) d.k e.var_label_width d.variable_labels
  labels_read = texts 7 e.var_label_width n_variable_labels d.variable_labels right.label_list fit.label_list

  pub sort_read : ended_at o 2 (suc d.k) f (content_at f 4 n_sortlist) ≡ d.sorted
  sort_read = sort_at.reads

  pub sort_inside : content_at f 4 n_sortlist + suc d.k * 2 ≤ length f
  sort_inside = sort_at.inside

  pub rows_read : read_times (row (cell o e.v_width e.o_width) d.var_types) d.n f (content_at f 9 n_data) ≡ d.cells
  rows_read = rows_at.reads

  pub rows_inside : content_at f 9 n_data + d.n * row_width (cell_width e.v_width e.o_width) d.var_types ≤ length f
  rows_inside = rows_at.inside

  pub place_11 : place e o (contents f) 11 ≡ place e o (contents f) 10 + (strls e.tagged o e.record_width d.cells).size d.long_strings
  unfolding part_sizes
  place_11 = refl

  pub place_12 : place e o (contents f) 12
      ≡ place e o (contents f) 11 + (length (opening e.tagged n_value_labels) + (sizes (block e.tagged o e.name_width) d.label_blocks + length (closing e.tagged n_value_labels)))
  unfolding part_sizes
  place_12 = refl

  pub longs_size : (strls e.tagged o e.record_width d.cells).size d.long_strings
      ≡ length (opening e.tagged n_strls) + (sizes (long_record e.tagged o e.record_width) d.long_strings + length (closing e.tagged n_strls))
  unfolding strls tag
  longs_size = omega arith

  -- long strings
  pub longs_stand : (q : ℕ) → q + length (closing e.tagged n_strls) ≡ get_or (layout_of f).places 11 0
      → Stand (long_record e.tagged o e.record_width) f (content_at f 10 n_strls) q d.long_strings
  longs_stand q x =
      record {
        right = longs_right e o d.cells d.long_strings right.longs;
        fits =
            subst (λ (y : ℕ). Fits f y (all_slots (long_record e.tagged o e.record_width) d.long_strings)) (sym (content 10 n_strls))
            (longs_fit e o d.cells f (place e o (contents f) 10) d.long_strings fit.longs);
        ends = omega (arith, x, place_is f h 11, place_is f h 10, place_11, longs_size);
      }

  -- label blocks
  pub blocks_stand : (q : ℕ) → q + length (closing e.tagged n_value_labels) ≡ get_or (layout_of f).places 12 0
      → Stand (block e.tagged o e.name_width) f (content_at f 11 n_value_labels) q d.label_blocks
  blocks_stand q x =
      record {
        right = blocks_right e o d.label_blocks right.block_list;
        fits =
            subst (λ (y : ℕ). Fits f y (all_slots (block e.tagged o e.name_width) d.label_blocks)) (sym (content 11 n_value_labels))
            (blocks_fit e o f (place e o (contents f) 11) d.label_blocks fit.block_list);
        ends = omega (arith, x, place_is f h 12, place_is f h 11, place_12);
      }
