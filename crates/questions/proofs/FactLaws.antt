-- A file that fits what a dataset's grammar makes of it, asked by that dataset's layout, answers what the dataset does.
use mathlib.Core.Path.{◌≡◌, refl, sym, ap, ◌∙◌, subst}
use Prim.Native.Nat.{ℕ, suc, ◌+◌, ◌-◌, ◌<◌}
use mathlib.Core.List.{List, []}
use mathlib.Core.Bool.{Bool, true, false, cond, ◌&&◌}
use lib.ListN.{length}
use lib.Dec.{eqb}
use Rattle.format.specs.Number.{Order}
use Rattle.format.specs.Grammar.{sizes}
use Rattle.format.specs.Edition.{Edition, Release, edition, opening, closing, n_varnames, n_value_label_names, n_formats, n_variable_labels, n_data, n_strls, n_value_labels}
use Rattle.format.specs.Variables.{nonempty}
use Rattle.format.specs.Data.{strls}
use Rattle.format.specs.Labels.{block}
use Rattle.format.specs.Cells.{Says, whole, single, double, letter, between, outside, words, reference, Key, nothing, seeks, key_of}
use Rattle.format.specs.Dta.{Dataset, Extras, Layout, layout_by, part_sizes}
use Rattle.format.proofs.Good.{and_left, and_right}
use Rattle.format.proofs.PartLaws.{place, SectionsRight, SectionsFit}
use Rattle.questions.specs.Readings.{Try, got}
use Rattle.questions.specs.Ask.{Question, ask_edition, ask_order, ask_k, ask_n, ask_label, ask_stamp, ask_type, ask_name, ask_format, ask_set, ask_var_label, ask_date, ask_sort, ask_column, ask_table, ask_cell, ask_long, ask_words, Answer, refused, long, shown, among, in_range, start_of, end_of, cell_place, cell_in, records_in, long_by, blocks_in, set_in, sought_in, set_words, or_refused, answer_in, answer_of}
use Rattle.questions.specs.Fact.{type_asked, cell_asked, set_asked, cell_fact, records_fact, long_fact, TableFact, blocks_fact, label_fact, sought_fact, table_asked, fact_in, fact_of, words_bytes, bytes_in, bytes_of}
use Rattle.questions.proofs.ReadLaws.{answer_in_lem}
use Rattle.questions.proofs.FieldLaws.{TextField, part_is, name_field, text_field_lem, own_types, own_type, types_count, own_sort}
use Rattle.questions.proofs.HeadLaws.{HeadFacts, head_facts}
use Rattle.questions.proofs.CellLaws.{CellFits, cell_at_lem, own_cell}
use Rattle.questions.proofs.LongLaws.{longs_fit, longs_right, own_records}
use Rattle.questions.proofs.WordLaws.{FoundAt, found_if, words_at, blocks_fit, blocks_right, own_blocks}
use Rattle.questions.proofs.ShownLaws.{if, cell_shown, long_shown, blocks_shown, key_same}
use Rattle.questions.proofs.SomeLaws.{Some, words_some, long_some}

-- where the long strings end, and the label blocks
longs_end : (e : Edition) (o : Order) (d : Dataset) (x : Extras) → place e o (d, x) 11 ≡ place e o (d, x) 10 + (strls e.tagged o e.record_width d.cells).size d.long_strings
unfolding part_sizes
longs_end e o d x = refl

blocks_end : (e : Edition) (o : Order) (d : Dataset) (x : Extras)
    → place e o (d, x) 12
    ≡ place e o (d, x) 11 + (length (opening e.tagged n_value_labels) + (sizes (block e.tagged o e.name_width) d.label_blocks + length (closing e.tagged n_value_labels)))
unfolding part_sizes
blocks_end e o d x = refl

module _ (e : Edition) (o : Order) (f : List ℕ) (d : Dataset) (x : Extras) (small : e.number < 1000) (R : SectionsRight e o d x) (P : SectionsFit e o d x f) where
  abbrev own : Layout
  own = layout_by e o (d, x)

  -- ---- a variable's texts

  name_of : (i : ℕ) → among i d.k ≡ true → TextField e.name_width f (start_of e.tagged own 3 n_varnames) d.var_names i
  name_of i h = name_field e.tagged e.name_width d.k f (place e o (d, x) 3) d.var_names i R.name_list P.name_list h

  format_of : (i : ℕ) → among i d.k ≡ true → TextField e.format_width f (start_of e.tagged own 5 n_formats) d.display_formats i
  format_of i h = text_field_lem e.tagged n_formats e.format_width d.k f (place e o (d, x) 5) d.display_formats i R.format_list P.format_list h

  set_of : (i : ℕ) → among i d.k ≡ true → TextField e.name_width f (start_of e.tagged own 6 n_value_label_names) d.label_sets i
  set_of i h = text_field_lem e.tagged n_value_label_names e.name_width d.k f (place e o (d, x) 6) d.label_sets i R.set_list P.set_list h

  label_of : (i : ℕ) → among i d.k ≡ true → TextField e.var_label_width f (start_of e.tagged own 7 n_variable_labels) d.variable_labels i
  label_of i h = text_field_lem e.tagged n_variable_labels e.var_label_width d.k f (place e o (d, x) 7) d.variable_labels i R.label_list P.label_list h

  head : HeadFacts e.tagged e o f d
  head = head_facts e o f d small R.head P.head

  -- ---- cells

  -- the variable's and the observation's number of a question about a cell are good
  var : (i j : ℕ) → (among i d.k && among j d.n) ≡ true → among i d.k ≡ true
  var i j h = and_left (among i d.k) (among j d.n) h

  row : (i j : ℕ) → (among i d.k && among j d.n) ≡ true → among j d.n ≡ true
  row i j h = and_right (among i d.k) (among j d.n) h

  cell_fits : (i j : ℕ) → (among i d.k && among j d.n) ≡ true
      → CellFits e o f (type_asked d i) (cell_place e d.var_types (start_of e.tagged own 9 n_data) i j) (cell_asked d i j)
  cell_fits i j h =
      own_cell e o d.var_types d.k d.n f (place e o (d, x) 9) d.cells i j R.rows P.rows (types_count e.tagged o d.k d.var_types R.type_list) (var i j h) (row i j h)

  cell_is : (i j : ℕ) → (among i d.k && among j d.n) ≡ true → cell_in e o f own i j ≡ got (cell_fact e o (d, x) i j)
  cell_is i j h =
      let c = cell_fits i j h in
      rw (own_types e.tagged o d.k f (place e o (d, x) 2) d.var_types R.type_list P.type_list)
      (cell_at_lem e o f (type_asked d i) (cell_place e d.var_types (start_of e.tagged own 9 n_data) i j) (cell_asked d i j) c.right c.fits)

  -- ---- long strings

  records_is : (v y : ℕ) → records_in e.record_width o f v y (end_of e.tagged own 10 n_strls) (suc (length f)) (start_of e.tagged own 10 n_strls)
      ≡ records_fact e v y d.long_strings (start_of e.tagged own 10 n_strls)
  records_is v y =
      subst (λ (z : ℕ). records_in e.record_width o f v y (z - length (closing e.tagged n_strls)) (suc (length f)) (start_of e.tagged own 10 n_strls)
      ≡ records_fact e v y d.long_strings (start_of e.tagged own 10 n_strls))
      (sym (longs_end e o d x)) (own_records e o d.cells f (place e o (d, x) 10) d.long_strings v y R.longs P.longs)

  long_is : (c : Says) → long_by e o f own c ≡ long_fact e (start_of e.tagged own 10 n_strls) d.long_strings c
  long_is (whole z) = refl
  long_is (single y) = refl
  long_is (double y) = refl
  long_is (letter k) = refl
  long_is between = refl
  long_is outside = refl
  long_is (words p n) = refl
  long_is (reference v y) = ap (λ (u : Try Answer). cond (eqb v 0 && eqb y 0) (got (long 0 0 0)) u) (records_is v y)

  -- ---- label words

  blocks_is : (s : List ℕ)
      → FoundAt e o f (blocks_in e.tagged e.name_width o f s (end_of e.tagged own 11 n_value_labels) (suc (length f)) (start_of e.tagged own 11 n_value_labels))
      (blocks_fact e s d.label_blocks (start_of e.tagged own 11 n_value_labels))
  blocks_is s =
      subst (λ (z : ℕ). FoundAt e o f (blocks_in e.tagged e.name_width o f s (z - length (closing e.tagged n_value_labels)) (suc (length f)) (start_of e.tagged own 11 n_value_labels))
      (blocks_fact e s d.label_blocks (start_of e.tagged own 11 n_value_labels)))
      (sym (blocks_end e o d x)) (own_blocks e o f (place e o (d, x) 11) d.label_blocks s R.block_list P.block_list)

  set_is : (i : ℕ) → among i d.k ≡ true → FoundAt e o f (set_in e o f own i) (table_asked e o (d, x) i)
  set_is i h = found_if e o f (nonempty (set_asked d i)) _ _ _ (rw (set_of i h).reads) (blocks_is (set_asked d i))

  words_is : (i : ℕ) (lent : List ℕ) (k : Key) → among i d.k ≡ true → sought_in k lent (set_words e o f own i lent) ≡ sought_fact lent k (table_asked e o (d, x) i)
  words_is i lent nothing h = refl
  words_is i lent (seeks q) h = let s = set_is i h in rw s.is (words_at e o f (table_asked e o (d, x) i) s.there lent q)

  -- ---- every question

  pub fact_is : (q : Question) → in_range own q ≡ true → answer_in e o f own q ≡ fact_in e o (d, x) q
  fact_is ask_edition h = refl
  fact_is ask_order h = refl
  fact_is ask_k h = refl
  fact_is ask_n h = refl
  fact_is ask_label h = head.is_label.answer
  fact_is ask_stamp h = head.is_stamp.answer
  fact_is (ask_type i) h = rw (own_type e.tagged o d.k f (place e o (d, x) 2) d.var_types i R.type_list P.type_list h)
  fact_is (ask_name i) h = part_is e.name_width f _ _ (name_of i h).reads
  fact_is (ask_format i) h = part_is e.format_width f _ _ (format_of i h).reads
  fact_is (ask_set i) h = part_is e.name_width f _ _ (set_of i h).reads
  fact_is (ask_var_label i) h = part_is e.var_label_width f _ _ (label_of i h).reads
  fact_is (ask_date i) h = rw (format_of i h).reads
  fact_is (ask_sort i) h = rw (own_sort e.tagged o d.k f (place e o (d, x) 4) d.sorted i R.sort P.sort)
  fact_is (ask_column i) h = rw (own_types e.tagged o d.k f (place e o (d, x) 2) d.var_types R.type_list P.type_list)
  fact_is (ask_table i) h = rw (set_is i h).is
  fact_is (ask_cell i j) h = rw (cell_is i j h)
  fact_is (ask_long i j) h = rw (cell_is i j h) (long_is (cell_fact e o (d, x) i j))
  fact_is (ask_words i j t) h = rw (cell_is i j h) (words_is i t (key_of (cell_fact e o (d, x) i j)) (var i j h))

  -- the bytes that a fact names are the dataset's

  words_shown : (i : ℕ) (lent : List ℕ) (k : Key) → shown f (or_refused (sought_fact lent k (table_asked e o (d, x) i))) ≡ words_bytes lent k (set_asked d i) d.label_blocks
  words_shown i lent nothing = refl
  words_shown i lent (seeks q) =
      if (λ (t : TableFact). shown f (or_refused (label_fact lent q t))) (nonempty (set_asked d i)) _ _ _ _
      (blocks_shown e o f lent q (set_asked d i) d.label_blocks (start_of e.tagged own 11 n_value_labels) (blocks_right e o d.label_blocks R.block_list)
      (blocks_fit e o f (place e o (d, x) 11) d.label_blocks P.block_list)) refl

  pub shown_is : (q : Question) → in_range own q ≡ true → shown f (or_refused (fact_in e o (d, x) q)) ≡ bytes_in d q
  shown_is ask_edition h = refl
  shown_is ask_order h = refl
  shown_is ask_k h = refl
  shown_is ask_n h = refl
  shown_is ask_label h = head.is_label.bytes
  shown_is ask_stamp h = head.is_stamp.bytes
  shown_is (ask_type i) h = refl
  shown_is (ask_name i) h = (name_of i h).bytes
  shown_is (ask_format i) h = (format_of i h).bytes
  shown_is (ask_set i) h = (set_of i h).bytes
  shown_is (ask_var_label i) h = (label_of i h).bytes
  shown_is (ask_date i) h = refl
  shown_is (ask_sort i) h = refl
  shown_is (ask_column i) h = refl
  shown_is (ask_table i) h = refl
  shown_is (ask_cell i j) h = cell_shown e o f (type_asked d i) _ (cell_asked d i j) (cell_fits i j h)
  shown_is (ask_long i j) h =
      long_shown e o f (start_of e.tagged own 10 n_strls) d.long_strings (type_asked d i) _ (cell_asked d i j) (longs_right e o d.cells d.long_strings R.longs)
      (longs_fit e o d.cells f (place e o (d, x) 10) d.long_strings P.longs)
  shown_is (ask_words i j lent) h =
      words_shown i lent (key_of (cell_fact e o (d, x) i j))
      ∙ ap (λ (k : Key). words_bytes lent k (set_asked d i) d.label_blocks)
      (key_same (type_asked d i) (cell_place e d.var_types (start_of e.tagged own 9 n_data) i j) 0 (cell_asked d i j))

  -- each question has its fact

  pub some_fact : (q : Question) → in_range own q ≡ true → Some (fact_in e o (d, x) q)
  some_fact ask_edition h = tt
  some_fact ask_order h = tt
  some_fact ask_k h = tt
  some_fact ask_n h = tt
  some_fact ask_label h = tt
  some_fact ask_stamp h = tt
  some_fact (ask_type i) h = tt
  some_fact (ask_name i) h = tt
  some_fact (ask_format i) h = tt
  some_fact (ask_set i) h = tt
  some_fact (ask_var_label i) h = tt
  some_fact (ask_date i) h = tt
  some_fact (ask_sort i) h = tt
  some_fact (ask_column i) h = tt
  some_fact (ask_table i) h = tt
  some_fact (ask_cell i j) h = tt
  some_fact (ask_long i j) h = long_some e o d.cells d.long_strings (type_asked d i) _ _ (i - 1) (j - 1) R.longs (cell_fits i j h).right
  some_fact (ask_words i j lent) h = words_some lent (key_of (cell_fact e o (d, x) i j)) (table_asked e o (d, x) i)

-- ---- with 16

module _ (r : Release) (o : Order) (f : List ℕ) (d : Dataset) (x : Extras) (small : (edition r).number < 1000) (R : SectionsRight (edition r) o d x) (P : SectionsFit (edition r) o d x f) where
  pub own_is : (q : Question) → answer_of f (layout_by (edition r) o (d, x)) q ≡ fact_of (edition r) o (d, x) q
  unfolding fact_of
  own_is q = answer_in_lem r o f l q refl refl ∙ go (in_range l q) refl
    where
      l : Layout
      l = layout_by (edition r) o (d, x)

      go : (t : Bool) → in_range (layout_by (edition r) o (d, x)) q ≡ t
          → cond (in_range (layout_by (edition r) o (d, x)) q) (or_refused (answer_in (edition r) o f (layout_by (edition r) o (d, x)) q)) (refused 16)
          ≡ cond (in_range (layout_by (edition r) o (d, x)) q) (or_refused (fact_in (edition r) o (d, x) q)) (refused 16)
      go true h = rw (h, fact_is (edition r) o f d x small R P q h)
      go false h = rw h

  pub bytes_are : (q : Question) → shown f (answer_of f (layout_by (edition r) o (d, x)) q) ≡ bytes_of (edition r) o (d, x) q
  unfolding fact_of bytes_of
  bytes_are q = ap (shown f) (own_is q) ∙ go (in_range (layout_by (edition r) o (d, x)) q) refl
    where
      go : (t : Bool) → in_range (layout_by (edition r) o (d, x)) q ≡ t
          → shown f (cond (in_range (layout_by (edition r) o (d, x)) q) (or_refused (fact_in (edition r) o (d, x) q)) (refused 16))
          ≡ cond (in_range (layout_by (edition r) o (d, x)) q) (bytes_in d q) []
      go true h = rw h (shown_is (edition r) o f d x small R P q h)
      go false h = rw h
