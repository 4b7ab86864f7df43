-- What a dataset answers, in an edition and a byte order: places by its layout, all else by the dataset alone.
use Rattle.std.specs.Prelude.{ℕ, suc, ◌+◌, ◌-◌, ◌*◌, List, [], ◌∷◌, Bool, true, false, cond, ◌&&◌, length, get_or, eqb, ℤ}
use Rattle.format.specs.Number.{Order}
use Rattle.format.specs.Grammar.{text_at}
use Rattle.format.specs.Edition.{Edition, opening, closing, n_varnames, n_formats, n_value_label_names, n_variable_labels, n_data, n_strls, n_value_labels, n_lbl}
use Rattle.format.specs.Variables.{VarType, text_type, strl_type, byte_type, int_type, long_type, float_type, double_type, nonempty}
use Rattle.format.specs.Data.{Cell, bits, bits_of, chars_of, link_of, LongString}
use Rattle.format.specs.Labels.{Table, table_size, LabelBlock}
use Rattle.format.specs.Cells.{Says, whole, single, double, letter, between, outside, words, reference, says_whole, says_float, says_double, signed_by, Key, nothing, seeks, key_of}
use Rattle.format.specs.Search.{Slot, found, missing, lost, search}
use Rattle.format.specs.Dta.{Dataset, Extras, layout_by, same_list}
use Rattle.questions.specs.Readings.{Try, none, got}
use Rattle.questions.specs.Ask.{Question, ask_edition, ask_order, ask_k, ask_n, ask_label, ask_stamp, ask_type, ask_name, ask_format, ask_set, ask_var_label, ask_date, ask_sort, ask_column, ask_table, ask_cell, ask_long, ask_words, Labels, unlabelled, labelled, Answer, refused, count, mark, typed, part, column, labels, cell, plain, long, or_refused, start_of, field_place, in_range, old_label_place, new_label_place, stamp_gap, is_date, offset_in, width_in, cell_place, head_size, record_head}

-- what a cell of the dataset says, which stands at p
abbrev pub cell_says : VarType → ℕ → Cell → Says
cell_says (text_type w) p c = words p (length (chars_of c))
cell_says strl_type p c = reference (link_of c).0 (link_of c).1
cell_says byte_type p c = says_whole 128 (bits_of c)
cell_says int_type p c = says_whole 32768 (bits_of c)
cell_says long_type p c = says_whole 2147483648 (bits_of c)
cell_says float_type p c = says_float (bits_of c)
cell_says double_type p c = says_double (bits_of c)

-- which of the sorted is i, counted from suc x; 0 if none is
abbrev pub sort_place : ℕ → ℕ → List ℕ → ℕ
sort_place i x [] = 0
sort_place i x (v ∷ l) = cond (eqb v i) (suc x) (sort_place i (suc x) l)

-- cell i, j; the type of variable i; its label-set name
abbrev pub cell_asked : Dataset → ℕ → ℕ → Cell
cell_asked d i j = get_or (get_or d.cells (j - 1) []) (i - 1) (bits 0)

abbrev pub type_asked : Dataset → ℕ → VarType
type_asked d i = get_or d.var_types (i - 1) byte_type

abbrev pub set_asked : Dataset → ℕ → List ℕ
set_asked d i = get_or d.label_sets (i - 1) []

-- the label at slot m of a table: its text area from the slot's offset on, up to the first zero
abbrev pub label_at : Table → ℕ → List ℕ
label_at t m = text_at (length t.texts - get_or t.offsets m 0) t.texts (get_or t.offsets m 0)

-- where the search for q among a table's values ends
abbrev pub slot_fact : ℤ → Table → Slot
slot_fact q t = (search (λ i. signed_by 2147483648 (get_or t.values i 0)) (λ i. true) q (length t.offsets)).slot

-- the words at a slot of a table that stands at p; the plain text where nothing was found
abbrev pub words_fact : List ℕ → ℕ → Table → Slot → Try Answer
words_fact lent p t (found m) =
    got (part (p + 8 + length t.offsets * 4 + length t.offsets * 4 + get_or t.offsets m 0) (length (label_at t m)))
words_fact lent p t missing = got (plain lent)
words_fact lent p t lost = none

-- a label table of the dataset with its place; or none
pub data TableFact : Type 0 where
  no_table : TableFact
  table_fact : ℕ → Table → TableFact

-- the table of the first block whose name is s, with the first block at p
module _ (e : Edition) (s : List ℕ) where
  abbrev pub blocks_fact : List LabelBlock → ℕ → TableFact
  blocks_fact [] p = no_table
  blocks_fact (b ∷ l) p =
      let a = p + length (opening e.tagged n_lbl) + head_size e.name_width in
      cond (same_list b.set_name s) (table_fact a b.entries)
      (blocks_fact l (a + table_size b.entries + length (closing e.tagged n_lbl)))

-- .. none where s is empty
abbrev pub set_fact : Edition → List ℕ → List LabelBlock → ℕ → TableFact
set_fact e s l p = cond (nonempty s) (blocks_fact e s l p) no_table

-- where a table stands
abbrev pub labels_fact : TableFact → Labels
labels_fact no_table = unlabelled
labels_fact (table_fact p t) = labelled p (table_size t)

-- the words for the value q in a table
abbrev pub label_fact : List ℕ → ℤ → TableFact → Try Answer
label_fact lent q no_table = got (plain lent)
label_fact lent q (table_fact p t) = words_fact lent p t (slot_fact q t)

-- the words for what is sought in a table
abbrev pub sought_fact : List ℕ → Key → TableFact → Try Answer
sought_fact lent nothing t = got (plain lent)
sought_fact lent (seeks q) t = label_fact lent q t

-- the first record that is of the cell v, x, with the first record at p
module _ (e : Edition) (v x : ℕ) where
  abbrev pub records_fact : List LongString → ℕ → Try Answer
  records_fact [] p = none
  records_fact (r ∷ l) p =
      cond (eqb r.v v && eqb r.o x) (got (long r.kind (p + record_head e.record_width) (length r.contents)))
      (records_fact l (p + record_head e.record_width + length r.contents))

-- the long string that a cell means
abbrev pub long_fact : Edition → ℕ → List LongString → Says → Try Answer
long_fact e p l (whole z) = got (long 0 0 0)
long_fact e p l (single x) = got (long 0 0 0)
long_fact e p l (double x) = got (long 0 0 0)
long_fact e p l (letter k) = got (long 0 0 0)
long_fact e p l between = got (long 0 0 0)
long_fact e p l outside = got (long 0 0 0)
long_fact e p l (words a n) = got (long 0 0 0)
long_fact e p l (reference v x) = cond (eqb v 0 && eqb x 0) (got (long 0 0 0)) (records_fact e v x l p)

-- what cell i, j says
abbrev pub cell_fact : Edition → Order → Dataset × Extras → ℕ → ℕ → Says
cell_fact e o w i j =
    cell_says (type_asked w.0 i) (cell_place e w.0.var_types (start_of e.tagged (layout_by e o w) 9 n_data) i j) (cell_asked w.0 i j)

-- the label table of variable i
abbrev pub table_asked : Edition → Order → Dataset × Extras → ℕ → TableFact
table_asked e o w i = set_fact e (set_asked w.0 i) w.0.label_blocks (start_of e.tagged (layout_by e o w) 11 n_value_labels)

-- where the dataset label stands, and the stamp
abbrev pub label_place : Bool → Edition → ℕ
label_place true e = new_label_place e + e.label_length
label_place false e = old_label_place e

abbrev pub stamp_place : Bool → Edition → Dataset → ℕ
stamp_place true e d = new_label_place e + e.label_length + length d.label + stamp_gap + 1
stamp_place false e d = old_label_place e + suc e.label_max

-- the dataset's answer
abbrev pub fact_in : Edition → Order → Dataset × Extras → Question → Try Answer
fact_in e o w ask_edition = got (count (layout_by e o w).release)
fact_in e o w ask_order = got (count (layout_by e o w).order)
fact_in e o w ask_k = got (count w.0.k)
fact_in e o w ask_n = got (count w.0.n)
fact_in e o w ask_label = got (part (label_place e.tagged e) (length w.0.label))
fact_in e o w ask_stamp = got (part (stamp_place e.tagged e w.0) (length w.0.stamp))
fact_in e o w (ask_type i) = got (typed (type_asked w.0 i))
fact_in e o w (ask_name i) = got (part (field_place e.tagged (layout_by e o w) 3 n_varnames e.name_width i) (length (get_or w.0.var_names (i - 1) [])))
fact_in e o w (ask_format i) = got (part (field_place e.tagged (layout_by e o w) 5 n_formats e.format_width i) (length (get_or w.0.display_formats (i - 1) [])))
fact_in e o w (ask_set i) = got (part (field_place e.tagged (layout_by e o w) 6 n_value_label_names e.name_width i) (length (set_asked w.0 i)))
fact_in e o w (ask_var_label i) =
    got (part (field_place e.tagged (layout_by e o w) 7 n_variable_labels e.var_label_width i) (length (get_or w.0.variable_labels (i - 1) [])))
fact_in e o w (ask_date i) = got (mark (is_date (get_or w.0.display_formats (i - 1) [])))
fact_in e o w (ask_sort i) = got (count (sort_place i 0 w.0.sorted))
fact_in e o w (ask_column i) = got (column (type_asked w.0 i) (offset_in e w.0.var_types i) (width_in e w.0.var_types))
fact_in e o w (ask_table i) = got (labels (labels_fact (table_asked e o w i)))
fact_in e o w (ask_cell i j) = got (cell (cell_fact e o w i j))
fact_in e o w (ask_long i j) = long_fact e (start_of e.tagged (layout_by e o w) 10 n_strls) w.0.long_strings (cell_fact e o w i j)
fact_in e o w (ask_words i j lent) = sought_fact lent (key_of (cell_fact e o w i j)) (table_asked e o w i)

-- 16 first
unfoldable pub fact_of : Edition → Order → Dataset × Extras → Question → Answer
fact_of e o w q = cond (in_range (layout_by e o w) q) (or_refused (fact_in e o w q)) (refused 16)

-- ---- the bytes that an answer shows, by the dataset alone

-- a cell's text
abbrev pub cell_bytes : VarType → Cell → List ℕ
cell_bytes (text_type w) c = chars_of c
cell_bytes strl_type c = []
cell_bytes byte_type c = []
cell_bytes int_type c = []
cell_bytes long_type c = []
cell_bytes float_type c = []
cell_bytes double_type c = []

-- the contents of the first record that is of the cell v, x
module _ (v x : ℕ) where
  abbrev pub records_bytes : List LongString → List ℕ
  records_bytes [] = []
  records_bytes (r ∷ l) = cond (eqb r.v v && eqb r.o x) r.contents (records_bytes l)

-- the contents of the long string that a cell means
abbrev pub long_bytes : VarType → Cell → List LongString → List ℕ
long_bytes (text_type w) c l = []
long_bytes strl_type c l = cond (eqb (link_of c).0 0 && eqb (link_of c).1 0) [] (records_bytes (link_of c).0 (link_of c).1 l)
long_bytes byte_type c l = []
long_bytes int_type c l = []
long_bytes long_type c l = []
long_bytes float_type c l = []
long_bytes double_type c l = []

-- the label at a slot of a table, or the lent text
abbrev pub slot_bytes : List ℕ → Table → Slot → List ℕ
slot_bytes lent t (found m) = label_at t m
slot_bytes lent t missing = lent
slot_bytes lent t lost = []

-- the label of the value q in the first block whose name is s, or the lent text
module _ (lent : List ℕ) (q : ℤ) (s : List ℕ) where
  abbrev pub blocks_bytes : List LabelBlock → List ℕ
  blocks_bytes [] = lent
  blocks_bytes (b ∷ l) = cond (same_list b.set_name s) (slot_bytes lent b.entries (slot_fact q b.entries)) (blocks_bytes l)

-- the words for what is sought under the set name s
abbrev pub words_bytes : List ℕ → Key → List ℕ → List LabelBlock → List ℕ
words_bytes lent nothing s l = lent
words_bytes lent (seeks q) s l = cond (nonempty s) (blocks_bytes lent q s l) lent

-- the bytes of the dataset's answer
abbrev pub bytes_in : Dataset → Question → List ℕ
bytes_in d ask_edition = []
bytes_in d ask_order = []
bytes_in d ask_k = []
bytes_in d ask_n = []
bytes_in d ask_label = d.label
bytes_in d ask_stamp = d.stamp
bytes_in d (ask_type i) = []
bytes_in d (ask_name i) = get_or d.var_names (i - 1) []
bytes_in d (ask_format i) = get_or d.display_formats (i - 1) []
bytes_in d (ask_set i) = set_asked d i
bytes_in d (ask_var_label i) = get_or d.variable_labels (i - 1) []
bytes_in d (ask_date i) = []
bytes_in d (ask_sort i) = []
bytes_in d (ask_column i) = []
bytes_in d (ask_table i) = []
bytes_in d (ask_cell i j) = cell_bytes (type_asked d i) (cell_asked d i j)
bytes_in d (ask_long i j) = long_bytes (type_asked d i) (cell_asked d i j) d.long_strings
bytes_in d (ask_words i j lent) = words_bytes lent (key_of (cell_says (type_asked d i) 0 (cell_asked d i j))) (set_asked d i) d.label_blocks

-- none where the question is refused with 16
unfoldable pub bytes_of : Edition → Order → Dataset × Extras → Question → List ℕ
bytes_of e o w q = cond (in_range (layout_by e o w) q) (bytes_in w.0 q) []
