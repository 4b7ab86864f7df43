-- The questions over any file and any layout (document 01, "The numbers a call may answer").
use Rattle.std.specs.Prelude.{ℕ, zero, suc, ◌+◌, ◌-◌, ◌*◌, List, [], ◌∷◌, Bool, true, false, cond, ◌&&◌, length, get_or, take, drop, eqb, leb, ltb, ℤ}
use Rattle.format.specs.Number.{Order, msf, lsf}
use Rattle.format.specs.Grammar.{row_width, text_at}
use Rattle.format.specs.Edition.{Edition, Release, edition, is_release, release_by, code_width, opening, closing, tagged_start, order_text, n_byteorder, n_k, n_n, n_label, n_timestamp, n_variable_types, n_varnames, n_sortlist, n_formats, n_value_label_names, n_variable_labels, n_data, n_strls, n_value_labels, n_lbl}
use Rattle.format.specs.Variables.{VarType, text_type, strl_type, byte_type, int_type, long_type, float_type, double_type, type_by, has_type, nonempty}
use Rattle.format.specs.Data.{cell_width}
use Rattle.format.specs.Cells.{Says, whole, single, double, letter, between, outside, words, reference, says_at, Key, nothing, seeks, key_of}
use Rattle.format.specs.Search.{Slot, found, missing, lost, search_at}
use Rattle.format.specs.Dta.{Layout, same_list}
use Rattle.questions.specs.Readings.{Try, none, got, bind, test, room, number_in, text_needs, text_in}

-- ---- questions and answers

-- a question, with its variable and observation numbers, counted from 1, and the lent plain text
pub data Question : Type 0 where
  -- header facts
  ask_edition ask_order ask_k ask_n ask_label ask_stamp : Question
  -- of a variable: type, name, display format, label-set name, variable label, date mark, first sort place, and where its cells and its label table stand
  ask_type ask_name ask_format ask_set ask_var_label ask_date ask_sort ask_column ask_table : ℕ → Question
  -- of a cell: its content, its long string
  ask_cell ask_long : ℕ → ℕ → Question
  -- .. its label words, with the plain text that is shown where there are none
  ask_words : ℕ → ℕ → List ℕ → Question

-- where a variable's label table stands: place and length; none where the label-set name is empty or no block has it
pub data Labels : Type 0 where
  unlabelled : Labels
  labelled : ℕ → ℕ → Labels

-- an answer
pub data Answer : Type 0 where
  -- a refusal, by its number
  refused : ℕ → Answer
  -- a number; yes or no; a type
  count : ℕ → Answer
  mark : Bool → Answer
  typed : VarType → Answer
  -- a part of the file, by place and length
  part : ℕ → ℕ → Answer
  -- a variable's type, the offset of its cells in a row, the width of a row
  column : VarType → ℕ → ℕ → Answer
  -- a variable's label table
  labels : Labels → Answer
  -- what a cell says
  cell : Says → Answer
  -- the lent plain text
  plain : List ℕ → Answer
  -- a long string: kind, place and length of its contents
  long : ℕ → ℕ → ℕ → Answer

-- n bytes at p
abbrev pub slice : List ℕ → ℕ → ℕ → List ℕ
slice f p n = take n (drop p f)

-- the bytes that a cell's content names
abbrev pub shown_by : List ℕ → Says → List ℕ
shown_by f (whole z) = []
shown_by f (single x) = []
shown_by f (double x) = []
shown_by f (letter k) = []
shown_by f between = []
shown_by f outside = []
shown_by f (words p n) = slice f p n
shown_by f (reference v o) = []

-- the bytes that an answer names
abbrev pub shown : List ℕ → Answer → List ℕ
shown f (refused c) = []
shown f (count n) = []
shown f (mark b) = []
shown f (typed t) = []
shown f (part p n) = slice f p n
shown f (column t p n) = []
shown f (labels s) = []
shown f (cell s) = shown_by f s
shown f (plain t) = t
shown f (long k p n) = slice f p n

-- ---- by the layout

-- an edition that is read
abbrev pub release_in : ℕ → Try Release
release_in n = cond (is_release n) (got (release_by n)) none

-- a byte order
abbrev pub order_in : ℕ → Try Order
order_in n = cond (eqb n 1) (got msf) (cond (eqb n 2) (got lsf) none)

-- position k of the layout, counted from 0
abbrev pub place : Layout → ℕ → ℕ
place l k = get_or l.places k 0

-- where the content of part k starts, between tags of the name n: marks are stepped over unread
abbrev pub start_of : Bool → Layout → ℕ → List ℕ → ℕ
start_of t l k n = place l k + length (opening t n)

-- where it ends; a part whose end lies before its start is empty
abbrev pub end_of : Bool → Layout → ℕ → List ℕ → ℕ
end_of t l k n = place l (suc k) - length (closing t n)

-- i is one of 1..k
abbrev pub among : ℕ → ℕ → Bool
among i k = ltb 0 i && leb i k

-- the variable and the observation that are asked for are there (else 16)
abbrev pub in_range : Layout → Question → Bool
in_range l ask_edition = true
in_range l ask_order = true
in_range l ask_k = true
in_range l ask_n = true
in_range l ask_label = true
in_range l ask_stamp = true
in_range l (ask_type i) = among i l.variables
in_range l (ask_name i) = among i l.variables
in_range l (ask_format i) = among i l.variables
in_range l (ask_set i) = among i l.variables
in_range l (ask_var_label i) = among i l.variables
in_range l (ask_date i) = among i l.variables
in_range l (ask_sort i) = among i l.variables
in_range l (ask_column i) = among i l.variables
in_range l (ask_table i) = among i l.variables
in_range l (ask_cell i j) = among i l.variables && among j l.rows
in_range l (ask_long i j) = among i l.variables && among j l.rows
in_range l (ask_words i j t) = among i l.variables && among j l.rows

-- ---- header

-- a text in the field of w bytes at p, by place and length
abbrev pub text_part : ℕ → List ℕ → ℕ → Try Answer
text_part w f p = bind (text_in w f p) λ t. got (part p (length t))

-- a length of w bytes at p, then that many bytes
abbrev pub counted_part : Order → ℕ → List ℕ → ℕ → Try Answer
counted_part o w f p = bind (number_in o w f p) λ n. bind (room f (p + w) n) λ u. got (part (p + w) n)

-- where the dataset label's field stands in an untagged edition: after edition, byte order, file type, an unused byte, K and N
abbrev pub old_label_place : Edition → ℕ
old_label_place e = 6 + e.n_width

-- where the label's length stands in a tagged edition: after the tags of the start, the byte order, K and N
abbrev pub new_label_place : Edition → ℕ
new_label_place e =
    length (tagged_start e.number)
    + (length (opening true n_byteorder) + (length (order_text msf) + length (closing true n_byteorder)))
    + (length (opening true n_k) + (2 + length (closing true n_k)))
    + (length (opening true n_n) + (e.n_width + length (closing true n_n)))
    + length (opening true n_label)

-- from the label's end to the stamp's length
abbrev pub stamp_gap : ℕ
stamp_gap = length (closing true n_label) + length (opening true n_timestamp)

-- the dataset label
abbrev pub label_in : Bool → Edition → Order → List ℕ → Try Answer
label_in true e o f = counted_part o e.label_length f (new_label_place e)
label_in false e o f = text_part (suc e.label_max) f (old_label_place e)

-- the stamp
abbrev pub stamp_in : Bool → Edition → Order → List ℕ → Try Answer
stamp_in true e o f =
    bind (number_in o e.label_length f (new_label_place e)) λ n.
    counted_part o 1 f (new_label_place e + e.label_length + n + stamp_gap)
stamp_in false e o f = text_part 18 f (old_label_place e + suc e.label_max)

-- ---- variables

-- the type whose code stands at p, which the edition must know
abbrev pub type_in : Bool → Order → List ℕ → ℕ → Try VarType
type_in t o f p =
    bind (number_in o (code_width t) f p) λ c.
    bind (test (has_type t (type_by t c))) λ u.
    got (type_by t c)

-- n types from p on
abbrev pub types_in : Bool → Order → List ℕ → ℕ → ℕ → Try (List VarType)
types_in t o f zero p = got []
types_in t o f (suc n) p =
    bind (type_in t o f p) λ x.
    bind (types_in t o f n (p + code_width t)) λ l.
    got (x ∷ l)

-- where field i of w bytes stands in part k, between tags of the name n
abbrev pub field_place : Bool → Layout → ℕ → List ℕ → ℕ → ℕ → ℕ
field_place t l k n w i = start_of t l k n + (i - 1) * w

-- a variable with this display format is a date variable: the format begins with %t
abbrev pub is_date : List ℕ → Bool
is_date [] = false
is_date (a ∷ []) = false
is_date (a ∷ b ∷ t) = eqb a 37 && eqb b 116

-- which of n sort entries from p on is the first that is i, before the first zero; x entries stand before p; 0 if none is
abbrev pub sort_in : Order → List ℕ → ℕ → ℕ → ℕ → ℕ → Try ℕ
sort_in o f i zero x p = got 0
sort_in o f i (suc n) x p =
    bind (number_in o 2 f p) λ v.
    (let r = sort_in o f i n (suc x) (p + 2) in
    let s = cond (eqb v i) (got (suc x)) r in
    cond (eqb v 0) (got 0) s)

-- ---- cells

-- the types of all variables: all are on the way to a cell
abbrev pub layout_types : Edition → Order → List ℕ → Layout → Try (List VarType)
layout_types e o f l = types_in e.tagged o f l.variables (start_of e.tagged l 2 n_variable_types)

-- the offset of variable i in a row of variables of these types
abbrev pub offset_in : Edition → List VarType → ℕ → ℕ
offset_in e t i = row_width (cell_width e.v_width e.o_width) (take (i - 1) t)

-- the width of a row
abbrev pub width_in : Edition → List VarType → ℕ
width_in e t = row_width (cell_width e.v_width e.o_width) t

-- where the cells of variable i stand
abbrev pub column_in : Edition → Order → List ℕ → Layout → ℕ → Try Answer
column_in e o f l i = bind (layout_types e o f l) λ t. got (column (get_or t (i - 1) byte_type) (offset_in e t i) (width_in e t))

-- how many bytes a cell of a type at p needs
abbrev pub cell_needs : Edition → VarType → List ℕ → ℕ → ℕ
cell_needs e (text_type w) f p = text_needs w (text_at w f p)
cell_needs e strl_type f p = e.v_width + e.o_width
cell_needs e byte_type f p = 1
cell_needs e int_type f p = 2
cell_needs e long_type f p = 4
cell_needs e float_type f p = 4
cell_needs e double_type f p = 8

-- what the cell of a type at p says
abbrev pub cell_at : Edition → Order → List ℕ → VarType → ℕ → Try Says
cell_at e o f t p = bind (room f p (cell_needs e t f p)) λ u. got (says_at o e.v_width e.o_width t f p)

-- where cell i, j stands in data from p on
abbrev pub cell_place : Edition → List VarType → ℕ → ℕ → ℕ → ℕ
cell_place e t p i j = p + (j - 1) * width_in e t + offset_in e t i

-- what cell i, j says
abbrev pub cell_in : Edition → Order → List ℕ → Layout → ℕ → ℕ → Try Says
cell_in e o f l i j =
    bind (layout_types e o f l) λ t.
    cell_at e o f (get_or t (i - 1) byte_type) (cell_place e t (start_of e.tagged l 9 n_data) i j)

-- ---- label words

-- the words at slot m of a table at p with n entries and x text bytes: from its offset up to the first zero, which must be there
abbrev pub entry_in : Order → List ℕ → ℕ → ℕ → ℕ → ℕ → Try Answer
entry_in o f p n x m =
    bind (number_in o 4 f (p + 8 + m * 4)) λ y.
    bind (test (ltb y x)) λ u.
    bind (text_in (x - y) f (p + 8 + n * 4 + n * 4 + y)) λ t.
    bind (test (ltb (length t) (x - y))) λ u.
    got (part (p + 8 + n * 4 + n * 4 + y) (length t))

-- .. where the search ended; the plain text where nothing was found
abbrev pub slot_in : Order → List ℕ → List ℕ → ℕ → ℕ → ℕ → Slot → Try Answer
slot_in o f lent p n x (found m) = entry_in o f p n x m
slot_in o f lent p n x missing = got (plain lent)
slot_in o f lent p n x lost = none

-- the words for the value q in a table at p
abbrev pub table_in : Order → List ℕ → List ℕ → ℤ → ℕ → Try Answer
table_in o f lent q p =
    bind (number_in o 4 f p) λ n.
    bind (number_in o 4 f (p + 4)) λ x.
    slot_in o f lent p n x (search_at o f (p + 8 + n * 4) (length f) n q).slot

-- bytes of a block's table length, name and padding
abbrev pub head_size : ℕ → ℕ
head_size name_width = 4 + (name_width + 3)

-- a table of w bytes at p: its count and text length must make up w
abbrev pub sized_in : Order → List ℕ → ℕ → ℕ → Try (Unit {0})
sized_in o f w p =
    bind (number_in o 4 f p) λ n.
    bind (number_in o 4 f (p + 4)) λ x.
    test (eqb w (8 + (8 * n + x)))

-- table length and name of a block that starts at p: it must lie whole in its part, which ends at z, and its table must be as long as it says
abbrev pub block_in : Bool → ℕ → Order → List ℕ → ℕ → ℕ → Try (ℕ × List ℕ)
block_in t w o f z p =
    let q = p + length (opening t n_lbl) in
    bind (test (leb (q + head_size w) z)) λ u.
    bind (number_in o 4 f q) λ n.
    bind (test (leb (q + head_size w + n + length (closing t n_lbl)) z)) λ u.
    bind (text_in w f (q + 4)) λ s.
    bind (sized_in o f n (q + head_size w)) λ u.
    got (n, s)

-- the table of the first block from p on whose name is s, in at most k steps: no walk has more than the file has bytes
module _ (t : Bool) (w : ℕ) (o : Order) (f : List ℕ) (s : List ℕ) (z : ℕ) where
  abbrev pub blocks_in : ℕ → ℕ → Try Labels
  blocks_in zero p = none
  blocks_in (suc k) p =
      let r = bind (block_in t w o f z p) λ b.
      (let a = p + length (opening t n_lbl) + head_size w in
      let on = blocks_in k (a + b.0 + length (closing t n_lbl)) in
      cond (same_list b.1 s) (got (labelled a b.0)) on) in
      cond (ltb p z) r (got unlabelled)

-- the label table of variable i
abbrev pub set_in : Edition → Order → List ℕ → Layout → ℕ → Try Labels
set_in e o f l i =
    bind (text_in e.name_width f (field_place e.tagged l 6 n_value_label_names e.name_width i)) λ s.
    (let r = blocks_in e.tagged e.name_width o f s (end_of e.tagged l 11 n_value_labels) (suc (length f)) (start_of e.tagged l 11 n_value_labels) in
    cond (nonempty s) r (got unlabelled))

-- the words for the value q in a label table; the plain text where there is none
abbrev pub labels_in : Order → List ℕ → List ℕ → ℤ → Labels → Try Answer
labels_in o f lent q unlabelled = got (plain lent)
labels_in o f lent q (labelled p n) = table_in o f lent q p

-- the words for what is sought: the plain text where that is nothing
abbrev pub sought_in : Key → List ℕ → (ℤ → Try Answer) → Try Answer
sought_in nothing lent k = got (plain lent)
sought_in (seeks q) lent k = k q

-- the words for the value q of variable i
abbrev pub set_words : Edition → Order → List ℕ → Layout → ℕ → List ℕ → ℤ → Try Answer
set_words e o f l i lent q = bind (set_in e o f l i) (labels_in o f lent q)

-- the label words of cell i, j
abbrev pub words_in : Edition → Order → List ℕ → Layout → ℕ → ℕ → List ℕ → Try Answer
words_in e o f l i j lent = bind (cell_in e o f l i j) λ c. sought_in (key_of c) lent (set_words e o f l i lent)

-- ---- long strings

-- bytes of GSO, v, o, kind and length, with o in w bytes
abbrev pub record_head : ℕ → ℕ
record_head w = 3 + (4 + (w + (1 + 4)))

-- the first record from p on, in a part that ends at z, that is of the cell v, x, in at most k steps; each must lie whole in its part
module _ (w : ℕ) (o : Order) (f : List ℕ) (v x : ℕ) (z : ℕ) where
  abbrev pub records_in : ℕ → ℕ → Try Answer
  records_in zero p = none
  records_in (suc k) p =
      bind (test (leb (p + record_head w) z)) λ u.
      bind (number_in o 4 f (p + 3)) λ a.
      bind (number_in o w f (p + 3 + 4)) λ b.
      bind (number_in o 1 f (p + 3 + 4 + w)) λ c.
      bind (number_in o 4 f (p + 3 + 4 + w + 1)) λ n.
      bind (test (leb (p + record_head w + n) z)) λ u.
      (let on = records_in k (p + record_head w + n) in
      let here = bind (room f (p + record_head w) n) λ u. got (long c (p + record_head w) n) in
      cond (eqb a v && eqb b x) here on)

-- the long string that a cell means: kind 0 and empty where it means none
abbrev pub long_by : Edition → Order → List ℕ → Layout → Says → Try Answer
long_by e o f l (whole z) = got (long 0 0 0)
long_by e o f l (single x) = got (long 0 0 0)
long_by e o f l (double x) = got (long 0 0 0)
long_by e o f l (letter k) = got (long 0 0 0)
long_by e o f l between = got (long 0 0 0)
long_by e o f l outside = got (long 0 0 0)
long_by e o f l (words p n) = got (long 0 0 0)
long_by e o f l (reference v x) =
    let r = records_in e.record_width o f v x (end_of e.tagged l 10 n_strls) (suc (length f)) (start_of e.tagged l 10 n_strls) in
    cond (eqb v 0 && eqb x 0) (got (long 0 0 0)) r

-- the long string of cell i, j
abbrev pub long_in : Edition → Order → List ℕ → Layout → ℕ → ℕ → Try Answer
long_in e o f l i j = bind (cell_in e o f l i j) (long_by e o f l)

-- ---- the answer

-- with an edition and a byte order that are read
abbrev pub answer_in : Edition → Order → List ℕ → Layout → Question → Try Answer
answer_in e o f l ask_edition = got (count l.release)
answer_in e o f l ask_order = got (count l.order)
answer_in e o f l ask_k = got (count l.variables)
answer_in e o f l ask_n = got (count l.rows)
answer_in e o f l ask_label = label_in e.tagged e o f
answer_in e o f l ask_stamp = stamp_in e.tagged e o f
answer_in e o f l (ask_type i) = bind (type_in e.tagged o f (field_place e.tagged l 2 n_variable_types (code_width e.tagged) i)) λ t. got (typed t)
answer_in e o f l (ask_name i) = text_part e.name_width f (field_place e.tagged l 3 n_varnames e.name_width i)
answer_in e o f l (ask_format i) = text_part e.format_width f (field_place e.tagged l 5 n_formats e.format_width i)
answer_in e o f l (ask_set i) = text_part e.name_width f (field_place e.tagged l 6 n_value_label_names e.name_width i)
answer_in e o f l (ask_var_label i) = text_part e.var_label_width f (field_place e.tagged l 7 n_variable_labels e.var_label_width i)
answer_in e o f l (ask_date i) = bind (text_in e.format_width f (field_place e.tagged l 5 n_formats e.format_width i)) λ t. got (mark (is_date t))
answer_in e o f l (ask_sort i) = bind (sort_in o f i (suc l.variables) 0 (start_of e.tagged l 4 n_sortlist)) λ x. got (count x)
answer_in e o f l (ask_column i) = column_in e o f l i
answer_in e o f l (ask_table i) = bind (set_in e o f l i) λ s. got (labels s)
answer_in e o f l (ask_cell i j) = bind (cell_in e o f l i j) λ s. got (cell s)
answer_in e o f l (ask_long i j) = long_in e o f l i j
answer_in e o f l (ask_words i j t) = words_in e o f l i j t

-- 17 where nothing is read
abbrev pub or_refused : Try Answer → Answer
or_refused none = refused 17
or_refused (got a) = a

-- 16 first; then 17; then the answer
unfoldable pub answer_of : List ℕ → Layout → Question → Answer
answer_of f l q =
    let r = or_refused (bind (release_in l.release) λ r. bind (order_in l.order) λ o. answer_in (edition r) o f l q) in
    cond (in_range l q) r (refused 16)
