-- The owner's three demands, for editions 113, 114, 115, 117 and 118.
--
-- A file is any list of bytes. `Checks f r` is what `check` promises: r is its answer for the file f. `Rewrites f e o d w r` is what
-- `rewrite` promises: r is its answer for the file f, the edition e and the byte order o, with an output that held d and then holds w.
-- `Asked f l q r` is what `ask` promises, of a file and a layout, of a view, and of a file alone with its own layout: r is the answer to the
-- question q over the file f and the layout l, right or wrong. `r ≡ by (answer_of f l q)` is what a function of one question promises: `by` makes
-- its result of an answer (`number_by`, `part_by`, `mark_by`, `typed_by`, `column_by`, `set_by`, `said_by`, `long_by`, `words_by`). `text_of f l q`, `long_of f l i j`
-- and `words_of f t l i j` are the bytes that the functions hand back that promise bytes. `Tells f l i j q n d w r` is what `cells_down`, `cells_along`, `words_down`
-- and `words_across` promise, of the answers to q 0, q 1, .. from cell i, j on. `Lists f t d w r` is what `long_list`, `set_list` and `sort_order` promise: r is the answer for the file f, of which the
-- numbers t are told, `longs_of f`, `sets_of f` or `sorted_of f`, into a slice that held d and then holds w. That each call ends is part of each
-- function's proof, as is that it needs nothing of the file, the layout and the numbers that it is given.
use Rattle.std.specs.Prelude.{◌≡◌, ℕ, zero, suc, ◌+◌, ◌*◌, ◌≤◌, ◌<◌, List, [], ◌∷◌, ◌++◌, map, ◌⊎◌, true, false, ◌&&◌, length, get_or, take, drop, leb, ℤ, Result, Ok, IfOk, IsOkAnd}
use Rattle.refusal.specs.declared.Refusal.{Refusal}
use Rattle.refusal.specs.declared.Refusal.TheVariants.{NotThere, NotReadable}
use Rattle.refusal.specs.Refusals.{code_of}
use Rattle.format.specs.Slot.{Fits, Bytes}
use Rattle.format.specs.Number.{Order}
use Rattle.format.specs.Edition.{Release, edition, AsWide, order_mark}
use Rattle.format.specs.Data.{LongString}
use Rattle.format.specs.Labels.{Table, LabelBlock}
use Rattle.format.specs.Variables.{nonempty}
use Rattle.format.specs.Cells.{signed_by, seeks, key_of}
use Rattle.format.specs.Search.{found}
use Rattle.format.specs.Dta.{Dataset, Extras, Layout, file, known, verdict, release_of, edition_of, order_of, contents, dataset_of, layout_of, no_layout, length_max, written, holds, all_types, all_shorter, block_names}
use Rattle.format.specs.Dead.{DeadPlace}
use Rattle.checking.specs.declared.Layout as Checking
use Rattle.checking.specs.Checks.{Checks, layout_by}
use Rattle.questions.specs.Readings.{Try, none, got, bind}
use Rattle.questions.specs.Ask.{Question, ask_cell, ask_words, Answer, refused, release_in, order_in, in_range, answer_in, answer_of, slice, shown}
use Rattle.questions.specs.Fact.{cell_says, cell_asked, type_asked, set_asked, label_at, slot_fact, fact_of, bytes_of}
use Rattle.long_list.specs.declared.Untold.{Untold}
use Rattle.long_list.specs.Lists.{told_code, told_count, Lists}
use Rattle.long_list.specs.Longs.{longs_of}
use Rattle.set_list.specs.Sets.{sets_of}
use Rattle.sort_order.specs.Sorted.{sorted_of}
use Rattle.asking.specs.declared.Question as Code
use Rattle.asking.specs.declared.Answer as Told
use Rattle.asking.specs.declared.Answer.TheVariants as A
use Rattle.asking.specs.Asking.{question_by, told_by, Asked}
use Rattle.coded.specs.Coded.{numbers_of, stored, Tells}
use Rattle.parts.specs.Parts.{text_of, long_of}
use Rattle.view.specs.Words.{words_of}
use Rattle.rewriting.specs.Rewriting.{edition_to, order_to, offered, held, rewritten, len_of, Rewrites}
use Rattle.demands.specs.Logic.{Iff}
use Rattle.demands.specs.Cuts.{CutGiven}
use Rattle.demands.specs.Reasons.{TypeUnknown, TextBroken, SortBroken, LengthOfNone, MapWrong, LinkBroken, TableBroken, BytesLeft}
use Rattle.demands.specs.HeaderReasons.{HeaderBroken}
use Rattle.demands.specs.Comes.{CutShort, TagDiffers}

-- ---- 1. Any bytes may be handed in. Each call ends, with an answer or a refusal by number from the table, for exactly the reason given
-- there. A refused rewrite leaves the output as it came.

-- the answer r of checking f
pub record CheckGiven (f : List ℕ) (r : Result Checking.Layout Refusal) : Type 1 where
  -- 0, or one of the numbers 1 to 13
  pub number : code_of r ≤ 13
  -- 1: the file is over the length bound
  pub too_long : Iff (code_of r ≡ 1) (length_max < length f)
  -- 2: it is not, and it begins as no edition does
  pub unknown : Iff (code_of r ≡ 2) ((length f ≤ length_max) × (known f ≡ false))
  -- else 0 or 3 to 13: the first refusal of the edition's grammar, in file order
  pub first : length f ≤ length_max → known f ≡ true → code_of r ≡ (file (edition_of f) (order_of f)).judge f 0
  -- 3: a part or tag needs more bytes than remain
  pub cut_short : Iff (code_of r ≡ 3) (CutShort (edition_of f) (order_of f) f)
  -- 4: a tag differs
  pub tag_differs : Iff (code_of r ≡ 4) (TagDiffers (edition_of f) (order_of f) f)
  -- 5: byte order, file type, K, N, dataset label or stamp breaks its rule
  pub header_broken : Iff (code_of r ≡ 5) (HeaderBroken (edition_of f) (order_of f) f)
  -- 6: a type code is unknown
  pub type_unknown : Iff (code_of r ≡ 6) (TypeUnknown (edition_of f) (order_of f) f)
  -- 7: a text field after the header is unended, or a name empty
  pub text_broken : Iff (code_of r ≡ 7) (TextBroken (edition_of f) (order_of f) f)
  -- 8: the sort list breaks its rule
  pub sort_broken : Iff (code_of r ≡ 8) (SortBroken (edition_of f) (order_of f) f)
  -- 9: an expansion block of type 0 has a length
  pub length_of_none : Iff (code_of r ≡ 9) (LengthOfNone (edition_of f) (order_of f) f)
  -- 10: a map position is wrong
  pub map_wrong : Iff (code_of r ≡ 10) (MapWrong (edition_of f) (order_of f) f)
  -- 11: a strL reference or record breaks its rule
  pub link_broken : Iff (code_of r ≡ 11) (LinkBroken (edition_of f) (order_of f) f)
  -- 12: a label table breaks its rule
  pub table_broken : Iff (code_of r ≡ 12) (TableBroken (edition_of f) (order_of f) f)
  -- 13: bytes stand after </stata_dta>
  pub bytes_left : Iff (code_of r ≡ 13) (BytesLeft (edition_of f) (order_of f) f)
  -- a refusal gives no layout, and the file's own is all zeros
  pub bare : (code_of r ≡ 0 → ⊥) → (IfOk r (λ l. ⊥)) × (layout_of f ≡ no_layout)

-- what is read for the question q, by the layout's edition and byte order: none where a byte that is needed lies outside the file, or where
-- what stands there has no meaning
abbrev pub read_for : List ℕ → Layout → Question → Try Answer
read_for f l q = bind (release_in l.release) λ r. bind (order_in l.order) λ o. answer_in (edition r) o f l q

-- the answer r to the question q over f and l
pub record AskGiven (f : List ℕ) (l : Layout) (q : Code.Question) (r : Told.Answer) : Type 0 where
  -- 16: the variable or the observation that is asked for is not in 1..K or 1..N of the layout
  pub out_of_range : Iff (r ≡ A.Refused NotThere) (in_range l (question_by q) ≡ false)
  -- 17: it is, and what is asked for can't be read
  pub unread : Iff (r ≡ A.Refused NotReadable) ((in_range l (question_by q) ≡ true) × (read_for f l (question_by q) ≡ none))
  -- there is no other refusal
  pub number : (c : Refusal) → r ≡ A.Refused c → (c ≡ NotThere) ⊎ (c ≡ NotReadable)
  -- else it is what is read
  pub answer : (a : Answer) → in_range l (question_by q) ≡ true → read_for f l (question_by q) ≡ got a → r ≡ told_by a

-- the answer r of a function of the question q alone, whose result `by` makes of an answer: 16, then 17, then what is read, which is no refusal
pub record ToldGiven {R : Type 0} (by : Answer → R) (f : List ℕ) (l : Layout) (q : Question) (r : R) : Type 0 where
  pub out_of_range : in_range l q ≡ false → r ≡ by (refused 16)
  pub unread : in_range l q ≡ true → read_for f l q ≡ none → r ≡ by (refused 17)
  pub answer : (a : Answer) → in_range l q ≡ true → read_for f l q ≡ got a → (r ≡ by a) × ((c : ℕ) → a ≡ refused c → ⊥)

-- the answer r of rewriting f to the edition e and the byte order o
pub record RewriteGiven (f : List ℕ) (e o : ℕ) (d w : List ℕ) (r : Result ℕ Refusal) : Type 0 where
  -- one of the numbers 0 to 15
  pub number : code_of r ≤ 15
  -- 1 to 13: as the file is judged
  pub judged : (verdict f ≡ 0 → ⊥) → code_of r ≡ verdict f
  -- 15: it is accepted, and the target is not offered or can't hold the dataset
  pub not_held : Iff (code_of r ≡ 15) ((verdict f ≡ 0) × (held f e o ≡ false))
  -- 14: it is held, and the output is shorter than the result
  pub no_room : Iff (code_of r ≡ 14) ((verdict f ≡ 0) × (held f e o ≡ true) × (length d < length (rewritten f e o)))
  -- 0: it is held, and there is room
  pub room : Iff (code_of r ≡ 0) ((verdict f ≡ 0) × (held f e o ≡ true) × (length (rewritten f e o) ≤ length d))
  -- refused, the output is as it came; done, it is the result and then what stood there
  pub untouched : (code_of r ≡ 0 → ⊥) → (w ≡ d) × (len_of r ≡ 0)
  pub done : code_of r ≡ 0 → (w ≡ rewritten f e o ++ drop (len_of r) d) × (len_of r ≡ length (rewritten f e o))

-- the answer r of a list of the numbers t about f
pub record ListGiven (f t d w : List ℕ) (r : Result ℕ Untold) : Type 0 where
  -- one of the numbers 0 to 14
  pub number : told_code r ≤ 14
  -- 1 to 13: as the file is judged
  pub judged : (verdict f ≡ 0 → ⊥) → told_code r ≡ verdict f
  -- 14: it is accepted, and the slice is shorter than the list
  pub no_room : Iff (told_code r ≡ 14) ((verdict f ≡ 0) × (length d < length t))
  -- 0: it is accepted, and there is room
  pub room : Iff (told_code r ≡ 0) ((verdict f ≡ 0) × (length t ≤ length d))
  -- refused, the slice is as it came; done, it is the list and then what stood there
  pub untouched : (told_code r ≡ 0 → ⊥) → w ≡ d
  pub done : told_code r ≡ 0 → w ≡ t ++ drop (length t) d
  -- how many numbers are needed is told of each accepted file
  pub count : verdict f ≡ 0 → told_count r ≡ length t
  pub no_count : (verdict f ≡ 0 → ⊥) → told_count r ≡ 0

-- the answer r of a run of answers that begins with the cell of variable i and observation j
pub record RunGiven (l : Layout) (i j : ℕ) (d w : List ℕ) (r : Result ℕ Refusal) : Type 0 where
  -- 0 or 16: the variable or the observation is not in 1..K or 1..N of the layout
  pub number : (code_of r ≡ 0) ⊎ (code_of r ≡ 16)
  pub out_of_range : Iff (code_of r ≡ 16) (in_range l (ask_cell i j) ≡ false)
  -- refused, the slice is as it came
  pub untouched : code_of r ≡ 16 → (w ≡ d) × (stored r ≡ 0)

pub record Demand1 : Type 1 where
  pub checked : (f : List ℕ) (r : Result Checking.Layout Refusal) → Checks f r → CheckGiven f r
  pub asked : (f : List ℕ) (l : Layout) (q : Code.Question) (r : Told.Answer) → Asked f l q r → AskGiven f l q r
  pub told : {R : Type 0} (by : Answer → R) (f : List ℕ) (l : Layout) (q : Question) (r : R) → r ≡ by (answer_of f l q) → ToldGiven by f l q r
  pub rewrote : (f : List ℕ) (e o : ℕ) (d w : List ℕ) (r : Result ℕ Refusal) → Rewrites f e o d w r → RewriteGiven f e o d w r
  -- each run, of the answers to q 0, q 1, .., n at most
  pub ran : (f : List ℕ) (l : Layout) (i j : ℕ) (q : ℕ → Question) (n : ℕ) (d w : List ℕ) (r : Result ℕ Refusal) → Tells f l i j q n d w r → RunGiven l i j d w r
  -- each list: t is `longs_of f`, `sets_of f` or `sorted_of f`
  pub listed : (f t d w : List ℕ) (r : Result ℕ Untold) → Lists f t d w r → ListGiven f t d w r

-- ---- 2. Accepted exactly when well formed, and every header fact, text, cell, long string and label is what the descriptions say. A label is
-- found only by the exact value. Rewritten to any edition that can hold it, in either byte order, with room, a file is accepted and reads back
-- as the same dataset.

-- f is a well-formed file of an edition and a byte order that says the dataset d and the extras x: what it says obeys the rules, and its
-- bytes are those of the grammar, but for the dead ones
pub record WellFormed (f : List ℕ) (r : Release) (o : Order) (d : Dataset) (x : Extras) : Type 0 where
  pub short : length f ≤ length_max
  pub rules : (file (edition r) o).Right (d, x)
  pub bytes : Fits f 0 ((file (edition r) o).slots (d, x))
  pub whole : length ((file (edition r) o).slots (d, x)) ≡ length f

-- the file f was accepted with the layout c
pub record Accepted (f : List ℕ) (c : Checking.Layout) : Type 0 where
  pub is_file : Bytes f
  pub answer : Checks f (Ok c)

-- what a well-formed file says is what is read
pub record Says (f : List ℕ) (r : Release) (o : Order) (d : Dataset) (x : Extras) : Type 0 where
  pub release : release_of f ≡ r
  pub order : order_of f ≡ o
  pub dataset : dataset_of f ≡ d
  pub extras : (contents f).1 ≡ x

-- the answer r to the question q over f and its layout is the dataset's fact, and so are the bytes that it names; with variable and
-- observation in range it is no refusal
pub record FactGiven (f : List ℕ) (l : Layout) (q : Code.Question) (r : Told.Answer) : Type 0 where
  pub fact : r ≡ told_by (fact_of (edition_of f) (order_of f) (contents f) (question_by q))
  pub bytes : text_of f l q ≡ bytes_of (edition_of f) (order_of f) (contents f) (question_by q)
  pub answered : in_range l (question_by q) ≡ true → (c : Refusal) → r ≡ A.Refused c → ⊥

-- the value of slot m of a table, signed
abbrev pub value_at : Table → ℕ → ℤ
value_at t m = signed_by 2147483648 (get_or t.values m 0)

-- label block n, counted from 0; an empty one where there is none
abbrev pub block_at : Dataset → ℕ → LabelBlock
block_at d n = get_or d.label_blocks n (record { set_name = []; entries = record { offsets = []; values = []; texts = [] } })

-- slot m of label block n is the label of cell i, j: the variable has a label-set name, the block is the first of that name, and the slot's
-- value is exactly what the cell seeks
pub record LabelOf (d : Dataset) (i j n m : ℕ) : Type 0 where
  pub named : nonempty (set_asked d i) ≡ true
  pub block : n < length d.label_blocks
  pub name : (block_at d n).set_name ≡ set_asked d i
  pub first : (k : ℕ) → k < n → (block_at d k).set_name ≡ set_asked d i → ⊥
  pub slot : m < length (block_at d n).entries.offsets
  pub value : key_of (cell_says (type_asked d i) 0 (cell_asked d i j)) ≡ seeks (value_at (block_at d n).entries m)

-- the words shown for cell i, j are those of its label; where it has none, they are the lent text
pub record WordsGiven (d : Dataset) (i j : ℕ) (lent shows : List ℕ) : Type 0 where
  pub label : (n m : ℕ) → LabelOf d i j n m → shows ≡ label_at (block_at d n).entries m
  pub plain : ((n m : ℕ) → LabelOf d i j n m → ⊥) → shows ≡ lent

-- the numbers of the dataset's facts for q 0, q 1, .. up to n of them
module _ (f : List ℕ) (q : ℕ → Question) where
  abbrev pub facts_to : ℕ → List ℕ
  facts_to zero = []
  facts_to (suc n) = facts_to n ++ numbers_of (fact_of (edition_of f) (order_of f) (contents f) (q n))

-- the bytes that a list of long strings names in f: of each five numbers, the fourth is a place and the fifth a length
abbrev pub longs_shown : List ℕ → List ℕ → List (List ℕ)
longs_shown f [] = []
longs_shown f (v ∷ []) = []
longs_shown f (v ∷ o ∷ []) = []
longs_shown f (v ∷ o ∷ kind ∷ []) = []
longs_shown f (v ∷ o ∷ kind ∷ p ∷ []) = []
longs_shown f (v ∷ o ∷ kind ∷ p ∷ n ∷ t) = slice f p n ∷ longs_shown f t

-- the bytes that a list of label sets names in f, with m entries to come before the next set. Three numbers of a set: place and length of its
-- name, and how many entries it has; of an entry: its value, and place and length of its text
abbrev pub threes_shown : List ℕ → ℕ → List ℕ → List (List ℕ)
threes_shown f m [] = []
threes_shown f m (a ∷ []) = []
threes_shown f m (a ∷ b ∷ []) = []
threes_shown f zero (p ∷ n ∷ entries ∷ t) = slice f p n ∷ threes_shown f entries t
threes_shown f (suc m) (value ∷ p ∷ n ∷ t) = slice f p n ∷ threes_shown f m t

abbrev pub sets_shown : List ℕ → List ℕ → List (List ℕ)
sets_shown f t = threes_shown f 0 t

-- the labels of the first n slots of a table
abbrev pub labels_to : Table → ℕ → List (List ℕ)
labels_to t zero = []
labels_to t (suc n) = labels_to t n ++ (label_at t n ∷ [])

-- of each label block, its name and then its labels
abbrev pub block_texts : List LabelBlock → List (List ℕ)
block_texts [] = []
block_texts (b ∷ l) = b.set_name ∷ (labels_to b.entries (length b.entries.offsets) ++ block_texts l)

-- the bytes that the two lists of f name are the dataset's: the contents of each long string; each label set's name and labels
pub record ListsGiven (f : List ℕ) : Type 0 where
  pub longs : longs_shown f (longs_of f) ≡ map (λ (r : LongString). r.contents) (dataset_of f).long_strings
  pub sets : sets_shown f (sets_of f) ≡ block_texts (dataset_of f).label_blocks

-- g is accepted, is of edition e and byte order o and says the dataset of f
pub record ReadsBack (f : List ℕ) (e o : ℕ) (g : List ℕ) : Type 0 where
  pub accepted : (c : Result Checking.Layout Refusal) → Checks g c → IsOkAnd c (Accepted g)
  pub release : (edition_of g).number ≡ e
  pub order : order_mark (order_of g) ≡ o
  pub dataset : dataset_of g ≡ dataset_of f

pub record Demand2 : Type 1 where
  -- accepted only if well formed
  pub only : (f : List ℕ) (c : Checking.Layout) → Accepted f c → WellFormed f (release_of f) (order_of f) (dataset_of f) (contents f).1
  -- accepted if well formed, and read as what it says
  pub if : (f : List ℕ) (r : Release) (o : Order) (d : Dataset) (x : Extras) → WellFormed f r o d x → (c : Result Checking.Layout Refusal) → Checks f c → (code_of c ≡ 0) × (Says f r o d x)
  -- beginnings of an accepted file
  pub cut : (f : List ℕ) (c : Checking.Layout) → Accepted f c → (n : ℕ) → n ≤ length f → (b : Result Checking.Layout Refusal) → Checks (take n f) b → CutGiven f n b
  -- each question is answered by the dataset, ..
  pub facts : (f : List ℕ) (c : Checking.Layout) → Accepted f c → (q : Code.Question) (r : Told.Answer) → Asked f (layout_by c) q r → FactGiven f (layout_by c) q r
  -- .. by a function of this question alone, too
  pub told : {R : Type 0} (by : Answer → R) (f : List ℕ) (c : Checking.Layout) → Accepted f c → (q : Question) (r : R) → r ≡ by (answer_of f (layout_by c) q)
      → r ≡ by (fact_of (edition_of f) (order_of f) (contents f) q)
  -- a label is found only by the exact value: the words shown, ..
  pub words : (f : List ℕ) (c : Checking.Layout) → Accepted f c → (i j : ℕ) (lent : List ℕ) → in_range (layout_by c) (ask_words i j lent) ≡ true
      → WordsGiven (dataset_of f) i j lent (words_of f lent (layout_by c) i j)
  -- .. the search in any table, ..
  pub exact : (q : ℤ) (t : Table) (m : ℕ) → slot_fact q t ≡ found m → (m < length t.offsets) × (value_at t m ≡ q)
  -- .. and by each value that a table of an accepted file has
  pub found_by : (f : List ℕ) (c : Checking.Layout) → Accepted f c → (n : ℕ) → n < length (dataset_of f).label_blocks
      → let t = (block_at (dataset_of f) n).entries in
      (m : ℕ) → m < length t.offsets → slot_fact (value_at t m) t ≡ found m
  -- a run stores the dataset's facts
  pub ran : (f : List ℕ) (c : Checking.Layout) → Accepted f c → (i j : ℕ) (q : ℕ → Question) (n : ℕ) (d w : List ℕ) (r : Result ℕ Refusal) → Tells f (layout_by c) i j q n d w r
      → w ≡ facts_to f q (stored r) ++ drop (stored r * 4) d
  -- the lists of long strings and label sets
  pub listed : (f : List ℕ) (c : Checking.Layout) → Accepted f c → ListsGiven f
  -- each edition that is read is offered, in either byte order
  pub offers : (r : Release) (o : Order) → offered (edition r).number (order_mark o) ≡ true
  -- what an edition can hold of a dataset that was read: the types that it has (no strL and no text wider than 244 in 113, 114 and 115), a
  -- dataset label and texts that its fields have room for, a result within the length bound
  pub can_hold : (f : List ℕ) (c : Checking.Layout) → Accepted f c → (r : Release) (o : Order) → let d = dataset_of f in let e = edition r in holds e o d
      ≡ (all_types e.tagged d.var_types
      && (leb (length d.label) e.label_max
      && (all_shorter e.name_width d.var_names
      && (all_shorter e.format_width d.display_formats
      && (all_shorter e.name_width d.label_sets
      && (all_shorter e.var_label_width d.variable_labels
      && (all_shorter e.name_width (block_names d.label_blocks) && leb (length (written e o d)) length_max)))))))
  -- .. of which only types and length can be lacking where its fields are as wide as those of the file's own edition
  pub as_wide : (f : List ℕ) (c : Checking.Layout) → Accepted f c → (r : Release) (o : Order) → AsWide (edition_of f) (edition r) → let d = dataset_of f in holds (edition r) o d
      ≡ (all_types (edition r).tagged d.var_types && leb (length (written (edition r) o d)) length_max)
  -- rewritten where it can be held and there is room, it is accepted and reads back
  pub back : (f : List ℕ) (c : Checking.Layout) → Accepted f c → (e o : ℕ) → offered e o ≡ true → holds (edition_to e) (order_to o) (dataset_of f) ≡ true
      → (d w : List ℕ) (r : Result ℕ Refusal) → Rewrites f e o d w r → length (rewritten f e o) ≤ length d
      → (code_of r ≡ 0) × (ReadsBack f e o (take (len_of r) w))

-- ---- 3. Nothing from a dead byte gets out. Two files that differ in dead bytes alone have the same verdict, layout, dataset, answers (down to
-- the bytes handed back) and rewritten output, in every byte of the buffer.

-- g is as long as the accepted file f and has the same byte at every place that is not dead in f (document 01's list)
pub record DifferInDead (f g : List ℕ) : Type 0 where
  pub long : length g ≡ length f
  pub same : (i : ℕ) → i < length f → (DeadPlace f i → ⊥) → get_or g i 0 ≡ get_or f i 0

-- the same answer of a function of the question q alone, whose result `by` makes of an answer, and the same bytes at the place and length that it names
pub record SameAnswer {R : Type 0} (by : Answer → R) (f g : List ℕ) (l : Layout) (q : Question) : Type 0 where
  pub answer : (r s : R) → r ≡ by (answer_of f l q) → s ≡ by (answer_of g l q) → s ≡ r
  pub bytes : shown g (answer_of g l q) ≡ shown f (answer_of f l q)

-- a list of numbers, told of f and of g: the same answer and the same numbers, into slices that held the same before, of any length
abbrev pub SameNumbers : List ℕ → List ℕ → (List ℕ → List ℕ) → Type 0
SameNumbers f g told = (d v w : List ℕ) (a b : Result ℕ Untold) → Lists f (told f) d v a → Lists g (told g) d w b → (b ≡ a) × (w ≡ v)

-- and the same bytes, where the numbers name some
pub record SameList (f g : List ℕ) (told : List ℕ → List ℕ) (names : List ℕ → List ℕ → List (List ℕ)) : Type 0 where
  pub answer : SameNumbers f g told
  pub bytes : names g (told g) ≡ names f (told f)

-- `ask` of f and of g with one layout, and their views: the same answers, and the same bytes handed back
pub record SameView (f g : List ℕ) (l : Layout) : Type 0 where
  pub answer : (q : Code.Question) (a b : Told.Answer) → Asked f l q a → Asked g l q b → b ≡ a
  pub text : (q : Code.Question) → text_of g l q ≡ text_of f l q
  pub long : (i j : ℕ) → long_of g l i j ≡ long_of f l i j
  pub words : (t : List ℕ) (i j : ℕ) → words_of g t l i j ≡ words_of f t l i j

pub record Demand3 : Type 1 where
  -- verdict and layout; dataset
  pub checked : (f g : List ℕ) (c : Checking.Layout) → Accepted f c → DifferInDead f g → (b : Result Checking.Layout Refusal) → Checks g b → b ≡ Ok c
  pub dataset : (f g : List ℕ) (c : Checking.Layout) → Accepted f c → DifferInDead f g → dataset_of g ≡ dataset_of f
  -- answers, of a function of one question each, ..
  pub told : {R : Type 0} (by : Answer → R) (f g : List ℕ) (c : Checking.Layout) → Accepted f c → DifferInDead f g → (q : Question) → SameAnswer by f g (layout_by c) q
  -- .. and of `ask` and the view
  pub viewed : (f g : List ℕ) (c : Checking.Layout) → Accepted f c → DifferInDead f g → SameView f g (layout_by c)
  -- runs of answers: into slices that held the same before, of any length
  pub ran : (f g : List ℕ) (c : Checking.Layout) → Accepted f c → DifferInDead f g → (i j : ℕ) (q : ℕ → Question) (n : ℕ) (d v w : List ℕ) (a b : Result ℕ Refusal)
      → Tells f (layout_by c) i j q n d v a → Tells g (layout_by c) i j q n d w b → (b ≡ a) × (w ≡ v)
  -- lists: of long strings, of label sets, and of the variables in sort order, which names no bytes
  pub longs : (f g : List ℕ) (c : Checking.Layout) → Accepted f c → DifferInDead f g → SameList f g longs_of longs_shown
  pub sets : (f g : List ℕ) (c : Checking.Layout) → Accepted f c → DifferInDead f g → SameList f g sets_of sets_shown
  pub sorted : (f g : List ℕ) (c : Checking.Layout) → Accepted f c → DifferInDead f g → SameNumbers f g sorted_of
  -- rewritten output: into buffers that held the same before, of any length, to any target
  pub rewrote : (f g : List ℕ) (c : Checking.Layout) → Accepted f c → DifferInDead f g → (e o : ℕ) (d v w : List ℕ) (r s : Result ℕ Refusal)
      → Rewrites f e o d v r → Rewrites g e o d w s → (s ≡ r) × (w ≡ v)
