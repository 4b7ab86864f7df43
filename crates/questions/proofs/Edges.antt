-- Questions at the edges of the rules, over files and layouts that nobody made from each other: each with the answer that it gets, computed from
-- the definitions.
use mathlib.Core.Path.{◌≡◌, refl}
use Prim.Native.Nat.{ℕ}
use Prim.Native.String.{String}
use mathlib.Core.List.{List, [], ◌∷◌, ◌++◌}
use mathlib.Core.Bool.{true, false}
use lib.ListN.{replicate, take}
use lib.IntN.{pos}
use lib.Ieee.{binary32, of_bits}
use Rattle.format.specs.Edition.{ascii}
use Rattle.format.specs.Variables.{int_type, float_type, double_type}
use Rattle.format.specs.Cells.{whole, single, letter, outside, words, reference}
use Rattle.format.specs.Search.{search_at}
use Rattle.format.specs.Dta.{Layout}
use Rattle.format.proofs.Examples.{yes_no, p14}
use Rattle.questions.specs.Ask.{Question, ask_edition, ask_order, ask_k, ask_n, ask_label, ask_stamp, ask_type, ask_name, ask_format, ask_set, ask_var_label, ask_date, ask_sort, ask_column, ask_table, ask_cell, ask_long, ask_words, unlabelled, labelled, Answer, refused, count, mark, typed, part, column, plain, long, shown, answer_of}
use Rattle.questions.specs.Ask as Ask

-- a row: what it is, a file, a layout, a question, the answer that it must get; or the bytes that the answer must show
data Row : Type 0 where
  asks : String → List ℕ → Layout → Question → Answer → Row
  shows : String → List ℕ → Layout → Question → List ℕ → Row

-- the row holds
abbrev Holds : Row → Type 0
Holds (asks s f l q a) = answer_of f l q ≡ a
Holds (shows s f l q t) = shown f (answer_of f l q) ≡ t

-- each of them holds
abbrev AllHold : List Row → Type 0
AllHold [] = Unit
AllHold (x ∷ l) = (Holds x) × (AllHold l)

-- a layout: edition, byte order, K, N, positions
abbrev lay : ℕ → ℕ → ℕ → ℕ → List ℕ → Layout
lay e o k n p = record { release = e; order = o; variables = k; rows = n; places = p }

-- all parts stand at place 0
abbrev zeros : List ℕ
zeros = replicate 14 0

-- ---- refusals, and facts of the layout

refusals : List Row
refusals =
    asks "variable 0" [] (lay 114 1 2 3 zeros) (ask_name 0) (refused 16)
    ∷ asks "variable K + 1" (replicate 99 0) (lay 114 1 2 3 zeros) (ask_name 3) (refused 16)
    ∷ asks "variable K" (replicate 99 0) (lay 114 1 2 3 zeros) (ask_name 2) (part 33 0)
    ∷ asks "observation 0" [] (lay 114 1 2 3 zeros) (ask_cell 1 0) (refused 16)
    ∷ asks "observation N + 1" [] (lay 114 1 2 3 zeros) (ask_cell 1 4) (refused 16)
    ∷ asks "observation N, which is not there" [] (lay 114 1 2 3 zeros) (ask_cell 1 3) (refused 17)
    ∷ asks "16 before an unknown edition" [] (lay 116 1 2 3 zeros) (ask_name 3) (refused 16)
    ∷ asks "an unknown edition" [] (lay 116 1 2 3 zeros) ask_edition (refused 17)
    ∷ asks "an unknown byte order" [] (lay 114 3 2 3 zeros) ask_k (refused 17)
    ∷ asks "byte order 0" [] (lay 114 0 2 3 zeros) ask_order (refused 17)
    ∷ asks "the layout's edition" [] (lay 117 2 2 3 zeros) ask_edition (count 117)
    ∷ asks "the layout's byte order" [] (lay 117 2 2 3 zeros) ask_order (count 2)
    ∷ asks "the layout's K" [] (lay 113 2 2 3 zeros) ask_k (count 2)
    ∷ asks "the layout's N" [] (lay 113 2 2 3 zeros) ask_n (count 3)
    ∷ []

refusals_hold : AllHold refusals
unfolding refusals answer_of
refusals_hold = (refl, (refl, (refl, (refl, (refl, (refl, (refl, (refl, (refl, (refl, (refl, (refl, (refl, (refl, tt))))))))))))))

-- ---- header

headers : List Row
headers =
    asks "old label" (replicate 10 9 ++ ascii "ab" ++ 0 ∷ []) (lay 114 1 0 0 zeros) ask_label (part 10 2)
    ∷ asks "old label without its zero byte" (replicate 10 9 ++ ascii "ab") (lay 114 1 0 0 zeros) ask_label (refused 17)
    ∷ asks "old label of its whole width" (replicate 10 9 ++ replicate 81 65) (lay 114 1 0 0 zeros) ask_label (part 10 81)
    ∷ asks "old label of 80 bytes at the end" (replicate 10 9 ++ replicate 80 65) (lay 114 1 0 0 zeros) ask_label (refused 17)
    ∷ asks "old stamp" (replicate 91 9 ++ 65 ∷ 0 ∷ []) (lay 113 1 0 0 zeros) ask_stamp (part 91 1)
    ∷ asks "old stamp outside" (replicate 91 9) (lay 113 1 0 0 zeros) ask_stamp (refused 17)
    ∷ asks "117 label" (replicate 94 9 ++ 2 ∷ 0 ∷ 0 ∷ []) (lay 117 1 0 0 zeros) ask_label (part 95 2)
    ∷ asks "117 label, a byte short" (replicate 94 9 ++ 2 ∷ 0 ∷ []) (lay 117 1 0 0 zeros) ask_label (refused 17)
    ∷ asks "117 stamp" (replicate 94 9 ++ 2 ∷ 7 ∷ 7 ∷ replicate 19 9 ++ 1 ∷ 65 ∷ []) (lay 117 1 0 0 zeros) ask_stamp (part 117 1)
    ∷ asks "117 stamp, its length outside" (replicate 94 9 ++ 2 ∷ 7 ∷ 7 ∷ replicate 19 9) (lay 117 1 0 0 zeros) ask_stamp (refused 17)
    ∷ []

headers_hold : AllHold headers
unfolding headers answer_of
headers_hold = (refl, (refl, (refl, (refl, (refl, (refl, (refl, (refl, (refl, (refl, tt))))))))))

-- ---- variables

variables : List Row
variables =
    asks "type 255" (251 ∷ 255 ∷ []) (lay 114 1 2 0 zeros) (ask_type 2) (typed double_type)
    ∷ asks "type 245 of an old edition" (251 ∷ 245 ∷ []) (lay 114 1 2 0 zeros) (ask_type 2) (refused 17)
    ∷ asks "type 0" (0 ∷ []) (lay 113 1 1 0 zeros) (ask_type 1) (refused 17)
    ∷ asks "117: type 65529, LSF" (replicate 16 9 ++ 249 ∷ 255 ∷ []) (lay 117 2 1 0 zeros) (ask_type 1) (typed int_type)
    ∷ asks "name of its whole width" (replicate 33 65) (lay 114 1 1 0 zeros) (ask_name 1) (part 0 33)
    ∷ asks "name of 32 bytes at the end" (replicate 32 65) (lay 114 1 1 0 zeros) (ask_name 1) (refused 17)
    ∷ asks "name before its field's end" (65 ∷ 0 ∷ []) (lay 114 1 1 0 zeros) (ask_name 1) (part 0 1)
    ∷ asks "113: format 2 stands at 12" (replicate 12 0 ++ ascii "%9s" ++ 0 ∷ []) (lay 113 1 2 0 zeros) (ask_format 2) (part 12 3)
    ∷ asks "114: format 2 stands at 49" (replicate 49 0 ++ ascii "%9s" ++ 0 ∷ []) (lay 114 1 2 0 zeros) (ask_format 2) (part 49 3)
    ∷ asks "a position past the end" (replicate 40 0) (lay 114 1 1 0 (replicate 14 40)) (ask_set 1) (refused 17)
    ∷ asks "variable label 2 stands at 81" (replicate 82 0) (lay 114 1 2 0 zeros) (ask_var_label 2) (part 81 0)
    ∷ asks "a date" (ascii "%td" ++ 0 ∷ []) (lay 114 1 1 0 zeros) (ask_date 1) (mark true)
    ∷ asks "no date: %9.0g" (ascii "%9.0g" ++ 0 ∷ []) (lay 114 1 1 0 zeros) (ask_date 1) (mark false)
    ∷ asks "no date: t9" (ascii "t9" ++ 0 ∷ []) (lay 114 1 1 0 zeros) (ask_date 1) (mark false)
    ∷ asks "no date: % and its zero, then t" (37 ∷ 0 ∷ 116 ∷ []) (lay 114 1 1 0 zeros) (ask_date 1) (mark false)
    ∷ asks "no format: refused as it is" (ascii "%td") (lay 114 1 1 0 zeros) (ask_date 1) (refused 17)
    ∷ asks "second in the sort list" (0 ∷ 2 ∷ 0 ∷ 1 ∷ 0 ∷ 0 ∷ []) (lay 114 1 2 0 zeros) (ask_sort 1) (count 2)
    ∷ asks "after the first zero" (0 ∷ 2 ∷ 0 ∷ 0 ∷ 0 ∷ 1 ∷ []) (lay 114 1 2 0 zeros) (ask_sort 1) (count 0)
    ∷ asks "twice: the first" (0 ∷ 1 ∷ 0 ∷ 1 ∷ 0 ∷ 0 ∷ []) (lay 114 1 2 0 zeros) (ask_sort 1) (count 1)
    ∷ asks "in no zero's list of K + 1" (0 ∷ 2 ∷ 0 ∷ 2 ∷ 0 ∷ 2 ∷ 0 ∷ 1 ∷ []) (lay 114 1 2 0 zeros) (ask_sort 1) (count 0)
    ∷ asks "entries up to the one that decides" (0 ∷ 1 ∷ []) (lay 114 1 2 0 zeros) (ask_sort 1) (count 1)
    ∷ asks ".. and no fewer" (0 ∷ 1 ∷ []) (lay 114 1 2 0 zeros) (ask_sort 2) (refused 17)
    ∷ asks "column of the second" (252 ∷ 255 ∷ 3 ∷ []) (lay 114 1 3 0 zeros) (ask_column 2) (column double_type 2 13)
    ∷ asks "column with an unknown type after it" (252 ∷ 255 ∷ 0 ∷ []) (lay 114 1 3 0 zeros) (ask_column 1) (refused 17)
    ∷ []

variables_hold : AllHold variables
unfolding variables answer_of
variables_hold =
    (refl, (refl, (refl, (refl, (refl, (refl, (refl, (refl, (refl, (refl, (refl, (refl, (refl, (refl, (refl, (refl, (refl, (refl, (refl, (refl, (refl, (refl, (refl, (refl, tt))))))))))))))))))))))))

-- ---- cells: types at 0, data at 3, N = 2

abbrev rows : Layout
rows = lay 114 1 3 2 (0 ∷ 0 ∷ 0 ∷ 0 ∷ 0 ∷ 0 ∷ 0 ∷ 0 ∷ 0 ∷ 3 ∷ 0 ∷ 0 ∷ 0 ∷ 0 ∷ [])

-- byte, str2, int; two rows of 5 bytes
abbrev data_file : List ℕ
data_file = 251 ∷ 2 ∷ 252 ∷ (100 ∷ 65 ∷ 0 ∷ 0 ∷ 1 ∷ []) ++ (101 ∷ 65 ∷ 66 ∷ 128 ∷ 0 ∷ [])

cells : List Row
cells =
    asks "byte 1, 1" data_file rows (ask_cell 1 1) (Ask.cell (whole (pos 100)))
    ∷ asks "byte 1, 2" data_file rows (ask_cell 1 2) (Ask.cell (letter 0))
    ∷ asks "text 2, 1" data_file rows (ask_cell 2 1) (Ask.cell (words 4 1))
    ∷ asks "text 2, 2, of its whole width" data_file rows (ask_cell 2 2) (Ask.cell (words 9 2))
    ∷ asks "int 3, 2" data_file rows (ask_cell 3 2) (Ask.cell outside)
    ∷ asks "int 3, 2 with a byte outside" (take 12 data_file) rows (ask_cell 3 2) (refused 17)
    ∷ asks "text 2, 1 up to its zero" (take 6 data_file) rows (ask_cell 2 1) (Ask.cell (words 4 1))
    ∷ asks "text 2, 1 without its zero" (take 5 data_file) rows (ask_cell 2 1) (refused 17)
    ∷ asks "a byte after an unknown type" (251 ∷ 2 ∷ 250 ∷ 100 ∷ replicate 9 0) rows (ask_cell 1 1) (refused 17)
    ∷ asks "no long string in a number" data_file rows (ask_long 1 1) (long 0 0 0)
    ∷ asks "no long string: the cell's 17 first" (take 12 data_file) rows (ask_long 3 2) (refused 17)
    ∷ asks "no words for a text, but its 17" (take 5 data_file) rows (ask_words 2 1 (7 ∷ [])) (refused 17)
    ∷ asks "no words for a text" data_file rows (ask_words 2 1 (7 ∷ [])) (plain (7 ∷ []))
    ∷ []

cells_hold : AllHold cells
unfolding cells answer_of
cells_hold = (refl, (refl, (refl, (refl, (refl, (refl, (refl, (refl, (refl, (refl, (refl, (refl, (refl, tt)))))))))))))

-- ---- label words: type at 0, data at 1, set name at 2, label blocks from 5 on

-- label blocks that end at z
abbrev words_by_lem : ℕ → Layout
words_by_lem z = lay 114 1 1 1 (0 ∷ 0 ∷ 0 ∷ 0 ∷ 0 ∷ 0 ∷ 2 ∷ 0 ∷ 0 ∷ 1 ∷ 0 ∷ 5 ∷ z ∷ 0 ∷ [])

-- a byte x whose label set is yn
abbrev asked : ℕ → List ℕ
asked x = 251 ∷ x ∷ 121 ∷ 110 ∷ 0 ∷ []

-- a block of 71 bytes: its name's first byte, and a table of 31 bytes
abbrev block : ℕ → List ℕ → List ℕ
block c t = (0 ∷ 0 ∷ 0 ∷ 31 ∷ []) ++ c ∷ 110 ∷ 0 ∷ replicate 30 9 ++ replicate 3 9 ++ t

-- 117: type at 16, data at 18, set name at 19, <lbl> at 22, name at 31; the table follows, and label blocks end 15 bytes before z
abbrev words_117 : ℕ → Layout
words_117 z = lay 117 1 1 1 (0 ∷ 0 ∷ 0 ∷ 0 ∷ 0 ∷ 0 ∷ 0 ∷ 0 ∷ 0 ∷ 12 ∷ 0 ∷ 8 ∷ z ∷ 0 ∷ [])

abbrev tagged : List ℕ
tagged = replicate 16 9 ++ 255 ∷ 250 ∷ 1 ∷ 121 ∷ 110 ∷ 0 ∷ replicate 5 9 ++ 0 ∷ 0 ∷ 0 ∷ 31 ∷ 121 ∷ 110 ∷ 0 ∷ replicate 33 9

labels : List Row
labels =
    asks "1 is yes" (asked 1 ++ block 121 (yes_no 1 2)) (words_by_lem 76) (ask_words 1 1 []) (part 69 3)
    ∷ asks "2 is no" (asked 2 ++ block 121 (yes_no 1 2)) (words_by_lem 76) (ask_words 1 1 []) (part 73 2)
    ∷ asks "3 has no label" (asked 3 ++ block 121 (yes_no 1 2)) (words_by_lem 76) (ask_words 1 1 (7 ∷ [])) (plain (7 ∷ []))
    ∷ asks "a letter has none either" (asked 102 ++ block 121 (yes_no 1 2)) (words_by_lem 76) (ask_words 1 1 (7 ∷ [])) (plain (7 ∷ []))
    ∷ asks "outside seeks nothing" (asked 128) (words_by_lem 99) (ask_words 1 1 (7 ∷ [])) (plain (7 ∷ []))
    ∷ asks "no label set" (251 ∷ 1 ∷ 0 ∷ []) (words_by_lem 99) (ask_words 1 1 (7 ∷ [])) (plain (7 ∷ []))
    ∷ asks "a label set outside" (251 ∷ 1 ∷ 121 ∷ []) (words_by_lem 99) (ask_words 1 1 (7 ∷ [])) (refused 17)
    ∷ asks "no block" (asked 1) (words_by_lem 5) (ask_words 1 1 (7 ∷ [])) (plain (7 ∷ []))
    ∷ asks "a part that ends before it starts" (asked 1) (words_by_lem 4) (ask_words 1 1 (7 ∷ [])) (plain (7 ∷ []))
    ∷ asks "the first of two blocks of a name" (asked 1 ++ block 121 (yes_no 1 2) ++ block 121 (yes_no 0 1)) (words_by_lem 147) (ask_words 1 1 []) (part 69 3)
    ∷ asks "the second block, after one of another name" (asked 1 ++ block 120 (yes_no 1 2) ++ block 121 (yes_no 0 1)) (words_by_lem 147) (ask_words 1 1 []) (part 144 2)
    ∷ asks "a block that ends after its part" (asked 1 ++ block 121 (yes_no 1 2)) (words_by_lem 75) (ask_words 1 1 []) (refused 17)
    ∷ asks "a head that ends after its part" (asked 1 ++ block 121 (yes_no 1 2)) (words_by_lem 44) (ask_words 1 1 []) (refused 17)
    ∷ asks "of a block walked over, its name's text and its counts are enough" (asked 1 ++ take 48 (block 120 (yes_no 1 2))) (words_by_lem 76) (ask_words 1 1 (7 ∷ [])) (plain (7 ∷ []))
    ∷ asks ".. and no fewer" (asked 1 ++ take 47 (block 120 (yes_no 1 2))) (words_by_lem 76) (ask_words 1 1 (7 ∷ [])) (refused 17)
    ∷ asks "a block walked over whose table is a byte longer than its counts say" (asked 1 ++ block 120 (0 ∷ 0 ∷ 0 ∷ 2 ∷ 0 ∷ 0 ∷ 0 ∷ 6 ∷ replicate 23 0) ++ block 121 (yes_no 0 1)) (words_by_lem 147) (ask_words 1 1 []) (refused 17)
    ∷ asks ".. or a byte shorter" (asked 1 ++ block 120 (0 ∷ 0 ∷ 0 ∷ 2 ∷ 0 ∷ 0 ∷ 0 ∷ 8 ∷ replicate 23 0) ++ block 121 (yes_no 0 1)) (words_by_lem 147) (ask_words 1 1 []) (refused 17)
    ∷ asks "counts that make up less than the table's length" (asked 1 ++ block 121 (0 ∷ 0 ∷ 0 ∷ 1 ∷ replicate 27 0)) (words_by_lem 76) (ask_words 1 1 []) (refused 17)
    ∷ asks ".. or more than it" (asked 1 ++ block 121 (0 ∷ 0 ∷ 0 ∷ 2 ∷ 0 ∷ 0 ∷ 0 ∷ 8 ∷ replicate 23 0)) (words_by_lem 76) (ask_words 1 1 []) (refused 17)
    ∷ asks "values out of order: the search as published" (asked 2 ++ block 121 (yes_no 2 1)) (words_by_lem 76) (ask_words 1 1 (7 ∷ [])) (part 69 3)
    ∷ asks ".. and what it misses" (asked 1 ++ block 121 (yes_no 2 1)) (words_by_lem 76) (ask_words 1 1 (7 ∷ [])) (plain (7 ∷ []))
    ∷ asks "a value that is not there" (asked 1 ++ take 57 (block 121 (yes_no 1 2))) (words_by_lem 76) (ask_words 1 1 []) (refused 17)
    ∷ asks "an offset at the text's end" (asked 1 ++ take 51 (block 121 (yes_no 1 2)) ++ 7 ∷ (0 ∷ 0 ∷ 0 ∷ 4 ∷ 0 ∷ 0 ∷ 0 ∷ 1 ∷ 0 ∷ 0 ∷ 0 ∷ 2 ∷ replicate 7 0)) (words_by_lem 76) (ask_words 1 1 []) (refused 17)
    ∷ asks "a label without its zero" (asked 2 ++ take 70 (block 121 (yes_no 1 2)) ++ 65 ∷ []) (words_by_lem 76) (ask_words 1 1 []) (refused 17)
    ∷ asks "a label with its zero, its table cut" (asked 1 ++ take 68 (block 121 (yes_no 1 2))) (words_by_lem 76) (ask_words 1 1 []) (part 69 3)
    ∷ asks "117: 1 is yes" (tagged ++ yes_no 1 2) (words_117 119) (ask_words 1 1 []) (part 91 3)
    ∷ asks "117: a block whose </lbl> ends after its part" (tagged ++ yes_no 1 2) (words_117 118) (ask_words 1 1 []) (refused 17)
    ∷ asks "where a label table stands" (asked 1 ++ block 121 (yes_no 1 2)) (words_by_lem 76) (ask_table 1) (Ask.labels (labelled 45 31))
    ∷ asks ".. in 117" (tagged ++ yes_no 1 2) (words_117 119) (ask_table 1) (Ask.labels (labelled 67 31))
    ∷ asks ".. in the second block" (asked 1 ++ block 120 (yes_no 1 2) ++ block 121 (yes_no 0 1)) (words_by_lem 147) (ask_table 1) (Ask.labels (labelled 116 31))
    ∷ asks "no label table: an empty name" (251 ∷ 1 ∷ 0 ∷ []) (words_by_lem 99) (ask_table 1) (Ask.labels unlabelled)
    ∷ asks "no label table: no block of the name" (asked 1 ++ block 120 (yes_no 1 2)) (words_by_lem 76) (ask_table 1) (Ask.labels unlabelled)
    ∷ asks "a label table of variable K + 1" (asked 1 ++ block 121 (yes_no 1 2)) (words_by_lem 76) (ask_table 2) (refused 16)
    ∷ asks "a label table's name outside" (251 ∷ 1 ∷ 121 ∷ []) (words_by_lem 99) (ask_table 1) (refused 17)
    ∷ []

labels_hold : AllHold labels
unfolding labels answer_of search_at
labels_hold =
    (refl, (refl, (refl, (refl, (refl, (refl, (refl, (refl, (refl, (refl, (refl, (refl, (refl, (refl, (refl, (refl, (refl, (refl, (refl, (refl, (refl, (refl, (refl, (refl, (refl, (refl, (refl, (refl, (refl, (refl, (refl, (refl, (refl, (refl, tt))))))))))))))))))))))))))))))))))

-- ---- long strings: 117, one strL variable, its type at 16, its cell at 18, records from 26 on

-- records that end at z
abbrev longs_by : ℕ → Layout
longs_by z = lay 117 1 1 1 (0 ∷ 0 ∷ 0 ∷ 0 ∷ 0 ∷ 0 ∷ 0 ∷ 0 ∷ 0 ∷ 12 ∷ 19 ∷ z ∷ 0 ∷ 0 ∷ [])

-- the cell (v, o)
abbrev linked : ℕ → ℕ → List ℕ
linked v o = replicate 16 9 ++ 128 ∷ 0 ∷ 0 ∷ 0 ∷ 0 ∷ v ∷ 0 ∷ 0 ∷ 0 ∷ o ∷ []

-- the record of (v, o), of a kind, with two bytes: 18 bytes
abbrev one : ℕ → ℕ → ℕ → List ℕ
one v o k = ascii "GSO" ++ 0 ∷ 0 ∷ 0 ∷ v ∷ 0 ∷ 0 ∷ 0 ∷ o ∷ k ∷ 0 ∷ 0 ∷ 0 ∷ 2 ∷ 65 ∷ 0 ∷ []

longs : List Row
longs =
    asks "a reference" (linked 1 1 ++ one 1 1 130) (longs_by 52) (ask_cell 1 1) (Ask.cell (reference 1 1))
    ∷ asks "its record" (linked 1 1 ++ one 1 1 130) (longs_by 52) (ask_long 1 1) (long 130 42 2)
    ∷ asks "the first of two records of a cell" (linked 1 1 ++ one 1 1 130 ++ one 1 1 129) (longs_by 70) (ask_long 1 1) (long 130 42 2)
    ∷ asks "the second record, after another's" (linked 1 2 ++ one 1 1 130 ++ one 1 2 129) (longs_by 70) (ask_long 1 1) (long 129 60 2)
    ∷ asks "(0, 0) means no record" (linked 0 0 ++ one 0 0 130) (longs_by 52) (ask_long 1 1) (long 0 0 0)
    ∷ asks "no record of the cell" (linked 2 1 ++ one 1 1 130) (longs_by 52) (ask_long 1 1) (refused 17)
    ∷ asks "a record that ends after its part" (linked 1 1 ++ one 1 1 130) (longs_by 51) (ask_long 1 1) (refused 17)
    ∷ asks "contents outside" (linked 1 1 ++ take 17 (one 1 1 130)) (longs_by 52) (ask_long 1 1) (refused 17)
    ∷ asks "a reference with a byte outside" (take 25 (linked 1 1)) (longs_by 52) (ask_long 1 1) (refused 17)
    ∷ []

longs_hold : AllHold longs
unfolding longs answer_of
longs_hold = (refl, (refl, (refl, (refl, (refl, (refl, (refl, (refl, (refl, tt)))))))))

-- ---- 115, and the widths of 118: one strL variable, its type at 16, its cell at 18, records from 26 on

abbrev longs_118 : ℕ → Layout
longs_118 z = lay 118 1 1 1 (0 ∷ 0 ∷ 0 ∷ 0 ∷ 0 ∷ 0 ∷ 0 ∷ 0 ∷ 0 ∷ 12 ∷ 19 ∷ z ∷ 0 ∷ 0 ∷ [])

-- the cell of v = 1, and of o = 1 with the byte x five places above
abbrev linked_118 : ℕ → List ℕ
linked_118 x = replicate 16 9 ++ 128 ∷ 0 ∷ 0 ∷ 1 ∷ x ∷ 0 ∷ 0 ∷ 0 ∷ 0 ∷ 1 ∷ []

-- the record of that cell with x = 1, with two bytes: 22 bytes
abbrev one_118 : List ℕ
one_118 = ascii "GSO" ++ 0 ∷ 0 ∷ 0 ∷ 1 ∷ 0 ∷ 0 ∷ 1 ∷ 0 ∷ 0 ∷ 0 ∷ 0 ∷ 1 ∷ 130 ∷ 0 ∷ 0 ∷ 0 ∷ 2 ∷ 65 ∷ 0 ∷ []

wide_rows : List Row
wide_rows =
    asks "115 is read as 114 is" (replicate 10 9 ++ ascii "ab" ++ 0 ∷ []) (lay 115 1 0 0 zeros) ask_label (part 10 2)
    ∷ asks "119 is not read" (replicate 400 0) (lay 119 1 1 0 zeros) ask_label (refused 17)
    ∷ asks "label: its length in 2 bytes" (replicate 98 9 ++ 1 ∷ 1 ∷ replicate 257 65) (lay 118 1 0 0 zeros) ask_label (part 100 257)
    ∷ asks "label: .. in the file's byte order" (replicate 98 9 ++ 1 ∷ 0 ∷ 65 ∷ []) (lay 118 2 0 0 zeros) ask_label (part 100 1)
    ∷ asks "label, a byte short" (replicate 98 9 ++ 1 ∷ 1 ∷ replicate 256 65) (lay 118 1 0 0 zeros) ask_label (refused 17)
    ∷ asks "stamp: its length in 1 byte" (replicate 98 9 ++ 0 ∷ 2 ∷ 7 ∷ 7 ∷ replicate 19 9 ++ 1 ∷ 65 ∷ []) (lay 118 1 0 0 zeros) ask_stamp (part 122 1)
    ∷ asks "name 2 stands 129 bytes after name 1" (replicate 10 9 ++ replicate 129 0 ++ 65 ∷ 0 ∷ []) (lay 118 1 2 0 zeros) (ask_name 2) (part 139 1)
    ∷ asks "format 2 stands 57 bytes after format 1" (replicate 9 9 ++ replicate 57 0 ++ ascii "%9s" ++ 0 ∷ []) (lay 118 1 2 0 zeros) (ask_format 2) (part 66 3)
    ∷ asks "label-set name 2" (replicate 19 9 ++ replicate 129 0 ++ 65 ∷ 0 ∷ []) (lay 118 1 2 0 zeros) (ask_set 2) (part 148 1)
    ∷ asks "variable label 2" (replicate 17 9 ++ replicate 321 0 ++ 65 ∷ 0 ∷ []) (lay 118 1 2 0 zeros) (ask_var_label 2) (part 338 1)
    ∷ asks "a reference: v in 2 bytes, o in 6" (linked_118 1 ++ one_118) (longs_118 56) (ask_cell 1 1) (Ask.cell (reference 1 1099511627777))
    ∷ asks "its record: v in 4 bytes, o in 8" (linked_118 1 ++ one_118) (longs_118 56) (ask_long 1 1) (long 130 46 2)
    ∷ asks "o differs in a high byte" (linked_118 2 ++ one_118) (longs_118 56) (ask_long 1 1) (refused 17)
    ∷ []

wide_hold : AllHold wide_rows
unfolding wide_rows answer_of
wide_hold = (refl, (refl, (refl, (refl, (refl, (refl, (refl, (refl, (refl, (refl, (refl, (refl, (refl, tt)))))))))))))

-- ---- an accepted file with its own layout: P14

abbrev p14_layout : Layout
p14_layout = lay 117 1 2 1 (0 ∷ 153 ∷ 276 ∷ 313 ∷ 400 ∷ 427 ∷ 544 ∷ 649 ∷ 846 ∷ 881 ∷ 900 ∷ 915 ∷ 944 ∷ 956 ∷ [])

p14_rows : List Row
p14_rows =
    asks "label" p14 p14_layout ask_label (part 95 0)
    ∷ asks "stamp" p14 p14_layout ask_stamp (part 115 17)
    ∷ shows "the stamp's bytes" p14 p14_layout ask_stamp (ascii "10 Jul 2013 14:23")
    ∷ asks "type 1" p14 p14_layout (ask_type 1) (typed float_type)
    ∷ asks "type 2" p14 p14_layout (ask_type 2) (typed int_type)
    ∷ asks "name 2" p14 p14_layout (ask_name 2) (part 356 5)
    ∷ shows "the bytes of name 1" p14 p14_layout (ask_name 1) (ascii "myfloat")
    ∷ shows "the bytes of name 2" p14 p14_layout (ask_name 2) (ascii "myint")
    ∷ shows "the bytes of name 3" p14 p14_layout (ask_name 3) []
    ∷ asks "sort place 1" p14 p14_layout (ask_sort 1) (count 0)
    ∷ asks "column 2" p14 p14_layout (ask_column 2) (column int_type 4 6)
    ∷ asks "cell 1, 1" p14 p14_layout (ask_cell 1 1) (Ask.cell (single (of_bits binary32 0)))
    ∷ asks "cell 2, 1" p14 p14_layout (ask_cell 2 1) (Ask.cell (whole (pos 0)))
    ∷ asks "no label set 2" p14 p14_layout (ask_words 2 1 (48 ∷ [])) (plain (48 ∷ []))
    ∷ shows "the lent text" p14 p14_layout (ask_words 2 1 (48 ∷ [])) (48 ∷ [])
    ∷ []

p14_hold : AllHold p14_rows
unfolding p14_rows p14 answer_of
p14_hold = (refl, (refl, (refl, (refl, (refl, (refl, (refl, (refl, (refl, (refl, (refl, (refl, (refl, (refl, (refl, tt)))))))))))))))
