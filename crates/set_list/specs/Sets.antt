-- The label sets of an accepted file, as numbers.
use Rattle.std.specs.Prelude.{ℕ, zero, suc, ◌+◌, ◌*◌, List, [], ◌∷◌, ◌++◌, Bool, length, get_or}
use Rattle.format.specs.Number.{Order}
use Rattle.format.specs.Edition.{opening, n_lbl, n_value_labels}
use Rattle.format.specs.Labels.{Table, LabelBlock, block}
use Rattle.format.specs.Dta.{edition_of, order_of, dataset_of}
use Rattle.format.specs.Dead.{content_at}
use Rattle.questions.specs.Ask.{head_size}
use Rattle.questions.specs.Fact.{label_at}

-- entry m of a table whose text area stands at p: its value, as 32 bits, and place and length of its text
abbrev pub entry_numbers : Table → ℕ → ℕ → List ℕ
entry_numbers t p m = get_or t.values m 0 ∷ (p + get_or t.offsets m 0) ∷ length (label_at t m) ∷ []

-- the first n entries
abbrev pub entries_to : Table → ℕ → ℕ → List ℕ
entries_to t p zero = []
entries_to t p (suc n) = entries_to t p n ++ entry_numbers t p n

-- a label set whose name, of k bytes, stands at a, and whose table, of n entries, stands at p: place and length of the name, how many entries it has, and
-- the entries; the text area stands after n offsets and n values
abbrev pub set_numbers : ℕ → ℕ → ℕ → ℕ → Table → List ℕ
set_numbers a k p n t = a ∷ k ∷ n ∷ entries_to t (p + 8 + n * 4 + n * 4) n

-- in a block that stands at p: where its name stands; where its table stands, with the name in w bytes
abbrev pub name_place : Bool → ℕ → ℕ
name_place t p = p + length (opening t n_lbl) + 4

abbrev pub table_place : Bool → ℕ → ℕ → ℕ
table_place t w p = p + length (opening t n_lbl) + head_size w

-- the label set of a block that stands at p
abbrev pub block_numbers : Bool → ℕ → ℕ → LabelBlock → List ℕ
block_numbers t w p b = set_numbers (name_place t p) (length b.set_name) (table_place t w p) (length b.entries.offsets) b.entries

-- those of blocks that stand one after another from p on
abbrev pub sets_from : Bool → Order → ℕ → ℕ → List LabelBlock → List ℕ
sets_from t o w p [] = []
sets_from t o w p (b ∷ l) = block_numbers t w p b ++ sets_from t o w (p + (block t o w).size b) l

-- those of the file f
unfoldable pub sets_of : List ℕ → List ℕ
sets_of f = sets_from (edition_of f).tagged (order_of f) (edition_of f).name_width (content_at f 11 n_value_labels) (dataset_of f).label_blocks
