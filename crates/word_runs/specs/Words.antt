-- The label words of a column.
use Rattle.std.specs.Prelude.{◌≡◌, ℕ, ◌+◌, ◌≤◌, List, [], get_or, cond, Option, None, Some, IfSome, Result, IfOk}
use Rattle.format.specs.Dta.{Layout}
use Rattle.questions.specs.Ask.{Question, answer_of, ask_column, ask_table, ask_words}
use Rattle.refusal.specs.declared.Refusal.{Refusal}
use Rattle.columns.specs.declared.Column.{Column}
use Rattle.columns.specs.Columns.{column_by}
use Rattle.walks.specs.declared.LabelSet.{LabelSet}
use Rattle.walks.specs.Answers.{set_by, lenless}
use Rattle.text_ends.specs.Ends.{Ends}
use Rattle.cell_runs.specs.declared.Held.{Held}
use Rattle.word_runs.specs.declared.Area.{Area}
use Rattle.word_runs.specs.declared.Listing.{Listing}
use Rattle.word_runs.specs.Areas.{InFile}

-- the questions for the words of variable i in observation j, j + 1, ..
abbrev pub words_down : ℕ → ℕ → ℕ → Question
words_down i j m = ask_words i (j + m) []

-- s is the label set of variable i, but for the table's length, which words don't need
abbrev pub SetGiven : List ℕ → Layout → ℕ → Result (Option LabelSet) Refusal → Type 0
SetGiven f l i s = lenless s ≡ lenless (set_by (answer_of f l (ask_table i)))

-- the tag before the first row has n bytes, where the column is told
abbrev pub GapGiven : Result Held Refusal → ℕ → Type 0
GapGiven h n = IfOk h (λ x. n ≡ cond x.o.e.tagged 6 0)

-- c is where the cells of variable i stand, and s is its label set
pub record ColumnGiven (f : List ℕ) (l : Layout) (i : ℕ) (c : Result Column Refusal) (s : Result (Option LabelSet) Refusal) : Type 0 where
  pub column : c ≡ column_by (answer_of f l (ask_column i))
  pub set : SetGiven f l i s

-- of the text area that x tells of, which lies in the file, the list t has the ends of the bytes that x says are listed, where these are some
pub record Lists (f t : List ℕ) (x : Listing) : Type 0 where
  pub area : InFile f x.area
  pub upto : x.had ≤ x.area.len
  pub ends : (x.had ≡ 0 → ⊥) → Ends f x.area.at x.had 0 t

abbrev pub ListingFits : List ℕ → List ℕ → Option Listing → Type 0
ListingFits f t x = IfSome x (Lists f t)

-- where no ends are listed, no more text bytes were gone through than the area has
abbrev pub Cheap : Option Listing → Type 0
Cheap x = IfSome x (λ y. y.had ≡ 0 → y.spent ≤ y.area.len)

-- how many bytes have their ends listed
abbrev pub had_of : Option Listing → ℕ
had_of (Some y) = y.had
had_of None = 0

-- where no ends are listed, the list t begins with 0
abbrev pub Unlisted : Option Listing → List ℕ → Type 0
Unlisted x t = had_of x ≡ 0 → get_or t 0 0 ≡ 0

-- all three, of what is listed between two words
pub record Listed (f t : List ℕ) (x : Option Listing) : Type 0 where
  pub fits : ListingFits f t x
  pub cheap : Cheap x
  pub bare : Unlisted x t

-- r fits wherever x does, of the area g
abbrev pub Resumed : Option Listing → Option Area → Option Listing → Type 0
Resumed x g r = (f t : List ℕ) → ListingFits f t x → IfSome g (InFile f) → ListingFits f t r
