-- The answers about a cell.
use Rattle.std.specs.Prelude.{◌≡◌, ℕ, ◌+◌, ◌-◌, ◌*◌, ◌≤◌, List, Bool, true, false, cond, length, Result, Ok, Err, IfOk}
use Rattle.format.specs.Number.{Order}
use Rattle.format.specs.Edition.{Edition}
use Rattle.format.specs.Variables.{VarType, text_type}
use Rattle.format.specs.Data.{cell_width}
use Rattle.codes.specs.declared.Kind.{Kind}
use Rattle.codes.specs.declared.Kind.TheVariants.{Text, StrL, Byte, Int, Long, Float, Double, Unknown}
use Rattle.codes.specs.Fields.{known, type_of}
use Rattle.cell.specs.declared.Cell.{Cell}
use Rattle.refusal.specs.declared.Refusal.{Refusal}
use Rattle.refusal.specs.declared.Refusal.TheVariants.{NotThere, NotReadable}
use Rattle.refusal.specs.Refusals.{number_of, refusal_by}
use Rattle.cell.specs.Cells.{cell_by}
use Rattle.questions.specs.Readings.{Try, none, got, bind}
use Rattle.questions.specs.Ask.{Answer, refused, count, mark, typed, part, column, labels, cell, plain, long, or_refused, among, cell_at}
use Rattle.reading.specs.Reads.{place_in}

-- the content of a cell, of an answer, or the refusal, told as t says
abbrev pub said_told : {E : Type 0} → (Refusal → E) → Answer → Result Cell E
said_told t (refused c) = Err (t (refusal_by c))
said_told t (count n) = Err (t NotReadable)
said_told t (mark b) = Err (t NotReadable)
said_told t (typed k) = Err (t NotReadable)
said_told t (part p n) = Err (t NotReadable)
said_told t (column k p n) = Err (t NotReadable)
said_told t (labels s) = Err (t NotReadable)
said_told t (cell s) = Ok (cell_by s)
said_told t (plain x) = Err (t NotReadable)
said_told t (long k p n) = Err (t NotReadable)

-- .. as it is
abbrev pub said_by : Answer → Result Cell Refusal
said_by a = said_told (λ r. r) a

-- the kind is a text
abbrev pub is_text : Kind → Bool
is_text Text = true
is_text StrL = false
is_text Byte = false
is_text Int = false
is_text Long = false
is_text Float = false
is_text Double = false
is_text Unknown = false

-- the answer for the cell of a type at p
unfoldable pub cell_said : Edition → Order → List ℕ → VarType → ℕ → Answer
cell_said e o f t p = or_refused (bind (cell_at e o f t p) λ s. got (cell s))

-- r is the answer for the text of w bytes at p, in any edition and order
abbrev pub TextSaid : ℕ → List ℕ → ℕ → Result Cell Refusal → Type 0
TextSaid w f p r = (e : Edition) (o : Order) → r ≡ said_by (cell_said e o f (text_type w) p)

-- the kind is known, the width is that of its cells, and v and o have at most 8 bytes
pub record HasKind (k : Kind) (w vw ow : ℕ) : Type 0 where
  pub kind : known k ≡ true
  pub width : w ≡ cell_width vw ow (type_of k w)
  pub variable : vw ≤ 8
  pub observation : ow ≤ 8

-- r is the answer for the cell of a type at p, in any edition with these widths of v and o
abbrev pub CellSaid : ℕ → ℕ → Order → List ℕ → VarType → ℕ → Result Cell Refusal → Type 0
CellSaid vw ow o f t p r = (e : Edition) → e.v_width ≡ vw → e.o_width ≡ ow → r ≡ said_by (cell_said e o f t p)

-- ---- rows

-- the row at a place that is in the file
abbrev pub row_by : Try ℕ → Result ℕ Refusal
row_by none = Err NotReadable
row_by (got p) = Ok p

-- row j from p on, where w is the width of a row or the refusal of its column, of which 16 and 17 are known; n is the number of such a refusal
abbrev pub row_at : {E : Type 0} → (E → ℕ) → List ℕ → Result ℕ E → ℕ → ℕ → Result ℕ Refusal
row_at n f (Ok w) j p = row_by (place_in f (p + (j - 1) * w))
row_at n f (Err d) j p = Err (refusal_by (n d))

-- .. of k
unfoldable pub row_numbered : {E : Type 0} → (E → ℕ) → List ℕ → Result ℕ E → ℕ → ℕ → ℕ → Result ℕ Refusal
row_numbered n f w j k p = cond (among j k) (row_at n f w j p) (Err NotThere)

abbrev pub row_in : List ℕ → Result ℕ Refusal → ℕ → ℕ → ℕ → Result ℕ Refusal
row_in f w j k p = row_numbered number_of f w j k p

-- the row's cells can be read: it starts in the file, and their kind is known
pub record RowRead {E : Type 0} (f : List ℕ) (x : Result ℕ E) (k : Kind) (w vw ow : ℕ) : Type 0 where
  pub inside : IfOk x (λ p. p ≤ length f)
  pub kind : IfOk x (λ p. HasKind k w vw ow)

-- the cell of a type that stands n bytes into the row: the row's refusal, or what the cell says, whose refusal is told as t says
abbrev pub cell_told : {E : Type 0} → (Refusal → E) → Edition → Order → List ℕ → Result ℕ E → VarType → ℕ → Result Cell E
cell_told t e o f (Ok p) k n = said_told t (cell_said e o f k (p + n))
cell_told t e o f (Err d) k n = Err d

abbrev pub said_in : Edition → Order → List ℕ → Result ℕ Refusal → VarType → ℕ → Result Cell Refusal
said_in e o f x k n = cell_told (λ r. r) e o f x k n

-- r is that, in any edition with these widths of v and o
abbrev pub RowTold : {E : Type 0} → (Refusal → E) → ℕ → ℕ → Order → List ℕ → Result ℕ E → VarType → ℕ → Result Cell E → Type 0
RowTold t vw ow o f x k n r = (e : Edition) → e.v_width ≡ vw → e.o_width ≡ ow → r ≡ cell_told t e o f x k n

abbrev pub RowSaid : ℕ → ℕ → Order → List ℕ → Result ℕ Refusal → VarType → ℕ → Result Cell Refusal → Type 0
RowSaid vw ow o f x k n r = RowTold (λ r. r) vw ow o f x k n r
