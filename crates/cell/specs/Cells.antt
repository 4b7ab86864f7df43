-- What the code's cells and label keys mean, and what reading a cell asks and promises.
use Rattle.std.specs.Prelude.{◌≡◌, ℕ, ◌+◌, ◌≤◌, true, List, length, Option, Some, None, ℤ}
use Rattle.format.specs.Data.{cell_width}
use Rattle.format.specs.Cells.{Says, whole, single, double, letter, between, outside, words, reference, Key, nothing, seeks}
use Rattle.codes.specs.declared.Kind.{Kind}
use Rattle.codes.specs.Fields.{known, type_of}
use Rattle.cell.specs.declared.Cell.{Cell}
use Rattle.cell.specs.declared.Cell.TheVariants.{Whole, Single, Double, Letter, Between, Outside, Text, Reference}

-- what a cell says
abbrev pub says : Cell → Says
says (Whole n) = whole n
says (Single x) = single x
says (Double x) = double x
says (Letter k) = letter k
says Between = between
says Outside = outside
says (Text p n) = words p n
says (Reference v o) = reference v o

-- the cell that says it
abbrev pub cell_by : Says → Cell
cell_by (whole n) = Whole n
cell_by (single x) = Single x
cell_by (double x) = Double x
cell_by (letter k) = Letter k
cell_by between = Between
cell_by outside = Outside
cell_by (words p n) = Text p n
cell_by (reference v o) = Reference v o

-- a letter is at most 26
abbrev pub Lettered : Says → Type 0
Lettered (whole n) = Unit
Lettered (single x) = Unit
Lettered (double x) = Unit
Lettered (letter k) = k ≤ 26
Lettered between = Unit
Lettered outside = Unit
Lettered (words p n) = Unit
Lettered (reference v o) = Unit

-- the cell of the kind and width at place p of the file f can be read: the kind is known, v and o have at most 8 bytes, and the
-- cell's bytes are in the file
pub record HasCell (f : List ℕ) (p : ℕ) (k : Kind) (w vw ow : ℕ) : Type 0 where
  pub kind : known k ≡ true
  pub variable : vw ≤ 8
  pub observation : ow ≤ 8
  pub room : p + cell_width vw ow (type_of k w) ≤ length f

-- the cell c says s, and a letter is at most 26
pub record IsCell (s : Says) (c : Cell) : Type 0 where
  pub is : says c ≡ s
  pub letters : Lettered (says c)

-- what a label key seeks
abbrev pub sought : Option ℤ → Key
sought (Some n) = seeks n
sought None = nothing
