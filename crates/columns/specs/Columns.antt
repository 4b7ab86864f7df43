-- Where a variable's cells stand, as code has it.
use Rattle.std.specs.Prelude.{ℕ, ◌+◌, List, [], ◌∷◌, Bool, cond, leb, Result, Ok, Err}
use Rattle.format.specs.Number.{Order}
use Rattle.format.specs.Variables.{VarType}
use Rattle.codes.specs.Fields.{field_by}
use Rattle.questions.specs.Readings.{Try, bind, got}
use Rattle.questions.specs.Ask.{Answer, refused, count, mark, typed, part, column, labels, cell, plain, long, types_in}
use Rattle.columns.specs.declared.Column.{Column}
use Rattle.refusal.specs.declared.Refusal.{Refusal}
use Rattle.refusal.specs.declared.Refusal.TheVariants.{NotReadable}
use Rattle.refusal.specs.Refusals.{refusal_by}

-- n, or the greatest number of 64 bits where n is greater: only a file that no machine holds has a row that wide
abbrev pub capped : ℕ → ℕ
capped n = cond (leb n 18446744073709551615) n 18446744073709551615

-- the column of an answer: kind and width of the variable's cells, their offset in a row, the width of a row; or the refusal
abbrev pub column_by : Answer → Result Column Refusal
column_by (refused c) = Err (refusal_by c)
column_by (count n) = Err NotReadable
column_by (mark b) = Err NotReadable
column_by (typed t) = Err NotReadable
column_by (part p n) = Err NotReadable
column_by (column t p n) = Ok (record { field = field_by t; offset = capped p; row = capped n })
column_by (labels s) = Err NotReadable
column_by (cell s) = Err NotReadable
column_by (plain t) = Err NotReadable
column_by (long k p n) = Err NotReadable

-- the widths of these types' cells, added up
abbrev pub widths : List VarType → ℕ
widths [] = 0
widths (x ∷ l) = (field_by x).width + widths l

-- .. of the n types at p
unfoldable pub widths_in : Bool → Order → List ℕ → ℕ → ℕ → Try ℕ
widths_in t o f n p = bind (types_in t o f n p) λ l. got (capped (widths l))
