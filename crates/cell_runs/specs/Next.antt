-- From a column to the next, by its type code.
use Rattle.std.specs.Prelude.{ℕ, ◌+◌, ◌*◌, ◌≤◌, List, Bool, length}
use Rattle.format.specs.Edition.{code_width}
use Rattle.codes.specs.declared.Field.{Field}
use Rattle.columns.specs.declared.Column.{Column}
use Rattle.columns.specs.Columns.{capped}

-- the cells of the kind and width x, which stand after those of c
abbrev pub column_after : Field → Column → Column
column_after x c = record { field = x; offset = capped (c.offset + c.field.width); row = c.row }

-- the type code of the variable after variable i is in the file, with the type codes at p
abbrev pub NextInside : Bool → List ℕ → ℕ → ℕ → Type 0
NextInside t f p i = p + i * code_width t + code_width t ≤ length f
