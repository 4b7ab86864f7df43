-- The observations of a source, and what is put for them.
use Rattle.std.specs.Prelude.{◌≡◌, ℕ, ◌+◌, ◌*◌, ◌≤◌, List, Bool, length}
use Rattle.format.specs.Slot.{fill}
use Rattle.format.specs.Number.{order_by}
use Rattle.format.specs.Grammar.{Sect, all_slots, read_times, row}
use Rattle.format.specs.Variables.{VarType, type_code}
use Rattle.format.specs.Data.{Cell, cell}
use Rattle.data.specs.Places.{off_at, Typed}
use Rattle.write_data.specs.declared.Source.{Source}
use Rattle.write_data.specs.declared.Forms.{Forms}

-- how a source's cells are read, and how they are written
abbrev pub forms : Source → Bool → ℕ → ℕ → Forms
forms g m v o = record { msf = g.msf; v = g.vwidth; o = g.owidth; tomsf = m; tov = v; too = o }

-- a cell as it is read, and as it is written
abbrev pub from : Forms → VarType → Sect Cell
from h = cell (order_by h.msf) h.v h.o

abbrev pub to : Forms → VarType → Sect Cell
to h = cell (order_by h.tomsf) h.tov h.too

-- a reference has 8 bytes in both forms
pub record Eights (h : Forms) : Type 0 where
  pub before : h.v + h.o ≡ 8
  pub after : h.tov + h.too ≡ 8

-- what is put, in the form T, for what c sections S at q say
abbrev pub put_times : {A : Type 0} → Sect A → Sect A → ℕ → List ℕ → ℕ → List ℕ
put_times S T c f q = fill (all_slots T (read_times S c f q))

module _ (f : List ℕ) (g : Source) where
  -- the width of a row
  abbrev pub row_span : ℕ
  row_span = off_at g.tagged (order_by g.msf) f g.types g.k

  -- the variables' types
  abbrev pub types_of : List VarType
  types_of = read_times (type_code g.tagged (order_by g.msf)) g.k f g.types

  -- the types are right, the rows are there, and a reference has 8 bytes
  pub record Sourced : Type 0 where
    pub typed : Typed g.tagged (order_by g.msf) f g.types g.k
    pub inside : g.p + g.n * row_span ≤ length f
    pub few : g.n ≤ 2147483647
    pub eight : g.vwidth + g.owidth ≡ 8

  -- what is put for the row at q, and for all rows
  unfoldable pub row_bytes : Forms → ℕ → List ℕ
  row_bytes h q = fill ((row (to h) types_of).slots ((row (from h) types_of).read f q))

  unfoldable pub rows_bytes : Forms → List ℕ
  rows_bytes h = put_times (row (from h) types_of) (row (to h) types_of) g.n f g.p
