-- A column with the edition and byte order that its cells are read with.
use Rattle.std.specs.Prelude.{ℕ, zero, suc, List, [], ◌++◌, true, Result, Ok, Err}
use Rattle.format.specs.Dta.{Layout}
use Rattle.questions.specs.Ask.{answer_of, ask_column}
use Rattle.refusal.specs.declared.Refusal.{Refusal}
use Rattle.reading.specs.declared.Opened.{Opened}
use Rattle.reading.specs.Reads.{edition_in}
use Rattle.answers.specs.Answers.{opened_if}
use Rattle.columns.specs.declared.Column.{Column}
use Rattle.columns.specs.Columns.{column_by}
use Rattle.cell_runs.specs.declared.Held.{Held}

-- both, or the first refusal
abbrev pub both : Result Opened Refusal → Result Column Refusal → Result Held Refusal
both (Err d) c = Err d
both (Ok o) (Err d) = Err d
both (Ok o) (Ok c) = Ok (record { o = o; c = c })

-- the column c with what the layout is read with
abbrev pub held_by : Layout → Result Column Refusal → Result Held Refusal
held_by l c = both (opened_if true (edition_in l.release l.order)) c

-- .. the column of variable i
abbrev pub held : List ℕ → Layout → ℕ → Result Held Refusal
held f l i = held_by l (column_by (answer_of f l (ask_column i)))

-- the list x, n times
unfoldable pub times : ℕ → List ℕ → List ℕ
times zero x = []
times (suc n) x = times n x ++ x
