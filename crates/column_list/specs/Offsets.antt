-- The offsets of all variables' cells in a row.
use Rattle.std.specs.Prelude.{◌≡◌, ℕ, ◌-◌, ◌≤◌, ◌<◌, List, length, get_or, Result, IfOk, IfErr}
use Rattle.format.specs.Dta.{Layout}
use Rattle.questions.specs.Ask.{answer_of, ask_column}
use Rattle.refusal.specs.declared.Refusal.{Refusal}
use Rattle.columns.specs.declared.Column.{Column}
use Rattle.columns.specs.Columns.{column_by}

-- u has what t has from place n on
abbrev pub Kept : ℕ → List ℕ → List ℕ → Type 0
Kept n t u = (k : ℕ) → n ≤ k → get_or u k 0 ≡ get_or t k 0

-- t has zeros up to place n where r is a refusal
abbrev pub Cleared : ℕ → List ℕ → Result Column Refusal → Type 0
Cleared n t r = IfErr r (λ e. (k : ℕ) → k < n → get_or t k 0 ≡ 0)

-- r is where the cells of variable 1 stand, and t lists the offsets of the first 32,768 variables, where they are not refused
pub record Offsets (f : List ℕ) (l : Layout) (t : List ℕ) (r : Result Column Refusal) : Type 0 where
  pub long : length t ≡ 32768
  pub first : r ≡ column_by (answer_of f l (ask_column 1))
  pub each : (i : ℕ) → 1 ≤ i → i ≤ l.variables → i ≤ 32768 → IfOk (column_by (answer_of f l (ask_column i))) (λ c. get_or t (i - 1) 0 ≡ c.offset)
