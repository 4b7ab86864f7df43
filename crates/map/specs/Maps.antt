-- What judging and comparing the map promises.
use Rattle.std.specs.Prelude.{List, Bool, ℕ, Result}
use Rattle.format.specs.Number.{Order}
use Rattle.format.specs.Grammar.{number, read_times}
use Rattle.format.specs.Variables.{file_map}
use Rattle.refusal.specs.declared.Refusal.{Refusal}
use Rattle.section.specs.Judged.{Judged}

-- r is the answer for the map at place p of f; it is the same in either byte order
abbrev pub MapJudged : Bool → List ℕ → ℕ → Result ℕ Refusal → Type 0
MapJudged t f p r = (o : Order) → Judged (file_map t o) f p r

-- the fourteen positions at p
unfoldable pub positions_at : Order → List ℕ → ℕ → List ℕ
positions_at o f p = read_times (number o 8) 14 f p
