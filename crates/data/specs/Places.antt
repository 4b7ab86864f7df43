-- Where the data's cells stand, counted from the bytes of the type list. Variables and observations are counted from 0.
use Rattle.std.specs.Prelude.{◌≡◌, ℕ, zero, suc, ◌+◌, ◌*◌, ◌≤◌, List, Bool, length, Result}
use Rattle.format.specs.Number.{Order, num}
use Rattle.format.specs.Grammar.{read_times, judge_times}
use Rattle.format.specs.Edition.{code_width}
use Rattle.format.specs.Variables.{type_code}
use Rattle.format.specs.Data.{observations}
use Rattle.codes.specs.declared.Field.{Field}
use Rattle.codes.specs.Fields.{field_of}
use Rattle.refusal.specs.declared.Refusal.{Refusal}
use Rattle.section.specs.Judged.{Judged}

module _ (t : Bool) (o : Order) (f : List ℕ) (tp : ℕ) where
  -- the type code of variable i, with the type list at tp
  abbrev pub code_at : ℕ → ℕ
  code_at i = num o (code_width t) f (tp + i * code_width t)

  -- its cells' kind and width
  unfoldable pub field_at : ℕ → Field
  field_at i = field_of t (code_at i)

  -- the sum of the widths before variable i: its offset in a row
  abbrev pub off_at : ℕ → ℕ
  off_at zero = 0
  off_at (suc i) = off_at i + (field_at i).width

  -- where the cell of variable i in observation j stands, with k variables and the first row at p
  abbrev pub place : ℕ → ℕ → ℕ → ℕ → ℕ
  place k p i j = p + j * off_at k + off_at i

  -- the k types at tp were judged right
  pub record Typed (k : ℕ) : Type 0 where
    pub few : k ≤ 32767
    pub inside : tp + k * code_width t ≤ length f
    pub right : judge_times (type_code t o) k f tp ≡ 0

  -- r is the answer for n observations of these k variables at p, where a strL cell has 8 bytes
  abbrev pub DataJudged : ℕ → ℕ → ℕ → Result ℕ Refusal → Type 0
  DataJudged k n p r = (vw ow : ℕ) → vw + ow ≡ 8 → Judged (observations t o vw ow (read_times (type_code t o) k f tp) n) f p r
