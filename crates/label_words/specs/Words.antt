-- Label sets and label words, as code finds them.
use Rattle.std.specs.Prelude.{ℕ, List, ℤ, Option, None, Result, Ok, Err}
use Rattle.format.specs.Number.{Order}
use Rattle.format.specs.Edition.{Edition}
use Rattle.format.specs.Cells.{Key, nothing, seeks, key_of}
use Rattle.format.specs.Dta.{Layout}
use Rattle.questions.specs.Ask.{Answer, or_refused, answer_in, ask_table}
use Rattle.cell.specs.Cells.{says}
use Rattle.cell.specs.declared.Cell.{Cell}
use Rattle.refusal.specs.declared.Refusal.{Refusal}
use Rattle.answers.specs.declared.Part.{Part}
use Rattle.walks.specs.declared.LabelSet.{LabelSet}
use Rattle.walks.specs.Answers.{words_told}
use Rattle.walks.specs.Walks.{set_says}

-- the label table of variable i, in an edition and a byte order that are read
unfoldable pub set_said : Edition → Order → List ℕ → Layout → ℕ → Answer
set_said e o f l i = or_refused (answer_in e o f l (ask_table i))

-- the words for the value q in a label set: the set's refusal, or the answer, whose refusal is told as t says
abbrev pub said_told : {E : Type 0} → (Refusal → E) → Order → List ℕ → Result (Option LabelSet) E → ℤ → Result (Option Part) E
said_told t o f (Ok s) q = words_told t (set_says o f s q)
said_told t o f (Err e) q = Err e

abbrev pub said_in : Order → List ℕ → Result (Option LabelSet) Refusal → ℤ → Result (Option Part) Refusal
said_in o f s q = said_told (λ r. r) o f s q

-- the answer for what is sought, g being that for a value: the plain text where nothing is
abbrev pub sought_words : {E : Type 0} → (ℤ → Result (Option Part) E) → Key → Result (Option Part) E
sought_words g nothing = Ok None
sought_words g (seeks q) = g q

-- the answer for a cell that says c: its refusal, or that for what it seeks
abbrev pub cell_words : {E : Type 0} → (ℤ → Result (Option Part) E) → Result Cell E → Result (Option Part) E
cell_words g (Ok c) = sought_words g (key_of (says c))
cell_words g (Err e) = Err e
