-- What the answers about the header promise.
use Rattle.std.specs.Prelude.{◌≡◌, ℕ, ◌+◌, List, Result}
use Rattle.format.specs.Number.{Order}
use Rattle.format.specs.Dta.{Layout}
use Rattle.questions.specs.Readings.{Try, bind, number_in}
use Rattle.questions.specs.Ask.{Question, Answer, answer_of, counted_part, stamp_gap}
use Rattle.refusal.specs.declared.Refusal.{Refusal}
use Rattle.answers.specs.Answers.{number_by}

-- r is the number that the layout l answers the question q with, whatever the file is
abbrev pub ForEveryFile : Layout → Question → Result ℕ Refusal → Type 0
ForEveryFile l q r = (f : List ℕ) → r ≡ number_by (answer_of f l q)

-- the stamp of a tagged edition, with the label's length, of w bytes, at p
abbrev pub new_stamp : Order → ℕ → List ℕ → ℕ → Try Answer
new_stamp o w f p = bind (number_in o w f p) λ n. counted_part o 1 f (p + w + n + stamp_gap)
