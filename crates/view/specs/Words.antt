-- What a view shows for a cell.
use Rattle.std.specs.Prelude.{ℕ, List}
use Rattle.format.specs.Dta.{Layout}
use Rattle.questions.specs.Ask.{answer_of, ask_words, shown}

-- the label words of cell i, j, or the plain text t
abbrev pub words_of : List ℕ → List ℕ → Layout → ℕ → ℕ → List ℕ
words_of f t l i j = shown f (answer_of f l (ask_words i j t))
