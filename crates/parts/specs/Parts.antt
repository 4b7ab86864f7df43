-- Which bytes of a file an answer names.
use Rattle.std.specs.Prelude.{◌≡◌, ℕ, List, [], Option, Some, None}
use Rattle.format.specs.Dta.{Layout}
use Rattle.questions.specs.Ask.{answer_of, ask_long, slice, shown}
use Rattle.asking.specs.declared.Question.{Question}
use Rattle.asking.specs.Asking.{question_by}
use Rattle.answers.specs.declared.Part.{Part}

-- the bytes of a part, if there is one
abbrev pub bytes_of : List ℕ → Option Part → List ℕ
bytes_of f None = []
bytes_of f (Some p) = slice f p.at p.len

-- s is where the bytes stand that g shows of any file, none where it shows none
abbrev pub Names : (List ℕ → List ℕ) → Option Part → Type 0
Names g s = (f : List ℕ) → bytes_of f s ≡ g f

-- the bytes that the answer to the question q names; none where a plain text would be shown
abbrev pub text_of : List ℕ → Layout → Question → List ℕ
text_of f l q = shown f (answer_of f l (question_by q))

-- the contents of the long string of cell i, j
abbrev pub long_of : List ℕ → Layout → ℕ → ℕ → List ℕ
long_of f l i j = shown f (answer_of f l (ask_long i j))
