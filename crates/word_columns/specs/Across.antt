-- The label words of several variables.
use Rattle.std.specs.Prelude.{ℕ, ◌-◌, ◌*◌, List, [], ◌∷◌, cond, length, get_or, ltb, Result}
use Rattle.format.specs.Dta.{Layout}
use Rattle.questions.specs.Ask.{Question}
use Rattle.refusal.specs.declared.Refusal.{Refusal}
use Rattle.coded.specs.Coded.{following, least, Tells}
use Rattle.word_runs.specs.Words.{words_down}

-- the questions for the words of the variables of the list v in h observations from j on, one variable after another; those past the list are of variable 0
unfoldable pub words_across : List ℕ → ℕ → ℕ → ℕ → Question
words_across [] j h m = words_down 0 j m
words_across (i ∷ v) j h m = cond (ltb m h) (words_down i j m) (words_across v j h (m - h))

-- so many observations from j on, at most those that there are
abbrev pub rows_from : Layout → ℕ → ℕ → ℕ
rows_from l j x = least x (following j l.rows)

-- r is the answer of a run of them that begins with the first variable of the list, 0 where it is empty, and w is what the slice then holds, which was d
abbrev pub TellsAcross : List ℕ → Layout → List ℕ → ℕ → ℕ → List ℕ → List ℕ → Result ℕ Refusal → Type 0
TellsAcross f l v j x d w r = Tells f l (get_or v 0 0) j (words_across v j (rows_from l j x)) (length v * rows_from l j x) d w r
