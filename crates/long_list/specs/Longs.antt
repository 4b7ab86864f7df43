-- The long strings of an accepted file, as numbers.
use Rattle.std.specs.Prelude.{ℕ, ◌+◌, List, [], ◌∷◌, ◌++◌, length}
use Rattle.format.specs.Number.{Order, num}
use Rattle.format.specs.Edition.{n_strls}
use Rattle.format.specs.Data.{LongString}
use Rattle.format.specs.Dta.{edition_of, dataset_of}
use Rattle.format.specs.Dead.{content_at}
use Rattle.questions.specs.Ask.{record_head}

-- a long string whose record stands at p, with o in w bytes: v, o, kind, and place and length of its contents
abbrev pub long_numbers : ℕ → ℕ → LongString → List ℕ
long_numbers w p r = r.v ∷ r.o ∷ r.kind ∷ (p + record_head w) ∷ length r.contents ∷ []

-- those whose records stand one after another from p on
abbrev pub longs_from : ℕ → ℕ → List LongString → List ℕ
longs_from w p [] = []
longs_from w p (r ∷ l) = long_numbers w p r ++ longs_from w (p + record_head w + length r.contents) l

-- those of the file f
unfoldable pub longs_of : List ℕ → List ℕ
longs_of f = longs_from (edition_of f).record_width (content_at f 10 n_strls) (dataset_of f).long_strings

-- the numbers of the record at p of f, with n bytes of contents
abbrev pub long_read : Order → ℕ → List ℕ → ℕ → ℕ → List ℕ
long_read o w f p n = num o 4 f (p + 3) ∷ num o w f (p + 7) ∷ num o 1 f (p + (7 + w)) ∷ (p + (12 + w)) ∷ n ∷ []
