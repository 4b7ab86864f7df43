-- The answers about a long string.
use Rattle.std.specs.Prelude.{ℕ, List}
use Rattle.format.specs.Number.{Order}
use Rattle.format.specs.Edition.{Edition}
use Rattle.format.specs.Cells.{Says}
use Rattle.format.specs.Dta.{Layout}
use Rattle.questions.specs.Ask.{Answer, or_refused, long_by}

-- the answer for the long string that a cell means
unfoldable pub long_said : Edition → Order → List ℕ → Layout → Says → Answer
long_said e o f l s = or_refused (long_by e o f l s)
