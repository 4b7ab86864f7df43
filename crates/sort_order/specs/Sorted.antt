-- The sort order of an accepted file, as numbers.
use Rattle.std.specs.Prelude.{ℕ, List}
use Rattle.format.specs.Dta.{dataset_of}

-- the numbers of the variables by which the file f is sorted, in that order
unfoldable pub sorted_of : List ℕ → List ℕ
sorted_of f = (dataset_of f).sorted
