-- The lists of a dataset, one after another, as they are written.
use Rattle.std.specs.Prelude.{List, ◌++◌, ℕ}
use Rattle.format.specs.Number.{Order}
use Rattle.format.specs.Edition.{Edition}
use Rattle.format.specs.Dta.{Dataset}
use Rattle.sources.specs.Parts.{types_to, names_to, sort_to, formats_to, sets_to, labels_to}

module _ (e : Edition) (o : Order) (d : Dataset) where
  -- types, names, sort list
  abbrev pub first_lists : List ℕ
  first_lists = types_to e o d ++ (names_to e o d ++ sort_to e o d)

  -- display formats, label-set names, variable labels
  abbrev pub later_lists : List ℕ
  later_lists = formats_to e o d ++ (sets_to e o d ++ labels_to e o d)
