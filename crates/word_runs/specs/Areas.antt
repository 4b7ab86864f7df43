-- A text area, where ends of texts are looked up.
use Rattle.std.specs.Prelude.{◌≡◌, ℕ, ◌+◌, ◌-◌, ◌≤◌, List, length, Option, Some, None}
use Rattle.answers.specs.declared.Part.{Part}
use Rattle.word_runs.specs.declared.Area.{Area}
use Rattle.word_runs.specs.declared.Listing.{Listing}

-- it lies in the file, and has no more bytes than an accepted file's
pub record InFile (f : List ℕ) (r : Area) : Type 0 where
  pub inside : r.at + r.len ≤ length f
  pub small : r.len ≤ 5308416

-- the words stand at y in the area, and the text bytes that are left from there on are the area's
pub record StandsAt (r : Area) (w : Part) (y : ℕ) : Type 0 where
  pub from : r.at + y ≡ w.at
  pub upto : y ≤ r.len
  pub rest : w.len ≡ r.len - y

-- r is where they stand; none where they stand nowhere in the area
abbrev pub Stands : Area → Part → Option ℕ → Type 0
Stands r w (Some y) = StandsAt r w y
Stands r w None = (y : ℕ) → StandsAt r w y → ⊥

-- the part of the text area whose bytes have their ends listed
abbrev pub listed_part : Listing → Area
listed_part y = record { at = y.area.at; len = y.had }
