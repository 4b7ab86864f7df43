-- The parts of an untagged header, as code writes them.
use Rattle.std.specs.Prelude.{List, [], ◌∷◌, ℕ}
use Rattle.format.specs.Slot.{fill}
use Rattle.format.specs.Number.{Order, num_slots}
use Rattle.format.specs.Edition.{order_mark}

-- the number n in w bytes
abbrev pub num_bytes : Order → ℕ → ℕ → List ℕ
num_bytes o w n = fill (num_slots o w n)

-- an untagged header up to K: edition, byte order, file type 1, an unused byte
abbrev pub old_marks : ℕ → Order → List ℕ
old_marks edition o = edition ∷ order_mark o ∷ 1 ∷ 1 ∷ []
