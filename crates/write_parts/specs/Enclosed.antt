-- A part of a file as it is written: its contents between two tags.
use Rattle.std.specs.Prelude.{ℕ, List, [], ◌++◌, Bool, cond}
use Rattle.format.specs.Slot.{fill}
use Rattle.format.specs.Number.{Order}
use Rattle.format.specs.Grammar.{text, read_times, all_slots, ended_at, ended_slots}
use Rattle.format.specs.Variables.{type_code}

-- g between the tags l and r, where there are tags
abbrev pub enclosed : Bool → List ℕ → List ℕ → List ℕ → List ℕ
enclosed there l r g = cond there l [] ++ (g ++ cond there r [])

-- the k text fields of w bytes at p of f, in fields of x bytes
abbrev pub text_bytes : ℕ → ℕ → ℕ → List ℕ → ℕ → List ℕ
text_bytes x k w f p = fill (all_slots (text x 7) (read_times (text w 7) k f p))

-- the n entries of the sort list at p of f, in the byte order z
abbrev pub sort_bytes : Order → ℕ → Order → List ℕ → ℕ → List ℕ
sort_bytes z n o f p = fill (ended_slots z 2 n (ended_at o 2 n f p))

-- the k types at p of f, with the codes of another edition
abbrev pub type_bytes : Bool → Order → ℕ → Bool → Order → List ℕ → ℕ → List ℕ
type_bytes u z k t o f p = fill (all_slots (type_code u z) (read_times (type_code t o) k f p))
