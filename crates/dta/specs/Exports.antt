-- What the exported functions store.
use Rattle.std.specs.Prelude.{ℕ, List, ◌∷◌, ◌++◌, cond, length, drop, leb}
use Rattle.format.specs.Dta.{Layout}

-- a layout as eighteen numbers
abbrev pub numbers : Layout → List ℕ
numbers l = l.release ∷ l.order ∷ l.variables ∷ l.rows ∷ l.places

-- what a slice of numbers that held d holds after a layout was stored, where it has room for one
abbrev pub laid : Layout → List ℕ → List ℕ
laid l d = cond (leb 18 (length d)) (numbers l ++ drop 18 d) d

-- what a slice of numbers that held d holds after n was stored in its first place, where it has one
abbrev pub stored : ℕ → List ℕ → List ℕ
stored n d = cond (leb 1 (length d)) (n ∷ drop 1 d) d
