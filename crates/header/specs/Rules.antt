-- The rules on the header's numbers, as code has them.
use Rattle.std.specs.Prelude.{ℕ, List, Bool, true, cond, eqb, leb}
use Rattle.format.specs.Number.{Order}
use Rattle.format.specs.Grammar.{Sect, number, within, ruled, seq, tag, between}
use Rattle.format.specs.Edition.{opening, closing, n_label, n_timestamp, n_header}
use Rattle.format.specs.Header.{stamp_length, counted}
use Rattle.header.specs.declared.Rule.{Rule}
use Rattle.header.specs.declared.Rule.TheVariants.{Most, Stamp}

-- whether a number keeps to a rule: it is at most m, or a stamp's length
abbrev pub holds : Rule → ℕ → Bool
holds (Most m) = λ n. leb n m
holds Stamp = stamp_length

-- the greatest N that K variables allow: K = 0 only with N = 0
abbrev pub rows_max : ℕ → ℕ
rows_max k = cond (eqb k 0) 0 2147483647

-- a number of w bytes with its rule
abbrev pub held : Order → ℕ → Rule → Sect ℕ
held o w t = within w (ruled (number o w) (holds t) 5)

-- the header of a tagged edition from the label on
unfoldable pub new_texts : Order → ℕ → ℕ → Sect (List ℕ × (List ℕ × Unit {0}))
new_texts o label_length label_max =
    seq (between (opening true n_label) (closing true n_label) (counted o label_length (holds (Most label_max)))) λ l.
    seq (between (opening true n_timestamp) (closing true n_timestamp) (counted o 1 stamp_length)) λ s.
    tag (closing true n_header) 4
