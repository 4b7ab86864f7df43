-- Parts of the label blocks.
use Rattle.std.specs.Prelude.{List, Bool, ℕ}
use Rattle.format.specs.Number.{Order}
use Rattle.format.specs.Grammar.{Sect, seq, walk, tag, done}
use Rattle.format.specs.Edition.{closing, n_value_labels, n_stata_dta}
use Rattle.format.specs.Labels.{LabelBlock, block, block_next}

-- the closing tags, and the end of the file
abbrev pub file_end : Bool → Sect (Unit {0} × (Unit {0} × Unit {0}))
file_end t = seq (tag (closing t n_value_labels) 4) λ b. seq (tag (closing t n_stata_dta) 4) λ c. done 13

-- the blocks, and what follows them
abbrev pub block_walk : Bool → Order → ℕ → Sect (List LabelBlock × (Unit {0} × (Unit {0} × Unit {0})))
block_walk t o w = walk (block_next t) (block t o w) λ l. file_end t
