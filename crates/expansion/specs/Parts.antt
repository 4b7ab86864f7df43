-- Parts of the expansion blocks.
use Rattle.std.specs.Prelude.{List, Bool}
use Rattle.format.specs.Number.{Order}
use Rattle.format.specs.Grammar.{Sect, seq, walk, tag}
use Rattle.format.specs.Edition.{blocks_end, closing, n_characteristics}
use Rattle.format.specs.Expansion.{Expansion, expansion_next, expansion_head, expansion_body, expansion}

-- type, length and contents of a block
abbrev pub contents_of : Bool → Order → Sect (Expansion × Unit {0})
contents_of t o = seq (expansion_head t o) λ h. expansion_body h.1

-- what ends the blocks, and the closing tag
abbrev pub blocks_tail : Bool → Sect (Unit {0} × Unit {0})
blocks_tail t = seq (tag (blocks_end t) 9) λ b. tag (closing t n_characteristics) 4

-- the blocks, and what follows them
abbrev pub blocks : Bool → Order → Sect (List Expansion × (Unit {0} × Unit {0}))
blocks t o = walk (expansion_next t) (expansion t o) λ l. blocks_tail t
