-- What writing the label blocks promises. `t`, `o`, `w` are the form that is read: tags, byte order, width of a name; `u`, `z`, `v` are
-- the form that is written.
use Rattle.std.specs.Prelude.{◌≡◌, ℕ, ◌≤◌, ◌<◌, List, Bool, true, length}
use Rattle.format.specs.Slot.{Fits, fill}
use Rattle.format.specs.Number.{Order}
use Rattle.format.specs.Grammar.{sizes}
use Rattle.format.specs.Labels.{LabelBlock, block}
use Rattle.format.specs.Dta.{all_shorter, block_names}
use Rattle.writing.specs.Writes.{Puts, Stand, Sizes}

module _ (t : Bool) (o : Order) (w : ℕ) where
  -- r is how many bytes the blocks that stand from p to q take in the form u, v, in any byte order
  pub record BlocksSize (u : Bool) (v : ℕ) (f : List ℕ) (p q r : ℕ) : Type 0 where
    pub in_order : (z : Order) → Sizes (block t o w) (block u z v) f p q r

  -- r tells whether the blocks that stand from p to q have names shorter than v
  pub record NamesHeld (v : ℕ) (f : List ℕ) (p q : ℕ) (r : Bool) : Type 0 where
    pub all : (l : List LabelBlock) → Stand (block t o w) f p q l → r ≡ all_shorter v (block_names l)

  -- the block b stands at p
  pub record BlockAt (f : List ℕ) (p : ℕ) (b : LabelBlock) : Type 0 where
    pub right : (block t o w).Right b
    pub fits : Fits f p ((block t o w).slots b)

  module _ (u : Bool) (z : Order) (v : ℕ) (f : List ℕ) (p : ℕ) where
    -- some block does, has a name shorter than v, and takes at most n bytes in the form u, z, v
    pub record BlockRoom (n : ℕ) : Type 0 where
      pub this : LabelBlock
      pub stands : BlockAt f p this
      pub named : length this.set_name < v
      pub room : (block u z v).size this ≤ n

    -- e is the output d with the block at p laid over its beginning in the form u, z, v, in r bytes
    pub record PutsBlock (d e : List ℕ) (r : ℕ) : Type 0 where
      pub all : (b : LabelBlock) → BlockAt f p b → Puts (fill ((block u z v).slots b)) d e r

    -- label blocks stand from p to q, have names shorter than v, and take at most n bytes in the form u, z, v
    pub record BlocksRoom (q n : ℕ) : Type 0 where
      pub list : List LabelBlock
      pub stand : Stand (block t o w) f p q list
      pub named : all_shorter v (block_names list) ≡ true
      pub room : sizes (block u z v) list ≤ n
