-- What code promises of a table and of a block that stand in a file.
use Rattle.std.specs.Prelude.{◌≡◌, ℕ, ◌+◌, ◌-◌, List, [], ◌∷◌, Bool, length}
use Rattle.format.specs.Number.{Order, num}
use Rattle.format.specs.Grammar.{text_at}
use Rattle.format.specs.Labels.{Table, LabelBlock, block}
use Rattle.writing.specs.Writes.{Puts}
use Rattle.write_tables.specs.Tables.{TableAt}
use Rattle.write_labels.specs.Blocks.{BlockAt}
use Rattle.set_list.specs.Sets.{name_place, table_place}
use Rattle.set_list.specs.declared.Block.{Block}

-- the numbers of an entry whose value stands at v and whose offset stands at p, with the text area, of x bytes, at a
abbrev pub entry_read : Order → List ℕ → ℕ → ℕ → ℕ → ℕ → List ℕ
entry_read o f v p a x = let y = num o 4 f p in num o 4 f v ∷ (a + y) ∷ length (text_at (x - y) f (a + y)) ∷ []

-- e is d with the numbers of the table that stands at p, with n entries and x text bytes, laid over its beginning; r is how many they are
pub record PutsOf (o : Order) (f : List ℕ) (p n x : ℕ) (numbers : Table → List ℕ) (d e : List ℕ) (r : ℕ) : Type 0 where
  pub all : (t : Table) → TableAt o f p n x t → Puts (numbers t) d e r

module _ (t : Bool) (o : Order) (w : ℕ) (f : List ℕ) (p : ℕ) where
  -- some block stands at p
  pub record BlockHere : Type 0 where
    pub this : LabelBlock
    pub stands : BlockAt t o w f p this

  -- r says of the block b at p: where its name and its table stand, how many entries and text bytes it has, and where the next block stands
  pub record Says (r : Block) (b : LabelBlock) : Type 0 where
    pub name : r.name ≡ name_place t p
    pub table : r.table ≡ table_place t w p
    pub entries : r.entries ≡ length b.entries.offsets
    pub chars : r.chars ≡ length b.entries.texts
    pub next : r.next ≡ p + (block t o w).size b

  -- r says so of the block that stands there
  pub record ReadsBlock (r : Block) : Type 0 where
    pub all : (b : LabelBlock) → BlockAt t o w f p b → Says r b
