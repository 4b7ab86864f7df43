-- Where the parts of a dataset stand when it is written.
use Rattle.std.specs.Prelude.{◌≡◌, ℕ, suc, ◌+◌, ◌*◌, ◌≤◌, List, [], ◌∷◌, cond}
use Rattle.format.specs.Number.{Order}
use Rattle.format.specs.Grammar.{sizes, row_width}
use Rattle.format.specs.Edition.{code_width}
use Rattle.format.specs.Header.{header}
use Rattle.format.specs.Data.{cell_width, long_record}
use Rattle.format.specs.Labels.{block}
use Rattle.format.specs.Dta.{head_of, dataset_of, positions}
use Rattle.editions.specs.declared.Edition as Code
use Rattle.editions.specs.Editions.{numbers_of}
use Rattle.plans.specs.declared.Sizes.{Sizes}

-- r says how many bytes the parts of the dataset of f have whose size is not K times a width: header, rows, long strings, label
-- blocks, the last three without their part's tags
pub record Sized (f : List ℕ) (to : Code.Edition) (r : Sizes) : Type 0 where
  pub head : (o : Order) → r.head ≡ (header (numbers_of to) o).size (head_of (dataset_of f))
  pub rows : r.rows ≡ (dataset_of f).n * row_width (cell_width to.v_width to.o_width) (dataset_of f).var_types
  pub longs : (o : Order) → r.longs ≡ sizes (long_record to.tagged o to.record_width) (dataset_of f).long_strings
  pub blocks : (o : Order) → r.blocks ≡ sizes (block to.tagged o to.name_width) (dataset_of f).label_blocks

-- none is large
pub record Small (r : Sizes) : Type 0 where
  pub head : r.head ≤ 65536
  pub rows : r.rows ≤ 2147483647
  pub longs : r.longs ≤ 4294967294
  pub blocks : r.blocks ≤ 8589934588

-- the sizes of the thirteen parts, tags included, with k variables
unfoldable pub sizes_by : Code.Edition → ℕ → Sizes → List ℕ
sizes_by e k z =
    let t = e.tagged in
    z.head
    ∷ (cond t 123 0 + 0)
    ∷ (cond t 33 0 + k * code_width t)
    ∷ (cond t 21 0 + k * e.name_width)
    ∷ (cond t 21 0 + suc k * 2)
    ∷ (cond t 19 0 + k * e.format_width)
    ∷ (cond t 39 0 + k * e.name_width)
    ∷ (cond t 35 0 + k * e.var_label_width)
    ∷ (cond t 30 0 + 5)
    ∷ (cond t 13 0 + z.rows)
    ∷ (cond t 15 0 + z.longs)
    ∷ (cond t 29 0 + z.blocks)
    ∷ (cond t 12 0 + 0)
    ∷ []

-- r are the positions of the dataset of f, as the edition to has it in either byte order
pub record Planned (f : List ℕ) (to : Code.Edition) (r : List ℕ) : Type 0 where
  pub is : (o : Order) → r ≡ positions (numbers_of to) o (dataset_of f, [])
