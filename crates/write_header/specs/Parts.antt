-- How long a header is.
use Rattle.std.specs.Prelude.{◌≡◌, List, ℕ, length}
use Rattle.format.specs.Number.{Order}
use Rattle.format.specs.Header.{header}
use Rattle.editions.specs.declared.Edition.{Edition}
use Rattle.editions.specs.Editions.{numbers_of}

-- r is how many bytes the header of e has, with a label of `label` bytes and a stamp of `stamp`
pub record HeaderSize (e : Edition) (label stamp r : ℕ) : Type 0 where
  pub is : (o : Order) (k n : ℕ) (l s : List ℕ) → length l ≡ label → length s ≡ stamp → r ≡ (header (numbers_of e) o).size (k, (n, (l, s)))
