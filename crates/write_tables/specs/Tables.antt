-- What writing a label table promises.
use Rattle.std.specs.Prelude.{◌≡◌, ℕ, zero, suc, ◌+◌, ◌≤◌, ◌<◌, List, Bool, cond, not, ◌&&◌, ◌||◌, length, get_or, drop, eqb}
use Rattle.format.specs.Slot.{Fits, fill}
use Rattle.format.specs.Number.{Order, tab}
use Rattle.format.specs.Grammar.{member}
use Rattle.format.specs.Labels.{Table, table, table_size}
use Rattle.writing.specs.Writes.{Puts}

-- ---- marks

-- place j has a mark
abbrev pub marked : List ℕ → ℕ → Bool
marked out j = not (eqb (get_or out j 0) 0)

-- a place is live that has a mark, or that follows a live place with no zero in it
abbrev pub live_by : (ℕ → Bool) → (ℕ → ℕ) → ℕ → Bool
live_by m a zero = m zero
live_by m a (suc j) = m (suc j) || (live_by m a j && not (eqb (a j) 0))

-- the m bytes of f at t, with zeros at the dead places, by the marks in out
abbrev pub swept : List ℕ → List ℕ → ℕ → ℕ → List ℕ
swept out f t m = tab m (λ j. cond (live_by (marked out) (λ i. get_or f (t + i) 0) j) (get_or f (t + j) 0) 0)

-- w is d with marks at the offsets too, among its first m bytes
pub record Marks (offs : List ℕ) (m : ℕ) (d w : List ℕ) : Type 0 where
  pub here : (j : ℕ) → j < m → marked w j ≡ (marked d j || member j offs)
  pub past : drop m w ≡ drop m d

-- ---- tables

-- the table t, of n entries and m text bytes, stands at p of f
pub record TableAt (o : Order) (f : List ℕ) (p n m : ℕ) (t : Table) : Type 0 where
  pub right : (table o (table_size t)).Right t
  pub fits : Fits f p ((table o (table_size t)).slots t)
  pub entries : n ≡ length t.offsets
  pub chars : m ≡ length t.texts

-- some table does, and takes at most r bytes
pub record TableRoom (o : Order) (f : List ℕ) (p n m r : ℕ) : Type 0 where
  pub this : Table
  pub stands : TableAt o f p n m this
  pub room : table_size this ≤ r

-- w is the output d with the table at p laid over its beginning in the order z, in r bytes
pub record PutsTable (o z : Order) (f : List ℕ) (p n m : ℕ) (d w : List ℕ) (r : ℕ) : Type 0 where
  pub all : (t : Table) → TableAt o f p n m t → Puts (fill ((table z (table_size t)).slots t)) d w r
