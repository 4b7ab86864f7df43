-- The published search in a label table (003, vlfindval).
use Rattle.std.specs.Prelude.{ℕ, zero, suc, ◌+◌, ◌-◌, ◌*◌, ◌/◌, List, Bool, true, false, cond, ◌&&◌, leb, ltb, ℤ}
use Rattle.std.specs.Int.Signed.{lt_z, le_z}
use Rattle.format.specs.Number.{Order, num}
use Rattle.format.specs.Cells.{signed_by}

-- where the search ends: at a slot, nowhere, or at a value that is not there to be compared (which only a wrong layout can show)
pub data Slot : Type 0 where
  found : ℕ → Slot
  missing : Slot
  lost : Slot

-- how a search went: where it ended, and how many values were compared with the one sought
pub record Searched : Type 0 where
  pub slot : Slot
  pub compared : ℕ

-- after one comparison more
abbrev pub one_more : Searched → Searched
one_more s = record { slot = s.slot; compared = suc s.compared }

-- the two numbers are equal
abbrev pub same_z : ℤ → ℤ → Bool
same_z a b = le_z a b && le_z b a

-- the values are v 0, v 1, ..; `there i` tells whether value i is there
module _ (v : ℕ → ℤ) (there : ℕ → Bool) (x : ℤ) where
  -- the routine's loop with its `lb`, and with hi one more than its `ub` (which may be -1), in at most k turns
  abbrev pub halve : ℕ → ℕ → ℕ → Searched
  halve zero lb hi = record { slot = missing; compared = 0 }
  halve (suc k) lb hi =
      let try = (lb + (hi - 1)) / 2 in
      let below = one_more (halve k lb try) in
      let above = one_more (halve k (try + 1) hi) in
      let none : Searched = record { slot = missing; compared = 0 } in
      let gone : Searched = record { slot = lost; compared = 0 } in
      let here : Searched = record { slot = found try; compared = 1 } in
      cond (ltb lb hi) (cond (there try) (cond (same_z x (v try)) here (cond (lt_z x (v try)) below above)) gone) none

  -- the search among n values: each turn leaves fewer, so n are enough
  abbrev pub search : ℕ → Searched
  search n = halve n 0 n

-- value i of the n values of 4 bytes at p, signed
abbrev pub value_at : Order → List ℕ → ℕ → ℕ → ℤ
value_at o f p i = signed_by 2147483648 (num o 4 f (p + 4 * i))

-- the search for x among n values of 4 bytes at place p of the file f, of which those that pass `end` are not there
unfoldable pub search_at : Order → List ℕ → ℕ → ℕ → ℕ → ℤ → Searched
search_at o f p end n x = search (value_at o f p) (λ i. leb (p + 4 * i + 4) end) x n
