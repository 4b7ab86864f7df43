-- The records of long strings, over the bytes of a file.
use Rattle.std.specs.Prelude.{ℕ, suc, ◌+◌, List, Bool, ◌&&◌, ◌||◌, length, eqb, leb}
use Rattle.format.specs.Number.{Order, order_by, num}
use Rattle.format.specs.Grammar.{Sect, text_at, idle, ruled, seq, walk}
use Rattle.format.specs.Data.{Cell, LongString, linked, long_next, long_record}
use Rattle.strls.specs.declared.Frame.{Frame}

-- the byte order
abbrev pub order_of : Frame → Order
order_of d = order_by d.msf

-- the bytes of a record before its contents
abbrev pub head_size : Frame → ℕ
head_size d = 12 + d.rwidth

-- the records alone
abbrev pub longs : Frame → Sect (List LongString × Unit {0})
longs d = walk (long_next d.tagged) (long_record d.tagged (order_of d) d.rwidth) λ l. idle 0 0

-- the records, then number 11 of them and these cells
abbrev pub linked_longs : Frame → List (List Cell) → Sect ((List LongString × Unit {0}) × Unit {0})
linked_longs d c = seq (longs d) λ v. ruled (idle 0 0) (λ u. linked c v.0) 11

-- kind 129: any bytes; kind 130: at least 2, the first zero is the last byte
abbrev pub kind_ok : List ℕ → ℕ → ℕ → ℕ → Bool
kind_ok f p kind n = eqb kind 129 || (eqb kind 130 && (leb 2 n && eqb (suc (length (text_at n f p))) n))

-- the numbers of vw and of ow bytes at p are v and x
abbrev pub pair_at : Order → ℕ → ℕ → List ℕ → ℕ → ℕ → ℕ → Bool
pair_at o vw ow f p v x = eqb (num o vw f p) v && eqb (num o ow f (p + vw)) x

module _ (f : List ℕ) (d : Frame) where
  -- the kind of the record at q, and the length of its contents
  abbrev pub kind_at : ℕ → ℕ
  kind_at q = num (order_of d) 1 f (q + (7 + d.rwidth))

  abbrev pub len_at : ℕ → ℕ
  len_at q = num (order_of d) 4 f (q + (8 + d.rwidth))

  -- a right and whole record of (v, x) stands at q
  unfoldable pub record_ok : ℕ → ℕ → ℕ → Bool
  record_ok q v x =
      leb (q + head_size d) (length f)
      && (long_next d.tagged f q
      && (pair_at (order_of d) 4 d.rwidth f (q + 3) v x
      && (leb (q + head_size d + len_at q) (length f) && kind_ok f (q + head_size d) (kind_at q) (len_at q))))
