-- What writing the records of long strings promises.
use Rattle.std.specs.Prelude.{ℕ, ◌+◌, List, ◌++◌, Bool, take, drop}
use Rattle.format.specs.Slot.{fill}
use Rattle.format.specs.Number.{Order, num}
use Rattle.format.specs.Edition.{t_gso}
use Rattle.format.specs.Data.{long_head, long_record}
use Rattle.writing.specs.Writes.{Sizes, PutsAll}

-- r is how many bytes the records that stand from p to q take with o in w bytes: in either byte order, with tags or without
pub record RecordsSize (t : Bool) (o : Order) (ow w : ℕ) (f : List ℕ) (p q r : ℕ) : Type 0 where
  pub all : (u : Bool) (z : Order) → Sizes (long_record t o ow) (long_record u z w) f p q r

-- out is the output d with the records that stand from p to q laid over its beginning, in byte order z and with o in w bytes, in
-- r bytes: with tags or without
pub record RecordsPut (t : Bool) (o : Order) (ow : ℕ) (z : Order) (w : ℕ) (f : List ℕ) (p q : ℕ) (d out : List ℕ) (r : ℕ) : Type 0 where
  pub all : (u : Bool) → PutsAll (long_record t o ow) (long_record u z w) f p q d out r

-- the bytes of a record before its contents
unfoldable pub head_bytes : Order → ℕ → ℕ → ℕ → ℕ → ℕ → List ℕ
head_bytes z w v x k n = t_gso ++ fill ((long_head z w).slots (v, (x, (k, n))))

-- the record at p of f, with n bytes of contents, in byte order z and with o in w bytes
unfoldable pub record_bytes : Order → ℕ → Order → ℕ → List ℕ → ℕ → ℕ → List ℕ
record_bytes o ow z w f p n =
    head_bytes z w (num o 4 f (p + 3)) (num o ow f (p + 7)) (num o 1 f (p + (7 + ow))) n ++ take n (drop (p + (12 + ow)) f)
