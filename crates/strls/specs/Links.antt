-- Number 11's rule over the bytes of a file: the references and the records, in one pass.
-- Variables and observations are counted from 0 in places, from 1 in references.
use Rattle.std.specs.Prelude.{◌≡◌, ℕ, zero, suc, ◌+◌, ◌-◌, ◌*◌, ◌≤◌, List, Bool, true, false, cond, ◌&&◌, ◌||◌, length, get_or, eqb, leb, ltb, Result, Ok, Err, IfOk}
use Rattle.format.specs.Number.{num}
use Rattle.format.specs.Grammar.{read_times, row}
use Rattle.format.specs.Variables.{type_code}
use Rattle.format.specs.Data.{Cell, cell, long_next}
use Rattle.codes.specs.declared.Kind.{Kind}
use Rattle.codes.specs.declared.Kind.TheVariants.{Text, StrL, Byte, Int, Long, Float, Double, Unknown}
use Rattle.refusal.specs.declared.Refusal.{Refusal}
use Rattle.refusal.specs.declared.Refusal.TheVariants.{WrongLongString}
use Rattle.data.specs.Places.{field_at, off_at, place, Typed}
use Rattle.strls.specs.declared.Frame.{Frame}
use Rattle.strls.specs.Records.{order_of, head_size, len_at, pair_at, record_ok}

-- the kind is strL
abbrev pub str_l : Kind → Bool
str_l Text = false
str_l StrL = true
str_l Byte = false
str_l Int = false
str_l Long = false
str_l Float = false
str_l Double = false
str_l Unknown = false

-- (v, x) is (i, j) or an earlier cell
abbrev pub earlier : ℕ → ℕ → ℕ → ℕ → Bool
earlier v x i j = ltb x j || (eqb x j && leb v i)

-- a step of the pass: where the next record is due, or a refusal
abbrev pub Turn : Type 0
Turn = Result ℕ Refusal

abbrev pub broken : Turn
broken = Err WrongLongString

-- the steps from there on follow it, where it does not refuse
abbrev pub followed : Turn → (ℕ → Turn) → Turn
followed (Ok q) k = k q
followed (Err e) k = Err e

module _ (f : List ℕ) (d : Frame) where
  -- ---- places

  abbrev pub offset_of : ℕ → ℕ
  offset_of i = off_at d.tagged (order_of d) f d.types i

  abbrev pub place_of : ℕ → ℕ → ℕ
  place_of i j = place d.tagged (order_of d) f d.types d.k d.data i j

  -- variable i is strL
  unfoldable pub is_long : ℕ → Bool
  is_long i = str_l (field_at d.tagged (order_of d) f d.types i).kind

  -- the first strL variable of m from i on; i + m where there is none
  abbrev pub next_long : ℕ → ℕ → ℕ
  next_long zero i = i
  next_long (suc m) i = cond (is_long i) i (next_long m (suc i))

  -- ---- references

  -- the strL cell at p is the reference (v, x)
  abbrev pub link_at : ℕ → ℕ → ℕ → Bool
  link_at p v x = pair_at (order_of d) d.vwidth d.owidth f p v x

  -- cell (v, x) is there, is strL, and names itself
  unfoldable pub self_at : ℕ → ℕ → Bool
  self_at v x =
      leb 1 v && (leb v d.k && (leb 1 x && (leb x d.n && (is_long (v - 1) && link_at (place_of (v - 1) (x - 1)) v x))))

  -- what a cell (i, j), counted from 1, may hold: v and x
  abbrev pub ref_ok : ℕ → ℕ → ℕ → ℕ → Bool
  ref_ok v x i j = (eqb v 0 && eqb x 0) || (earlier v x i j && self_at v x)

  unfoldable pub link_ok : ℕ → ℕ → Bool
  link_ok i j =
      ref_ok (num (order_of d) d.vwidth f (place_of i j)) (num (order_of d) d.owidth f (place_of i j + d.vwidth)) (suc i) (suc j)

  -- ---- the pass

  -- the record of (v, x), due at q
  abbrev pub record_step : ℕ → ℕ → ℕ → Turn
  record_step q v x = cond (record_ok f d q v x) (Ok (q + (head_size d + len_at f d q))) broken

  -- variable i in observation j, where the record at q is due
  unfoldable pub cell_step : ℕ → ℕ → ℕ → Turn
  cell_step i j q =
      cond (is_long i)
      (cond (link_ok i j) (cond (link_at (place_of i j) (suc i) (suc j)) (record_step q (suc i) (suc j)) (Ok q)) broken)
      (Ok q)

  -- m variables from i on
  abbrev pub row_run : ℕ → ℕ → ℕ → ℕ → Turn
  row_run zero i j q = Ok q
  row_run (suc m) i j q = followed (cell_step i j q) (row_run m (suc i) j)

  -- m observations from j on
  abbrev pub data_run : ℕ → ℕ → ℕ → Turn
  data_run zero j q = Ok q
  data_run (suc m) j q = followed (row_run d.k 0 j q) (data_run m (suc j))

  -- at the end no record is left
  abbrev pub ended : ℕ → Turn
  ended q = cond (long_next d.tagged f q) broken (Ok q)

  -- number 11's rule, with the records from q on
  unfoldable pub rule11 : ℕ → Turn
  rule11 q = followed (data_run d.n 0 q) ended

  -- ---- what is asked

  -- the types were judged right; the data's bytes are there; the widths of v and o
  pub record Framed : Type 0 where
    pub typed : Typed d.tagged (order_of d) f d.types d.k
    pub data_in : d.data + d.n * offset_of d.k ≤ length f
    pub eight : d.vwidth + d.owidth ≡ 8
    pub record_small : d.rwidth ≤ 8

  -- entry i of the table is variable i's offset, and entry k is the width of a row
  abbrev pub Offsets : ℕ → List ℕ → Type 0
  Offsets k t = (i : ℕ) → i ≤ k → get_or t i 0 ≡ offset_of i

  -- entry i, from h on, is the first strL variable at or after i, k where there is none
  abbrev pub Nexts : ℕ → List ℕ → Type 0
  Nexts h s = (i : ℕ) → h ≤ i → i ≤ d.k → get_or s i 0 ≡ next_long (d.k - i) i

  -- both tables
  pub record Tabled (t s : List ℕ) : Type 0 where
    pub framed : Framed
    pub offsets : Offsets d.k t
    pub nexts : Nexts 0 s

  -- the cells, as the grammar reads them
  unfoldable pub cells_of : List (List Cell)
  cells_of =
      read_times (row (cell (order_of d) d.vwidth d.owidth) (read_times (type_code d.tagged (order_of d)) d.k f d.types)) d.n f d.data

-- r is the step s, which stays in the file
pub record Ran (f : List ℕ) (s r : Turn) : Type 0 where
  pub is : r ≡ s
  pub inside : IfOk r (λ q. q ≤ length f)
