-- What the walks over records and label blocks promise.
use Rattle.std.specs.Prelude.{◌≡◌, ℕ, suc, ◌+◌, ◌-◌, ◌*◌, ◌≤◌, List, [], Bool, true, false, cond, ◌&&◌, length, eqb, leb, ltb, ℤ, Option, None, Some, IfSome, Result, Ok, Err}
use Rattle.refusal.specs.declared.Refusal.{Refusal}
use Rattle.format.specs.Number.{Order, num}
use Rattle.format.specs.Grammar.{text_at, same_at}
use Rattle.format.specs.Edition.{opening, closing, n_lbl}
use Rattle.format.specs.Search.{Slot, found, missing, lost, search_at}
use Rattle.questions.specs.Readings.{Try, none, got, bind, test, number_in, text_in}
use Rattle.questions.specs.Ask.{Answer, refused, part, labels, plain, or_refused, record_head, records_in, table_in, slice, head_size, sized_in, block_in, blocks_in}
use Rattle.walks.specs.declared.Long.{Long}
use Rattle.walks.specs.declared.Block.{Block}
use Rattle.reading.specs.Reads.{place_in}
use Rattle.walks.specs.declared.LabelSet.{LabelSet}
use Rattle.answers.specs.declared.Part.{Part}
use Rattle.walks.specs.Answers.{words_told, words_by}

-- ---- records

module _ (w : ℕ) (o : Order) (f : List ℕ) where
  -- v, o, kind and length of the record at p
  abbrev pub variable_at : ℕ → ℕ
  variable_at p = num o 4 f (p + 3)

  abbrev pub row_at : ℕ → ℕ
  row_at p = num o w f (p + 3 + 4)

  abbrev pub kind_at : ℕ → ℕ
  kind_at p = num o 1 f (p + 3 + 4 + w)

  abbrev pub length_at : ℕ → ℕ
  length_at p = num o 4 f (p + 3 + 4 + w + 1)

  -- where the record at p ends
  abbrev pub record_end : ℕ → ℕ
  record_end p = p + record_head w + length_at p

  -- the size of the record at p, where it ends at or before z and the file's end
  unfoldable pub record_size : ℕ → ℕ → Option ℕ
  record_size z p = cond (leb (record_end p) z && leb (record_end p) (length f)) (Some (record_head w + length_at p)) None

  -- r is that size
  pub record IsSize (z p : ℕ) (r : Option ℕ) : Type 0 where
    pub is : r ≡ record_size z p
    pub inside : IfSome r (λ n. (record_head w ≤ n) × (p + n ≤ length f))

  -- the record at p is of the cell v, x
  unfoldable pub is_of : ℕ → ℕ → ℕ → Bool
  is_of v x p = eqb (variable_at p) v && eqb (row_at p) x

  -- the answer for the record of n bytes at p
  abbrev pub long_at : ℕ → ℕ → Long
  long_at p n = record { kind = kind_at p; at = p + record_head w; len = n - record_head w }

  -- the first record from p on, in a part that ends at z, that is of the cell v, x
  unfoldable pub records_from : ℕ → ℕ → ℕ → ℕ → Try Answer
  records_from v x z p = records_in w o f v x z (suc (length f)) p

-- ---- label words, where an empty plain text is lent

-- the answer for the value q in a label set, g being that in the table at a place: the plain text where the set has no table
abbrev pub in_set : (ℕ → ℤ → Answer) → Option LabelSet → ℤ → Answer
in_set g (Some s) q = g s.at q
in_set g None q = plain []

-- of the value q in the table at p
unfoldable pub table_words : Order → List ℕ → ℕ → ℤ → Answer
table_words o f p q = or_refused (table_in o f [] q p)

-- of the value q in a label set
abbrev pub set_says : Order → List ℕ → Option LabelSet → ℤ → Answer
set_says o f s q = in_set (table_words o f) s q

-- ---- where they stand: the part of the text area from there on, whose end is not looked for yet

-- at slot m of the table at p with n entries and x text bytes
unfoldable pub entry_place : Order → List ℕ → ℕ → ℕ → ℕ → ℕ → Answer
entry_place o f p n x m =
    or_refused
    (bind (number_in o 4 f (p + 8 + m * 4)) λ y.
    bind (test (ltb y x)) λ u.
    bind (place_in f (p + 8 + n * 4 + n * 4 + y)) λ a.
    got (part a (x - y)))

-- .. where the search ended
abbrev pub slot_place_at : Order → List ℕ → ℕ → ℕ → ℕ → Slot → Answer
slot_place_at o f p n x (found m) = entry_place o f p n x m
slot_place_at o f p n x missing = plain []
slot_place_at o f p n x lost = refused 17

-- of the value q in that table
unfoldable pub slot_place : Order → List ℕ → ℕ → ℕ → ℕ → ℤ → Answer
slot_place o f p n x q = slot_place_at o f p n x (search_at o f (p + 8 + n * 4) (length f) n q).slot

-- of the value q in the table at p
unfoldable pub table_place : Order → List ℕ → ℕ → ℤ → Answer
table_place o f p q =
    or_refused
    (bind (number_in o 4 f p) λ n.
    bind (number_in o 4 f (p + 4)) λ x.
    got (slot_place o f p n x q))

-- of the value q in a label set
abbrev pub set_place : Order → List ℕ → Option LabelSet → ℤ → Answer
set_place o f s q = in_set (table_place o f) s q

-- .. the set's refusal, where it is refused; another is told as t says
abbrev pub placed_told : {E : Type 0} → (Refusal → E) → Order → List ℕ → Result (Option LabelSet) E → ℤ → Result (Option Part) E
placed_told t o f (Ok s) q = words_told t (set_place o f s q)
placed_told t o f (Err e) q = Err e

abbrev pub placed_in : Order → List ℕ → Result (Option LabelSet) Refusal → ℤ → Result (Option Part) Refusal
placed_in o f s q = placed_told (λ r. r) o f s q

-- the words at p, of which n bytes are left in the text area: up to the first zero, which must be there
abbrev pub ended_in : List ℕ → ℕ → ℕ → Try Answer
ended_in f p n = bind (text_in n f p) λ t. bind (test (ltb (length t) n)) λ u. got (part p (length t))

-- words up to their end, by where they stand; a refusal is told as t says
unfoldable pub ended_told : {E : Type 0} → (Refusal → E) → List ℕ → Option Part → Result (Option Part) E
ended_told t f (Some w) = words_told t (or_refused (ended_in f w.at w.len))
ended_told t f None = Ok None

abbrev pub ended_by : List ℕ → Option Part → Result (Option Part) Refusal
ended_by f w = ended_told (λ r. r) f w

-- .. where they are not refused
abbrev pub all_told : {E : Type 0} → (Refusal → E) → List ℕ → Result (Option Part) E → Result (Option Part) E
all_told t f (Ok w) = ended_told t f w
all_told t f (Err e) = Err e

abbrev pub all_ended : List ℕ → Result (Option Part) Refusal → Result (Option Part) Refusal
all_ended f w = all_told (λ r. r) f w

-- ---- label blocks

-- bytes of a block's marks
abbrev pub open_size : Bool → ℕ
open_size t = length (opening t n_lbl)

abbrev pub close_size : Bool → ℕ
close_size t = length (closing t n_lbl)

-- where the name of the block at p stands, and its table
abbrev pub name_at : Bool → ℕ → ℕ
name_at t p = p + open_size t + 4

abbrev pub table_at : Bool → ℕ → ℕ → ℕ
table_at t w p = p + open_size t + head_size w

-- whether something is read
abbrev pub is_got : Try (Unit {0}) → Bool
is_got none = false
is_got (got u) = true

-- the table of w bytes at p is as long as its count and text length say
unfoldable pub is_sized : Order → List ℕ → ℕ → ℕ → Bool
is_sized o f w p = is_got (sized_in o f w p)

module _ (t : Bool) (w : ℕ) (o : Order) (f : List ℕ) (z p : ℕ) where
  -- the block at p lies whole in its part, with a table and a name of these lengths; the table is as long as it says, and the name is in the file
  pub record BlockGot (n m : ℕ) : Type 0 where
    pub is : block_in t w o f z p ≡ got (n, text_at w f (name_at t p))
    pub name : m ≡ length (text_at w f (name_at t p))
    pub fits : table_at t w p + n + close_size t ≤ z
    pub inside : name_at t p + m ≤ length f

  -- r is the block at p
  abbrev pub IsBlock : Option Block → Type 0
  IsBlock None = block_in t w o f z p ≡ none
  IsBlock (Some b) = BlockGot b.table b.name

-- the n bytes at p are the text of m bytes at a
unfoldable pub same_name : List ℕ → ℕ → ℕ → ℕ → ℕ → Bool
same_name f p n a m = eqb n m && same_at (slice f a m) f p

-- the table of the first block from p on, in a part that ends at z, whose name is s
unfoldable pub block_labels : Bool → ℕ → Order → List ℕ → List ℕ → ℕ → ℕ → Answer
block_labels t w o f s z p = or_refused (bind (blocks_in t w o f s z (suc (length f)) p) λ x. got (labels x))
