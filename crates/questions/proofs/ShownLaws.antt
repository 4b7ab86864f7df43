-- The bytes that a fact names are the dataset's.
use mathlib.Core.Path.{◌≡◌, refl, ap}
use Prim.Native.Nat.{ℕ, ◌+◌, ◌-◌, ◌/◌, ◌%◌}
use native.Mathlib.Omega.{arith}
use mathlib.Core.List.{List, [], ◌∷◌}
use mathlib.Core.Bool.{Bool, true, false, cond, ◌&&◌}
use lib.ListN.{length, get_or}
use lib.Dec.{eqb, leb, ltb}
use lib.IntN.{ℤ}
use lib.Ieee.{binary32, binary64, of_bits}
use Rattle.format.specs.Slot.{Fits}
use Rattle.format.specs.Number.{Order}
use Rattle.format.specs.Grammar.{Sect, all_slots, AllRight}
use Rattle.format.specs.Edition.{Edition, opening, closing, n_lbl}
use Rattle.format.specs.Variables.{VarType, text_type, strl_type, byte_type, int_type, long_type, float_type, double_type}
use Rattle.format.specs.Data.{Cell, bits_of, chars_of, link_of, LongString, long_record}
use Rattle.format.specs.Labels.{Table, table_size, LabelBlock, block}
use Rattle.format.specs.Cells.{Says, whole, single, double, letter, between, outside, says_whole, says_real, signed_by, key_of}
use Rattle.format.specs.Search.{found, missing, lost}
use Rattle.format.specs.Search as Search
use Rattle.format.specs.Dta.{same_list}
use Rattle.format.proofs.SlotLaws.{fits_left}
use Rattle.format.proofs.Good.{text_read, good_right}
use Rattle.format.proofs.DataLaws.{record_good}
use Rattle.format.proofs.LabelLaws.{block_good}
use Rattle.questions.specs.Readings.{Try, got}
use Rattle.questions.specs.Ask.{Answer, long, shown, shown_by, or_refused, head_size, record_head}
use Rattle.questions.specs.Fact.{cell_says, slot_fact, words_fact, TableFact, blocks_fact, label_fact, records_fact, long_fact, cell_bytes, records_bytes, long_bytes, slot_bytes, blocks_bytes}
use Rattle.questions.proofs.ReadLaws.{text_part_lem, text_room}
use Rattle.questions.proofs.CellLaws.{CellFits}
use Rattle.questions.proofs.LongLaws.{long_size, long_facts}
use Rattle.format.proofs.SearchLaws.{Ends, search_ends}
use Rattle.questions.proofs.TableLaws.{TableFacts, labelled}
use Rattle.questions.proofs.WordLaws.{block_facts}

-- ---- cells

-- a number is no text and means no long string
abbrev pub Bare : Edition → List ℕ → ℕ → List LongString → Says → Type 0
Bare e f p l s = (shown_by f s ≡ []) × (long_fact e p l s ≡ got (long 0 0 0))

module _ (e : Edition) (f : List ℕ) (p : ℕ) (l : List LongString) where
  pick : (t : Bool) (a b : Says) → Bare e f p l a → Bare e f p l b → Bare e f p l (cond t a b)
  pick true a b x y = x
  pick false a b x y = y

  whole_bare : (half n : ℕ) → Bare e f p l (says_whole half n)
  whole_bare half n =
      pick (leb (half - 27) n && ltb n half) (letter (n - (half - 27))) _ (refl, refl) (pick (eqb n half) outside (whole (signed_by half n)) (refl, refl) (refl, refl))

  real_bare : (first gap top minus least : ℕ) (number : Says) (b : ℕ) → Bare e f p l number → Bare e f p l (says_real first gap top minus least number b)
  real_bare first gap top minus least number b h =
      pick (ltb b first) number _ h
      (pick (leb b top) _ _
      (pick (eqb ((b - first) % gap) 0 && leb ((b - first) / gap) 26) (letter ((b - first) / gap)) between (refl, refl) (refl, refl))
      (pick (leb minus b && leb b least) number outside h (refl, refl)))

  -- a cell of a type that is neither text nor strL
  pub byte_bare : (c : Cell) (q : ℕ) → Bare e f p l (cell_says byte_type q c)
  byte_bare c q = whole_bare 128 (bits_of c)

  pub int_bare : (c : Cell) (q : ℕ) → Bare e f p l (cell_says int_type q c)
  int_bare c q = whole_bare 32768 (bits_of c)

  pub long_bare : (c : Cell) (q : ℕ) → Bare e f p l (cell_says long_type q c)
  long_bare c q = whole_bare 2147483648 (bits_of c)

  pub float_bare : (c : Cell) (q : ℕ) → Bare e f p l (cell_says float_type q c)
  float_bare c q = real_bare 0x7f000000 2048 0x7f800000 0x80000000 0xfeffffff (single (of_bits binary32 (bits_of c))) (bits_of c) (refl, refl)

  pub double_bare : (c : Cell) (q : ℕ) → Bare e f p l (cell_says double_type q c)
  double_bare c q =
      real_bare 0x7fe0000000000000 1099511627776 0x7ff0000000000000 0x8000000000000000 0xffefffffffffffff (double (of_bits binary64 (bits_of c))) (bits_of c) (refl, refl)

-- the bytes of a cell
pub cell_shown : (e : Edition) (o : Order) (f : List ℕ) (t : VarType) (p : ℕ) (c : Cell) → CellFits e o f t p c → shown_by f (cell_says t p c) ≡ cell_bytes t c
cell_shown e o f (text_type w) p c k =
    rw (text_read w (chars_of c) f p k.right.0.0 k.right.0.1 k.fits) at (text_part_lem w f p (text_room w (chars_of c) f p k.fits))
cell_shown e o f strl_type p c k = refl
cell_shown e o f byte_type p c k = (byte_bare e f p [] c p).0
cell_shown e o f int_type p c k = (int_bare e f p [] c p).0
cell_shown e o f long_type p c k = (long_bare e f p [] c p).0
cell_shown e o f float_type p c k = (float_bare e f p [] c p).0
cell_shown e o f double_type p c k = (double_bare e f p [] c p).0

-- what a cell seeks does not depend on its place
pub key_same : (t : VarType) (p q : ℕ) (c : Cell) → key_of (cell_says t p c) ≡ key_of (cell_says t q c)
key_same (text_type w) p q c = refl
key_same strl_type p q c = refl
key_same byte_type p q c = refl
key_same int_type p q c = refl
key_same long_type p q c = refl
key_same float_type p q c = refl
key_same double_type p q c = refl

pub if : {A B : Type 0} (g : A → B) (t : Bool) (a b : A) (x y : B) → g a ≡ x → g b ≡ y → g (cond t a b) ≡ cond t x y
if g true a b x y h k = h
if g false a b x y h k = k

module _ (e : Edition) (o : Order) (f : List ℕ) where
  -- what an answer that may be refused shows
  abbrev pub seen : Try Answer → List ℕ
  seen t = shown f (or_refused t)

  -- ---- long strings

  abbrev record_of : Sect LongString
  record_of = long_record e.tagged o e.record_width

  records_shown : (v x : ℕ) (l : List LongString) (p : ℕ) → AllRight record_of l → Fits f p (all_slots record_of l) → seen (records_fact e v x l p) ≡ records_bytes v x l
  records_shown v x [] p r m = refl
  records_shown v x (a ∷ l) p r m =
      let n = record_head e.record_width in
      let h = fits_left f p (record_of.slots a) (all_slots record_of l) m in
      let y : p + record_of.size a ≡ p + n + length a.contents = omega (arith, long_size e.tagged o e.record_width a) in
      let g = rw y at (good_right record_of (record_good e.tagged o e.record_width) f p a (all_slots record_of l) m) in
      if seen (eqb a.v v && eqb a.o x) _ _ _ _ (long_facts e.tagged o e.record_width f p a r.0 h).bytes (records_shown v x l (p + n + length a.contents) r.1 g)

  pub long_shown : (p : ℕ) (l : List LongString) (t : VarType) (q : ℕ) (c : Cell) → AllRight record_of l → Fits f p (all_slots record_of l)
      → seen (long_fact e p l (cell_says t q c)) ≡ long_bytes t c l
  long_shown p l (text_type w) q c r m = refl
  long_shown p l strl_type q c r m =
      if seen (eqb (link_of c).0 0 && eqb (link_of c).1 0) _ _ _ _ refl (records_shown (link_of c).0 (link_of c).1 l p r m)
  long_shown p l byte_type q c r m = ap seen (byte_bare e f p l c q).1
  long_shown p l int_type q c r m = ap seen (int_bare e f p l c q).1
  long_shown p l long_type q c r m = ap seen (long_bare e f p l c q).1
  long_shown p l float_type q c r m = ap seen (float_bare e f p l c q).1
  long_shown p l double_type q c r m = ap seen (double_bare e f p l c q).1

  -- ---- label words

  slot_shown : (lent : List ℕ) (p : ℕ) (t : Table) → TableFacts o f p t → (q : ℤ) (s : Search.Slot)
      → Ends (λ i. signed_by 2147483648 (get_or t.values i 0)) q (length t.offsets) s → seen (words_fact lent p t s) ≡ slot_bytes lent t s
  slot_shown lent p t F q (found m) b = (labelled o f p t F m b.0).bytes
  slot_shown lent p t F q missing b = refl
  slot_shown lent p t F q lost b = refl

  abbrev block_of : Sect LabelBlock
  block_of = block e.tagged o e.name_width

  pub blocks_shown : (lent : List ℕ) (q : ℤ) (s : List ℕ) (l : List LabelBlock) (p : ℕ) → AllRight block_of l → Fits f p (all_slots block_of l)
      → seen (label_fact lent q (blocks_fact e s l p)) ≡ blocks_bytes lent q s l
  blocks_shown lent q s [] p r m = refl
  blocks_shown lent q s (a ∷ l) p r m =
      let t = a.entries in
      let g = p + length (opening e.tagged n_lbl) + head_size e.name_width in
      let h = fits_left f p (block_of.slots a) (all_slots block_of l) m in
      let B = block_facts e.tagged o e.name_width f p a r.0 h in
      if (λ (t : TableFact). seen (label_fact lent q t)) (same_list a.set_name s) _ _ _ _
      (slot_shown lent g t B.the_table q (slot_fact q t) (search_ends (λ i. signed_by 2147483648 (get_or t.values i 0)) q (length t.offsets)))
      (blocks_shown lent q s l (g + table_size t + length (closing e.tagged n_lbl)) r.1
      (rw B.sized at (good_right block_of (block_good e.tagged o e.name_width) f p a (all_slots block_of l) m)))
