-- The data, and the long strings that its cells refer to.
use Rattle.std.specs.Prelude.{◌≡◌, ℕ, zero, suc, ◌+◌, ◌*◌, List, [], ◌∷◌, ◌++◌, Bool, true, false, cond, not, ◌&&◌, ◌||◌, length, get_or, eqb, leb, ltb}
use Rattle.format.specs.Number.{Order}
use Rattle.format.specs.Grammar.{Sect, within, idle, number, fixed, raw, ruled, seq, times, walk, told, coded, tag, between, same_at, row, row_width}
use Rattle.format.specs.Edition.{opening, closing, n_data, n_strls, t_gso}
use Rattle.format.specs.Variables.{VarType, text_type, strl_type, byte_type, int_type, long_type, float_type, double_type}

-- ---- cells

-- a cell: the bits of a number; a fixed-width text; a long-string reference (v, o)
pub data Cell : Type 0 where
  bits : ℕ → Cell
  chars : List ℕ → Cell
  link : ℕ → ℕ → Cell

-- the bits of a cell, where it has them
abbrev pub bits_of : Cell → ℕ
bits_of (bits n) = n
bits_of (chars t) = 0
bits_of (link v o) = 0

-- its text
abbrev pub chars_of : Cell → List ℕ
chars_of (bits n) = []
chars_of (chars t) = t
chars_of (link v o) = []

-- the reference of a pair
abbrev pub link_by : ℕ × ℕ → Cell
link_by v = link v.0 v.1

-- the pair of a reference
abbrev pub link_of : Cell → ℕ × ℕ
link_of (bits n) = (0, 0)
link_of (chars t) = (0, 0)
link_of (link v o) = (v, o)

-- a cell of a number of w bytes
abbrev pub bit_cell : Order → ℕ → Sect Cell
bit_cell o w = coded bits bits_of (number o w)

-- a cell, by the type of its variable; a strL cell has v in vw bytes and o in ow bytes
abbrev pub cell : Order → ℕ → ℕ → VarType → Sect Cell
cell o vw ow (text_type w) = coded chars chars_of (fixed w)
cell o vw ow strl_type = coded link_by link_of (seq (number o vw) λ v. number o ow)
cell o vw ow byte_type = bit_cell o 1
cell o vw ow int_type = bit_cell o 2
cell o vw ow long_type = bit_cell o 4
cell o vw ow float_type = bit_cell o 4
cell o vw ow double_type = bit_cell o 8

-- its width
abbrev pub cell_width : ℕ → ℕ → VarType → ℕ
cell_width vw ow (text_type w) = w
cell_width vw ow strl_type = vw + ow
cell_width vw ow byte_type = 1
cell_width vw ow int_type = 2
cell_width vw ow long_type = 4
cell_width vw ow float_type = 4
cell_width vw ow double_type = 8

-- n observations, each variable in turn
unfoldable pub observations : Bool → Order → ℕ → ℕ → List VarType → ℕ → Sect (List (List Cell))
observations t o vw ow l n =
    between (opening t n_data) (closing t n_data) (within (n * row_width (cell_width vw ow) l) (times (row (cell o vw ow) l) n))

-- ---- long strings

-- a long string: the cell (v, o) whose it is, its kind, 129 or 130, and its contents
pub record LongString : Type 0 where
  pub v : ℕ
  pub o : ℕ
  pub kind : ℕ
  pub contents : List ℕ

-- element i of a list, counted from 1
abbrev pub nth : {A : Type 0} → A → List A → ℕ → A
nth d l zero = d
nth d l (suc i) = get_or l i d

-- the cell is the reference (v, o)
abbrev pub is_link : Cell → ℕ → ℕ → Bool
is_link (bits n) v o = false
is_link (chars t) v o = false
is_link (link x y) v o = eqb x v && eqb y o

-- cell (v, o) of the data d, variable v in observation o, names itself (so variable v is strL)
abbrev pub names_itself : List (List Cell) → ℕ → ℕ → Bool
names_itself d v o = is_link (nth (bits 0) (nth [] d o) v) v o

-- what variable i in observation j may hold: (0, 0); or a cell that is not after it and names itself
abbrev pub link_rule : List (List Cell) → ℕ → ℕ → Cell → Bool
link_rule d i j (bits n) = true
link_rule d i j (chars t) = true
link_rule d i j (link v o) = (eqb v 0 && eqb o 0) || ((ltb o j || (eqb o j && leb v i)) && names_itself d v o)

-- the rule for the cells of observation j from variable i on
abbrev pub row_links : List (List Cell) → ℕ → ℕ → List Cell → Bool
row_links d i j [] = true
row_links d i j (c ∷ l) = link_rule d i j c && row_links d (suc i) j l

-- the rule for the observations from j on
abbrev pub data_links : List (List Cell) → ℕ → List (List Cell) → Bool
data_links d j [] = true
data_links d j (l ∷ r) = row_links d 1 j l && data_links d (suc j) r

-- the cells that name themselves, in data order, of observation j from variable i on
abbrev pub row_selves : ℕ → ℕ → List Cell → List (ℕ × ℕ)
row_selves i j [] = []
row_selves i j (c ∷ l) = cond (is_link c i j) ((i, j) ∷ row_selves (suc i) j l) (row_selves (suc i) j l)

-- those of the observations from j on
abbrev pub data_selves : ℕ → List (List Cell) → List (ℕ × ℕ)
data_selves j [] = []
data_selves j (l ∷ r) = row_selves 1 j l ++ data_selves (suc j) r

-- the last byte is zero, and no other is
abbrev pub zero_last : List ℕ → Bool
zero_last [] = false
zero_last (c ∷ []) = eqb c 0
zero_last (c ∷ d ∷ l) = not (eqb c 0) && zero_last (d ∷ l)

-- kind 129: any bytes, also none; kind 130: at least 2, the last byte zero and no other
abbrev pub kind_rule : LongString → Bool
kind_rule r = eqb r.kind 129 || (eqb r.kind 130 && (leb 2 (length r.contents) && zero_last r.contents))

-- the records are of these cells, in this order, each by its kind's rule
abbrev pub record_rule : List (ℕ × ℕ) → List LongString → Bool
record_rule [] [] = true
record_rule [] (r ∷ l) = false
record_rule (s ∷ k) [] = false
record_rule (s ∷ k) (r ∷ l) = (eqb s.0 r.v && eqb s.1 r.o) && (kind_rule r && record_rule k l)

-- number 11's rule: each reference keeps to its rule, and the records are exactly the cells that name themselves, in data order
unfoldable pub linked : List (List Cell) → List LongString → Bool
linked d l = data_links d 1 d && record_rule (data_selves 1 d) l

-- whether a record is next: GSO; never in an untagged edition
abbrev pub long_next : Bool → List ℕ → ℕ → Bool
long_next t f p = t && same_at t_gso f p

-- v, o, kind, length
abbrev pub LongHead : Type 0
LongHead = ℕ × (ℕ × (ℕ × ℕ))

-- the numbers before the contents of a record, with o in ow bytes
unfoldable pub long_head : Order → ℕ → Sect LongHead
long_head o ow = within (4 + (ow + (1 + 4))) (seq (number o 4) λ v. seq (number o ow) λ x. seq (number o 1) λ k. number o 4)

-- the record of its parts
abbrev pub long_by : Unit {0} × (LongHead × List ℕ) → LongString
long_by w = record { v = w.1.0.0; o = w.1.0.1.0; kind = w.1.0.1.1.0; contents = w.1.1 }

-- the parts of a record
abbrev pub long_of : LongString → Unit {0} × (LongHead × List ℕ)
long_of r = (tt, ((r.v, (r.o, (r.kind, length r.contents))), r.contents))

-- a strL record: GSO, v, o, kind, length, contents; an untagged edition has none
unfoldable pub long_record : Bool → Order → ℕ → Sect LongString
long_record t o ow =
    ruled
    (told long_by long_of (seq (tag t_gso 4) λ a. seq (long_head o ow) λ h. within h.1.1.1 (raw h.1.1.1)))
    (λ r. t) 4

-- the records of the data d; then number 11's rule; then the closing tag
unfoldable pub strls : Bool → Order → ℕ → List (List Cell) → Sect (List LongString)
strls t o ow d =
    told (λ v. v.1.0) (λ l. (tt, (l, (tt, tt))))
    (seq (tag (opening t n_strls) 4) λ a.
    walk (long_next t) (long_record t o ow) λ l. seq (ruled (idle 0 0) (λ u. linked d l) 11) λ u. tag (closing t n_strls) 4)
