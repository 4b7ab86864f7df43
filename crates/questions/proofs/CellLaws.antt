-- Cells of an accepted file.
use mathlib.Core.Path.{◌≡◌}
use Prim.Native.Nat.{ℕ, zero, suc, ◌+◌, ◌-◌, ◌*◌, ◌^◌, ◌<◌}
use native.Mathlib.Nat.{add-zero, not-suc-le-zero, le_of_suc-le-suc}
use native.Mathlib.Omega.{arith}
use mathlib.Core.List.{List, [], ◌∷◌}
use mathlib.Core.Bool.{true}
use lib.ListN.{length, get_or, take}
use Rattle.format.specs.Slot.{Fits}
use Rattle.format.specs.Number.{Order, num, num_slots}
use Rattle.format.specs.Grammar.{Sect, text_at, within, times, row, row_slots, RowRight, row_width, tag, between}
use Rattle.format.specs.Edition.{Edition, opening, closing, n_data}
use Rattle.format.specs.Variables.{VarType, text_type, strl_type, byte_type, int_type, long_type, float_type, double_type}
use Rattle.format.specs.Data.{Cell, bits, bits_of, chars_of, link_of, cell, cell_width, observations}
use Rattle.format.specs.Cells.{Says}
use Rattle.format.proofs.SlotLaws.{fits_left, fits_after, length_tab}
use Rattle.format.proofs.NumberLaws.{num_read}
use Rattle.format.proofs.Good.{text_read, good_right, between_fits, element}
use Rattle.format.proofs.RowLaws.{row_wide, row_of_good}
use Rattle.format.proofs.DataLaws.{cell_good, cell_wide}
use Rattle.questions.specs.Readings.{got, bind, room, text_needs}
use Rattle.questions.specs.Ask.{among, cell_at, cell_place}
use Rattle.questions.specs.Fact.{cell_says}
use Rattle.questions.proofs.ReadLaws.{room_is, number_room, text_room, needs_in, among_below}

-- a number's cell
module _ (o : Order) (w : ℕ) (f : List ℕ) (p n : ℕ) (r : n < 256 ^ w) (m : Fits f p (num_slots o w n)) where
  bits_at : (s : ℕ → Says) → bind (room f p w) (λ u. got (s (num o w f p))) ≡ got (s n)
  bits_at s = rw (room_is f p w (number_room o w n f p m), num_read o w n f p r m)

-- what is read where a cell's slots stand
pub cell_at_lem : (e : Edition) (o : Order) (f : List ℕ) (t : VarType) (p : ℕ) (c : Cell) → (cell o e.v_width e.o_width t).Right c
    → Fits f p ((cell o e.v_width e.o_width t).slots c) → cell_at e o f t p ≡ got (cell_says t p c)
cell_at_lem e o f (text_type w) p c r m =
    rw (room_is f p (text_needs w (text_at w f p)) (needs_in w f p (text_room w (chars_of c) f p m)), text_read w (chars_of c) f p r.0.0 r.0.1 m)
cell_at_lem e o f strl_type p c r m =
    let v = (link_of c).0 in
    let x = (link_of c).1 in
    let a = fits_left f p (num_slots o e.v_width v) (num_slots o e.o_width x) m in
    let b = fits_after f p e.v_width (num_slots o e.v_width v) (num_slots o e.o_width x) (length_tab e.v_width _) m in
    rw (room_is f p (e.v_width + e.o_width) (omega (arith, number_room o e.o_width x f (p + e.v_width) b)), num_read o e.v_width v f p r.0.0 a, num_read o e.o_width x f (p + e.v_width) r.0.1 b)
cell_at_lem e o f byte_type p c r m = bits_at o 1 f p (bits_of c) r.0 m (λ n. cell_says byte_type p (bits n))
cell_at_lem e o f int_type p c r m = bits_at o 2 f p (bits_of c) r.0 m (λ n. cell_says int_type p (bits n))
cell_at_lem e o f long_type p c r m = bits_at o 4 f p (bits_of c) r.0 m (λ n. cell_says long_type p (bits n))
cell_at_lem e o f float_type p c r m = bits_at o 4 f p (bits_of c) r.0 m (λ n. cell_says float_type p (bits n))
cell_at_lem e o f double_type p c r m = bits_at o 8 f p (bits_of c) r.0 m (λ n. cell_says double_type p (bits n))

-- a right cell stands at p
pub record CellFits (e : Edition) (o : Order) (f : List ℕ) (t : VarType) (p : ℕ) (c : Cell) : Type 0 where
  pub right : (cell o e.v_width e.o_width t).Right c
  pub fits : Fits f p ((cell o e.v_width e.o_width t).slots c)

module _ (e : Edition) (o : Order) where
  abbrev one : VarType → Sect Cell
  one = cell o e.v_width e.o_width

  abbrev wide : VarType → ℕ
  wide = cell_width e.v_width e.o_width

  -- cell i of a row
  row_at : (t : List VarType) (l : List Cell) (f : List ℕ) (p i : ℕ) → RowRight one t l → Fits f p (row_slots one t l) → i < length t
      → CellFits e o f (get_or t i byte_type) (p + row_width wide (take i t)) (get_or l i (bits 0))
  row_at [] l f p i r m b = absurd (not-suc-le-zero b)
  row_at (a ∷ t) [] f p i r m b = absurd r
  row_at (a ∷ t) (c ∷ l) f p zero r m b = record { right = r.0; fits = rw add-zero (fits_left f p ((one a).slots c) (row_slots one t l) m) }
  row_at (a ∷ t) (c ∷ l) f p (suc i) r m b =
      let k = good_right (one a) (cell_good o e.v_width e.o_width a) f p c (row_slots one t l) m in
      let h = row_at t l f (p + wide a) i r.1 (rw (cell_wide o e.v_width e.o_width a c r.0) at k) (le_of_suc-le-suc b) in
      let q : p + wide a + row_width wide (take i t) ≡ p + (wide a + row_width wide (take i t)) = omega arith in
      record { right = h.right; fits = rw q at h.fits }

  -- cell i, j of the data
  pub own_cell : (t : List VarType) (k n : ℕ) (f : List ℕ) (p : ℕ) (l : List (List Cell)) (i j : ℕ) → (observations e.tagged o e.v_width e.o_width t n).Right l
      → Fits f p ((observations e.tagged o e.v_width e.o_width t n).slots l) → length t ≡ k → among i k ≡ true → among j n ≡ true
      → CellFits e o f (get_or t (i - 1) byte_type) (cell_place e t (p + length (opening e.tagged n_data)) i j) (get_or (get_or l (j - 1) []) (i - 1) (bits 0))
  unfolding observations between tag
  own_cell t k n f p l i j r m y a b =
      let q = p + length (opening e.tagged n_data) in
      let c = between_fits (opening e.tagged n_data) (closing e.tagged n_data) (within (n * row_width wide t) (times (row one t) n)) l f p m in
      let d = element (row one t) (row_of_good one wide (cell_wide o e.v_width e.o_width) (cell_good o e.v_width e.o_width) t)
      (row_wide one wide (cell_wide o e.v_width e.o_width) (cell_good o e.v_width e.o_width) t) [] l f q (j - 1) r.1.0.1 c
      (rw r.1.0.0 (among_below j n b)) in
      row_at t (get_or l (j - 1) []) f _ (i - 1) d.right d.fits (rw y (among_below i k a))
