-- The data and the long strings that its cells refer to.
use mathlib.Core.Path.{◌≡◌, refl, sym, ap, ◌∙◌, subst}
use Prim.Native.Nat.{ℕ, ◌+◌, ◌*◌, ◌≤◌}
use native.Mathlib.Omega.{arith}
use mathlib.Core.List.{List}
use mathlib.Core.Bool.{Bool, true, false, cond}
use lib.ListN.{length}
use Rattle.format.specs.Number.{Order, order_by}
use Rattle.format.specs.Grammar.{Sect, next, within, times, row, row_width, read_times, tag}
use Rattle.format.specs.Edition.{opening, closing, n_data}
use Rattle.format.specs.Variables.{VarType, type_code}
use Rattle.format.specs.Data.{Cell, cell, cell_width, observations, strls}
use Rattle.format.proofs.Good.{also_left, also_right}
use Rattle.format.proofs.StepLaws.{between_judge, between_read, within_room}
use Rattle.std.specs.Prelude.{Result}
use Rattle.refusal.specs.declared.Refusal.{Refusal}
use Rattle.section.specs.Judged.{Judged}
use Rattle.data.specs.Places.{Typed}
use Rattle.data.proofs.PlaceLaws.{width_is}
use Rattle.strls.specs.declared.Frame.{Frame}
use Rattle.strls.specs.Links.{Framed, cells_of}

pub data_tag : (t : Bool) → cond t 6 0 ≡ length (opening t n_data)
data_tag true = refl
data_tag false = refl

-- data that is right is in the file: n rows of the variables' widths, from where its opening tag ends
module _ (t : Bool) (o : Order) (vw ow n : ℕ) (l : List VarType) (f : List ℕ) (p : ℕ) where
  rows_room : (observations t o vw ow l n).judge f p ≡ 0 → p + length (opening t n_data) + n * row_width (cell_width vw ow) l ≤ length f
  unfolding observations
  rows_room h =
      let S = within (n * row_width (cell_width vw ow) l) (times (row (cell o vw ow) l) n) in
      let a = opening t n_data in
      let b = closing t n_data in
      within_room (n * row_width (cell_width vw ow) l) (times (row (cell o vw ow) l) n) f (p + length a)
      (also_left (S.judge f (p + length a)) ((tag b 4).judge f (next S f (p + length a)))
      (also_right ((tag a 4).judge f p) _ (sym (between_judge a b S f p) ∙ h)))

  pub data_place : (observations t o vw ow l n).judge f p ≡ 0 → p + length (opening t n_data) ≤ length f
  data_place h = omega (arith, rows_room h)

  rows_read : (observations t o vw ow l n).read f p ≡ read_times (row (cell o vw ow) l) n f (p + length (opening t n_data))
  unfolding observations
  rows_read = between_read (opening t n_data) (closing t n_data) (within (n * row_width (cell_width vw ow) l) (times (row (cell o vw ow) l) n)) f p

-- the long strings' frame, with the data at p
module _ (f : List ℕ) (d : Frame) (p : ℕ) (e : d.data ≡ p + length (opening d.tagged n_data)) (y : Typed d.tagged (order_by d.msf) f d.types d.k)
    (eight : d.vwidth + d.owidth ≡ 8) where
  abbrev T : List VarType
  T = read_times (type_code d.tagged (order_by d.msf)) d.k f d.types

  abbrev O : Sect (List (List Cell))
  O = observations d.tagged (order_by d.msf) d.vwidth d.owidth T d.n

  pub data_framed : O.judge f p ≡ 0 → d.rwidth ≤ 8 → Framed f d
  data_framed h s =
      let w = width_is d.tagged (order_by d.msf) f d.types d.vwidth d.owidth eight d.k y.right in
      let r = rows_room d.tagged (order_by d.msf) d.vwidth d.owidth d.n T f p h in
      record { typed = y; data_in = rw (e, sym w) r; eight = eight; record_small = s }

  pub data_cells : cells_of f d ≡ O.read f p
  unfolding cells_of
  data_cells =
      ap (λ (x : ℕ). read_times (row (cell (order_by d.msf) d.vwidth d.owidth) T) d.n f x) e
      ∙ sym (rows_read d.tagged (order_by d.msf) d.vwidth d.owidth d.n T f p)

  pub data_longs : (q : ℕ) (r : Result ℕ Refusal) → Judged (strls d.tagged (order_by d.msf) d.rwidth (cells_of f d)) f q r
      → Judged (strls d.tagged (order_by d.msf) d.rwidth (O.read f p)) f q r
  data_longs q r j = subst (λ (x : List (List Cell)). Judged (strls d.tagged (order_by d.msf) d.rwidth x) f q r) data_cells j
