-- Laws of a map that is written.
use mathlib.Core.Path.{◌≡◌, refl, sym, ap, ◌∙◌}
use Prim.Native.Nat.{ℕ, ◌+◌, ◌*◌, ◌≤◌, ◌<◌}
use native.Mathlib.Numerals.{add-one}
use native.Mathlib.Omega.{arith}
use mathlib.Core.List.{List, [], ◌∷◌, ◌++◌, append_assoc, append-nil}
use mathlib.Core.Bool.{Bool, true, false, cond}
use lib.ListN.{length, take, get_or, length-append}
use lib.Seq.{take-suc, take_all}
use Rattle.format.specs.Slot.{fill}
use Rattle.format.specs.Number.{Order, num_slots}
use Rattle.format.specs.Grammar.{number, within, times, all_slots, between, tag}
use Rattle.format.specs.Edition.{opening, closing, n_map}
use Rattle.format.specs.Variables.{file_map}
use Rattle.format.proofs.SlotLaws.{length_fill, length_tab}
use Rattle.format.proofs.WriteLaws.{fill_between, fill_all}
use Rattle.writing.specs.Writes.{Puts}

module _ (o : Order) where
  -- the positions of places, one after another
  abbrev pub positions : List ℕ → List ℕ
  positions l = fill (all_slots (number o 8) l)

  pub number_length : (w n : ℕ) → length (fill (num_slots o w n)) ≡ w
  number_length w n = length_fill (num_slots o w n) ∙ length_tab w _

  positions_more : (l : List ℕ) (x : ℕ) → positions (l ++ x ∷ []) ≡ positions l ++ fill (num_slots o 8 x)
  positions_more [] x = fill_all (number o 8) x [] ∙ append-nil (fill (num_slots o 8 x))
  positions_more (y ∷ l) x =
      fill_all (number o 8) y (l ++ x ∷ [])
      ∙ ap (λ (k : List ℕ). fill (num_slots o 8 y) ++ k) (positions_more l x)
      ∙ sym (append_assoc (fill (num_slots o 8 y)) (positions l) (fill (num_slots o 8 x)))
      ∙ ap (λ (k : List ℕ). k ++ fill (num_slots o 8 x)) (sym (fill_all (number o 8) y l))

  -- a turn
  pub positions_turn : (l : List ℕ) (i : ℕ) → i < length l → positions (take i l) ++ fill (num_slots o 8 (get_or l i 0)) ≡ positions (take (i + 1) l)
  positions_turn l i b = sym (ap positions (ap (λ (k : ℕ). take k l) (add-one i) ∙ take-suc l i 0 b) ∙ positions_more (take i l) (get_or l i 0))

  -- all
  pub positions_all : (l : List ℕ) (i : ℕ) → length l ≤ i → positions (take i l) ≡ positions l
  positions_all l i b = ap positions (take_all i l b)

  pub positions_length : (l : List ℕ) → length (positions l) ≡ length l * 8
  positions_length [] = refl
  positions_length (x ∷ l) =
      let r = positions_length l in
      let h = ap length (fill_all (number o 8) x l) ∙ length-append (fill (num_slots o 8 x)) (positions l) in
      omega (arith, h, number_length 8 x, r)

-- ---- the whole map

pub map_parts : (o : Order) (l : List ℕ) → (opening true n_map ++ positions o l) ++ closing true n_map ≡ fill ((file_map true o).slots l)
unfolding file_map
map_parts o l =
    append_assoc (opening true n_map) (positions o l) (closing true n_map)
    ∙ sym (fill_between (opening true n_map) (closing true n_map) (within 112 (times (number o 8) 14)) l)

pub map_room : (t : Bool) (n : ℕ) → t ≡ true → cond t 123 0 ≤ n → 123 ≤ n
map_room t n e h = rw e at h

pub map_tagged : (t : Bool) (o : Order) (l d w : List ℕ) (r : ℕ) → t ≡ true → Puts (fill ((file_map true o).slots l)) d w r → Puts (fill ((file_map t o).slots (cond t l []))) d w r
map_tagged t o l d w r e h = rw e h

-- an untagged edition has none
pub map_untagged : (t : Bool) (o : Order) (l d : List ℕ) → t ≡ false → Puts (fill ((file_map t o).slots (cond t l []))) d d 0
unfolding file_map between tag
map_untagged t o l d e = rw e (record { is = refl; long = refl })
