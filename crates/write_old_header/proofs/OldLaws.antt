-- The parts of an untagged header: how long they are, and that one after another they are the header.
use mathlib.Core.Path.{◌≡◌, refl, sym, ap, ◌∙◌}
use Prim.Native.Nat.{ℕ, zero, suc, ◌+◌, ◌-◌, ◌≤◌}
use native.Mathlib.Nat.{not-suc-le-zero}
use native.Mathlib.Numerals.{add-one}
use native.Mathlib.Omega.{arith}
use mathlib.Core.List.{List, [], ◌∷◌, ◌++◌, append_assoc}
use lib.ListN.{length, replicate}
use Rattle.format.specs.Slot.{Slot, byte, spare, fill}
use Rattle.format.specs.Number.{Order, num_slots}
use Rattle.format.specs.Grammar.{text_slots}
use Rattle.format.specs.Edition.{order_mark}
use Rattle.format.specs.Header.{old_stamp, old_header}
use Rattle.format.proofs.SlotLaws.{length_fill, length_tab}
use Rattle.format.proofs.WriteLaws.{fill_append, fill_text}
use Rattle.write_old_header.specs.Parts.{num_bytes, old_marks}

-- ---- lengths

pub num_length : (o : Order) (w n : ℕ) → length (num_bytes o w n) ≡ w
num_length o w n = length_fill (num_slots o w n) ∙ length_tab w _

-- ---- the parts

-- a text in its field
pub padded_as : (w n : ℕ) (t : List ℕ) → length t ≡ n → n ≤ w → t ++ replicate (w - n) 0 ≡ fill (text_slots w t)
padded_as w n t e b = ap (λ (k : ℕ). t ++ replicate (w - k) 0) (sym e) ∙ sym (fill_text w t (omega arith))

-- a text in one byte more than it needs: a zero more
longer : (w : ℕ) (t : List ℕ) → length t ≤ w → fill (text_slots (suc w) t) ≡ fill (text_slots w t) ++ 0 ∷ []
longer zero [] b = refl
longer zero (c ∷ t) b = absurd (not-suc-le-zero b)
longer (suc w) [] b = ap (λ (l : List ℕ). 0 ∷ l) (zeros w)
  where
    zeros : (n : ℕ) → fill (replicate (suc n) (spare 0)) ≡ fill (replicate n (spare 0)) ++ 0 ∷ []
    zeros zero = refl
    zeros (suc n) = ap (λ (l : List ℕ). 0 ∷ l) (zeros n)
longer (suc w) (c ∷ t) b = ap (λ (l : List ℕ). c ∷ l) (longer w t (omega arith))

five : (A B C D E : List Slot) → fill (A ++ (B ++ (C ++ (D ++ E)))) ≡ (fill A ++ fill B) ++ (fill C ++ (fill D ++ fill E))
five A B C D E = simp (fill_append, append_assoc)

pub old_parts : (d : ℕ) (o : Order) (nw lm k n : ℕ) (l s : List ℕ) → length s ≤ 17
    → (old_marks d o ++ (num_bytes o 2 k ++ num_bytes o nw n)) ++ (fill (text_slots (lm + 1) l) ++ fill (text_slots 18 s))
    ≡ fill ((old_header d o nw lm).slots (k, (n, (l, s))))
unfolding old_header old_stamp
old_parts d o nw lm k n l s b =
    sym
    (ap (λ (x : List ℕ). d ∷ order_mark o ∷ 1 ∷ 1 ∷ x)
    (five (num_slots o 2 k) (num_slots o nw n) (text_slots (suc lm) l) (text_slots 17 s) (byte 0 ∷ [])
    ∙ λ i. (num_bytes o 2 k ++ num_bytes o nw n) ++ (fill (text_slots (sym (add-one lm) i) l) ++ sym (longer 17 s b) i)))

pub old_size : (d : ℕ) (o : Order) (nw lm k n : ℕ) (l s : List ℕ) → (old_header d o nw lm).size (k, (n, (l, s))) ≡ 25 + (nw + lm)
unfolding old_header old_stamp
old_size d o nw lm k n l s = omega arith
