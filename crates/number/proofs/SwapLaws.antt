-- A number in one byte order is the number with its bytes swapped in the other.
use mathlib.Core.Path.{◌≡◌, refl, ap, ◌∙◌}
use Prim.Native.Nat.{ℕ, zero, suc, ◌+◌, ◌^◌, ◌<◌, suc-le-suc}
use native.Mathlib.Nat.{zero-lt-suc}
use mathlib.Core.List.{List, ◌∷◌}
use mathlib.Core.Bool.{Bool, true, false, cond}
use lib.ListN.{get_or}
use Rattle.format.specs.Slot.{Slot, byte, Bytes}
use Rattle.format.specs.Number.{msf, lsf, order_by, seat, digit, tab, num, num_slots}
use Rattle.format.proofs.NumberLaws.{val_same, val_small, digit_val, digit_small, seat_below, seat_twice}
use Rattle.number.specs.Numbers.{IsNumber, swapped}

tab_same : (w : ℕ) (s t : ℕ → Slot) → ((i : ℕ) → i < w → s i ≡ t i) → tab w s ≡ tab w t
tab_same zero s t h = refl
tab_same (suc w) s t h =
    ap (λ (x : Slot). x ∷ tab w (λ i. s (suc i))) (h zero (zero-lt-suc w))
    ∙ ap (λ (l : List Slot). t zero ∷ l) (tab_same w (λ i. s (suc i)) (λ i. t (suc i)) (λ i b. h (suc i) (suc-le-suc b)))

-- swapped bytes, least significant byte first: they fit; as slots; and as read
pub swapped_small : (w n : ℕ) → swapped w n < 256 ^ w
unfolding swapped
swapped_small w n = val_small _ w (λ k. digit_small w n _)

swapped_slots : (w n : ℕ) → num_slots lsf w (swapped w n) ≡ num_slots msf w n
unfolding swapped
swapped_slots w n =
    tab_same w _ _
    λ i b. ap byte
    (digit_val (λ k. digit w n (seat lsf w k)) w (λ k. digit_small w n (seat lsf w k)) (seat lsf w i) (seat_below lsf w i b)
    ∙ ap (digit w n) (seat_twice lsf w i b))

swapped_num : (w : ℕ) (f : List ℕ) (p : ℕ) → Bytes f → swapped w (num lsf w f p) ≡ num msf w f p
unfolding swapped
swapped_num w f p u =
    val_same _ _ w
    λ k b. digit_val (λ i. get_or f (p + seat lsf w i) 0) w (λ i. u (p + seat lsf w i)) (seat lsf w k) (seat_below lsf w k b)
    ∙ ap (λ (i : ℕ). get_or f (p + i) 0) (seat_twice lsf w k b)

-- in either order, with the bytes of n swapped where it is msf: the slots of n; and the number read
pub slots_ordered : (t : Bool) (w n r : ℕ) → r ≡ cond t (swapped w n) n → num_slots lsf w r ≡ num_slots (order_by t) w n
slots_ordered true w n r e = rw e (swapped_slots w n)
slots_ordered false w n r e = rw e

pub number_ordered : (t : Bool) (w : ℕ) (f : List ℕ) (p n r : ℕ) → Bytes f → IsNumber lsf w f p n → r ≡ cond t (swapped w n) n
    → IsNumber (order_by t) w f p r
number_ordered true w f p n r u h e =
    record { is = e ∙ ap (swapped w) h.is ∙ swapped_num w f p u; small = rw e (swapped_small w n) }
number_ordered false w f p n r u h e = record { is = e ∙ h.is; small = rw e h.small }

-- one byte is the same in either
pub byte_ordered : (t : Bool) (f : List ℕ) (p r : ℕ) → IsNumber lsf 1 f p r → IsNumber (order_by t) 1 f p r
byte_ordered true f p r h = record { is = h.is; small = h.small }
byte_ordered false f p r h = h
