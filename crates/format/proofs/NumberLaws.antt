-- A number read back from its slots, and slots from the number read: once, over width and order.
use mathlib.Core.Path.{◌≡◌, refl, sym, ap, ◌∙◌, subst}
use Prim.Native.Nat.{ℕ, zero, suc, ◌+◌, ◌-◌, ◌*◌, ◌/◌, ◌%◌, ◌^◌, ◌≤◌, ◌<◌}
use native.Mathlib.Nat.{pow-suc, pow-zero, not-suc-le-zero}
use native.Mathlib.Omega.{arith}
use mathlib.Core.List.{List, [], ◌∷◌}
use mathlib.Core.Logic.{◌⊎◌, inl, inr}
use mathlib.Core.Bool.{Bool, true, false, cond}
use lib.ListN.{length, get_or}
use lib.Dec.{eqb}
use borrow.Author.Tests.{eqb-true, eqb-false, eq-eqb, ne_eqb}
use Rattle.format.specs.Slot.{Slot, byte, spare, Takes, Fits, Bytes}
use Rattle.format.specs.Number.{Order, msf, lsf, seat, val, digit, tab, num, num_slots}
use Rattle.format.proofs.SlotLaws.{tab_at, fits_tab, Small, small_tab}

pub val_same : (d e : ℕ → ℕ) (w : ℕ) → ((k : ℕ) → k < w → d k ≡ e k) → val d w ≡ val e w
val_same d e zero h = refl
val_same d e (suc w) h = omega (arith, val_same d e w (λ k b. h k (omega arith)), h w (omega arith))

-- the last digit, and those before it
pub digit_last : (w n : ℕ) → digit (suc w) n w ≡ n % 256
digit_last w n = rw (eq-eqb w w refl)

pub digit_front : (w n k : ℕ) → k < w → digit (suc w) n k ≡ digit w (n / 256) k
digit_front w n k b = rw (ne_eqb k w (λ e. (let f : k ≡ w = e in omega arith)))

val_digit : (w n : ℕ) → n < 256 ^ w → val (digit w n) w ≡ n
val_digit zero n b = omega (arith, rw pow-zero at b)
val_digit (suc w) n b =
    let s : n / 256 < 256 ^ w = omega (arith, rw pow-suc at b) in
    omega (arith, val_same (digit (suc w) n) (digit w (n / 256)) w (digit_front w n), val_digit w (n / 256) s, digit_last w n)

pub val_small : (d : ℕ → ℕ) (w : ℕ) → ((k : ℕ) → d k < 256) → val d w < 256 ^ w
val_small d zero h = rw pow-zero (omega arith)
val_small d (suc w) h = rw pow-suc (omega (arith, val_small d w h, h w))

pub digit_val : (d : ℕ → ℕ) (w : ℕ) → ((k : ℕ) → d k < 256) → (k : ℕ) → k < w → digit w (val d w) k ≡ d k
digit_val d zero h k b = absurd (not-suc-le-zero b)
digit_val d (suc w) h k b = go (eqb k w) refl (digit_val d w h k)
  where
    last : (val d w * 256 + d w) % 256 ≡ d w
    last = omega (arith, h w)

    front : (val d w * 256 + d w) / 256 ≡ val d w
    front = omega (arith, h w)

    go : (t : Bool) → eqb k w ≡ t → (k < w → digit w (val d w) k ≡ d k)
        → cond (eqb k w) ((val d w * 256 + d w) % 256) (digit w ((val d w * 256 + d w) / 256) k) ≡ d k
    go true e ih = rw e (last ∙ ap d (sym (eqb-true k w e)))
    go false e ih = rw (e, front) (ih (omega (arith, eqb-false k w e)))

pub seat_below : (o : Order) (w k : ℕ) → k < w → seat o w k < w
seat_below msf w k b = b
seat_below lsf w k b = omega arith

pub seat_twice : (o : Order) (w k : ℕ) → k < w → seat o w (seat o w k) ≡ k
seat_twice msf w k b = refl
seat_twice lsf w k b = omega arith

-- what is read where n's slots stand is n
pub num_read : (o : Order) (w n : ℕ) (f : List ℕ) (p : ℕ) → n < 256 ^ w → Fits f p (num_slots o w n) → num o w f p ≡ n
num_read o w n f p b h =
    val_same (λ k. get_or f (p + seat o w k) 0) (digit w n) w
    (λ k c. tab_at f p w (λ i. byte (digit w n (seat o w i))) h (seat o w k) (seat_below o w k c) ∙ ap (digit w n) (seat_twice o w k c))
    ∙ val_digit w n b

-- the slots of what is read stand there
pub num_fits : (o : Order) (w : ℕ) (f : List ℕ) (p : ℕ) → Bytes f → p + w ≤ length f → Fits f p (num_slots o w (num o w f p))
num_fits o w f p u b =
    fits_tab f p w (λ i. byte (digit w (num o w f p) (seat o w i))) b
    λ i c. sym (digit_val (λ k. get_or f (p + seat o w k) 0) w (λ k. u (p + seat o w k)) (seat o w i) (seat_below o w i c)
    ∙ ap (λ (j : ℕ). get_or f (p + j) 0) (seat_twice o w i c))

pub num_small : (o : Order) (w : ℕ) (f : List ℕ) (p : ℕ) → Bytes f → num o w f p < 256 ^ w
num_small o w f p u = val_small (λ k. get_or f (p + seat o w k) 0) w (λ k. u (p + seat o w k))

-- a digit is a byte
pub digit_small : (w n k : ℕ) → digit w n k < 256
digit_small zero n k = omega arith
digit_small (suc w) n k = go (eqb k w) refl (digit_small w (n / 256) k)
  where
    go : (t : Bool) → eqb k w ≡ t → digit w (n / 256) k < 256 → digit (suc w) n k < 256
    go true e h = rw e (omega arith)
    go false e h = rw e h

pub number_small : (o : Order) (w n : ℕ) → Small (num_slots o w n)
number_small o w n = small_tab w _ (λ i b. digit_small w n (seat o w i))
