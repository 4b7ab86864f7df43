-- A number with its bytes in the other order, from its two parts, or halves.
use mathlib.Core.Path.{◌≡◌, refl, sym, ap, ◌∙◌}
use Prim.Native.Nat.{ℕ, zero, suc, ◌+◌, ◌-◌, ◌*◌, ◌/◌, ◌%◌, ◌^◌, ◌<◌}
use native.Mathlib.Nat.{add-zero, add-suc, add_comm, pow-zero, pow-succ', div-div-eq-div-mul, not-suc-le-zero}
use native.Mathlib.Omega.{arith}
use mathlib.Core.Bool.{Bool, true, false}
use lib.Dec.{eqb}
use borrow.Author.Tests.{eqb-true, eqb-false, eq-eqb}
use Rattle.format.specs.Number.{lsf, seat, val, digit}
use Rattle.format.proofs.NumberLaws.{val_same, digit_front}
use Rattle.number.specs.Numbers.{swapped}
use Rattle.number.proofs.DigitLaws.{val_split}

-- the last w digits, and the v digits before them
digit_low : (v w n j : ℕ) → j < w → digit (v + w) n (v + j) ≡ digit w n j
digit_low v zero n j b = absurd (not-suc-le-zero b)
digit_low v (suc w) n j b = rw add-suc (go (eqb j w) refl (digit_low v w (n / 256) j))
  where
    go : (t : Bool) → eqb j w ≡ t → (j < w → digit (v + w) (n / 256) (v + j) ≡ digit w (n / 256) j)
        → digit (suc (v + w)) n (v + j) ≡ digit (suc w) n j
    go true e ih = rw (e, eq-eqb (v + j) (v + w) (ap (λ (i : ℕ). v + i) (eqb-true j w e)))
    go false e ih =
        let h : j < w = omega (arith, eqb-false j w e) in
        rw e (digit_front (v + w) n (v + j) (omega arith) ∙ ih h)

digit_high : (v w n j : ℕ) → j < v → digit (v + w) n j ≡ digit v (n / 256 ^ w) j
digit_high v zero n j b = rw (add-zero, pow-zero) (ap (λ (m : ℕ). digit v m j) (omega arith))
digit_high v (suc w) n j b =
    rw (add-suc, pow-succ')
    (digit_front (v + w) n j (omega arith) ∙ digit_high v w (n / 256) j b ∙ ap (λ (m : ℕ). digit v m j) (div-div-eq-div-mul n 256 (256 ^ w)))

-- the parts of the bytes in the other order
low : (v w n : ℕ) → val (λ i. digit v n (seat lsf v i)) v ≡ val (λ i. digit (v + w) n (seat lsf (v + w) i)) v
low v w n =
    rw (add_comm v w)
    (val_same _ _ v λ i c. sym (digit_low w v n (v - suc i) (omega arith)) ∙ ap (digit (w + v) n) (omega arith))

high : (v w n : ℕ) → val (λ i. digit w (n / 256 ^ v) (seat lsf w i)) w ≡ val (λ i. digit (v + w) n (seat lsf (v + w) (v + i))) w
high v w n =
    rw (add_comm v w)
    (val_same _ _ w λ i c. sym (digit_high w v n (w - suc i) (omega arith)) ∙ ap (digit (w + v) n) (omega arith))

-- the last v bytes come first
pub swapped_parts : (v w n a b r : ℕ) → a ≡ swapped v n → b ≡ swapped w (n / 256 ^ v) → r ≡ a * 256 ^ w + b → r ≡ swapped (v + w) n
unfolding swapped
swapped_parts v w n a b r h k e =
    omega (arith, val_split (λ i. digit (v + w) n (seat lsf (v + w) i)) v w, ap (λ (x : ℕ). x * 256 ^ w) (h ∙ low v w n), k ∙ high v w n)

-- the last half comes first
pub swapped_halves : (w n a b r : ℕ) → a ≡ swapped w n → b ≡ swapped w (n / 256 ^ w) → r ≡ a * 256 ^ w + b → r ≡ swapped (w + w) n
swapped_halves w = swapped_parts w w

pub swapped_byte : (n : ℕ) → n % 256 ≡ swapped 1 n
unfolding swapped
swapped_byte n = omega arith
