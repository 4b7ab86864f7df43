-- Laws of a number made digit by digit, or of two parts.
use mathlib.Core.Path.{◌≡◌, ap, ◌∙◌}
use Prim.Native.Nat.{ℕ, zero, suc, ◌+◌, ◌*◌, ◌^◌, ◌≤◌, ◌<◌}
use native.Mathlib.Nat.{add-zero, add-suc, mul_assoc, suc-mul, mul-le-mul_right, pow-zero, pow-suc, pow-le-pow_right}
use native.Mathlib.Omega.{arith}
use mathlib.Core.List.{List}
use lib.ListN.{get_or}
use lib.Pow.{pow-add}
use Rattle.format.specs.Number.{lsf, seat, val, num}
use Rattle.format.proofs.NumberLaws.{val_same, val_small}
use Rattle.number.specs.Numbers.{IsNumber}

-- n, made of k digits, with one more of w digits, at most 8
pub digit_fits : (d : ℕ → ℕ) (n k w b : ℕ) → ((i : ℕ) → d i < 256) → n ≡ val d k → k < w → w ≤ 8 → b < 256 → n * 256 + b < 18446744073709551616
digit_fits d n k w b s e h c t =
    let g : 256 ^ suc k ≤ 256 ^ 8 = pow-le-pow_right (omega arith) {j = 8} (omega arith) in
    let q : 256 ^ suc k ≡ 256 ^ k * 256 = pow-suc 256 k in
    omega (arith, val_small d k s)

-- the first v digits, and the w digits after them
pub val_split : (d : ℕ → ℕ) (v w : ℕ) → val d (v + w) ≡ val d v * 256 ^ w + val (λ k. d (v + k)) w
val_split d v zero = rw (add-zero v, pow-zero) (omega arith)
val_split d v (suc w) =
    rw (add-suc, pow-suc) (omega (arith, val_split d v w, mul_assoc (val d v) (256 ^ w) 256))

-- a number of v bytes and w after them, least significant byte first
pub number_parts : (v w : ℕ) (f : List ℕ) (p a b r : ℕ) → IsNumber lsf v f p a → IsNumber lsf w f (p + v) b → r ≡ b * 256 ^ v + a → IsNumber lsf (w + v) f p r
number_parts v w f p a b r h k e =
    record {
      is = omega (arith, val_split (λ i. get_or f (p + seat lsf (w + v) i) 0) w v, ap (λ (x : ℕ). x * 256 ^ v) (k.is ∙ high), h.is ∙ low);
      small = rw (pow-add 256 w v) (omega (arith, h.small, mul-le-mul_right (256 ^ v) k.small, suc-mul b (256 ^ v)));
    }
  where
    high : num lsf w f (p + v) ≡ val (λ i. get_or f (p + seat lsf (w + v) i) 0) w
    high = val_same _ _ w λ i c. ap (λ (q : ℕ). get_or f q 0) (omega arith)

    low : num lsf v f p ≡ val (λ i. get_or f (p + seat lsf (w + v) (w + i)) 0) v
    low = val_same _ _ v λ i c. ap (λ (q : ℕ). get_or f q 0) (omega arith)

-- a number of twice w bytes
pub number_halves : (w : ℕ) (f : List ℕ) (p a b r : ℕ) → IsNumber lsf w f p a → IsNumber lsf w f (p + w) b → r ≡ b * 256 ^ w + a → IsNumber lsf (w + w) f p r
number_halves w = number_parts w w

-- the number of one byte
pub number_byte : (f : List ℕ) (p r : ℕ) → r ≡ get_or f p 0 → r < 256 → IsNumber lsf 1 f p r
number_byte f p r e b = record { is = omega (arith, e, ap (λ (q : ℕ). get_or f q 0) (add-zero p)); small = b }
