-- That a letter is at most 26; when bits are no NaN's. Assumes nothing.
use Rattle.std.proofs.Common.{◌≡◌, ℕ, ◌-◌, ◌*◌, ◌/◌, ◌%◌, ◌^◌, ◌<◌, ◌≤◌, Bool, true, false, cond, not, ◌&&◌, T, eqb, ltb, leb, List, sym, refl, ◌∙◌, subst, arith, ltb-true, le-ltb, leb-true}
use mathlib.Core.Bool.{false≢true}
use native.Mathlib.Nat.{pow-le-pow_right}
use lib.Ieee.{Format, nan_bits, ones, hid, top, binary32, binary64, of_bits}
use lib.Ieee.Bits.{nan_bits_above}
use Rattle.format.specs.Number.{Order, num}
use Rattle.format.specs.Variables.{VarType, text_type, strl_type, byte_type, int_type, long_type, float_type, double_type}
use Rattle.format.specs.Cells.{Says, whole, single, double, letter, between, outside, signed_by, says_whole, says_real, says_at}
use Rattle.cell.specs.Cells.{Lettered}

-- bits are no NaN's up to infinity, of either sign
pub not_nan : (f : Format) (b : ℕ) → b % top f ≤ ones f * hid f → T (not (nan_bits f b))
not_nan f b h = subst (λ (t : Bool). T (not t)) (sym (nan_bits_above f b ∙ le-ltb _ _ h)) tt

-- ---- a letter is at most 26

-- of two lettered answers either is lettered; the first may use the test
lettered_cond : (t : Bool) (x y : Says) → (t ≡ true → Lettered x) → Lettered y → Lettered (cond t x y)
lettered_cond true x y h k = h refl
lettered_cond false x y h k = k

-- both tests hold
both : (a b : Bool) → (a && b) ≡ true → (a ≡ true) × (b ≡ true)
both true b h = (refl, h)
both false b h = absurd (false≢true h)

lettered_whole : (half n : ℕ) → 27 ≤ half → Lettered (says_whole half n)
lettered_whole half n h =
    lettered_cond (leb (half - 27) n && ltb n half) (letter (n - (half - 27))) (cond (eqb n half) outside (whole (signed_by half n)))
    (λ e. omega (arith, ltb-true n half (both (leb (half - 27) n) (ltb n half) e).1))
    (lettered_cond (eqb n half) outside (whole (signed_by half n)) (λ e. tt) tt)

lettered_real : (first gap high minus least : ℕ) (number : Says) (b : ℕ) → Lettered number
    → Lettered (says_real first gap high minus least number b)
lettered_real first gap high minus least number b h =
    let k = (b - first) / gap in
    let t = eqb ((b - first) % gap) 0 in
    let low : Says = cond (t && leb k 26) (letter k) between in
    let rest : Says = cond (leb minus b && leb b least) number outside in
    lettered_cond (ltb b first) number (cond (leb b high) low rest) (λ e. h)
    (lettered_cond (leb b high) low rest
    (λ e. lettered_cond (t && leb k 26) (letter k) between (λ e. leb-true k 26 (both t (leb k 26) e).1) tt)
    (lettered_cond (leb minus b && leb b least) number outside (λ e. h) tt))

pub lettered_at : (o : Order) (vw ow : ℕ) (t : VarType) (f : List ℕ) (p : ℕ) → Lettered (says_at o vw ow t f p)
lettered_at o vw ow (text_type w) f p = tt
lettered_at o vw ow strl_type f p = tt
lettered_at o vw ow byte_type f p = lettered_whole 128 (num o 1 f p) (omega arith)
lettered_at o vw ow int_type f p = lettered_whole 32768 (num o 2 f p) (omega arith)
lettered_at o vw ow long_type f p = lettered_whole 2147483648 (num o 4 f p) (omega arith)
lettered_at o vw ow float_type f p =
    let b = num o 4 f p in lettered_real 0x7f000000 2048 0x7f800000 0x80000000 0xfeffffff (single (of_bits binary32 b)) b tt
lettered_at o vw ow double_type f p =
    let b = num o 8 f p in
    lettered_real 0x7fe0000000000000 (2 ^ 40) 0x7ff0000000000000 0x8000000000000000 0xffefffffffffffff (double (of_bits binary64 b)) b tt

-- ---- the bits of a cell

pub small_bits : (n w : ℕ) → n < 256 ^ w → w ≤ 4 → n < 4294967296
small_bits n w h l =
    let g : 256 ^ w ≤ 256 ^ 4 = pow-le-pow_right (omega arith) {j = 4} l in
    omega arith
