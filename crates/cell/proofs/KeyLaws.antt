-- What the two tests, the whole part and the comparison with it say of a float's exact value; and the code of a letter. Assumes nothing.
use Rattle.std.proofs.Common.{◌≡◌, ℕ, zero, suc, ◌+◌, ◌*◌, ◌/◌, ◌%◌, ◌^◌, ◌<◌, ◌≤◌, Bool, true, false, cond, ◌||◌, T, eqb, ◌⊎◌, ℤ, pos, ◌+ℤ◌, neg_ℤ, sym, refl, ap, ◌∙◌, inl, inr, le_trans, div-lt_iff_lt-mul, div-add-mod', le-div_iff_mul-le, zero-mul, mul-one, mul_right_comm, arith, lit≤, lt→ltb, w32, SFits, to_z, of_z, ltb-false, ltb-true, lt-ltb, eq-eqb, ne_eqb, le-leb}
use mathlib.Core.Bool.{beq, and-false, false≢true}
use native.Mathlib.Nat.{eq_of_mul-eq-mul_right, min-eq_left}
use borrow.Author.Tests.{lt-leb}
use lib.Ieee.{Float, nan, inf, fin, binary64, up, down, lt, le, eq, of_int, to_signed, level}
use lib.Signed.{mag}
use lib.Ieee.Fits.{down_pos}
use lib.Ieee.Exact.{HasValue}
use lib.Ieee.Back.{round_whole}
use mir.ValLaws.{to_z_pos, to_z-of_z}
use Rattle.format.specs.Cells.{nothing, seeks, key_real, with_sign, long_max}

-- -2^31
abbrev LOW : Float
LOW = fin true 1 (pos 31)

-- the whole number q
abbrev at : ℕ → Float
at q = fin false q (pos 0)

-- a long's first letter
abbrev HIGH : Float
HIGH = at 2147483621

-- n / d is below k exactly where n is below k * d
under : (n d k : ℕ) → 0 < d → n < k * d → n / d < k
under n d k h p = (div-lt_iff_lt-mul {k = d} {x = n} {y = k} h).1 p

over : (n d k : ℕ) → 0 < d → k * d ≤ n → k ≤ n / d
over n d k h p = (le-div_iff_mul-le {k = d} {x = k} {y = n} h).1 p

-- the size of a number above LOW and below q
below : (q : ℕ) (s : Bool) (m : ℕ) (e : ℤ) → lt LOW (fin s m e) ≡ true → lt (fin s m e) (at q) ≡ true
    → m * up e / down e < cond s 2147483648 q
unfolding lt
below q false m e h k = under (m * up e) (down e) q (down_pos e) (omega (arith, ltb-true (m * up e * 1) (q * 1 * down e) k))
below q true m e h k =
    under (m * up e) (down e) 2147483648 (down_pos e) (omega (arith, ltb-true (m * up e * 1) (2147483648 * down e) h))

in_range : (s : Bool) (m : ℕ) (e : ℤ) → lt LOW (fin s m e) ≡ true → lt (fin s m e) HIGH ≡ true → m * up e / down e ≤ long_max s
in_range false m e h k = omega (arith, below 2147483621 false m e h k)
in_range true m e h k = omega (arith, below 2147483621 true m e h k)

-- in 31 bits
short : (q : ℕ) (s : Bool) (m : ℕ) (e : ℤ) → q ≤ 2147483648 → lt LOW (fin s m e) ≡ true → lt (fin s m e) (at q) ≡ true
    → m * up e / down e ≤ 2147483647
short q false m e b h k = omega (arith, below q false m e h k)
short q true m e b h k = omega (arith, below q true m e h k)

-- as every long's number is
long_short : (s : Bool) (q : ℕ) → q ≤ long_max s → q ≤ 2147483647
long_short false q h = omega arith
long_short true q h = omega arith

too_big : (s : Bool) (m : ℕ) (e : ℤ) → long_max s < m * up e / down e → key_real (fin s m e) ≡ nothing
unfolding key_real
too_big s m e h = simp (lt-leb _ _ h, and-false)

pub low_no : (x : Float) → lt LOW x ≡ false → key_real x ≡ nothing
unfolding lt key_real
low_no nan h = refl
low_no (inf s) h = refl
low_no (fin false m e) h = absurd (omega (arith, ltb-false 0 (2147483648 * down e + m * up e * 1) h, down_pos e))
low_no (fin true m e) h =
    too_big true m e (over (m * up e) (down e) 2147483648 (down_pos e) (omega (arith, ltb-false (m * up e * 1) (2147483648 * down e) h)))

pub high_no : (x : Float) → lt x HIGH ≡ false → key_real x ≡ nothing
unfolding lt key_real
high_no nan h = refl
high_no (inf s) h = refl
high_no (fin false m e) h =
    too_big false m e (over (m * up e) (down e) 2147483621 (down_pos e) (omega (arith, ltb-false (m * up e * 1) (2147483621 * down e) h)))
high_no (fin true m e) h = absurd (omega (arith, ltb-false 0 (m * up e * 1 + 2147483621 * down e) h, down_pos e))

-- the whole part of a number of at most 31 bits
cut : (s : Bool) (m : ℕ) (e : ℤ) → m * up e / down e ≤ 2147483647 → to_signed 63 (fin s m e) ≡ with_sign s (m * up e / down e)
unfolding to_signed
cut false m e h = ap pos (min-eq_left (le_trans h (lit≤ tt)))
cut true m e h = ap (λ (k : ℕ). neg_ℤ (pos k)) (min-eq_left (le_trans h (lit≤ tt)))

-- a / D is the whole number q, so it is n / d exactly where q * d is n
cross_yes : (a D d n q : ℕ) → a * 1 ≡ q * D → q * d ≡ n → a * d ≡ n * D
cross_yes a D d n q v h = ap (λ (x : ℕ). x * d) (sym (mul-one a) ∙ v) ∙ mul_right_comm q D d ∙ ap (λ (x : ℕ). x * D) h

cross_no : (a D d n q : ℕ) → 0 < D → a * 1 ≡ q * D → a * d ≡ n * D → q * d ≡ n
cross_no a D d n q p v h = eq_of_mul-eq-mul_right D p (q * d) n (mul_right_comm q d D ∙ ap (λ (x : ℕ). x * d) (sym v ∙ mul-one a) ∙ h)

or_yes : (b c : Bool) → (b ≡ true) ⊎ (c ≡ true) → (b || c) ≡ true
or_yes true c h = refl
or_yes false c (inl h) = absurd (false≢true h)
or_yes false c (inr h) = h

either : (r : ℕ) → (r ≡ 0) ⊎ (r ≡ 0 → ⊥)
either zero = inl refl
either (suc r) = inr (λ h. omega arith)

-- y, of the size q = n / d, equals the fraction n / d exactly where n % d is 0
equal : (y : Float) (t s : Bool) (m : ℕ) (e : ℤ) → HasValue y t (m * up e / down e) 1
    → (beq t s ≡ true) ⊎ (m * up e / down e ≡ 0)
    → eq y (fin s m e) ≡ eqb (m * up e % down e) 0
unfolding eq
equal nan t s m e v z = absurd v
equal (inf u) t s m e v z = absurd v
equal (fin u k g) t s m e v z = go (either (m * up e % down e))
  where
    sign : (beq t s ≡ true) ⊎ (m * up e / down e ≡ 0) → (beq u s ≡ true) ⊎ (eqb (k * up g * down e) 0 ≡ true)
    sign (inl h) = inl (rw v.0 h)
    sign (inr h) =
        inr (eq-eqb _ _ (ap (λ (x : ℕ). x * down e) (sym (mul-one (k * up g)) ∙ v.1 ∙ ap (λ (x : ℕ). x * down g) h ∙ zero-mul (down g)) ∙ zero-mul (down e)))

    go : (m * up e % down e ≡ 0) ⊎ (m * up e % down e ≡ 0 → ⊥)
        → level u (k * up g * down e) s (m * up e * down g) ≡ eqb (m * up e % down e) 0
    go (inl r) =
        let w = div-add-mod' (m * up e) (down e) in
        simp (
          eq-eqb _ _ r,
          eq-eqb _ _ (cross_yes (k * up g) (down g) (down e) (m * up e) (m * up e / down e) v.1 (omega arith)),
          or_yes _ _ (sign z),
        )
    go (inr r) =
        let w = div-add-mod' (m * up e) (down e) in
        simp (
          ne_eqb _ _ r,
          ne_eqb _ _ (λ h. r (
              let x = cross_no (k * up g) (down g) (down e) (m * up e) (m * up e / down e) (down_pos g) v.1 h in omega arith)),
        )

-- the whole part, as a float again, has its value
back : (s : Bool) (q : ℕ) → q ≤ long_max s → (t : Bool) × HasValue (of_int binary64 (with_sign s q)) t q 1 × ((beq t s ≡ true) ⊎ (q ≡ 0))
unfolding of_int
back false q h = (false, round_whole binary64 false q (le_trans h (lit≤ tt)), inl refl)
back true zero h = (false, round_whole binary64 false 0 (lit≤ tt), inr refl)
back true (suc q) h = (true, round_whole binary64 true (suc q) (le_trans h (lit≤ tt)), inl refl)

-- the last test says whether a number in range is whole
test : (s : Bool) (m : ℕ) (e : ℤ) → m * up e / down e ≤ long_max s
    → eq (of_int binary64 (to_signed 63 (fin s m e))) (fin s m e) ≡ eqb (m * up e % down e) 0
test s m e h =
    let b = back s (m * up e / down e) h in
    rw (cut s m e (long_short s _ h)) (equal (of_int binary64 (with_sign s (m * up e / down e))) b.0 s m e b.1 b.2)

pub not_whole : (x : Float) → lt LOW x ≡ true → lt x HIGH ≡ true → eq (of_int binary64 (to_signed 63 x)) x ≡ false → key_real x ≡ nothing
unfolding key_real
not_whole nan h k w = refl
not_whole (inf s) h k w = refl
not_whole (fin s m e) h k w = simp (sym (test s m e (in_range s m e h k)) ∙ w)

pub is_whole : (x : Float) → lt LOW x ≡ true → lt x HIGH ≡ true → eq (of_int binary64 (to_signed 63 x)) x ≡ true
    → key_real x ≡ seeks (to_signed 63 x)
unfolding key_real lt
is_whole nan h k w = absurd (false≢true h)
is_whole (inf false) h k w = absurd (false≢true k)
is_whole (inf true) h k w = absurd (false≢true h)
is_whole (fin s m e) h k w =
    let r = in_range s m e h k in
    simp (sym (test s m e r) ∙ w, le-leb _ _ r, cut s m e (long_short s _ r))

-- what the casts ask
pub small : (x : Float) (q : ℕ) → q ≤ 2147483648 → lt LOW x ≡ true → lt x (at q) ≡ true → mag (to_signed 63 x) < 2 ^ 31
unfolding lt
small nan q b h k = absurd (false≢true h)
small (inf false) q b h k = absurd (false≢true k)
small (inf true) q b h k = absurd (false≢true h)
small (fin s m e) q b h k = rw (cut s m e (short q s m e b h k)) (size s (m * up e / down e) (short q s m e b h k))
  where
    size : (s : Bool) (n : ℕ) → n ≤ 2147483647 → mag (with_sign s n) < 2 ^ 31
    size false n h = omega arith
    size true zero h = omega arith
    size true (suc n) h = omega arith

pub asks_low : (x : Float) → lt LOW x ≡ true → T (le (fin true 1 (pos 63)) x)
unfolding lt le
asks_low nan h = absurd (false≢true h)
asks_low (inf false) h = tt
asks_low (inf true) h = absurd (false≢true h)
asks_low (fin false m e) h = rw (lt-ltb 0 (9223372036854775808 * down e + m * up e * 1) (omega (arith, down_pos e))) tt
asks_low (fin true m e) h =
    rw (lt-ltb (m * up e * 1) (9223372036854775808 * down e) (omega (arith, ltb-true (m * up e * 1) (2147483648 * down e) h))) tt

pub asks_high : (x : Float) (q : ℕ) → q ≤ 2147483648 → lt LOW x ≡ true → lt x (at q) ≡ true → T (lt x (fin false 1 (pos 63)))
unfolding lt
asks_high nan q b l h = absurd (false≢true h)
asks_high (inf false) q b l h = absurd (false≢true h)
asks_high (inf true) q b l h = tt
asks_high (fin false m e) q b l h =
    let w = (div-lt_iff_lt-mul {k = down e} {x = m * up e} {y = 2147483648} (down_pos e)).0 (omega (arith, short q false m e b l h)) in
    lt→ltb (m * up e * 1) (9223372036854775808 * down e) (omega arith)
asks_high (fin true m e) q b l h = lt→ltb 0 (m * up e * 1 + 9223372036854775808 * down e) (omega (arith, down_pos e))

-- ---- the code of a letter

-- a whole number b and a letter fit a long
pub letter_fits : (b k : ℕ) → b ≤ 2147483621 → k ≤ 26 → SFits w32 (pos b +ℤ to_z w32 k)
letter_fits b k l h =
    let g : k < 2 ^ 31 = omega arith in
    rw (to_z_pos w32 k g) (record { sfits = omega arith })

pub letter_is : (b k : ℕ) → b ≤ 2147483621 → k ≤ 26 → to_z w32 (of_z w32 (pos b +ℤ to_z w32 k)) ≡ pos (b + k)
letter_is b k l h =
    let g : k < 2 ^ 31 = omega arith in
    to_z-of_z w32 _ (letter_fits b k l h) ∙ ap (λ (z : ℤ). pos b +ℤ z) (to_z_pos w32 k g)
