-- Sections of one width, read one after another and put one after another.
use mathlib.Core.Path.{◌≡◌, refl, sym, ap, ◌∙◌}
use mathlib.Core.List.{List, ◌++◌, append_assoc, append-nil}
use Prim.Native.Nat.{ℕ, zero, suc, ◌+◌, ◌-◌, ◌*◌, ◌≤◌}
use native.Mathlib.Nat.{add-zero, zero-add, zero-mul, suc-mul}
use native.Mathlib.Omega.{arith}
use native.Mathlib.Numerals.{add-one}
use borrow.Rule.Slice.PartMut.{put_mid}
use lib.ListN.{length, take, drop, length-append}
use Rattle.format.specs.Slot.{fill}
use Rattle.format.specs.Number.{Order, msf, lsf, num, num_slots}
use Rattle.format.specs.Grammar.{Sect, all_slots, read_times, number}
use Rattle.format.proofs.Good.{number_good}
use Rattle.format.proofs.WriteLaws.{fill_append, fill_length}
use Rattle.text.proofs.Lay.{Laid, laid_part, laid_as}
use Rattle.write_data.specs.Rows.{put_times}
use Rattle.write_data.specs.Runs.{turned}

-- one width more
pub one_more : (j w : ℕ) → j * w + w ≡ (j + 1) * w
one_more j w = rw (add-one j) (omega (arith, suc-mul j w))

module _ {A : Type 0} (S T : Sect A) (w : ℕ) (f : List ℕ) (wide : (p : ℕ) → S.size (S.read f p) ≡ w) where
  -- some, and then others
  pub times_split : (a b q : ℕ) → put_times S T (a + b) f q ≡ put_times S T a f q ++ put_times S T b f (q + a * w)
  times_split zero b q = rw (zero-add, zero-mul, add-zero)
  times_split (suc a) b q =
      let x = S.read f q in
      let n : suc a + b ≡ suc (a + b) = omega arith in
      let e : q + S.size x ≡ q + w = ap (λ (y : ℕ). q + y) (wide q) in
      let p : q + w + a * w ≡ q + suc a * w = omega (arith, suc-mul a w) in
      let first : put_times S T (suc a) f q ≡ fill (T.slots x) ++ put_times S T a f (q + w) =
      fill_append (T.slots x) _ ∙ ap (λ (y : ℕ). fill (T.slots x) ++ put_times S T a f y) e in
      ap (λ (c : ℕ). put_times S T c f q) n
      ∙ fill_append (T.slots x) (all_slots T (read_times S (a + b) f (q + S.size x)))
      ∙ ap (λ (y : ℕ). fill (T.slots x) ++ put_times S T (a + b) f y) e
      ∙ ap (λ (l : List ℕ). fill (T.slots x) ++ l) (times_split a b (q + w))
      ∙ sym (append_assoc (fill (T.slots x)) (put_times S T a f (q + w)) (put_times S T b f (q + w + a * w)))
      ∙ ap (λ (y : ℕ). (fill (T.slots x) ++ put_times S T a f (q + w)) ++ put_times S T b f y) p
      ∙ ap (λ (l : List ℕ). l ++ put_times S T b f (q + suc a * w)) (sym first)

  -- one alone
  pub times_one : (q : ℕ) → put_times S T 1 f q ≡ fill (T.slots (S.read f q))
  times_one q = ap fill (append-nil (T.slots (S.read f q)))

  -- one more
  pub times_more : (j q : ℕ) → put_times S T j f q ++ fill (T.slots (S.read f (q + j * w))) ≡ put_times S T (j + 1) f q
  times_more j q = sym (times_split j 1 q ∙ ap (λ (l : List ℕ). put_times S T j f q ++ l) (times_one (q + j * w)))

  module _ (long : (p : ℕ) → length (fill (T.slots (S.read f p))) ≡ w) where
    pub times_length : (c q : ℕ) → length (put_times S T c f q) ≡ c * w
    times_length zero q = rw zero-mul
    times_length (suc c) q =
        let x = S.read f q in
        ap length (fill_append (T.slots x) (all_slots T (read_times S c f (q + S.size x))))
        ∙ length-append (fill (T.slots x)) (put_times S T c f (q + S.size x))
        ∙ omega (arith, long q, times_length c (q + S.size x), suc-mul c w)

    -- a turn of the loop: the next into the tail
    pub laid_times : (q j : ℕ) {d u : List ℕ} → Laid (put_times S T j f q) (j * w) d u → (p : List ℕ)
        → p ≡ fill (T.slots (S.read f (q + j * w))) ++ drop w (take (length u - j * w) (drop (j * w) u)) → j * w + w ≤ length d
        → Laid (put_times S T (j + 1) f q) ((j + 1) * w) d (put_mid (j * w) (length u - j * w) u p)
    laid_times q j l p e room =
        let x = S.read f (q + j * w) in
        laid_as (laid_part l (fill (T.slots x)) p w (long (q + j * w)) room e) (times_more j q) (one_more j w)

-- after the last turn
pub laid_end : {A : Type 0} (S T : Sect A) (w : ℕ) (f : List ℕ) (q i c : ℕ) {d u : List ℕ} → Laid (put_times S T i f q) (i * w) d u → i ≡ c
    → u ≡ put_times S T c f q ++ drop (c * w) d
laid_end S T w f q i c l e = rw (sym e) l.is

-- ---- numbers

pub number_long : (o : Order) (w n : ℕ) → length (fill (num_slots o w n)) ≡ w
number_long o w n = fill_length (number o w) (number_good o w) n

pub laid_turned : (w : ℕ) (f : List ℕ) (q j : ℕ) {d u : List ℕ} → Laid (put_times (number lsf w) (number msf w) j f q) (j * w) d u
    → (p : List ℕ) → p ≡ turned w f (q + j * w) ++ drop w (take (length u - j * w) (drop (j * w) u)) → j * w + w ≤ length d
    → Laid (put_times (number lsf w) (number msf w) (j + 1) f q) ((j + 1) * w) d (put_mid (j * w) (length u - j * w) u p)
laid_turned w f q j l p h room = laid_times (number lsf w) (number msf w) w f (λ y. refl) (λ y. number_long msf w (num lsf w f y)) q j l p h room
