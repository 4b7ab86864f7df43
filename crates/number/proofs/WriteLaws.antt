-- Laws of writing a number: its digits, and its bytes stored one after another.
use mathlib.Core.Path.{◌≡◌, refl, sym, ap, ◌∙◌}
use Prim.Native.Nat.{ℕ, zero, suc, ◌+◌, ◌-◌, ◌*◌, ◌/◌, ◌%◌, ◌^◌, ◌≤◌, ◌<◌}
use native.Mathlib.Nat.{add-zero, zero-add, suc-add, add_assoc, not-suc-le-zero}
use native.Mathlib.Numerals.{add-one}
use native.Mathlib.Omega.{arith}
use mathlib.Core.List.{List, [], ◌∷◌, ◌++◌}
use mathlib.Core.Bool.{Bool, true, false, cond}
use lib.ListN.{length, drop}
use lib.Seq.{sets, sets-eq}
use lib.Dec.{eqb}
use lib.Pow.{shr-shr}
use borrow.Author.Tests.{eqb-true, eqb-false}
use Rattle.format.specs.Slot.{Slot, fill}
use Rattle.format.specs.Number.{Order, lsf, order_by, seat, digit, tab, num_slots}
use Rattle.format.proofs.SlotLaws.{length_tab}
use Rattle.format.proofs.WriteLaws.{fill_number}
use Rattle.number.specs.Numbers.{swapped}
use Rattle.number.proofs.SwapLaws.{slots_ordered}

-- a digit by a shift
pub digit_shift : (w n k : ℕ) → k < w → n / 2 ^ (8 * (w - (k + 1))) % 256 ≡ digit w n k
digit_shift zero n k b = absurd (not-suc-le-zero b)
digit_shift (suc w) n k b = go (eqb k w) refl (digit_shift w (n / 256) k)
  where
    go : (t : Bool) → eqb k w ≡ t → (k < w → n / 256 / 2 ^ (8 * (w - (k + 1))) % 256 ≡ digit w (n / 256) k)
        → n / 2 ^ (8 * (suc w - (k + 1))) % 256 ≡ digit (suc w) n k
    go true e ih =
        let h : k ≡ w = eqb-true k w e in
        let z : 8 * (suc w - (k + 1)) ≡ 0 = omega arith in
        rw (z, e) (omega arith)
    go false e ih =
        let h : k < w = omega (arith, eqb-false k w e) in
        let z : 8 * (suc w - (k + 1)) ≡ 8 + 8 * (w - (k + 1)) = omega arith in
        rw (z, e) (ap (λ (x : ℕ). x % 256) (sym (shr-shr n 8 (8 * (w - (k + 1))))) ∙ ih h)

-- k elements stored, and then the next
sets_next : (k : ℕ) (s : ℕ → ℕ) (l : List ℕ) (i : ℕ) → sets l i (tab (suc k) s) ≡ sets (sets l i (tab k s)) (i + k) (s k ∷ [])
sets_next zero s l i = rw add-zero
sets_next (suc k) s l i =
    let e : i + suc k ≡ suc i + k = omega arith in
    rw e (sets_next k (λ j. s (suc j)) _ (suc i))

-- q, which is l with k bytes of a number stored, and then byte k, are k + 1 bytes stored
pub byte_stored : (s : ℕ → ℕ) (l q : List ℕ) (k b : ℕ) → b ≡ s k → q ≡ sets l 0 (tab k s) → sets q k (b ∷ []) ≡ sets l 0 (tab (k + 1) s)
byte_stored s l q k b e h = rw (e, h, add-one k) (rw (zero-add k) at (sym (sets_next k s l 0)))

-- two lists stored one after the other
sets_append : (u v l : List ℕ) (i : ℕ) → sets l i (u ++ v) ≡ sets (sets l i u) (i + length u) v
sets_append [] v l i = rw add-zero
sets_append (x ∷ u) v l i =
    let e : i + suc (length u) ≡ suc i + length u = omega arith in
    rw e (sets_append u v _ (suc i))

tab_append : (a c : ℕ) (s : ℕ → ℕ) → tab (a + c) s ≡ tab a s ++ tab c (λ j. s (a + j))
tab_append zero c s = simp zero-add
tab_append (suc a) c s = rw suc-add (ap (λ (l : List ℕ). s zero ∷ l) (tab_append a c (λ j. s (suc j)) ∙ simp suc-add))

-- the c bytes of a number from its byte i on
abbrev pub bytes_from : Order → ℕ → ℕ → ℕ → ℕ → List ℕ
bytes_from o w n i c = tab c (λ j. digit w n (seat o w (i + j)))

-- a bytes of a number stored from its byte i on, which makes q of l, and c bytes after them, which makes r of q, are a + c bytes stored
pub bytes_stored : (o : Order) (w n : ℕ) (l q r : List ℕ) (i k a c : ℕ) → k ≡ i + a
    → q ≡ sets l i (bytes_from o w n i a) → r ≡ sets q k (bytes_from o w n k c) → r ≡ sets l i (bytes_from o w n i (a + c))
bytes_stored o w n l q r i k a c e f g =
    rw (e, f) at g
    ∙ sym (ap (sets l i) (tab_append a c _) ∙ sets_append (bytes_from o w n i a) _ l i ∙ simp (length_tab, add_assoc))

-- q, which is l with all bytes of a number stored, is the number written
pub bytes_written : (o : Order) (w n : ℕ) (l q : List ℕ) → w ≤ length l → q ≡ sets l 0 (tab w (λ i. digit w n (seat o w i)))
    → q ≡ fill (num_slots o w n) ++ drop w l
bytes_written o w n l q b h =
    h ∙ sets-eq (tab w (λ i. digit w n (seat o w i))) l 0 (rw (zero-add, length_tab) b) ∙ rw (zero-add, length_tab, fill_number)

-- the same of r, which is n, or s, its bytes swapped
pub ordered_written : (t : Bool) (w n s r : ℕ) (l q : List ℕ) → w ≤ length l → s ≡ swapped w n → r ≡ cond t s n
    → q ≡ sets l 0 (bytes_from lsf w r 0 w) → q ≡ fill (num_slots (order_by t) w n) ++ drop w l
ordered_written t w n s r l q b g e h =
    bytes_written lsf w r l q b (simp zero-add at h)
    ∙ ap (λ (P : List Slot). fill P ++ drop w l) (slots_ordered t w n r (e ∙ ap (λ (x : ℕ). cond t x n) g))
