-- Sections of one width, read one after another and put one after another in another form.
use mathlib.Core.Path.{◌≡◌, refl, sym, ap, ◌∙◌}
use Prim.Native.Nat.{ℕ, zero, suc, ◌+◌, ◌-◌, ◌*◌, ◌≤◌, ◌<◌}
use native.Mathlib.Nat.{zero-mul, suc-mul, mul-le-mul_right, not-suc-le-zero}
use native.Mathlib.Numerals.{add-one}
use native.Mathlib.Omega.{arith}
use mathlib.Core.List.{List, [], ◌∷◌, ◌++◌, append_assoc, append-nil}
use mathlib.Core.Bool.{Bool, true, false, ◌&&◌, true≢false}
use borrow.Rule.Slice.PartMut.{put_mid}
use lib.ListN.{length, take, drop}
use Rattle.format.specs.Slot.{fill}
use Rattle.format.specs.Grammar.{Sect, all_slots, read_times}
use Rattle.format.proofs.SlotLaws.{length_fill}
use Rattle.format.proofs.Good.{and_left, and_right}
use Rattle.format.proofs.WriteLaws.{fill_append}
use Rattle.text.proofs.Lay.{Laid, laid_part, laid_as}
use Rattle.writing.specs.Writes.{Puts}
use Rattle.writing.proofs.Chain.{puts_of}

-- entry i of k entries of w bytes ends within them
pub entry_in : (i k w : ℕ) → i < k → i * w + w ≤ k * w
entry_in i k w h = let e : suc i * w ≤ k * w = mul-le-mul_right w h in omega (arith, suc-mul i w)

pub entry_next : (i w : ℕ) → i * w + w ≡ (i + 1) * w
entry_next i w = rw (add-one i) (sym (suc-mul i w))

module _ {A : Type 0} (S : Sect A) (w : ℕ) (wide : (a : A) → S.size a ≡ w) (f : List ℕ) where
  -- one more is read
  pub reads_more : (i p : ℕ) → read_times S (suc i) f p ≡ read_times S i f p ++ S.read f (p + i * w) ∷ []
  reads_more zero p = let e : p ≡ p + 0 * w = omega (arith, zero-mul w) in ap (λ (q : ℕ). S.read f q ∷ []) e
  reads_more (suc i) p =
      let a = S.read f p in
      let e : p + S.size a + i * w ≡ p + suc i * w = omega (arith, wide a, suc-mul i w) in
      ap (λ (l : List A). a ∷ l) (reads_more i (p + S.size a) ∙ ap (λ (q : ℕ). read_times S i f (p + S.size a) ++ S.read f q ∷ []) e)

  -- a test of each
  module _ (t : A → Bool) (all : List A → Bool) (none : all [] ≡ true) (some : (a : A) (l : List A) → all (a ∷ l) ≡ (t a && all l)) where
    add_one_more : (l : List A) (a : A) → all l ≡ true → t a ≡ true → all (l ++ a ∷ []) ≡ true
    add_one_more [] a h g = some a [] ∙ rw (g, none)
    add_one_more (b ∷ l) a h g =
        let e : (t b && all l) ≡ true = sym (some b l) ∙ h in
        some b (l ++ a ∷ []) ∙ rw (and_left (t b) (all l) e) (add_one_more l a (and_right (t b) (all l) e) g)

    -- it holds of one more
    pub all_more : (i p : ℕ) → all (read_times S i f p) ≡ true → t (S.read f (p + i * w)) ≡ true → all (read_times S (i + 1) f p) ≡ true
    all_more i p h g = rw (add-one i, reads_more i p) (add_one_more (read_times S i f p) (S.read f (p + i * w)) h g)

    -- where it holds of all, it holds of each
    pub all_at : (k p i : ℕ) → i < k → all (read_times S k f p) ≡ true → t (S.read f (p + i * w)) ≡ true
    all_at zero p i b h = absurd (not-suc-le-zero b)
    all_at (suc k) p zero b h =
        let a = S.read f p in
        let e : p + 0 * w ≡ p = omega (arith, zero-mul w) in
        ap (λ (q : ℕ). t (S.read f q)) e ∙ and_left (t a) (all (read_times S k f (p + S.size a))) (sym (some a (read_times S k f (p + S.size a))) ∙ h)
    all_at (suc k) p (suc i) b h =
        let a = S.read f p in
        let e : p + suc i * w ≡ p + S.size a + i * w = omega (arith, wide a, suc-mul i w) in
        ap (λ (q : ℕ). t (S.read f q)) e
        ∙ all_at k (p + S.size a) i (omega arith) (and_right (t a) (all (read_times S k f (p + S.size a))) (sym (some a (read_times S k f (p + S.size a))) ∙ h))

    -- where it fails of one, it fails of all
    pub all_stop : (k p i : ℕ) → i < k → t (S.read f (p + i * w)) ≡ false → all (read_times S k f p) ≡ false
    all_stop k p i b h = go (all (read_times S k f p)) refl
      where
        go : (x : Bool) → all (read_times S k f p) ≡ x → x ≡ false
        go true e = absurd (true≢false (sym (all_at k p i b e) ∙ h))
        go false e = refl

  -- T, of `to` bytes, is put for each
  module _ (T : Sect A) (to : ℕ) (long : (a : A) → length (T.slots a) ≡ to) (p : ℕ) where
    abbrev pub put_times : ℕ → List ℕ
    put_times i = fill (all_slots T (read_times S i f p))

    slots_more : (l : List A) (a : A) → fill (all_slots T (l ++ a ∷ [])) ≡ fill (all_slots T l) ++ fill (T.slots a)
    slots_more [] a = ap fill (append-nil (T.slots a))
    slots_more (b ∷ l) a =
        fill_append (T.slots b) (all_slots T (l ++ a ∷ []))
        ∙ ap (λ (x : List ℕ). fill (T.slots b) ++ x) (slots_more l a)
        ∙ sym (append_assoc (fill (T.slots b)) (fill (all_slots T l)) (fill (T.slots a)))
        ∙ ap (λ (x : List ℕ). x ++ fill (T.slots a)) (sym (fill_append (T.slots b) (all_slots T l)))

    put_more : (i : ℕ) → put_times i ++ fill (T.slots (S.read f (p + i * w))) ≡ put_times (i + 1)
    put_more i =
        sym (slots_more (read_times S i f p) (S.read f (p + i * w)))
        ∙ ap (λ (l : List A). fill (all_slots T l)) (sym (reads_more i p) ∙ ap (λ (n : ℕ). read_times S n f p) (sym (add-one i)))

    -- one more
    pub put_turn : {d v : List ℕ} (i k : ℕ) → Laid (put_times i) (i * to) d v → i < k → k * to ≤ length d → (g : List ℕ)
        → g ≡ fill (T.slots (S.read f (p + i * w))) ++ drop to (take (length v - i * to) (drop (i * to) v))
        → Laid (put_times (i + 1)) ((i + 1) * to) d (put_mid (i * to) (length v - i * to) v g)
    put_turn i k l b room g h =
        let a = S.read f (p + i * w) in
        laid_as (laid_part l (fill (T.slots a)) g to (length_fill (T.slots a) ∙ long a) (omega (arith, entry_in i k to b)) h) (put_more i) (entry_next i to)

    -- all
    pub put_all : {d v : List ℕ} (i k : ℕ) → Laid (put_times i) (i * to) d v → i ≡ k → Puts (put_times k) d v (k * to)
    put_all {d} {v} i k l e = puts_of (laid_as l (ap put_times e) (ap (λ (x : ℕ). x * to) e))
