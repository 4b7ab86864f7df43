-- Numbers put one by one, marks at the offsets, and the sweep that keeps the live bytes.
use mathlib.Core.Path.{◌≡◌, refl, sym, ap, ◌∙◌}
use mathlib.Core.List.{List, [], ◌∷◌, ◌++◌}
use mathlib.Core.Bool.{Bool, true, false, cond, not, ◌&&◌, ◌||◌}
use Prim.Native.Nat.{ℕ, zero, suc, ◌+◌, ◌-◌, ◌*◌, ◌<◌, ◌≤◌}
use native.Mathlib.Nat.{not-suc-le-zero}
use native.Mathlib.Omega.{arith}
use native.Mathlib.Numerals.{add-one}
use lib.ListN.{length, take, drop, set, get_or, replicate, length-replicate}
use lib.Seq.{drop-cons, ext_get_or, drop_at, get_or-set_same, get_or-set_other}
use lib.Dec.{eqb}
use Rattle.std.proofs.lemmas.List.{get_or_at}
use borrow.Rule.Slice.PartMut.{put_mid}
use borrow.Author.Tests.{eqb-true, eqb-false, eq-eqb}
use Rattle.format.specs.Slot.{fill}
use Rattle.format.specs.Number.{Order, num, num_slots, tab}
use Rattle.format.specs.Grammar.{member, live, masked, read_times, all_slots, number}
use Rattle.format.proofs.SlotLaws.{length_tab, get_d_tab}
use Rattle.format.proofs.AreaLaws.{or_right}
use Rattle.text.proofs.Lay.{Laid, laid_byte, laid_as}
use Rattle.write_texts.proofs.TimesLaws.{put_turn}
use Rattle.write_tables.specs.Tables.{marked, live_by, swept, Marks}

left : (n i : ℕ) → i < n → n - i ≡ suc (n - (i + 1))
left n i b = omega arith

-- ---- numbers

module _ (o z : Order) (f : List ℕ) where
  -- what is put for n numbers at q
  abbrev pub numbers_fill : ℕ → ℕ → List ℕ
  numbers_fill n q = fill (all_slots (number z 4) (read_times (number o 4) n f q))

  -- one more
  pub numbers_turn : {d v : List ℕ} (n i p x : ℕ) → Laid (numbers_fill i p) (i * 4) d v → i < n → n * 4 ≤ length d → x ≡ num o 4 f (p + i * 4) → (g : List ℕ)
      → g ≡ fill (num_slots z 4 x) ++ drop 4 (take (length v - i * 4) (drop (i * 4) v))
      → Laid (numbers_fill (i + 1) p) ((i + 1) * 4) d (put_mid (i * 4) (length v - i * 4) v g)
  numbers_turn n i p x l b room e g h =
      put_turn (number o 4) 4 (λ a. refl) f (number z 4) 4 (λ a. refl) p i n l b room g (rw e at h)

-- ---- the sweep

tab_more : (s : ℕ → ℕ) (n : ℕ) → tab n s ++ s n ∷ [] ≡ tab (suc n) s
tab_more s zero = refl
tab_more s (suc n) = ap (λ (l : List ℕ). s zero ∷ l) (tab_more (λ i. s (suc i)) n)

-- a live place with no zero in it came before
abbrev pub carry : (ℕ → Bool) → (ℕ → ℕ) → ℕ → Bool
carry m a zero = false
carry m a (suc j) = live_by m a j && not (eqb (a j) 0)

or_false : (a : Bool) → (a || false) ≡ a
or_false true = refl
or_false false = refl

live_is : (m : ℕ → Bool) (a : ℕ → ℕ) (j : ℕ) → live_by m a j ≡ (m j || carry m a j)
live_is m a zero = sym (or_false (m zero))
live_is m a (suc j) = refl

carry_next : (m : ℕ → Bool) (a : ℕ → ℕ) (j : ℕ) → not (eqb (cond (live_by m a j) (a j) 0) 0) ≡ carry m a (j + 1)
carry_next m a j = rw add-one (go (live_by m a j))
  where
    go : (t : Bool) → not (eqb (cond t (a j) 0) 0) ≡ (t && not (eqb (a j) 0))
    go true = refl
    go false = refl

-- what stands next is as it was
laid_at : {t d w : List ℕ} {n : ℕ} → Laid t n d w → n < length d → get_or w n 0 ≡ get_or d n 0
laid_at {t} {d} {w} {n} l h = rw (l.is, drop-cons d n 0) (get_or_at t (get_or d n 0) (drop (suc n) d) 0 n l.long)

module _ (d f : List ℕ) (t j : ℕ) {w : List ℕ} (on : Bool) where
  -- one byte more
  pub sweep_turn : on ≡ carry (marked d) (λ i. get_or f (t + i) 0) j → Laid (swept d f t j) j d w → j < length d → (b : Bool) → b ≡ (marked w j || on)
      → (x : ℕ) → x ≡ cond b (get_or f (t + j) 0) 0
      → (not (eqb x 0) ≡ carry (marked d) (λ i. get_or f (t + i) 0) (j + 1)) × Laid (swept d f t (j + 1)) (j + 1) d (set w j x)
  sweep_turn c l h b e x g =
      let m = marked d in
      let raw : ℕ → ℕ = λ i. get_or f (t + i) 0 in
      let said : ℕ → ℕ = λ i. cond (live_by m raw i) (raw i) 0 in
      let live : b ≡ live_by m raw j = e ∙ rw (laid_at l h, c) (sym (live_is m raw j)) in
      let v : x ≡ said j = g ∙ rw live refl in (
        rw v (carry_next m raw j),
        laid_as (laid_byte l x h) (rw (v, add-one) (tab_more said j)) refl,
      )

-- ---- marks

module _ (o : Order) (f : List ℕ) (n i p : ℕ) (b : i < n) where
  -- the offsets from number k on
  abbrev pub offs_from : ℕ → List ℕ
  offs_from k = read_times (number o 4) (n - k) f (p + k * 4)

  offs_turn : offs_from i ≡ num o 4 f (p + i * 4) ∷ offs_from (i + 1)
  offs_turn =
      let step : p + i * 4 + 4 ≡ p + (i + 1) * 4 = omega arith in
      rw (left n i b) (ap (λ (q : ℕ). num o 4 f (p + i * 4) ∷ read_times (number o 4) (n - (i + 1)) f q) step)

  module _ (m : ℕ) (u : (j : ℕ) → member j (offs_from i) ≡ true → j < m) where
    pub marks_fit : num o 4 f (p + i * 4) < m
    marks_fit = u (num o 4 f (p + i * 4)) (rw (offs_turn, eq-eqb (num o 4 f (p + i * 4)) (num o 4 f (p + i * 4)) refl))

    pub marks_low : (j : ℕ) → member j (offs_from (i + 1)) ≡ true → j < m
    marks_low j h = u j (rw offs_turn (or_right (eqb j (num o 4 f (p + i * 4))) (member j (offs_from (i + 1))) h))

  pub marks_turn : (out : List ℕ) (x j : ℕ) → x ≡ num o 4 f (p + i * 4) → x < length out
      → (marked (set out x 1) j || member j (offs_from (i + 1))) ≡ (marked out j || member j (offs_from i))
  marks_turn out x j e l = rw (offs_turn, sym e) (go (eqb j x) refl)
    where
      go : (t : Bool) → eqb j x ≡ t → (marked (set out x 1) j || member j (offs_from (i + 1))) ≡ (marked out j || (eqb j x || member j (offs_from (i + 1))))
      go true h = rw (h, eqb-true j x h, get_or-set_same out x 1 0 l) (sym (or_right (marked out x) true refl))
      go false h = rw (h, get_or-set_other out x j 1 0 (eqb-false j x h))

-- ---- the text area

live_by_lem : (m : ℕ → Bool) (offs : List ℕ) (a : ℕ → ℕ) (n : ℕ) → ((j : ℕ) → j < n → m j ≡ member j offs) → (j : ℕ) → j < n → live_by m a j ≡ live offs a j
live_by_lem m offs a n h zero b = h zero b
live_by_lem m offs a n h (suc j) b = rw (h (suc j) b, live_by_lem m offs a n h j (omega arith))

-- the sweep over marks at the offsets gives the live bytes
swept_is : (out f offs : List ℕ) (t n : ℕ) → ((j : ℕ) → j < n → marked out j ≡ member j offs) → swept out f t n ≡ tab n (masked offs (λ i. get_or f (t + i) 0))
swept_is out f offs t n h =
    ext_get_or 0 _ _ (length_tab n _ ∙ sym (length_tab n _))
    (λ i b. (let c : i < n = omega (arith, length_tab n (λ j. cond (live_by (marked out) (λ k. get_or f (t + k) 0) j) (get_or f (t + j) 0) 0)) in
    get_d_tab n _ 0 i c ∙ ap (λ (u : Bool). cond u (get_or f (t + i) 0) 0) (live_by_lem (marked out) offs (λ k. get_or f (t + k) 0) n h i c) ∙ sym (get_d_tab n _ 0 i c)))

zeros_at : (m j : ℕ) (l : List ℕ) → j < m → get_or (replicate m 0 ++ l) j 0 ≡ 0
zeros_at zero j l h = absurd (not-suc-le-zero h)
zeros_at (suc m) zero l h = refl
zeros_at (suc m) (suc j) l h = zeros_at m j l (omega arith)

-- zeros, marks, sweep
pub area_done : (d z y s f offs : List ℕ) (t m : ℕ) → z ≡ replicate m 0 ++ drop m d → Marks offs m z y → s ≡ swept y f t m ++ drop m y
    → s ≡ tab m (masked offs (λ i. get_or f (t + i) 0)) ++ drop m d
area_done d z y s f offs t m hz hy hs =
    hs
    ∙ ap (λ (l : List ℕ). l ++ drop m y)
    (swept_is y f offs t m (λ j b. hy.here j b ∙ ap (λ (x : ℕ). not (eqb x 0) || member j offs) (ap (λ (l : List ℕ). get_or l j 0) hz ∙ zeros_at m j (drop m d) b)))
    ∙ ap (λ (l : List ℕ). tab m (masked offs (λ i. get_or f (t + i) 0)) ++ l) (hy.past ∙ ap (drop m) hz ∙ drop_at (replicate m 0) (drop m d) m (length-replicate m 0))
