-- The answers of several columns, one after another.
use mathlib.Core.Path.{◌≡◌, refl, sym, ap, ◌∙◌}
use Prim.Native.Nat.{ℕ, zero, suc, ◌+◌, ◌-◌, ◌*◌, ◌/◌, ◌≤◌, ◌<◌}
use native.Mathlib.Nat.{zero-mul, suc-mul, zero-add, add-zero, mul-le-mul_right}
use native.Mathlib.Numerals.{add-one}
use native.Mathlib.Omega.{arith}
use mathlib.Core.List.{List, [], ◌∷◌, ◌++◌, append_assoc, append-nil}
use mathlib.Core.Bool.{Bool, true, false}
use lib.ListN.{length, get_or, take, drop, length-append}
use lib.Dec.{leb}
use borrow.Rule.Slice.PartMut.{put_mid}
use borrow.Author.Tests.{lt-ltb, le-ltb, leb-true, leb-false}
use Rattle.format.specs.Dta.{Layout}
use Rattle.text.proofs.Lay.{laid_part, laid_as}
use Rattle.questions.specs.Ask.{Question, ask_cell, answer_of, in_range}
use Rattle.std.specs.Prelude.{min, Ok, Err}
use Rattle.refusal.specs.declared.Refusal.TheVariants.{NotThere}
use Rattle.coded.specs.Coded.{numbers_of, told, following, least}
use Rattle.cell_runs.proofs.RunLaws.{Filled, filled_none, filled_long, filled_all, four_long, least_left, least_right, least_both, run_there, run_none}
use Rattle.word_runs.specs.Words.{words_down}
use Rattle.word_columns.specs.Across.{words_across, rows_from, TellsAcross}

-- the questions about the variable at place k
pub across_at : (v : List ℕ) (j h k m : ℕ) → k < length v → m < h → words_across v j h (k * h + m) ≡ words_down (get_or v k 0) j m
unfolding words_across
across_at [] j h k m a b = absurd (omega arith)
across_at (i ∷ v) j h zero m a b = rw (zero-mul h, zero-add m, lt-ltb m h b)
across_at (i ∷ v) j h (suc k) m a b =
    let s = suc-mul k h in
    let g : suc k * h + m - h ≡ k * h + m = omega (arith, s) in
    rw (le-ltb (suc k * h + m) h (omega (arith, s))) (ap (words_across v j h) g ∙ across_at v j h k m (omega arith) b)

-- ---- answers told

module _ (f : List ℕ) (l : Layout) where
  pub told_long : (q : ℕ → Question) (n : ℕ) → length (told f l q n) ≡ n * 4
  unfolding told
  told_long q zero = sym (zero-mul 4)
  told_long q (suc n) =
      length-append (told f l q n) (numbers_of (answer_of f l (q n)))
      ∙ (let e = told_long q n in let g = four_long (answer_of f l (q n)) in omega (arith, e, g, suc-mul n 4))

  told_as : (q p : ℕ → Question) (n : ℕ) → ((m : ℕ) → m < n → q m ≡ p m) → told f l q n ≡ told f l p n
  unfolding told
  told_as q p zero h = refl
  told_as q p (suc n) h =
      ap (λ (t : List ℕ). t ++ numbers_of (answer_of f l (q n))) (told_as q p n (λ m a. h m (omega arith)))
      ∙ ap (λ (x : Question). told f l p n ++ numbers_of (answer_of f l x)) (h n (omega arith))

  told_join : (q : ℕ → Question) (a b : ℕ) → told f l q (a + b) ≡ told f l q a ++ told f l (λ m. q (a + m)) b
  unfolding told
  told_join q a zero = ap (told f l q) (add-zero a) ∙ sym (append-nil (told f l q a))
  told_join q a (suc b) =
      let e : a + suc b ≡ suc (a + b) = omega arith in
      ap (told f l q) e
      ∙ ap (λ (t : List ℕ). t ++ numbers_of (answer_of f l (q (a + b)))) (told_join q a b)
      ∙ append_assoc (told f l q a) (told f l (λ m. q (a + m)) b) (numbers_of (answer_of f l (q (a + b))))

-- m answers more, to the questions g
filled_more : (f : List ℕ) (l : Layout) (q : ℕ → Question) (d : List ℕ) (a : ℕ) (w : List ℕ) → Filled f l q d a w
    → (g : ℕ → Question) (m : ℕ) → ((x : ℕ) → x < m → q (a + x) ≡ g x) → a * 4 + m * 4 ≤ length d
    → (p : List ℕ) → p ≡ told f l g m ++ drop (m * 4) (take (length w - a * 4) (drop (a * 4) w))
    → Filled f l q d (a + m) (put_mid (a * 4) (length w - a * 4) w p)
filled_more f l q d a w F g m G h p e =
    let s : told f l q a ++ told f l g m ≡ told f l q (a + m) = ap (λ (t : List ℕ). told f l q a ++ t) (sym (told_as f l (λ x. q (a + x)) g m G)) ∙ sym (told_join f l q a m) in
    record { laid = laid_as (laid_part F.laid (told f l g m) p (m * 4) (told_long f l g m) h e) s (omega arith) }

-- ---- the loop

-- k of the variables v have their answers, or as many of these as there is room for: those are at, laid over d
pub record Come (f : List ℕ) (l : Layout) (v : List ℕ) (j h : ℕ) (d : List ℕ) (at k : ℕ) (w : List ℕ) : Type 0 where
  pub upto : k ≤ length v
  pub many : at ≡ least (length d / 4) (k * h)
  pub filled : Filled f l (words_across v j h) d at w

pub come_start : (f : List ℕ) (l : Layout) (v : List ℕ) (j h : ℕ) (d : List ℕ) → Come f l v j h d 0 0 d
come_start f l v j h d =
    let b = least_both (length d / 4) (0 * h) in
    record { upto = omega arith; many = omega (arith, b.1, zero-mul h); filled = filled_none f l (words_across v j h) d }

-- the lesser, from a on
least_more : (n a b : ℕ) → a ≤ n → a + least (n - a) b ≡ least n (a + b)
least_more n a b h = go (leb (n - a) b) refl
  where
    go : (t : Bool) → leb (n - a) b ≡ t → a + least (n - a) b ≡ least n (a + b)
    go true e =
        let k = leb-true (n - a) b e in
        let r = least_left n (a + b) (omega arith) in
        let u = least_left (n - a) b k in
        omega (arith, r, u)
    go false e =
        let k = leb-false (n - a) b e in
        let r = least_right n (a + b) (omega arith) in
        let u = least_right (n - a) b k in
        omega (arith, r, u)

least_is : (a b n : ℕ) → n ≡ least a b → (n ≡ a → ⊥) → (n ≡ b) × (n < a)
least_is a b n e h = go (leb a b) refl
  where
    go : (t : Bool) → leb a b ≡ t → (n ≡ b) × (n < a)
    go true k = absurd (h (e ∙ sym (least_left a b (leb-true a b k))))
    go false k = let g = leb-false a b k in let r = least_right a b g in (omega (arith, r, e), omega (arith, r, e, g))

module _ {f : List ℕ} {l : Layout} {v : List ℕ} {j h : ℕ} {d : List ℕ} {at k : ℕ} {w : List ℕ} (C : Come f l v j h d at k w) where
  pub come_long : length w ≡ length d
  come_long = filled_long C.filled

  pub come_room : at ≤ length d / 4
  come_room = omega (arith, C.many, (least_both (length d / 4) (k * h)).0)

  -- there is no more room
  pub come_full : at ≡ length d / 4 → at ≡ least (length d / 4) (length v * h)
  come_full e =
      let b = least_both (length d / 4) (k * h) in
      let c : k * h ≤ length v * h = mul-le-mul_right h C.upto in
      let r = least_left (length d / 4) (length v * h) (omega (arith, c, b.1, C.many, e)) in
      omega (arith, e, r)

  -- there are no more variables
  pub come_end : length v ≤ k → at ≡ least (length d / 4) (length v * h)
  come_end a = let e : k ≡ length v = omega (arith, C.upto) in C.many ∙ ap (λ (x : ℕ). least (length d / 4) (x * h)) e

  pub come_out : w ≡ told f l (words_across v j h) at ++ drop (at * 4) d
  come_out = filled_all C.filled at refl

  module _ (a : k < length v) (b : at ≡ length d / 4 → ⊥) (m : ℕ) (M : m ≡ least (length d / 4 - at) h) where
    few : m ≤ h
    few = omega (arith, M, (least_both (length d / 4 - at) h).1)

    pub come_fits : at * 4 + m * 4 ≤ length w
    come_fits = omega (arith, M, (least_both (length d / 4 - at) h).0, come_room, come_long)

    pub come_few : m ≤ h
    come_few = few

    -- one variable more
    pub come_on : (p : List ℕ) → p ≡ told f l (words_down (get_or v k 0) j) m ++ drop (m * 4) (take (length w - at * 4) (drop (at * 4) w))
        → Come f l v j h d (at + m) (k + 1) (put_mid (at * 4) (length w - at * 4) w p)
    come_on p e =
        let z = least_is (length d / 4) (k * h) at C.many b in
        let s : (k + 1) * h ≡ at + h = ap (λ (x : ℕ). x * h) (add-one k) ∙ suc-mul k h ∙ omega (arith, z.0) in
        record {
          upto = omega arith;
          many = ap (λ (x : ℕ). at + x) M ∙ least_more (length d / 4) at h come_room ∙ ap (least (length d / 4)) (sym s);
          filled = filled_more f l (words_across v j h) d at w C.filled (words_down (get_or v k 0) j) m (λ x c. ap (λ (y : ℕ). words_across v j h (y + x)) z.0 ∙ across_at v j h k x a (omega (arith, few, c))) (omega (arith, come_fits, come_long)) p e;
        }

-- ---- the whole

pub least_min : (a b : ℕ) → min a b ≡ least a b
least_min a b = go (leb a b) refl
  where
    go : (t : Bool) → leb a b ≡ t → min a b ≡ least a b
    go true e = let h = leb-true a b e in let m : min a b ≡ a = omega arith in m ∙ least_left a b h
    go false e = let h = leb-false a b e in let m : min a b ≡ b = omega arith in m ∙ least_right a b h

pub rows_few : (l : Layout) (j x h : ℕ) → h ≡ rows_from l j x → h ≤ following j l.rows
rows_few l j x h e = omega (arith, e, (least_both x (following j l.rows)).1)

-- i is the first variable; b tells whether its cell in observation j is there
module _ (f : List ℕ) (l : Layout) (v : List ℕ) (j x : ℕ) (d : List ℕ) (i : ℕ) (I : i ≡ get_or v 0 0) (b : Bool) (B : b ≡ in_range l (ask_cell i j)) where
  first_in : in_range l (ask_cell (get_or v 0 0) j) ≡ b
  first_in = ap (λ (y : ℕ). in_range l (ask_cell y j)) (sym I) ∙ sym B

  pub across_none : b ≡ false → TellsAcross f l v j x d d (Err NotThere)
  across_none n =
      record {
        answer = run_none l (get_or v 0 0) j (length v * rows_from l j x) (length d) (first_in ∙ n);
        out = filled_all (filled_none f l (words_across v j (rows_from l j x)) d) 0 refl;
      }

  pub across_some : b ≡ true → (y : ℕ) → y ≡ rows_from l j x → (m : ℕ) → m ≡ least (length d / 4) (length v * y)
      → (w : List ℕ) → w ≡ told f l (words_across v j y) m ++ drop (m * 4) d → TellsAcross f l v j x d w (Ok m)
  across_some n y Y m M w W =
      record {
        answer = run_there l (get_or v 0 0) j (length v * rows_from l j x) (length d) (first_in ∙ n) m (M ∙ ap (λ (z : ℕ). least (length d / 4) (length v * z)) Y);
        out = W ∙ ap (λ (z : ℕ). told f l (words_across v j z) m ++ drop (m * 4) d) Y;
      }
