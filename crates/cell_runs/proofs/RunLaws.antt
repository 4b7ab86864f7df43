-- Answers laid over a slice one after another, four numbers each.
use mathlib.Core.Path.{◌≡◌, refl, sym, ap, ◌∙◌}
use Prim.Native.Nat.{ℕ, zero, suc, ◌+◌, ◌-◌, ◌*◌, ◌/◌, ◌≤◌, ◌<◌}
use native.Mathlib.Nat.{zero-mul}
use native.Mathlib.Numerals.{add-one}
use native.Mathlib.Omega.{arith}
use mathlib.Core.List.{List, ◌++◌}
use mathlib.Core.Bool.{Bool, true, false, cond, false≢true}
use borrow.Rule.Slice.PartMut.{put_mid}
use borrow.Author.Tests.{le-leb, lt-leb, leb-true, leb-false}
use lib.ListN.{length, take, drop}
use lib.Dec.{leb}
use lib.IntN.{pos, negsuc}
use Rattle.format.specs.Cells.{whole, single, double, letter, between, outside, words, reference}
use Rattle.format.specs.Dta.{Layout}
use Rattle.text.proofs.Lay.{Laid, laid_none, laid_part, laid_as}
use Rattle.questions.specs.Ask.{Question, unlabelled, labelled, Answer, refused, count, mark, typed, part, column, labels, cell, plain, long, ask_cell, answer_of, among, in_range}
use Rattle.std.specs.Prelude.{Ok, Err}
use Rattle.refusal.specs.declared.Refusal.{Refusal}
use Rattle.refusal.specs.declared.Refusal.TheVariants.{NotThere}
use Rattle.coded.specs.Coded.{numbers_of, told, following, least, run_of, Tells}
use Rattle.columns.proofs.ColumnLaws.{among_in}
use Rattle.cells.proofs.CellLaws.{among_of}
use Rattle.cell_runs.specs.Held.{times}

-- ---- how many

pub least_left : (a b : ℕ) → a ≤ b → a ≡ least a b
least_left a b h = rw (le-leb a b h)

pub least_right : (a b : ℕ) → b < a → b ≡ least a b
least_right a b h = rw (lt-leb a b h)

pub least_both : (a b : ℕ) → (least a b ≤ a) × (least a b ≤ b)
least_both a b = go (leb a b) refl
  where
    go : (t : Bool) → leb a b ≡ t → (least a b ≤ a) × (least a b ≤ b)
    go true e = rw e (omega arith, leb-true a b e)
    go false e = rw e (omega (arith, leb-false a b e), omega arith)

pub following_none : (i k : ℕ) → among i k ≡ false → 0 ≡ following i k
following_none i k h = rw h

pub following_some : (i k : ℕ) → among i k ≡ true → k - i + 1 ≡ following i k
following_some i k h = let b = among_in i k h in rw h (omega (arith, b))

following_in : (i k m : ℕ) → m < following i k → (1 ≤ i) × (i + m ≤ k)
following_in i k m h = go (among i k) refl
  where
    go : (t : Bool) → among i k ≡ t → (1 ≤ i) × (i + m ≤ k)
    go true e =
        let b = among_in i k e in
        let n : following i k ≡ suc k - i = ap (λ (t : Bool). cond t (suc k - i) 0) e in
        (b.0, omega (arith, b.0, b.1, n, h))
    go false e = let n : following i k ≡ 0 = ap (λ (t : Bool). cond t (suc k - i) 0) e in absurd (omega (arith, n, h))

-- ---- the answer

module _ (l : Layout) (i j n x : ℕ) where
  pub run_there : in_range l (ask_cell i j) ≡ true → (m : ℕ) → m ≡ least (x / 4) n → Ok m ≡ run_of l i j n x
  run_there h m M = rw (h, M)

  pub run_none : in_range l (ask_cell i j) ≡ false → Err NotThere ≡ run_of l i j n x
  run_none h = rw h

-- a run that is there stores as many as there is room for
pub run_is : (l : Layout) (i j n x r : ℕ) → Ok r ≡ run_of l i j n x → (in_range l (ask_cell i j) ≡ true) × (r ≡ least (x / 4) n)
run_is l i j n x r e = go (in_range l (ask_cell i j)) refl
  where
    go : (b : Bool) → in_range l (ask_cell i j) ≡ b → (in_range l (ask_cell i j) ≡ true) × (r ≡ least (x / 4) n)
    go true h = let k : Ok r ≡ Ok (least (x / 4) n) = rw h at e in (h, cc k)
    go false h = let k : Ok r ≡ Err NotThere = rw h at e in absurd (false≢true (cc k))

-- no more answers than there is room for, and none past k
pub run_few : (l : Layout) (i j a k x r : ℕ) → Ok r ≡ run_of l i j (following a k) x → (r * 4 ≤ x) × (r ≤ following a k)
run_few l i j a k x r e =
    let h = run_is l i j (following a k) x r e in
    let b = least_both (x / 4) (following a k) in
    (omega (arith, h.1, b.0), omega (arith, h.1, b.1))

pub following_within : (a k n z : ℕ) → n ≤ following a k → a ≤ z → k < z → a + n ≤ z
following_within a k zero z h b c = omega arith
following_within a k (suc n) z h b c = omega (arith, (following_in a k n (omega arith)).1)

-- ---- the loop

pub four_long : (a : Answer) → length (numbers_of a) ≡ 4
four_long (refused c) = refl
four_long (count n) = refl
four_long (mark b) = refl
four_long (typed t) = refl
four_long (part p n) = refl
four_long (column t p n) = refl
four_long (labels unlabelled) = refl
four_long (labels (labelled p n)) = refl
four_long (cell (whole (pos n))) = refl
four_long (cell (whole (negsuc n))) = refl
four_long (cell (single x)) = refl
four_long (cell (double x)) = refl
four_long (cell (letter k)) = refl
four_long (cell between) = refl
four_long (cell outside) = refl
four_long (cell (words p n)) = refl
four_long (cell (reference v o)) = refl
four_long (plain t) = refl
four_long (long k p n) = refl

-- the first m answers are laid over d
pub record Filled (f : List ℕ) (l : Layout) (q : ℕ → Question) (d : List ℕ) (m : ℕ) (w : List ℕ) : Type 0 where
  pub laid : Laid (told f l q m) (m * 4) d w

pub filled_none : (f : List ℕ) (l : Layout) (q : ℕ → Question) (d : List ℕ) → Filled f l q d 0 d
unfolding told
filled_none f l q d = record { laid = laid_as (laid_none d) refl (sym (zero-mul 4)) }

module _ {f : List ℕ} {l : Layout} {q : ℕ → Question} {d : List ℕ} {m : ℕ} {w : List ℕ} (F : Filled f l q d m w) where
  pub filled_long : length w ≡ length d
  filled_long = F.laid.whole

  -- n of them are all
  pub filled_all : (n : ℕ) → m ≡ n → w ≡ told f l q n ++ drop (n * 4) d
  filled_all n e = F.laid.is ∙ ap (λ (x : ℕ). told f l q x ++ drop (x * 4) d) e

  -- the next one is laid after the others
  pub filled_on : m * 4 + 4 ≤ length d → (x : Answer) (p : List ℕ) → x ≡ answer_of f l (q m) → p ≡ numbers_of x ++ drop 4 (take (length w - m * 4) (drop (m * 4) w))
      → Filled f l q d (m + 1) (put_mid (m * 4) (length w - m * 4) w p)
  unfolding told
  filled_on h x p A e =
      let g = numbers_of (answer_of f l (q m)) in
      let s : told f l q m ++ g ≡ told f l q (m + 1) = sym (ap (told f l q) (add-one m)) in
      let E = e ∙ ap (λ (y : Answer). numbers_of y ++ drop 4 (take (length w - m * 4) (drop (m * 4) w))) A in
      record { laid = laid_as (laid_part F.laid g p 4 (four_long (answer_of f l (q m))) h E) s (omega arith) }

-- the list x, of four numbers, is laid m times over d
pub times_none : (x d : List ℕ) → Laid (times 0 x) (0 * 4) d d
unfolding times
times_none x d = laid_as (laid_none d) refl (sym (zero-mul 4))

module _ (x : List ℕ) (m : ℕ) {d w : List ℕ} (L : Laid (times m x) (m * 4) d w) where
  pub times_on : length x ≡ 4 → m * 4 + 4 ≤ length d → (p : List ℕ) → p ≡ x ++ drop 4 (take (length w - m * 4) (drop (m * 4) w))
      → Laid (times (m + 1) x) ((m + 1) * 4) d (put_mid (m * 4) (length w - m * 4) w p)
  unfolding times
  times_on n h p e = let s : times m x ++ x ≡ times (m + 1) x = sym (ap (λ (k : ℕ). times k x) (add-one m)) in laid_as (laid_part L x p 4 n h e) s (omega arith)

  pub times_all : (n : ℕ) → m ≡ n → w ≡ times n x ++ drop (n * 4) d
  times_all n e = L.is ∙ ap (λ (k : ℕ). times k x ++ drop (k * 4) d) e

-- answers that are all one
pub told_times : (f : List ℕ) (l : Layout) (q : ℕ → Question) (x : List ℕ) (n : ℕ) → ((m : ℕ) → m < n → x ≡ numbers_of (answer_of f l (q m))) → times n x ≡ told f l q n
unfolding told times
told_times f l q x zero h = refl
told_times f l q x (suc n) h = ap (λ (y : List ℕ). y ++ x) (told_times f l q x n (λ m k. h m (omega arith))) ∙ ap (λ (y : List ℕ). told f l q n ++ y) (h n (omega arith))

-- of the r answers of the run from cell i, j on, as many as d has room for and at most those from a up to k, the first m are laid over d
pub record Run (f : List ℕ) (l : Layout) (i j : ℕ) (q : ℕ → Question) (a k : ℕ) (d : List ℕ) (r m : ℕ) (w : List ℕ) : Type 0 where
  pub many : Ok r ≡ run_of l i j (following a k) (length d)
  pub upto : m ≤ r
  pub filled : Filled f l q d m w

module _ (f : List ℕ) (l : Layout) (i j : ℕ) (q : ℕ → Question) (a k : ℕ) (d : List ℕ) where
  pub run_start : (r : ℕ) → Ok r ≡ run_of l i j (following a k) (length d) → Run f l i j q a k d r 0 d
  run_start r e = record { many = e; upto = omega arith; filled = filled_none f l q d }

  -- a run that is refused stores nothing
  pub run_out : (x : Refusal) → Err x ≡ run_of l i j (following a k) (length d) → Tells f l i j q (following a k) d d (Err x)
  run_out x e = record { answer = e; out = filled_all (filled_none f l q d) 0 refl }

module _ {f : List ℕ} {l : Layout} {i j : ℕ} {q : ℕ → Question} {a k : ℕ} {d : List ℕ} {r m : ℕ} {w : List ℕ} (R : Run f l i j q a k d r m w) where
  pub run_end : r ≤ m → Tells f l i j q (following a k) d w (Ok r)
  run_end h = record { answer = R.many; out = filled_all R.filled r (omega arith) }

  pub run_long : length w ≡ length d
  run_long = filled_long R.filled

  module _ (h : m < r) where
    -- the next one's number
    pub run_in : (1 ≤ a) × (a + m ≤ k)
    run_in = following_in a k m (omega (arith, h, run_few l i j a k (length d) r R.many))

    -- there is room for it
    pub run_room : m * 4 + 4 ≤ length w
    run_room = omega (arith, h, run_long, run_few l i j a k (length d) r R.many)

    -- it is laid after the others
    pub run_on : (x : Answer) (p : List ℕ) → x ≡ answer_of f l (q m) → p ≡ numbers_of x ++ drop 4 (take (length w - m * 4) (drop (m * 4) w))
        → Run f l i j q a k d r (m + 1) (put_mid (m * 4) (length w - m * 4) w p)
    run_on x p A e = record { many = R.many; upto = omega arith; filled = filled_on R.filled (omega (arith, run_room, run_long)) x p A e }

-- of a run whose answers are all one
module _ (f : List ℕ) (l : Layout) (i j : ℕ) (q : ℕ → Question) (a k : ℕ) (d : List ℕ) (r : ℕ) (R : Ok r ≡ run_of l i j (following a k) (length d)) where
  pub run_within : (m : ℕ) → m < r → (1 ≤ a) × (a + m ≤ k)
  run_within m h = following_in a k m (omega (arith, h, run_few l i j a k (length d) r R))

  pub run_among : (among i l.variables ≡ true) × (among j l.rows ≡ true)
  run_among = among_of l i j (run_is l i j (following a k) (length d) r R).0

  pub run_times : (x w : List ℕ) → ((m : ℕ) → m < r → x ≡ numbers_of (answer_of f l (q m))) → w ≡ times r x ++ drop (r * 4) d → Tells f l i j q (following a k) d w (Ok r)
  run_times x w h e = record { answer = R; out = e ∙ ap (λ (y : List ℕ). y ++ drop (r * 4) d) (told_times f l q x r h) }
