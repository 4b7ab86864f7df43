-- Blocks of rows: what is put run by run is what is put row by row.
use mathlib.Core.Path.{◌≡◌, refl, sym, ap, ◌∙◌}
use mathlib.Core.List.{List, [], ◌++◌, append_assoc, append-nil}
use Prim.Native.Nat.{ℕ, zero, suc, ◌+◌, ◌-◌, ◌*◌, ◌≤◌, ◌<◌}
use native.Mathlib.Nat.{zero-mul, suc-mul}
use native.Mathlib.Omega.{arith}
use native.Mathlib.Numerals.{add-one}
use borrow.Rule.Slice.PartMut.{put_mid}
use lib.ListN.{length, take, drop, length-append, length-drop, drop_of_length-le, take-append-drop}
use lib.Seq.{take-append-le, drop-append-le, take-append-add, drop-append-add, take_at, drop-drop, take_all, length-take-le}
use Rattle.data.proofs.PlaceLaws.{row_in_lem}
use Rattle.write_data.specs.declared.Forms.{Forms}
use Rattle.write_data.specs.Rows.{Eights}
use Rattle.write_data.specs.Runs.{run_size, run_bytes, kind_at, count_at, runs_size, runs_bytes}
use Rattle.write_data.specs.Blocks.{over, strewn, block_bytes}
use Rattle.write_data.proofs.RunLaws.{run_length}

-- ---- one list laid over another

-- a part that was lent and has come back
pub over_put : (a z : ℕ) (g x p : List ℕ) → length g ≡ z → a + z ≤ length x → p ≡ g ++ drop z (take (length x - a) (drop a x))
    → put_mid a (length x - a) x p ≡ over a g x
unfolding over
over_put a z g x p n room e =
    let all : take (length x - a) (drop a x) ≡ drop a x = take_all (length x - a) (drop a x) (simp length-drop (omega arith)) in
    let none : drop (length x - a) (drop a x) ≡ [] = drop_of_length-le (drop a x) {i = length x - a} (simp length-drop (omega arith)) in
    rw (none, e, all, append-nil, drop-drop, n)

pub over_long : (a : ℕ) (g x : List ℕ) → a + length g ≤ length x → length (over a g x) ≡ length x
unfolding over
over_long a g x b =
    length-append (take a x) (g ++ drop (a + length g) x)
    ∙ omega (arith, length-append g (drop (a + length g) x), length-take-le a x (omega arith), length-drop (a + length g) x)

over_left : (a : ℕ) (g x y : List ℕ) → a + length g ≤ length x → over a g (x ++ y) ≡ over a g x ++ y
unfolding over
over_left a g x y b =
    let t : take a (x ++ y) ≡ take a x = take-append-le a x y (omega arith) in
    let d : drop (a + length g) (x ++ y) ≡ drop (a + length g) x ++ y = drop-append-le (a + length g) x y b in
    rw (t, d) (simp append_assoc)

over_right : (n a : ℕ) (g x y : List ℕ) → length x ≡ n → over (n + a) g (x ++ y) ≡ x ++ over a g y
unfolding over
over_right n a g x y e =
    let t : take (n + a) (x ++ y) ≡ x ++ take a y = ap (λ (k : ℕ). take (k + a) (x ++ y)) (sym e) ∙ take-append-add x y a in
    let k : n + a + length g ≡ length x + (a + length g) = omega arith in
    let d : drop (n + a + length g) (x ++ y) ≡ drop (a + length g) y = ap (λ (i : ℕ). drop i (x ++ y)) k ∙ drop-append-add x y (a + length g) in
    rw (t, d) (simp append_assoc)

-- ---- one run of each row

module _ (B : ℕ → List ℕ) (a w z : ℕ) (fits : a + z ≤ w) where
  -- those of the first m rows have z bytes
  abbrev Long : ℕ → Type 0
  Long m = (j : ℕ) → j < m → length (B j) ≡ z

  pub strewn_long : (m : ℕ) (x : List ℕ) → Long m → m * w ≤ length x → length (strewn B a w m x) ≡ length x
  unfolding strewn
  strewn_long zero x l b = refl
  strewn_long (suc m) x l b =
      let s = suc-mul m w in
      let ih = strewn_long m x (λ j c. l j (omega arith)) (omega arith) in
      over_long (m * w + a) (B m) (strewn B a w m x) (omega (arith, l m (omega arith))) ∙ ih

  strewn_left : (m : ℕ) (x y : List ℕ) → Long m → m * w ≤ length x → strewn B a w m (x ++ y) ≡ strewn B a w m x ++ y
  unfolding strewn
  strewn_left zero x y l b = refl
  strewn_left (suc m) x y l b =
      let s = suc-mul m w in
      let m-long : Long m = λ j c. l j (omega arith) in
      let n = strewn_long m x m-long (omega arith) in
      ap (λ (u : List ℕ). over (m * w + a) (B m) u) (strewn_left m x y m-long (omega arith))
      ∙ over_left (m * w + a) (B m) (strewn B a w m x) y (omega (arith, l m (omega arith)))

  -- the last row stands after the others
  strewn_next : (m : ℕ) (x y : List ℕ) → Long m → length x ≡ m * w → strewn B a w (suc m) (x ++ y) ≡ strewn B a w m x ++ over a (B m) y
  unfolding strewn
  strewn_next m x y l e =
      ap (λ (u : List ℕ). over (m * w + a) (B m) u) (strewn_left m x y l (omega arith))
      ∙ over_right (m * w) a (B m) (strewn B a w m x) y (strewn_long m x l (omega arith) ∙ e)

-- a kind and a count that are known
pub run_fits : (s k c n a w : ℕ) → s ≡ k → c ≡ n → a + run_size s c ≤ w → a + run_size k n ≤ w
run_fits s k c n a w e g b = let z : run_size s c ≡ run_size k n = λ i. run_size (e i) (g i) in omega arith

pub run_strewn : (h : Forms) (s k c n : ℕ) (f : List ℕ) (q a w m : ℕ) (x u : List ℕ) → s ≡ k → c ≡ n → u ≡ strewn (λ (j : ℕ). run_bytes h k n f (q + (j * w + a))) a w m x
    → u ≡ strewn (λ (j : ℕ). run_bytes h s c f (q + (j * w + a))) a w m x
run_strewn h s k c n f q a w m x u e g y = y ∙ sym (λ i. strewn (λ (j : ℕ). run_bytes h (e i) (g i) f (q + (j * w + a))) a w m x)

-- ---- all runs

module _ (h : Forms) (f t : List ℕ) (q w : ℕ) where
  -- what is put for run i of row j
  abbrev pub cell_run : ℕ → ℕ → List ℕ
  cell_run i j = run_bytes h (kind_at t i) (count_at t i) f (q + (j * w + runs_size t i))

  -- x with the first i runs of m rows laid over it
  abbrev pub columns : ℕ → ℕ → List ℕ → List ℕ
  columns m zero x = x
  columns m (suc i) x = strewn (cell_run i) (runs_size t i) w m (columns m i x)

  -- y with the first i runs of row j laid over it
  abbrev pub rowed : ℕ → ℕ → List ℕ → List ℕ
  rowed j zero y = y
  rowed j (suc i) y = over (runs_size t i) (cell_run i j) (rowed j i y)

  -- one run more
  pub columns_more : (m i a : ℕ) (x y u : List ℕ) → a ≡ runs_size t i → y ≡ columns m i x → u ≡ strewn (λ (j : ℕ). run_bytes h (kind_at t i) (count_at t i) f (q + (j * w + a))) a w m y
      → u ≡ columns m (i + 1) x
  columns_more m i a x y u e g z = rw (add-one i) (z ∙ (λ k. strewn (λ (j : ℕ). run_bytes h (kind_at t i) (count_at t i) f (q + (j * w + e k))) (e k) w m (g k)))

module _ (h : Forms) (E : Eights h) (f t : List ℕ) (q w : ℕ) where
  abbrev run : ℕ → ℕ → List ℕ
  run = cell_run h f t q w

  abbrev put : ℕ → ℕ → List ℕ → List ℕ
  put = columns h f t q w

  abbrev put_row : ℕ → ℕ → List ℕ → List ℕ
  put_row = rowed h f t q w

  pub run_long : (m i : ℕ) → q + m * w ≤ length f → runs_size t i + run_size (kind_at t i) (count_at t i) ≤ w → (j : ℕ) → j < m → length (run i j) ≡ run_size (kind_at t i) (count_at t i)
  run_long m i b s j c = run_length h E f (kind_at t i) (count_at t i) (q + (j * w + runs_size t i)) (omega (arith, row_in_lem j m w c))

  pub columns_long : (m i : ℕ) (x : List ℕ) → q + m * w ≤ length f → runs_size t i ≤ w → m * w ≤ length x → length (put m i x) ≡ length x
  columns_long m zero x b s r = refl
  columns_long m (suc i) x b s r =
      let z = run_size (kind_at t i) (count_at t i) in
      let ih = columns_long m i x b (omega arith) r in
      strewn_long (run i) (runs_size t i) w z s m (put m i x) (run_long m i b s) (omega arith) ∙ ih

  columns_none : (i : ℕ) (x : List ℕ) → put 0 i x ≡ x
  unfolding strewn
  columns_none zero x = refl
  columns_none (suc i) x = columns_none i x

  -- the last row stands after the others
  columns_next : (m i : ℕ) (x y : List ℕ) → q + m * w ≤ length f → runs_size t i ≤ w → length x ≡ m * w → put (suc m) i (x ++ y) ≡ put m i x ++ put_row m i y
  columns_next m zero x y b s e = refl
  columns_next m (suc i) x y b s e =
      let z = run_size (kind_at t i) (count_at t i) in
      ap (λ (u : List ℕ). strewn (run i) (runs_size t i) w (suc m) u) (columns_next m i x y b (omega arith) e)
      ∙ strewn_next (run i) (runs_size t i) w z s m (put m i x) (put_row m i y) (run_long m i b s) (columns_long m i x b (omega arith) (omega arith) ∙ e)

  runs_long : (i p : ℕ) → p + runs_size t i ≤ length f → length (runs_bytes t h i f p) ≡ runs_size t i
  runs_long zero p b = refl
  runs_long (suc i) p b =
      let u = runs_bytes t h i f p in
      let v = run_bytes h (kind_at t i) (count_at t i) f (p + runs_size t i) in
      length-append u v ∙ omega (arith, runs_long i p (omega arith), run_length h E f (kind_at t i) (count_at t i) (p + runs_size t i) (omega arith))

  rowed_is : (j i : ℕ) (y : List ℕ) → q + j * w + runs_size t i ≤ length f → put_row j i y ≡ runs_bytes t h i f (q + j * w) ++ drop (runs_size t i) y
  unfolding over
  rowed_is j zero y b = refl
  rowed_is j (suc i) y b =
      let s = runs_size t i in
      let g = run i j in
      let u = runs_bytes t h i f (q + j * w) in
      let n : length u ≡ s = runs_long i (q + j * w) (omega arith) in
      let at : q + (j * w + s) ≡ q + j * w + s = omega arith in
      let z : length g ≡ run_size (kind_at t i) (count_at t i) = run_length h E f (kind_at t i) (count_at t i) (q + (j * w + s)) (omega arith) in
      let first : take s (u ++ drop s y) ≡ u = take_at u (drop s y) s n in
      let k : s + length g ≡ length u + length g = omega arith in
      let rest : drop (s + length g) (u ++ drop s y) ≡ drop (s + length g) y = ap (λ (x : ℕ). drop x (u ++ drop s y)) k ∙ drop-append-add u (drop s y) (length g) ∙ drop-drop (length g) s y in
      ap (λ (x : List ℕ). over s g x) (rowed_is j i y (omega arith))
      ∙ (λ x. first x ++ (g ++ rest x))
      ∙ sym (append_assoc u g (drop (s + length g) y))
      ∙ (λ x. (u ++ run_bytes h (kind_at t i) (count_at t i) f (at x)) ++ drop (s + z x) y)

  -- run by run, and row by row
  pub block_is : (r : ℕ) → runs_size t r ≡ w → (m : ℕ) (x : List ℕ) → q + m * w ≤ length f → m * w ≤ length x → put m r x ≡ block_bytes t h r f q w m ++ drop (m * w) x
  unfolding block_bytes
  block_is r e zero x b c = columns_none r x ∙ rw zero-mul
  block_is r e (suc m) x b c =
      let s = suc-mul m w in
      let x₁ = take (m * w) x in
      let x₂ = drop (m * w) x in
      let n : length x₁ ≡ m * w = length-take-le (m * w) x (omega arith) in
      let none : drop (m * w) x₁ ≡ [] = drop_of_length-le x₁ {i = m * w} (omega arith) in
      let left : drop (runs_size t r) x₂ ≡ drop (suc m * w) x = rw (e, drop-drop, s) in
      let done = block_bytes t h r f q w m in
      ap (put (suc m) r) (sym (take-append-drop (m * w) x))
      ∙ columns_next m r x₁ x₂ (omega arith) (omega arith) n
      ∙ (λ i. block_is r e m x₁ (omega arith) (omega arith) i ++ rowed_is m r x₂ (omega arith) i)
      ∙ (λ i. (done ++ none i) ++ (runs_bytes t h r f (q + m * w) ++ left i))
      ∙ (λ i. append-nil done i ++ (runs_bytes t h r f (q + m * w) ++ drop (suc m * w) x))
      ∙ sym (append_assoc done (runs_bytes t h r f (q + m * w)) (drop (suc m * w) x))

  pub block_long : (r : ℕ) → runs_size t r ≡ w → (m : ℕ) → q + m * w ≤ length f → length (block_bytes t h r f q w m) ≡ m * w
  unfolding block_bytes
  block_long r e zero b = rw zero-mul
  block_long r e (suc m) b =
      let u = block_bytes t h r f q w m in
      let v = runs_bytes t h r f (q + m * w) in
      let s = suc-mul m w in
      length-append u v ∙ omega (arith, block_long r e m (omega arith), runs_long r (q + m * w) (omega arith))
