-- Laws of the places in the data: the grammar's rows and cells stand there.
use mathlib.Core.Path.{◌≡◌, refl, sym, ap, ◌∙◌, subst}
use Prim.Native.Nat.{ℕ, zero, suc, ◌+◌, ◌*◌, ◌≤◌, ◌<◌}
use native.Mathlib.Nat.{mul-le-mul_right, suc-mul, zero-mul, add-zero, zero-add, not-suc-le-zero}
use native.Mathlib.Omega.{arith}
use native.Mathlib.Numerals.{add-one}
use mathlib.Core.List.{List, [], ◌∷◌}
use mathlib.Core.Bool.{Bool, true, false, cond}
use lib.ListN.{length}
use lib.Dec.{leb}
use borrow.Author.Tests.{leb-true, leb-false}
use Rattle.format.specs.Number.{Order, num}
use Rattle.format.specs.Grammar.{Sect, next, times, judge_times, read_times, row, row_size, judge_row, read_row, row_width}
use Rattle.format.specs.Edition.{code_width, text_max}
use Rattle.format.specs.Variables.{VarType, text_type, strl_type, byte_type, int_type, long_type, float_type, double_type, type_by, has_type, type_code}
use Rattle.format.specs.Data.{Cell, cell, cell_width}
use Rattle.format.proofs.Good.{also_left, also_right, and_right, unless_true}
use Rattle.codes.specs.declared.Field.{Field}
use Rattle.codes.specs.Fields.{field_by, unknown, field_of}
use Rattle.data.specs.Places.{code_at, field_at, off_at, place}

-- ---- widths

text_small : (t : Bool) → text_max t ≤ 2045
text_small true = omega arith
text_small false = omega arith

type_small : (t : Bool) (x : VarType) → has_type t x ≡ true → (field_by x).width ≤ 2045
type_small t (text_type w) h = omega (arith, text_small t, leb-true w (text_max t) (and_right (leb 1 w) (leb w (text_max t)) h))
type_small t strl_type h = omega arith
type_small t byte_type h = omega arith
type_small t int_type h = omega arith
type_small t long_type h = omega arith
type_small t float_type h = omega arith
type_small t double_type h = omega arith

pub width_small : (t : Bool) (c : ℕ) → (field_of t c).width ≤ 2045
width_small t c = go (has_type t (type_by t c)) refl
  where
    go : (b : Bool) → has_type t (type_by t c) ≡ b → (cond b (field_by (type_by t c)) unknown).width ≤ 2045
    go true e = type_small t (type_by t c) e
    go false e = omega arith

-- a type's width in the grammar, where a strL cell has 8 bytes
type_width : (vw ow : ℕ) → vw + ow ≡ 8 → (x : VarType) → cell_width vw ow x ≡ (field_by x).width
type_width vw ow e (text_type w) = refl
type_width vw ow e strl_type = e
type_width vw ow e byte_type = refl
type_width vw ow e int_type = refl
type_width vw ow e long_type = refl
type_width vw ow e float_type = refl
type_width vw ow e double_type = refl

-- row j of n rows ends within them
pub row_in_lem : (j n w : ℕ) → j < n → j * w + w ≤ n * w
row_in_lem j n w h = let e : suc j * w ≤ n * w = mul-le-mul_right w h in omega (arith, suc-mul j w)

module _ (t : Bool) (o : Order) (f : List ℕ) (tp : ℕ) where
  abbrev Ty : Sect VarType
  Ty = type_code t o

  abbrev pub type_at : ℕ → VarType
  type_at i = type_by t (code_at t o f tp i)

  pub field_small : (i : ℕ) → (field_at t o f tp i).width ≤ 2045
  unfolding field_at
  field_small i = width_small t (code_at t o f tp i)

  -- the field of a code c, read with its width w
  pub field_is : (i w c : ℕ) → w ≡ code_width t → c ≡ num o w f (tp + i * w) → field_of t c ≡ field_at t o f tp i
  unfolding field_at
  field_is i w c e h = ap (field_of t) (h ∙ ap (λ (x : ℕ). num o x f (tp + i * x)) e)

  -- the sum with one width more
  pub off_more : (i s : ℕ) (x : Field) → s ≡ off_at t o f tp i → x ≡ field_at t o f tp i → s + x.width ≡ off_at t o f tp (i + 1)
  off_more i s x e h = rw (add-one i) (λ k. e k + (h k).width)

  pub off_small : (i : ℕ) → off_at t o f tp i ≤ i * 2045
  off_small zero = omega arith
  off_small (suc i) = omega (arith, off_small i, field_small i, suc-mul i 2045)

  -- a variable's cell ends within the row
  pub off_in : (i k : ℕ) → i < k → off_at t o f tp i + (field_at t o f tp i).width ≤ off_at t o f tp k
  off_in i zero h = absurd (not-suc-le-zero h)
  off_in i (suc k) h = go (leb k i) refl (off_in i k)
    where
      go : (b : Bool) → leb k i ≡ b → (i < k → off_at t o f tp i + (field_at t o f tp i).width ≤ off_at t o f tp k)
          → off_at t o f tp i + (field_at t o f tp i).width ≤ off_at t o f tp k + (field_at t o f tp k).width
      go true q ih = let e : i ≡ k = omega (arith, leb-true k i q) in rw e (omega arith)
      go false q ih = omega (arith, ih (leb-false k i q))

  -- the bytes of variable i's type code are there
  pub code_in : (i k : ℕ) → i < k → tp + k * code_width t ≤ length f → tp + i * code_width t + code_width t ≤ length f
  code_in i k h b = omega (arith, row_in_lem i k (code_width t) h)

  -- the cell's bytes are there
  pub cell_in : (k p n i j : ℕ) → p + n * off_at t o f tp k ≤ length f → i < k → j < n → place t o f tp k p i j + (field_at t o f tp i).width ≤ length f
  cell_in k p n i j b hi hj = omega (arith, row_in_lem j n (off_at t o f tp k) hj, off_in i k hi)

  -- ---- types

  type_step : (i : ℕ) (x : VarType) → tp + i * code_width t + Ty.size x ≡ tp + suc i * code_width t
  unfolding type_code
  type_step i x = omega (arith, suc-mul i (code_width t))

  type_read : (i : ℕ) → Ty.read f (tp + i * code_width t) ≡ type_at i
  unfolding type_code
  type_read i = refl

  type_has : (i : ℕ) → Ty.judge f (tp + i * code_width t) ≡ 0 → has_type t (type_at i) ≡ true
  unfolding type_code
  type_has i h = unless_true (has_type t (type_at i)) 6 (omega arith) h

  -- m types from variable i on, and that they are right
  abbrev pub types_from : ℕ → ℕ → List VarType
  types_from m i = read_times Ty m f (tp + i * code_width t)

  abbrev pub RightFrom : ℕ → ℕ → Type 0
  RightFrom m i = judge_times Ty m f (tp + i * code_width t) ≡ 0

  pub right_next : (m i : ℕ) → RightFrom (suc m) i → RightFrom m (suc i)
  right_next m i h =
      ap (λ (p : ℕ). judge_times Ty m f p) (sym (type_step i (Ty.read f (tp + i * code_width t))))
      ∙ also_right (Ty.judge f (tp + i * code_width t)) (judge_times Ty m f (next Ty f (tp + i * code_width t))) h

  pub right_field : (m i : ℕ) → RightFrom (suc m) i → field_at t o f tp i ≡ field_by (type_at i)
  unfolding field_at
  right_field m i h =
      rw (type_has i (also_left (Ty.judge f (tp + i * code_width t)) (judge_times Ty m f (next Ty f (tp + i * code_width t))) h))

  pub types_step : (m i : ℕ) → types_from (suc m) i ≡ type_at i ∷ types_from m (suc i)
  types_step m i = λ k. type_read i k ∷ read_times Ty m f (type_step i (Ty.read f (tp + i * code_width t)) k)

  pub first : (k : ℕ) → judge_times Ty k f tp ≡ 0 → RightFrom k 0
  first k h = let e : tp + 0 * code_width t ≡ tp = omega (arith, zero-mul (code_width t)) in ap (λ (p : ℕ). judge_times Ty k f p) e ∙ h

  pub types_first : (k : ℕ) → types_from k 0 ≡ read_times Ty k f tp
  types_first k = let e : tp + 0 * code_width t ≡ tp = omega (arith, zero-mul (code_width t)) in ap (λ (p : ℕ). read_times Ty k f p) e

  fields : (m i v : ℕ) → RightFrom m i → v < m → field_at t o f tp (i + v) ≡ field_by (type_at (i + v))
  fields zero i v h b = absurd (not-suc-le-zero b)
  fields (suc m) i zero h b = rw (add-zero i) (right_field m i h)
  fields (suc m) i (suc v) h b =
      let e : suc i + v ≡ i + suc v = omega arith in
      rw (sym e) (fields m (suc i) v (right_next m i h) (omega arith))

  -- the field of each of k right types is its type's
  pub field_type : (k : ℕ) → judge_times Ty k f tp ≡ 0 → (v : ℕ) → v < k → field_at t o f tp v ≡ field_by (type_at v)
  field_type k h v b = subst (λ (x : ℕ). field_at t o f tp x ≡ field_by (type_at x)) (zero-add v) (fields k 0 v (first k h) b)

  -- ---- rows

  module _ (vw ow : ℕ) (eight : vw + ow ≡ 8) where
    abbrev pub Ce : VarType → Sect Cell
    Ce = cell o vw ow

    cell_size : (x : VarType) (c : Cell) → (Ce x).size c ≡ cell_width vw ow x
    cell_size (text_type w) c = refl
    cell_size strl_type c = refl
    cell_size byte_type c = refl
    cell_size int_type c = refl
    cell_size long_type c = refl
    cell_size float_type c = refl
    cell_size double_type c = refl

    cell_judge : (x : VarType) (p : ℕ) → (Ce x).judge f p ≡ 0
    cell_judge (text_type w) p = refl
    cell_judge strl_type p = refl
    cell_judge byte_type p = refl
    cell_judge int_type p = refl
    cell_judge long_type p = refl
    cell_judge float_type p = refl
    cell_judge double_type p = refl

    widths : (m i : ℕ) → RightFrom m i → off_at t o f tp i + row_width (cell_width vw ow) (types_from m i) ≡ off_at t o f tp (i + m)
    widths zero i h = rw (add-zero, add-zero)
    widths (suc m) i h =
        let e : i + suc m ≡ suc i + m = omega arith in
        ap (λ (l : List VarType). off_at t o f tp i + row_width (cell_width vw ow) l) (types_step m i)
        ∙ omega (arith, type_width vw ow eight (type_at i), ap (λ (x : Field). x.width) (right_field m i h), widths m (suc i) (right_next m i h), ap (off_at t o f tp) e)

    -- the width of a row
    pub width_is : (k : ℕ) → judge_times Ty k f tp ≡ 0 → row_width (cell_width vw ow) (read_times Ty k f tp) ≡ off_at t o f tp k
    width_is k h =
        let e : 0 + k ≡ k = zero-add k in
        ap (row_width (cell_width vw ow)) (sym (types_first k)) ∙ omega (arith, widths k 0 (first k h), ap (off_at t o f tp) e)

    row_size_lem : (l : List VarType) (p : ℕ) → row_size Ce l (read_row Ce l f p) ≡ row_width (cell_width vw ow) l
    row_size_lem [] p = refl
    row_size_lem (x ∷ l) p = omega (arith, cell_size x ((Ce x).read f p), row_size_lem l (p + (Ce x).size ((Ce x).read f p)))

    row_judge : (l : List VarType) (p : ℕ) → judge_row Ce l f p ≡ 0
    row_judge [] p = refl
    row_judge (x ∷ l) p = rw (cell_judge x p) (row_judge l (next (Ce x) f p))

    -- rows are never refused, and where they end
    pub rows_judge : (l : List VarType) (n p : ℕ) → judge_times (row Ce l) n f p ≡ 0
    rows_judge l zero p = refl
    rows_judge l (suc n) p = rw (row_judge l p) (rows_judge l n (next (row Ce l) f p))

    pub rows_next : (l : List VarType) (n p : ℕ) → next (times (row Ce l) n) f p ≡ p + n * row_width (cell_width vw ow) l
    rows_next l zero p = rw zero-mul
    rows_next l (suc n) p =
        let h = rows_next l n (next (row Ce l) f p) in
        rw suc-mul (omega (arith, h, row_size_lem l p))

    -- ---- cells

    -- what the cell of variable i in observation j says, with k variables and the first row at p
    unfoldable pub cell_at : ℕ → ℕ → ℕ → ℕ → Cell
    cell_at k p i j = (Ce (type_at i)).read f (place t o f tp k p i j)

    -- m cells of row j from variable i on; m rows from j on
    abbrev pub cells_from : ℕ → ℕ → ℕ → ℕ → ℕ → List Cell
    cells_from k p zero i j = []
    cells_from k p (suc m) i j = cell_at k p i j ∷ cells_from k p m (suc i) j

    abbrev pub rows_from : ℕ → ℕ → ℕ → ℕ → List (List Cell)
    rows_from k p zero j = []
    rows_from k p (suc m) j = cells_from k p k 0 j ∷ rows_from k p m (suc j)

    module _ (k p : ℕ) where
      row_read : (m i j : ℕ) → RightFrom m i → read_row Ce (types_from m i) f (place t o f tp k p i j) ≡ cells_from k p m i j
      unfolding cell_at
      row_read zero i j h = refl
      row_read (suc m) i j h =
          let c = (Ce (type_at i)).read f (place t o f tp k p i j) in
          let e : place t o f tp k p i j + (Ce (type_at i)).size c ≡ place t o f tp k p (suc i) j =
          omega (arith, cell_size (type_at i) c, type_width vw ow eight (type_at i), ap (λ (x : Field). x.width) (right_field m i h)) in
          ap (λ (l : List VarType). read_row Ce l f (place t o f tp k p i j)) (types_step m i)
          ∙ ap (λ (q : ℕ). c ∷ read_row Ce (types_from m (suc i)) f q) e
          ∙ ap (λ (l : List Cell). c ∷ l) (row_read m (suc i) j (right_next m i h))

      rows_read : (m j : ℕ) → judge_times Ty k f tp ≡ 0 → read_times (row Ce (read_times Ty k f tp)) m f (p + j * off_at t o f tp k) ≡ rows_from k p m j
      rows_read zero j h = refl
      rows_read (suc m) j h =
          let q = p + j * off_at t o f tp k in
          let l = read_times Ty k f tp in
          let r = read_row Ce l f q in
          let a : read_row Ce l f q ≡ cells_from k p k 0 j =
          ap (λ (x : ℕ). read_row Ce l f x) (sym (add-zero q)) ∙ ap (λ (x : List VarType). read_row Ce x f (q + 0)) (sym (types_first k)) ∙ row_read k 0 j (first k h) in
          let e : q + row_size Ce l r ≡ p + suc j * off_at t o f tp k =
          omega (arith, row_size_lem l q, width_is k h, suc-mul j (off_at t o f tp k)) in
          ap (λ (x : ℕ). r ∷ read_times (row Ce l) m f x) e
          ∙ (λ i. a i ∷ rows_read m (suc j) h i)

      -- all cells of the data are those at these places
      pub cells_are : (n : ℕ) → judge_times Ty k f tp ≡ 0 → read_times (row Ce (read_times Ty k f tp)) n f p ≡ rows_from k p n 0
      cells_are n h =
          let g : p + 0 * off_at t o f tp k ≡ p = omega (arith, zero-mul (off_at t o f tp k)) in
          ap (λ (x : ℕ). read_times (row Ce (read_times Ty k f tp)) n f x) (sym g) ∙ rows_read n 0 h
