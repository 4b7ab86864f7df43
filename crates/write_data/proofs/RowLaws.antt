-- Rows: their width, one by one, and all as one run.
use mathlib.Core.Path.{◌≡◌, refl, sym, ap, ◌∙◌}
use mathlib.Core.List.{List, [], ◌∷◌, ◌++◌}
use mathlib.Core.Bool.{true, not}
use Prim.Native.Nat.{ℕ, zero, suc, ◌+◌, ◌-◌, ◌*◌, ◌≤◌}
use native.Mathlib.Nat.{add-zero, zero-add, mul-zero, mul-suc, mul_comm, mul_assoc, one-mul, add-mul, mul-le-mul_right}
use native.Mathlib.Omega.{arith}
use native.Mathlib.Numerals.{add-one}
use borrow.Rule.Slice.PartMut.{put_mid}
use borrow.Author.Tests.{eqb-true, eqb-false, not-true}
use lib.ListN.{length, take, drop, length-append}
use lib.Dec.{eqb}
use Rattle.format.specs.Slot.{fill}
use Rattle.format.specs.Number.{order_by}
use Rattle.format.specs.Grammar.{Sect, row_slots, read_row, row, row_width}
use Rattle.format.specs.Variables.{VarType, text_type, strl_type, byte_type, int_type, long_type, float_type, double_type}
use Rattle.format.specs.Data.{Cell, cell_width}
use Rattle.format.proofs.Good.{and_left, and_right}
use Rattle.format.proofs.DataLaws.{cell_good}
use Rattle.format.proofs.WriteLaws.{fill_append, fill_length}
use Rattle.data.proofs.PlaceLaws.{off_small, width_is, rows_next, row_in_lem}
use Rattle.text.proofs.Lay.{Laid, laid_part, laid_as}
use Rattle.writing.specs.Writes.{Puts}
use Rattle.write_data.specs.declared.Source.{Source}
use Rattle.write_data.specs.declared.Forms.{Forms}
use Rattle.write_data.specs.Rows.{from, to, put_times, Eights, row_span, types_of, Sourced, row_bytes, rows_bytes}
use Rattle.write_data.specs.Runs.{run_step, run_size, run_bytes, kind_at, count_at, runs_size, runs_bytes, one_run, Planned}
use Rattle.write_data.specs.Blocks.{block_bytes}
use Rattle.write_data.proofs.PutLaws.{laid_end, times_split, times_more, times_length}
use Rattle.write_data.proofs.RunLaws.{count_size, run_join}

module _ (f : List ℕ) (g : Source) (h : Forms) (F : Sourced f g) (E : Eights h) where
  -- ---- a row's width, as it is read and as it is put

  abbrev pub row_from : Sect (List Cell)
  row_from = row (from h) (types_of f g)

  abbrev pub row_to : Sect (List Cell)
  row_to = row (to h) (types_of f g)

  pub row_wide : (p : ℕ) → row_from.size (row_from.read f p) ≡ row_span f g
  row_wide p =
      let e = rows_next g.tagged (order_by h.msf) f g.types h.v h.o E.before (types_of f g) 1 p in
      let w = width_is g.tagged (order_by g.msf) f g.types h.v h.o E.before g.k F.typed.right in
      omega (arith, e, w, one-mul (row_width (cell_width h.v h.o) (types_of f g)))

  to_size : (t : VarType) (c : Cell) → (to h t).size c ≡ cell_width h.tov h.too t
  to_size (text_type w) c = refl
  to_size strl_type c = refl
  to_size byte_type c = refl
  to_size int_type c = refl
  to_size long_type c = refl
  to_size float_type c = refl
  to_size double_type c = refl

  cells_long : (l : List VarType) (p : ℕ) → length (fill (row_slots (to h) l (read_row (from h) l f p))) ≡ row_width (cell_width h.tov h.too) l
  cells_long [] p = refl
  cells_long (t ∷ l) p =
      let c = (from h t).read f p in
      let q = p + (from h t).size c in
      ap length (fill_append ((to h t).slots c) (row_slots (to h) l (read_row (from h) l f q)))
      ∙ length-append (fill ((to h t).slots c)) (fill (row_slots (to h) l (read_row (from h) l f q)))
      ∙ omega (arith, fill_length (to h t) (cell_good (order_by h.tomsf) h.tov h.too t) c, to_size t c, cells_long l q)

  pub row_long : (p : ℕ) → length (fill (row_to.slots (row_from.read f p))) ≡ row_span f g
  row_long p = cells_long (types_of f g) p ∙ width_is g.tagged (order_by g.msf) f g.types h.tov h.too E.after g.k F.typed.right

  -- ---- one by one

  -- the first j rows
  abbrev pub first_rows : ℕ → List ℕ
  first_rows j = put_times row_from row_to j f g.p

  module _ (w : ℕ) (e : w ≡ row_span f g) where
    wide : (p : ℕ) → row_from.size (row_from.read f p) ≡ w
    wide p = row_wide p ∙ sym e

    -- the next block of m rows, after j
    module _ (t : List ℕ) (r j m : ℕ) (b : j + m ≤ g.n) (P : Planned f g h t r) where
      abbrev q : ℕ
      q = g.p + j * w

      pub block_inside : q + m * w ≤ length f
      block_inside =
          let i : g.p + g.n * w ≤ length f = rw e F.inside in
          omega (arith, add-mul j m w, mul-le-mul_right {m = j + m} {n = g.n} w b)

      pub block_room : (d : List ℕ) → g.n * w ≤ length d → j * w + m * w ≤ length d
      block_room d room = omega (arith, add-mul j m w, mul-le-mul_right {m = j + m} {n = g.n} w b)

      block_rows : (k : ℕ) → k ≤ m → block_bytes t h r f q w k ≡ put_times row_from row_to k f q
      unfolding row_bytes block_bytes
      block_rows zero z = refl
      block_rows (suc k) z =
          let i : q + k * w + row_span f g ≤ length f = rw (sym e) (omega (arith, block_inside, row_in_lem k m w z)) in
          (λ x. block_rows k (omega arith) x ++ P.bytes (q + k * w) i x) ∙ times_more row_from row_to w f wide k q ∙ ap (λ (x : ℕ). put_times row_from row_to x f q) (add-one k)

      pub rows_block : {d u : List ℕ} → Laid (first_rows j) (j * w) d u → (p : List ℕ) → p ≡ block_bytes t h r f q w m ++ drop (m * w) (take (length u - j * w) (drop (j * w) u))
          → g.n * w ≤ length d → Laid (first_rows (j + m)) ((j + m) * w) d (put_mid (j * w) (length u - j * w) u p)
      rows_block {d} {u} l p x room =
          let is = block_rows m (omega arith) in
          laid_as (laid_part l (block_bytes t h r f q w m) p (m * w) (ap length is ∙ times_length row_from row_to w f wide (λ y. row_long y ∙ sym e) m q) (block_room d room) x)
          (ap (λ (y : List ℕ). first_rows j ++ y) is ∙ sym (times_split row_from row_to w f wide j m g.p))
          (sym (add-mul j m w))

    pub rows_end : (j : ℕ) {d u : List ℕ} → Laid (first_rows j) (j * w) d u → j ≡ g.n → u ≡ rows_bytes f g h ++ drop (g.n * w) d
    unfolding rows_bytes
    rows_end j l z = laid_end row_from row_to w f g.p j g.n l z

    -- the answer
    pub rows_puts : (d u : List ℕ) → u ≡ rows_bytes f g h ++ drop (g.n * w) d → Puts (rows_bytes f g h) d u (g.n * w)
    unfolding rows_bytes
    rows_puts d u x = record { is = x; long = sym (times_length row_from row_to w f wide (λ y. row_long y ∙ sym e) g.n g.p) }

  -- ---- all as one run

  run_none : (s q : ℕ) → run_bytes h s 0 f q ≡ []
  unfolding run_bytes
  run_none zero q = refl
  run_none (suc zero) q = refl
  run_none (suc (suc zero)) q = refl
  run_none (suc (suc (suc zero))) q = refl
  run_none (suc (suc (suc (suc zero)))) q = refl
  run_none (suc (suc (suc (suc (suc s))))) q = refl

  module _ (t : List ℕ) (r : ℕ) (P : Planned f g h t r) (one : one_run t r ≡ true) where
    abbrev s : ℕ
    s = kind_at t 0

    abbrev c : ℕ
    c = count_at t 0

    is_one : r ≡ 1
    is_one = eqb-true r 1 (and_left (eqb r 1) (not (eqb (kind_at t 0) 0)) one)

    joined : s ≡ 0 → ⊥
    joined = eqb-false s 0 (not-true (eqb s 0) (and_right (eqb r 1) (not (eqb (kind_at t 0) 0)) one))

    span : run_size s c ≡ row_span f g
    span = sym (zero-add (run_size s c)) ∙ ap (runs_size t) (sym is_one) ∙ P.size

    size_times : (j : ℕ) → run_size s (c * j) ≡ j * row_span f g
    size_times j = ap (λ (x : ℕ). x * run_step s) (mul_comm c j) ∙ mul_assoc j c (run_step s) ∙ ap (λ (x : ℕ). j * x) span

    one_row : (q : ℕ) → q + row_span f g ≤ length f → run_bytes h s c f q ≡ row_bytes f g h q
    one_row q b = ap (run_bytes h s c f) (sym (add-zero q)) ∙ ap (λ (x : ℕ). runs_bytes t h x f q) (sym is_one) ∙ P.bytes q b

    all_rows : (j : ℕ) → j ≤ g.n → run_bytes h s (c * j) f g.p ≡ first_rows j
    unfolding row_bytes
    all_rows zero b = rw (mul-zero c) (run_none s g.p)
    all_rows (suc j) b =
        let w = row_span f g in
        let i : g.p + j * w + w ≤ length f = omega (arith, F.inside, row_in_lem j g.n w b) in
        ap (λ (m : ℕ). run_bytes h s m f g.p) (mul-suc c j)
        ∙ run_join h E f s (c * j) c g.p joined
        ∙ (λ k. all_rows j (omega arith) k ++ run_bytes h s c f (g.p + size_times j k))
        ∙ ap (λ (l : List ℕ). first_rows j ++ l) (one_row (g.p + j * w) i)
        ∙ times_more row_from row_to w f row_wide j g.p
        ∙ ap first_rows (add-one j)

    -- its bytes are there
    pub one_size : run_size s (c * g.n) ≡ g.n * row_span f g
    one_size = size_times g.n

    pub one_count : c ≤ 18446744073709551615
    one_count =
        omega (
          arith,
          count_size s c,
          span,
          F.typed.few,
          off_small g.tagged (order_by g.msf) f g.types g.k,
          mul-le-mul_right {m = g.k} {n = 32767} 2045 (omega (arith, F.typed.few)),
        )

    pub one_puts : (w : ℕ) → w ≡ row_span f g → (d u : List ℕ) → u ≡ run_bytes h s (c * g.n) f g.p ++ drop (run_size s (c * g.n)) d → u ≡ rows_bytes f g h ++ drop (g.n * w) d
    unfolding rows_bytes
    one_puts w e d u x =
        x ∙ (λ k. all_rows g.n (omega arith) k ++ drop (size_times g.n k) d) ∙ ap (λ (y : ℕ). first_rows g.n ++ drop (g.n * y) d) (sym e)
