-- From a column to the next: one width more.
use mathlib.Core.Path.{◌≡◌, refl, sym, ap, ◌∙◌}
use Prim.Native.Nat.{ℕ, zero, suc, ◌+◌, ◌-◌, ◌*◌, ◌≤◌, ◌<◌}
use native.Mathlib.Nat.{zero-add, add-zero, add_assoc}
use native.Mathlib.Omega.{arith}
use mathlib.Core.List.{List, [], ◌∷◌}
use mathlib.Core.Bool.{Bool, true, false, false≢true}
use lib.ListN.{length, get_or, take}
use lib.Dec.{leb}
use borrow.Author.Tests.{le-leb, lt-ltb, leb-true, leb-false}
use Rattle.format.specs.Number.{Order, order_by}
use Rattle.format.specs.Grammar.{row_width}
use Rattle.format.specs.Edition.{Edition, code_width, n_variable_types}
use Rattle.format.specs.Variables.{VarType, byte_type}
use Rattle.format.specs.Data.{cell_width}
use Rattle.format.specs.Dta.{Layout}
use Rattle.codes.specs.declared.Field.{Field}
use Rattle.codes.specs.Fields.{field_by}
use Rattle.editions.specs.Editions.{numbers_of}
use Rattle.data.specs.Places.{field_at}
use Rattle.data.proofs.PlaceLaws.{row_in_lem}
use Rattle.questions.specs.Readings.{Try, none, got, bind}
use Rattle.questions.specs.Ask.{column, or_refused, among, type_in, types_in, layout_types, offset_in, width_in, start_of, answer_of, ask_column}
use Rattle.reading.specs.declared.Opened.{Opened}
use Rattle.reading.specs.Reads.{opened_by, edition_in}
use Rattle.reading.proofs.AnswerLaws.{edition_widths, answer_shut, answer_open}
use Rattle.columns.specs.declared.Column.{Column}
use Rattle.columns.specs.Columns.{capped, column_by}
use Rattle.columns.proofs.ColumnLaws.{capped_small, capped_sum, consed, types_out, types_at}
use Rattle.std.specs.Prelude.{Option, Some, None, Result, Ok, Err, min}
use Rattle.refusal.specs.declared.Refusal.{Refusal}
use Rattle.cell_runs.specs.Next.{column_after}
use Rattle.cells.specs.Cells.{row_in}
use Rattle.cells.proofs.CellLaws.{width_is}

pub in_among : (i k : ℕ) → 1 ≤ i → i ≤ k → among i k ≡ true
in_among i k a b = rw (lt-ltb 0 i a, le-leb i k b)

-- ---- the types

types_long : (t : Bool) (o : Order) (f : List ℕ) (n p : ℕ) (l : List VarType) → types_in t o f n p ≡ got l → length l ≡ n
types_long t o f zero p l e = let k : l ≡ [] = cc e in ap length k
types_long t o f (suc n) p l e =
    let c = consed (type_in t o f p) (types_in t o f n (p + code_width t)) l e in
    ap length c.is ∙ ap suc (types_long t o f n (p + code_width t) c.tail c.tail_got)

pub types_inside : (t : Bool) (o : Order) (f : List ℕ) (n p : ℕ) (l : List VarType) → 0 < n → types_in t o f n p ≡ got l → p + n * code_width t ≤ length f
types_inside t o f n p l z e = go (leb (p + n * code_width t) (length f)) refl
  where
    go : (b : Bool) → leb (p + n * code_width t) (length f) ≡ b → p + n * code_width t ≤ length f
    go true k = leb-true (p + n * code_width t) (length f) k
    go false k = absurd (false≢true (cc (sym e ∙ types_out t o f n p z (leb-false (p + n * code_width t) (length f) k))))

width_next : (w : VarType → ℕ) (l : List VarType) (m : ℕ) → m < length l → row_width w (take (suc m) l) ≡ row_width w (take m l) + w (get_or l m byte_type)
width_next w [] m h = absurd (omega arith)
width_next w (x ∷ l) zero h = omega arith
width_next w (x ∷ l) (suc m) h = let r = width_next w l m (omega arith) in omega arith

capped_next : (a b : ℕ) → capped (a + b) ≡ capped (capped a + b)
capped_next a b = let e = capped_sum 0 a b in rw (zero-add (a + b), zero-add a) at e

-- ---- the columns

module _ (f : List ℕ) (l : Layout) where
  -- the column of variable k, by the types of all
  abbrev pub by : Opened → ℕ → Try (List VarType) → Result Column Refusal
  by q k r =
      let e = numbers_of q.e in
      column_by (or_refused (bind r λ t. got (column (get_or t (k - 1) byte_type) (offset_in e t k) (width_in e t))))

  pub by_types : (q : Opened) → Some q ≡ opened_by (edition_in l.release l.order) → (k : ℕ) → among k l.variables ≡ true
      → (r : Try (List VarType)) → layout_types (numbers_of q.e) (order_by q.msf) f l ≡ r → column_by (answer_of f l (ask_column k)) ≡ by q k r
  by_types q Q k K r m = ap column_by (answer_open f l (ask_column k) K q Q) ∙ ap (by q k) m

  -- a refusal is that of all variables
  pub refused_as : (i k : ℕ) → among i l.variables ≡ true → among k l.variables ≡ true → (d : Refusal)
      → Err d ≡ column_by (answer_of f l (ask_column i)) → Err d ≡ column_by (answer_of f l (ask_column k))
  refused_as i k I K d D = go (opened_by (edition_in l.release l.order)) refl
    where
      go : (x : Option Opened) → opened_by (edition_in l.release l.order) ≡ x → Err d ≡ column_by (answer_of f l (ask_column k))
      go None X = D ∙ ap column_by (answer_shut f l (ask_column i) I (sym X)) ∙ sym (ap column_by (answer_shut f l (ask_column k) K (sym X)))
      go (Some q) X = types (layout_types (numbers_of q.e) (order_by q.msf) f l) refl
        where
          types : (r : Try (List VarType)) → layout_types (numbers_of q.e) (order_by q.msf) f l ≡ r → Err d ≡ column_by (answer_of f l (ask_column k))
          types none m = D ∙ by_types q (sym X) i I none m ∙ sym (by_types q (sym X) k K none m)
          types (got t) m = absurd (false≢true (cc (D ∙ by_types q (sym X) i I (got t) m)))

pub column_as : {x y : Field} → x ≡ y → {a b : ℕ} → a ≡ b → {w v : ℕ} → w ≡ v
    → ◌≡◌ {A = Result Column Refusal} (Ok (record { field = x; offset = a; row = w })) (Ok (record { field = y; offset = b; row = v }))
column_as e g h = rw (e, g, h)

sum_as : {a b x y : ℕ} → a ≡ b → x ≡ y → capped (a + x) ≡ capped (b + y)
sum_as e g = rw (e, g)

-- c is the column of variable i
module _ (f : List ℕ) (l : Layout) (i : ℕ) (q : Opened) (Q : Some q ≡ opened_by (edition_in l.release l.order)) (I : among i l.variables ≡ true)
    (c : Column) (C : Ok c ≡ column_by (answer_of f l (ask_column i))) where
  abbrev e : Edition
  e = numbers_of q.e

  abbrev o : Order
  o = order_by q.msf

  abbrev s : ℕ
  s = start_of e.tagged l 2 n_variable_types

  -- the types of all are read, and c is by them
  pub record Stands : Type 0 where
    pub types : List VarType
    pub got_types : layout_types e o f l ≡ got types
    pub column : c ≡ record { field = field_by (get_or types (i - 1) byte_type); offset = capped (offset_in e types i); row = capped (width_in e types) }

  pub stands : Stands
  stands = go (layout_types e o f l) refl
    where
      go : (r : Try (List VarType)) → layout_types e o f l ≡ r → Stands
      go none m = absurd (false≢true (cc (C ∙ by_types f l q Q i I none m)))
      go (got t) m = record { types = t; got_types = m; column = cc (C ∙ by_types f l q Q i I (got t) m) }

  pub types_end : 0 < l.variables → s + l.variables * code_width e.tagged ≤ length f
  types_end z = types_inside e.tagged o f l.variables s stands.types z stands.got_types

  -- the next column, by its type code
  pub next_is : 1 ≤ i → i + 1 ≤ l.variables → (x : Field) → x ≡ field_at e.tagged o f s i → (b : ℕ) → b ≡ capped (c.offset + c.field.width)
      → ◌≡◌ {A = Result Column Refusal} (Ok (record { field = x; offset = b; row = c.row })) (column_by (answer_of f l (ask_column (i + 1))))
  next_is low high x X b B =
      let S = stands in
      let t = S.types in
      let W = edition_widths l.release l.order q Q in
      let w = cell_width e.v_width e.o_width in
      let y = get_or t (i - 1) byte_type in
      let n : i + 1 - 1 ≡ i = omega arith in
      let k : i ≡ suc (i - 1) = omega arith in
      let L = types_long e.tagged o f l.variables s t S.got_types in
      let F : x ≡ field_by (get_or t i byte_type) = X ∙ types_at e.tagged o f l.variables s t S.got_types i (omega arith) in
      let A : c.offset ≡ capped (offset_in e t i) = ap (λ (k : Column). k.offset) S.column in
      let D : c.field.width ≡ w y = ap (λ (k : Column). k.field.width) S.column ∙ width_is e.v_width e.o_width (omega (arith, W.eight)) y in
      let R : c.row ≡ capped (width_in e t) = ap (λ (k : Column). k.row) S.column in
      let N : row_width w (take i t) ≡ offset_in e t i + w y = ap (λ (m : ℕ). row_width w (take m t)) k ∙ width_next w t (i - 1) (omega arith) in
      let G : b ≡ capped (row_width w (take i t)) = B ∙ sum_as A D ∙ sym (capped_next (offset_in e t i) (w y)) ∙ ap capped (sym N) in
      column_as F G R
      ∙ sym
      (by_types f l q Q (i + 1) (in_among (i + 1) l.variables (omega arith) high) (got t) S.got_types
      ∙ ap (λ (m : ℕ). column_by (column (get_or t m byte_type) (row_width w (take m t)) (width_in e t))) n)

  module _ (n : length f ≤ 18446744073709551615) (p : ℕ) (P : p ≡ capped s) where
    -- in a file whose types are read their place is not capped
    pub at_start : 0 < l.variables → p ≡ s
    at_start z = P ∙ sym (capped_small s (omega (arith, n, types_end z)))

    -- each type code is in the file
    pub code_inside : (m : ℕ) → m < l.variables → p + m * code_width e.tagged + code_width e.tagged ≤ length f
    code_inside m h = omega (arith, types_end (omega arith), at_start (omega arith), row_in_lem m l.variables (code_width e.tagged) h)

    -- and says the field
    pub field_is : (m : ℕ) → m < l.variables → field_at e.tagged o f p m ≡ field_by (get_or stands.types m byte_type)
    field_is m h = ap (λ (x : ℕ). field_at e.tagged o f x m) (at_start (omega arith)) ∙ types_at e.tagged o f l.variables s stands.types stands.got_types m h

    pub column_next : 1 ≤ i → i + 1 ≤ l.variables → Ok (column_after (field_at e.tagged o f p i) c) ≡ column_by (answer_of f l (ask_column (i + 1)))
    column_next low high = next_is low high _ (ap (λ (x : ℕ). field_at e.tagged o f x i) (at_start (omega arith))) _ refl

-- ---- for the code

capped_by : (n m : ℕ) → m ≡ min n 18446744073709551615 → m ≡ capped n
capped_by n m h = go (leb n 18446744073709551615) refl
  where
    go : (b : Bool) → leb n 18446744073709551615 ≡ b → m ≡ capped n
    go true e = rw e (omega (arith, h, leb-true n 18446744073709551615 e))
    go false e = rw e (omega (arith, h, leb-false n 18446744073709551615 e))

pub after_is : (x : Field) (c : Column) (y : Field) → y ≡ x → (b : ℕ) → b ≡ min (c.offset + c.field.width) 18446744073709551615
    → ◌≡◌ {A = Column} (record { field = y; offset = b; row = c.row }) (column_after x c)
after_is x c y e b h = rw (e, capped_by (c.offset + c.field.width) b h)

-- ---- along a row

-- m variables after variable i, whose column is d, the column is c; the row is that of d
pub record Along (f : List ℕ) (l : Layout) (i : ℕ) (d : Column) (m : ℕ) (c : Column) : Type 0 where
  pub column : i + m ≤ l.variables → Ok c ≡ column_by (answer_of f l (ask_column (i + m)))
  pub row : c.row ≡ d.row

pub along_start : (f : List ℕ) (l : Layout) (i : ℕ) (d : Column) → Ok d ≡ column_by (answer_of f l (ask_column i)) → Along f l i d 0 d
along_start f l i d e = record { column = λ h. e ∙ ap (λ (x : ℕ). column_by (answer_of f l (ask_column x))) (sym (add-zero i)); row = refl }

module _ {f : List ℕ} {l : Layout} {i : ℕ} {d : Column} {m : ℕ} {c : Column} (A : Along f l i d m c) where
  pub along_next : (x : Field) (r : Column) → r ≡ column_after x c → Ok (column_after x c) ≡ column_by (answer_of f l (ask_column (i + m + 1))) → Along f l i d (m + 1) r
  along_next x r e k =
      record { column = λ h. ap Ok e ∙ k ∙ ap (λ (x : ℕ). column_by (answer_of f l (ask_column x))) (add_assoc i m 1); row = ap (λ (y : Column). y.row) e ∙ A.row }

  pub along_end : (r : Column) → r ≡ c → l.variables ≤ i + m → Along f l i d (m + 1) r
  along_end r e b = record { column = λ h. absurd (omega (arith, h, b)); row = ap (λ (y : Column). y.row) e ∙ A.row }

  -- the row is the same for all
  pub along_row : (j n p : ℕ) {r : Result ℕ Refusal} → r ≡ row_in f (Ok d.row) j n p → r ≡ row_in f (Ok c.row) j n p
  along_row j n p e = rw A.row e
