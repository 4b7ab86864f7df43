-- Where a row stands, and what a cell in it says.
use mathlib.Core.Path.{◌≡◌, refl, sym, ap, ◌∙◌, subst}
use Prim.Native.Nat.{ℕ, ◌+◌, ◌-◌, ◌*◌, ◌≤◌, ◌<◌}
use native.Mathlib.Omega.{arith}
use mathlib.Core.List.{List}
use mathlib.Core.Bool.{Bool, true, false, cond, and-false, false≢true}
use lib.ListN.{length}
use lib.Dec.{eqb, leb}
use borrow.Author.Tests.{leb-true, leb-false}
use Rattle.std.specs.Prelude.{Option, Some, None, Result, Ok, Err, IfOk, IfSome}
use Rattle.std.specs.Option.{ok_or}
use Rattle.refusal.specs.declared.Refusal.{Refusal}
use Rattle.refusal.specs.declared.Refusal.TheVariants.{NotThere, NotReadable}
use Rattle.refusal.specs.Refusals.{number_of, refusal_by}
use Rattle.format.specs.Number.{order_by}
use Rattle.format.specs.Edition.{Edition, n_data}
use Rattle.format.specs.Variables.{VarType}
use Rattle.format.specs.Data.{cell_width}
use Rattle.format.specs.Dta.{Layout}
use Rattle.codes.specs.Fields.{type_of}
use Rattle.cell.specs.declared.Cell.{Cell}
use Rattle.editions.specs.Editions.{numbers_of}
use Rattle.questions.specs.Ask.{Answer, refused, count, mark, typed, part, column, labels, cell, plain, long, among, start_of, in_range, answer_of, ask_column, ask_cell}
use Rattle.questions.specs.Readings.{Try, none, got}
use Rattle.reading.specs.declared.Opened.{Opened}
use Rattle.reading.specs.Reads.{read_by, place_in, opened_by, edition_in}
use Rattle.reading.proofs.AnswerLaws.{edition_widths, answer_out, answer_shut}
use Rattle.answers.specs.Answers.{opened_if}
use Rattle.answers.proofs.TellLaws.{is_open, tells_refused}
use Rattle.columns.specs.declared.Column.{Column}
use Rattle.columns.specs.Columns.{capped, column_by}
use Rattle.cells.specs.Cells.{said_by, cell_said, HasKind, row_by, row_at, row_numbered, row_in, RowRead, CellSaid, said_in, RowSaid}
use Rattle.cells.proofs.CellLaws.{among_both, cell_unread, stands, cell_past, far, kind_known, width_is, capped_said}

-- ---- a row

-- what is read, as a row
pub ok_row : {x : Result ℕ Refusal} {o : Option ℕ} (t : Try ℕ) → x ≡ ok_or o NotReadable → o ≡ read_by t → x ≡ row_by t
ok_row none h e = h ∙ ap (λ (y : Option ℕ). ok_or y NotReadable) e
ok_row (got n) h e = h ∙ ap (λ (y : Option ℕ). ok_or y NotReadable) e

-- a column's refusal may be told by any number
module _ {E : Type 0} (m : E → ℕ) (f : List ℕ) (x : Result ℕ E) (j n p : ℕ) where
  pub numbered_out : among j n ≡ false → Err NotThere ≡ row_numbered m f x j n p
  unfolding row_numbered
  numbered_out h = rw h

  pub numbered_among : among j n ≡ true → row_numbered m f x j n p ≡ row_at m f x j p
  unfolding row_numbered
  numbered_among h = rw h

module _ (f : List ℕ) (x : Result ℕ Refusal) (j n p : ℕ) where
  pub row_out : among j n ≡ false → Err NotThere ≡ row_in f x j n p
  unfolding row_numbered
  row_out h = rw h

  pub row_among : among j n ≡ true → row_in f x j n p ≡ row_at number_of f x j p
  unfolding row_numbered
  row_among h = rw h

-- of a column that is refused with 16 or 17
module _ (f : List ℕ) (d : Refusal) (h : refusal_by (number_of d) ≡ d) (j n p : ℕ) where
  pub row_refused : (x : Refusal) → Err x ≡ row_in f (Err d) j n p → (b : Bool) → among j n ≡ b → x ≡ cond b d NotThere
  unfolding row_numbered
  row_refused x X true B = let k : Err x ≡ Err d = rw (B, h) at X in cc k
  row_refused x X false B = let k : Err x ≡ Err NotThere = rw B at X in cc k

module _ (f : List ℕ) (w j n p : ℕ) where
  pub row_read : among j n ≡ true → (r : Result ℕ Refusal) → r ≡ row_by (place_in f (p + (j - 1) * w)) → r ≡ row_in f (Ok w) j n p
  row_read h r e = e ∙ sym (row_among f (Ok w) j n p h)

  -- of a row that is there
  pub row_past : among j n ≡ true → (d : Refusal) → Err d ≡ row_in f (Ok w) j n p → (d ≡ NotReadable) × (length f < p + (j - 1) * w)
  unfolding row_numbered
  row_past h d D = go (leb (p + (j - 1) * w) (length f)) refl
    where
      go : (t : Bool) → leb (p + (j - 1) * w) (length f) ≡ t → (d ≡ NotReadable) × (length f < p + (j - 1) * w)
      go true T = let k : Err d ≡ Ok (p + (j - 1) * w) = rw (h, T) at D in absurd (false≢true (cc k))
      go false T = let k : Err d ≡ Err NotReadable = rw (h, T) at D in (cc k, leb-false (p + (j - 1) * w) (length f) T)

  pub row_here : (r : ℕ) → Ok r ≡ row_in f (Ok w) j n p → (r ≡ p + (j - 1) * w) × (p + (j - 1) * w ≤ length f)
  unfolding row_numbered
  row_here r D = go (among j n) refl (leb (p + (j - 1) * w) (length f)) refl
    where
      go : (a : Bool) → among j n ≡ a → (t : Bool) → leb (p + (j - 1) * w) (length f) ≡ t → (r ≡ p + (j - 1) * w) × (p + (j - 1) * w ≤ length f)
      go false a t T = let k : Ok r ≡ Err NotThere = rw a at D in absurd (false≢true (cc k))
      go true a true T = let k : Ok r ≡ Ok (p + (j - 1) * w) = rw (a, T) at D in (cc k, leb-true (p + (j - 1) * w) (length f) T)
      go true a false T = let k : Ok r ≡ Err NotReadable = rw (a, T) at D in absurd (false≢true (cc k))

-- ---- a cell in it, of a column that is told

module _ (f : List ℕ) (l : Layout) (i j : ℕ) (q : Opened) (Q : Ok q ≡ opened_if (in_range l (ask_cell i j)) (edition_in l.release l.order))
    (c : Column) (C : Ok c ≡ column_by (answer_of f l (ask_column i))) where
  abbrev e : Edition
  e = numbers_of q.e

  abbrev s : ℕ
  s = start_of e.tagged l 9 n_data

  abbrev asked : Result Cell Refusal
  asked = said_by (answer_of f l (ask_cell i j))

  eight : (e.v_width + e.o_width ≡ 8)
  eight = let W = edition_widths l.release l.order q (is_open f l (ask_cell i j) q Q) in omega (arith, W.eight)

  -- the row's refusal is that of its cells
  pub row_unread : (d : Refusal) → Err d ≡ row_in f (Ok c.row) j l.rows s → Err d ≡ asked
  row_unread d D =
      let S = stands f l i j q Q c C in
      let K = kind_known c S.type (capped S.off) (capped S.row) S.column in
      let B : s + (j - 1) * c.row ≡ s + (j - 1) * capped S.row = ap (λ (y : ℕ). s + (j - 1) * y) K.3 in
      let x = row_past f c.row j l.rows s (among_both f l i j q Q).1 d D in
      S.is (ap Err x.0 ∙ ap said_by (cell_past e (order_by q.msf) f e.tagged S.type (s + (j - 1) * S.row + S.off) eight S.has (far s (j - 1) S.row S.off (length f) (omega (arith, B, x)))))

  -- the cells' kind is known
  kind_there : HasKind c.field.kind c.field.width e.v_width e.o_width
  kind_there =
      let S = stands f l i j q Q c C in
      let K = kind_known c S.type (capped S.off) (capped S.row) S.column in
      record {
        kind = K.0;
        width = ap (λ (y : Column). y.field.width) S.column ∙ width_is e.v_width e.o_width eight S.type ∙ ap (cell_width e.v_width e.o_width) (sym K.1);
        variable = omega (arith, eight);
        observation = omega (arith, eight);
      }

  -- the row is there
  said_at : (r : ℕ) → Ok r ≡ row_in f (Ok c.row) j l.rows s → length f ≤ 18446744073709551615
      → said_by (cell_said e (order_by q.msf) f (type_of c.field.kind c.field.width) (r + c.offset)) ≡ asked
  said_at r R n =
      let S = stands f l i j q Q c C in
      let K = kind_known c S.type (capped S.off) (capped S.row) S.column in
      let o = order_by q.msf in
      let B : s + (j - 1) * c.row ≡ s + (j - 1) * capped S.row = ap (λ (y : ℕ). s + (j - 1) * y) K.3 in
      let P : r + c.offset ≡ s + (j - 1) * capped S.row + capped S.off = omega (arith, row_here f c.row j l.rows s r R, B, K.2) in
      S.is
      (ap (λ (y : VarType). said_by (cell_said e o f y (r + c.offset))) K.1
      ∙ ap (λ (y : ℕ). said_by (cell_said e o f S.type y)) P
      ∙ ap said_by (capped_said e o f S.type e.tagged eight S.has s (j - 1) S.row S.off n))

  pub said_in_row : (r : ℕ) → Ok r ≡ row_in f (Ok c.row) j l.rows s → length f ≤ 18446744073709551615 → (x : Result Cell Refusal)
      → CellSaid e.v_width e.o_width (order_by q.msf) f (type_of c.field.kind c.field.width) (r + c.offset) x → x ≡ asked
  said_in_row r R n x X = X e refl refl ∙ said_at r R n

-- ---- of a column that is told or refused

-- the width of a row, or the refusal
abbrev pub width_by : Result Column Refusal → Result ℕ Refusal
width_by (Ok c) = Ok c.row
width_by (Err d) = Err d

-- an answer refuses a column with 16 or 17
known_as : (a : Answer) (d : Refusal) → Err d ≡ column_by a → refusal_by (number_of d) ≡ d
known_as (refused n) d D = go (eqb n 16) refl
  where
    go : (b : Bool) → eqb n 16 ≡ b → refusal_by (number_of d) ≡ d
    go true b = let k : Err d ≡ Err NotThere = rw b at D in let z : d ≡ NotThere = cc k in rw z
    go false b = let k : Err d ≡ Err NotReadable = rw b at D in let z : d ≡ NotReadable = cc k in rw z
known_as (count n) d D = let z : d ≡ NotReadable = cc D in rw z
known_as (mark b) d D = let z : d ≡ NotReadable = cc D in rw z
known_as (typed t) d D = let z : d ≡ NotReadable = cc D in rw z
known_as (part p n) d D = let z : d ≡ NotReadable = cc D in rw z
known_as (column t p n) d D = absurd (false≢true (cc D))
known_as (labels v) d D = let z : d ≡ NotReadable = cc D in rw z
known_as (cell v) d D = let z : d ≡ NotReadable = cc D in rw z
known_as (plain t) d D = let z : d ≡ NotReadable = cc D in rw z
known_as (long k p n) d D = let z : d ≡ NotReadable = cc D in rw z

if_ok : {A : Type 0} {P : A → Type 0} (x : Result A Refusal) → ((a : A) → Ok a ≡ x → P a) → IfOk x P
if_ok (Ok a) h = h a refl
if_ok (Err d) h = tt

module _ (f : List ℕ) (l : Layout) (i j : ℕ) where
  abbrev answered : Result Cell Refusal
  answered = said_by (answer_of f l (ask_cell i j))

  abbrev opens : Result Opened Refusal
  opens = opened_if (in_range l (ask_cell i j)) (edition_in l.release l.order)

  away : in_range l (ask_cell i j) ≡ false → Err NotThere ≡ answered
  away h = sym (ap said_by (answer_out f l (ask_cell i j) h))

  -- a column that is refused
  module _ (d : Refusal) (D : Err d ≡ column_by (answer_of f l (ask_column i))) where
    unread : among i l.variables ≡ true → among j l.rows ≡ true → Err d ≡ answered
    unread a b = go opens refl
      where
        go : (x : Result Opened Refusal) → x ≡ opens → Err d ≡ answered
        go (Ok o) x = cell_unread f l i j o x d D
        go (Err z) x =
            let y : Err z ≡ opened_if true (edition_in l.release l.order) = rw (a, b) at x in
            let w : d ≡ z = cc (D ∙ sym (tells_refused f l (ask_column i) column_by (λ n. refl) z (rw a y))) in
            ap Err w ∙ tells_refused f l (ask_cell i j) said_by (λ n. refl) z x

    refused_in : (x : Refusal) → ((b : Bool) → among j l.rows ≡ b → x ≡ cond b d NotThere) → Err x ≡ answered
    refused_in x h = go (among i l.variables) refl (among j l.rows) refl
      where
        go : (a : Bool) → among i l.variables ≡ a → (b : Bool) → among j l.rows ≡ b → Err x ≡ answered
        go a A false B = ap Err (h false B) ∙ away (rw (B, and-false))
        go true A true B = ap Err (h true B) ∙ unread A B
        go false A true B = let z : d ≡ NotThere = cc (D ∙ ap column_by (answer_out f l (ask_column i) A)) in ap Err (h true B ∙ z) ∙ away (rw A)

  -- a column that is told
  module _ (c : Column) (C : Ok c ≡ column_by (answer_of f l (ask_column i))) where
    told_among : among i l.variables ≡ true
    told_among = go (among i l.variables) refl
      where
        go : (b : Bool) → among i l.variables ≡ b → among i l.variables ≡ true
        go true a = a
        go false a = absurd (false≢true (cc (C ∙ ap column_by (answer_out f l (ask_column i) a))))

    told_open : (q : Opened) → IfSome (opened_by (edition_in l.release l.order)) (λ x. q ≡ x) → among j l.rows ≡ true → Ok q ≡ opens
    told_open q Q b = go (opened_by (edition_in l.release l.order)) refl Q
      where
        go : (x : Option Opened) → opened_by (edition_in l.release l.order) ≡ x → IfSome x (λ y. q ≡ y) → Ok q ≡ opens
        go (Some x) e k = rw (told_among, b, e) (ap Ok k)
        go None e k = absurd (false≢true (cc (C ∙ ap column_by (answer_shut f l (ask_column i) told_among (sym e)))))

-- q is the edition and order that are read, k the column that is told; where there are none, any
module _ (f : List ℕ) (l : Layout) (i j : ℕ) (q : Opened) (Q : IfSome (opened_by (edition_in l.release l.order)) (λ x. q ≡ x))
    (c : Result Column Refusal) (C : c ≡ column_by (answer_of f l (ask_column i))) (k : Column) (K : IfOk c (λ x. k ≡ x))
    (r : Result ℕ Refusal) (R : r ≡ row_in f (width_by c) j l.rows (start_of (numbers_of q.e).tagged l 9 n_data)) where
  abbrev E : Edition
  E = numbers_of q.e

  abbrev place : ℕ
  place = start_of E.tagged l 9 n_data

  there : (x : ℕ) → Ok x ≡ r → among j l.rows ≡ true
  there x X = go (among j l.rows) refl
    where
      go : (b : Bool) → among j l.rows ≡ b → among j l.rows ≡ true
      go true b = b
      go false b = absurd (false≢true (cc (X ∙ R ∙ sym (row_out f (width_by c) j l.rows place b))))

  here : (x : ℕ) → Ok x ≡ r → Ok k ≡ c
  here x X = go c refl K
    where
      go : (y : Result Column Refusal) → c ≡ y → IfOk y (λ x. k ≡ x) → Ok k ≡ c
      go (Ok y) e h = ap Ok h ∙ sym e
      go (Err d) e h = absurd (false≢true (cc (X ∙ R ∙ row_among f (width_by c) j l.rows place (there x X) ∙ ap (λ (z : Result Column Refusal). row_at number_of f (width_by z) j place) e)))

  row_told : (x : Result ℕ Refusal) → x ≡ r → Ok k ≡ c → x ≡ row_in f (Ok k.row) j l.rows place
  row_told x X h = X ∙ R ∙ ap (λ (z : Result Column Refusal). row_in f (width_by z) j l.rows place) (sym h)

  pub can_read : RowRead f r k.field.kind k.field.width E.v_width E.o_width
  can_read =
      record {
        inside = if_ok r (λ x X. omega (arith, row_here f k.row j l.rows place x (row_told (Ok x) X (here x X))));
        kind = if_ok r (λ x X. let h = here x X ∙ C in kind_there f l i j q (told_open f l i j k h q Q (there x X)) k h);
      }

  row_answers : (d : Refusal) → Err d ≡ r → Err d ≡ answered f l i j
  row_answers d e = go c refl K
    where
      go : (y : Result Column Refusal) → c ≡ y → IfOk y (λ x. k ≡ x) → Err d ≡ answered f l i j
      go (Err z) h m =
          let Z : Err z ≡ column_by (answer_of f l (ask_column i)) = sym h ∙ C in
          refused_in f l i j z Z d
          (row_refused f z (known_as (answer_of f l (ask_column i)) z Z) j l.rows place d (e ∙ R ∙ ap (λ (v : Result Column Refusal). row_in f (width_by v) j l.rows place) h))
      go (Ok y) h m =
          let H : Ok k ≡ c = ap Ok m ∙ sym h in
          rows H (among j l.rows) refl
        where
          rows : Ok k ≡ c → (b : Bool) → among j l.rows ≡ b → Err d ≡ answered f l i j
          rows H true b = row_unread f l i j q (told_open f l i j k (H ∙ C) q Q b) k (H ∙ C) d (row_told (Err d) e H)
          rows H false b =
              let z : Err d ≡ Err NotThere = e ∙ R ∙ sym (row_out f (width_by c) j l.rows place b) in
              let y : d ≡ NotThere = cc z in
              ap Err y ∙ away f l i j (rw (b, and-false))

  pub said_in_lem : length f ≤ 18446744073709551615 → (x : Result Cell Refusal) → RowSaid E.v_width E.o_width (order_by q.msf) f r (type_of k.field.kind k.field.width) k.offset x → x ≡ answered f l i j
  said_in_lem n x X = X E refl refl ∙ go r refl
    where
      go : (y : Result ℕ Refusal) → y ≡ r → said_in E (order_by q.msf) f y (type_of k.field.kind k.field.width) k.offset ≡ answered f l i j
      go (Ok p) e = let h = here p e in said_at f l i j q (told_open f l i j k (h ∙ C) q Q (there p e)) k (h ∙ C) p (row_told (Ok p) e h) n
      go (Err d) e = row_answers d e

-- q is what is read, as it is where the edition is opened
pub read_is : {q : Opened} {x : Option Opened} → Some q ≡ x → IfSome x (λ y. q ≡ y)
read_is {q} e = subst (λ (x : Option Opened). IfSome x (λ y. q ≡ y)) e refl
