-- What a cell says, over any layout.
use mathlib.Core.Path.{◌≡◌, refl, sym, ap, ◌∙◌, subst}
use Prim.Native.Nat.{ℕ, zero, suc, ◌+◌, ◌-◌, ◌*◌, ◌≤◌, ◌<◌}
use native.Mathlib.Nat.{mul-le-mul_left, suc-mul, zero-mul}
use native.Mathlib.Omega.{arith}
use mathlib.Core.List.{List}
use mathlib.Core.Bool.{Bool, true, false, false≢true}
use lib.ListN.{length, get_or}
use lib.Dec.{leb, ltb}
use borrow.Author.Tests.{leb-true, leb-false}
use Rattle.format.specs.Number.{Order, order_by}
use Rattle.format.specs.Grammar.{text_at}
use Rattle.format.specs.Edition.{Edition, Release, edition, code_width, text_max, n_variable_types, n_data}
use Rattle.format.specs.Variables.{VarType, text_type, strl_type, byte_type, int_type, long_type, float_type, double_type, has_type}
use Rattle.format.specs.Data.{cell_width}
use Rattle.format.specs.Cells.{Says, whole, single, double, letter, between, outside, words, reference, says_at}
use Rattle.format.specs.Dta.{Layout}
use Rattle.format.proofs.Good.{and_left, and_right}
use Rattle.codes.specs.declared.Kind.{Kind}
use Rattle.codes.specs.declared.Kind.TheVariants.{Text, StrL, Byte, Int, Long, Float, Double, Unknown}
use Rattle.codes.specs.Fields.{field_by, known, type_of}
use Rattle.codes.proofs.Laws.{type_back, type_known}
use Rattle.cell.specs.declared.Cell.{Cell}
use Rattle.cell.specs.declared.Cell.TheVariants as Variants
use Rattle.cell.specs.Cells.{says, cell_by, Lettered, IsCell}
use Rattle.cell.proofs.CellLaws.{lettered_at}
use Rattle.editions.specs.Editions.{numbers_of}
use Rattle.questions.specs.Readings.{Try, none, got, bind, test, text_needs}
use Rattle.questions.specs.Ask.{Answer, refused, count, mark, typed, part, column, labels, cell, plain, long, or_refused, release_in, order_in, in_range, among, type_in, types_in, layout_types, cell_needs, cell_at, cell_in, cell_place, offset_in, width_in, start_of, answer_of, ask_column, ask_cell}
use Rattle.reading.specs.declared.Opened.{Opened}
use Rattle.reading.specs.Reads.{length_in, edition_in}
use Rattle.reading.proofs.ReadLaws.{room_got, room_none}
use Rattle.reading.proofs.AnswerLaws.{answer_open}
use Rattle.columns.specs.declared.Column.{Column}
use Rattle.columns.specs.Columns.{capped, column_by}
use Rattle.cells.specs.Cells.{said_told, said_by, is_text, cell_said}
use Rattle.answers.specs.Answers.{opened_if}
use Rattle.answers.proofs.TellLaws.{is_open, tells_open}
use Rattle.std.specs.Prelude.{Result, Ok, Err, IfOk}
use Rattle.refusal.specs.declared.Refusal.{Refusal}
use Rattle.refusal.specs.Refusals.{retold, refusal_by}
use Rattle.refusal.specs.declared.Refusal.TheVariants.{NotReadable}
use Rattle.columns.proofs.ColumnLaws.{capped_le, capped_is, among_in, consed, type_is}

-- ---- answers

pub said_retold : {E : Type 0} (t : Refusal → E) (a : Answer) → retold t (said_by a) ≡ said_told t a
said_retold t (refused c) = refl
said_retold t (count n) = refl
said_retold t (mark b) = refl
said_retold t (typed k) = refl
said_retold t (part p n) = refl
said_retold t (column k p n) = refl
said_retold t (labels s) = refl
said_retold t (cell s) = refl
said_retold t (plain x) = refl
said_retold t (long k p n) = refl

-- told in another way
pub said_other : {E : Type 0} (t : Refusal → E) (a : Answer) (r : E) → r ≡ t NotReadable → refused 17 ≡ a → Err r ≡ said_told t a
said_other t a r e h = ap Err e ∙ ap (said_told t) h

pub said_none : (a : Answer) (c : ℕ) (r : Result Cell Refusal) → r ≡ Err (refusal_by c) → refused c ≡ a → r ≡ said_by a
said_none a c r e h = e ∙ ap said_by h

-- a cell is what it says
pub cell_back : (c : Cell) → cell_by (says c) ≡ c
cell_back (Variants.Whole n) = refl
cell_back (Variants.Single x) = refl
cell_back (Variants.Double x) = refl
cell_back (Variants.Letter k) = refl
cell_back Variants.Between = refl
cell_back Variants.Outside = refl
cell_back (Variants.Text p n) = refl
cell_back (Variants.Reference v o) = refl

pub says_back : (s : Says) → says (cell_by s) ≡ s
says_back (whole n) = refl
says_back (single x) = refl
says_back (double x) = refl
says_back (letter k) = refl
says_back between = refl
says_back outside = refl
says_back (words p n) = refl
says_back (reference v o) = refl

pub said_cell : (a : Answer) (c : Cell) → cell (says c) ≡ a → Ok c ≡ said_by a
said_cell a c h = ap Ok (sym (cell_back c)) ∙ ap said_by h

-- a letter that is read is at most 26
abbrev pub LetteredIn : Result Cell Refusal → Type 0
LetteredIn r = IfOk r (λ c. Lettered (says c))

asked_lettered : (f : List ℕ) (l : Layout) (i j : ℕ) → LetteredIn (said_by (answer_of f l (ask_cell i j)))
unfolding answer_of
asked_lettered f l i j = go (in_range l (ask_cell i j)) refl (release_in l.release) refl (order_in l.order) refl
  where
    go : (b : Bool) → in_range l (ask_cell i j) ≡ b → (r : Try Release) → release_in l.release ≡ r → (o : Try Order) → order_in l.order ≡ o
        → LetteredIn (said_by (answer_of f l (ask_cell i j)))
    go false a r b o c = rw a tt
    go true a none b o c = rw (a, b) tt
    go true a (got r) b none c = rw (a, b, c) tt
    go true a (got r) b (got o) c = rw (a, b, c) (types (layout_types (edition r) o f l))
      where
        at : (x : VarType) (p : ℕ) (b : Bool) → LetteredIn (said_by (or_refused (bind (bind (test b) λ u. got (says_at o (edition r).v_width (edition r).o_width x f p)) λ s. got (cell s))))
        at x p false = tt
        at x p true = subst Lettered (sym (says_back (says_at o (edition r).v_width (edition r).o_width x f p))) (lettered_at o (edition r).v_width (edition r).o_width x f p)

        types : (t : Try (List VarType))
            → LetteredIn (said_by (or_refused (bind (bind t λ t. cell_at (edition r) o f (get_or t (i - 1) byte_type) (cell_place (edition r) t (start_of (edition r).tagged l 9 n_data) i j)) λ s. got (cell s))))
        types none = tt
        types (got t) =
            let x = get_or t (i - 1) byte_type in
            let p = cell_place (edition r) t (start_of (edition r).tagged l 9 n_data) i j in
            at x p (leb (p + cell_needs (edition r) x f p) (length f))

pub said_lettered : (f : List ℕ) (l : Layout) (i j : ℕ) {r : Result Cell Refusal} → r ≡ said_by (answer_of f l (ask_cell i j)) → LetteredIn r
said_lettered f l i j e = subst LetteredIn (sym e) (asked_lettered f l i j)

-- ---- a cell at a place

module _ (e : Edition) (o : Order) (f : List ℕ) where
  module _ (w p : ℕ) where
    pub text_said_none : length_in w f p ≡ none → refused 17 ≡ cell_said e o f (text_type w) p
    unfolding cell_said
    text_said_none h = go (leb (p + text_needs w (text_at w f p)) (length f)) refl
      where
        go : (b : Bool) → leb (p + text_needs w (text_at w f p)) (length f) ≡ b → refused 17 ≡ or_refused (bind (cell_at e o f (text_type w) p) λ s. got (cell s))
        go true q = let g : length_in w f p ≡ got (length (text_at w f p)) = rw q in absurd (false≢true (cc (sym h ∙ g)))
        go false q = rw q

    pub text_said : (n : ℕ) → length_in w f p ≡ got n → cell (words p n) ≡ cell_said e o f (text_type w) p
    unfolding cell_said
    text_said n h = go (leb (p + text_needs w (text_at w f p)) (length f)) refl
      where
        go : (b : Bool) → leb (p + text_needs w (text_at w f p)) (length f) ≡ b → cell (words p n) ≡ or_refused (bind (cell_at e o f (text_type w) p) λ s. got (cell s))
        go true q =
            let g : length_in w f p ≡ got (length (text_at w f p)) = rw q in
            let k : n ≡ length (text_at w f p) = cc (sym h ∙ g) in
            rw (q, k)
        go false q = let g : length_in w f p ≡ none = rw q in absurd (false≢true (cc (sym h ∙ g)))

  -- of other kinds all bytes are needed
  needs_width : (k : Kind) (w p : ℕ) → is_text k ≡ false → known k ≡ true → cell_needs e (type_of k w) f p ≡ cell_width e.v_width e.o_width (type_of k w)
  needs_width Text w p h n = absurd (false≢true (sym h))
  needs_width StrL w p h n = refl
  needs_width Byte w p h n = refl
  needs_width Int w p h n = refl
  needs_width Long w p h n = refl
  needs_width Float w p h n = refl
  needs_width Double w p h n = refl
  needs_width Unknown w p h n = absurd (false≢true n)

  module _ (k : Kind) (w p : ℕ) (h : is_text k ≡ false) (n : known k ≡ true) (W : w ≡ cell_width e.v_width e.o_width (type_of k w)) where
    pub cell_out : length f < p + w → refused 17 ≡ cell_said e o f (type_of k w) p
    unfolding cell_said
    cell_out b = let g : length f < p + cell_needs e (type_of k w) f p = omega (arith, b, W, needs_width k w p h n) in rw (room_none f p (cell_needs e (type_of k w) f p) g)

    pub cell_got : p + w ≤ length f → (c : Cell) → IsCell (says_at o e.v_width e.o_width (type_of k w) f p) c
        → Ok c ≡ said_by (cell_said e o f (type_of k w) p)
    unfolding cell_said
    cell_got b c i =
        let g : p + cell_needs e (type_of k w) f p ≤ length f = omega (arith, b, W, needs_width k w p h n) in
        said_cell (cell_said e o f (type_of k w) p) c (rw (room_got f p (cell_needs e (type_of k w) f p) g) (ap cell i.is))

  -- ---- a cell past the file

  needs_some : (t : Bool) (x : VarType) (p : ℕ) → e.v_width + e.o_width ≡ 8 → has_type t x ≡ true → 1 ≤ cell_needs e x f p
  needs_some t (text_type w) p s h = go (ltb (length (text_at w f p)) w) refl
    where
      go : (b : Bool) → ltb (length (text_at w f p)) w ≡ b → 1 ≤ text_needs w (text_at w f p)
      go true q = rw q (omega arith)
      go false q = rw q (leb-true 1 w (and_left (leb 1 w) (leb w (text_max t)) h))
  needs_some t strl_type p s h = omega (arith, s)
  needs_some t byte_type p s h = omega arith
  needs_some t int_type p s h = omega arith
  needs_some t long_type p s h = omega arith
  needs_some t float_type p s h = omega arith
  needs_some t double_type p s h = omega arith

  pub cell_past : (t : Bool) (x : VarType) (p : ℕ) → e.v_width + e.o_width ≡ 8 → has_type t x ≡ true → length f ≤ p → refused 17 ≡ cell_said e o f x p
  unfolding cell_said
  cell_past t x p s h b = rw (room_none f p (cell_needs e x f p) (omega (arith, b, needs_some t x p s h)))

  -- no cell starts after the file's end
  pub cell_after : (x : VarType) (p : ℕ) → length f < p → refused 17 ≡ cell_said e o f x p
  unfolding cell_said
  cell_after x p b = rw (room_none f p (cell_needs e x f p) (omega (arith, b)))

-- ---- the types on the way

types_has : (t : Bool) (o : Order) (f : List ℕ) (n p : ℕ) (l : List VarType) → types_in t o f n p ≡ got l → (m : ℕ) → m < n → has_type t (get_or l m byte_type) ≡ true
types_has t o f zero p l e m h = absurd (omega arith)
types_has t o f (suc n) p l e zero h =
    let c = consed (type_in t o f p) (types_in t o f n (p + code_width t)) l e in
    let g = type_is t o f p c.head c.head_got in
    ap (λ (k : List VarType). has_type t (get_or k zero byte_type)) c.is ∙ ap (has_type t) g.is ∙ g.has
types_has t o f (suc n) p l e (suc m) h =
    let c = consed (type_in t o f p) (types_in t o f n (p + code_width t)) l e in
    ap (λ (k : List VarType). has_type t (get_or k (suc m) byte_type)) c.is ∙ types_has t o f n (p + code_width t) c.tail c.tail_got m (omega arith)

-- ---- a column and a row

-- a cell is in range where both its variable and its observation are
pub among_of : (l : Layout) (i j : ℕ) → in_range l (ask_cell i j) ≡ true → (among i l.variables ≡ true) × (among j l.rows ≡ true)
among_of l i j h = (and_left (among i l.variables) (among j l.rows) h, and_right (among i l.variables) (among j l.rows) h)

module _ (f : List ℕ) (l : Layout) (i j : ℕ) (q : Opened) (R : Ok q ≡ opened_if (in_range l (ask_cell i j)) (edition_in l.release l.order)) where
  abbrev e : Edition
  e = numbers_of q.e

  abbrev o : Order
  o = order_by q.msf

  abbrev asked : Result Cell Refusal
  asked = said_by (answer_of f l (ask_cell i j))

  pub among_both : (among i l.variables ≡ true) × (among j l.rows ≡ true)
  among_both = go (in_range l (ask_cell i j)) refl R
    where
      go : (a : Bool) → in_range l (ask_cell i j) ≡ a → Ok q ≡ opened_if a (edition_in l.release l.order) → (among i l.variables ≡ true) × (among j l.rows ≡ true)
      go true h k = among_of l i j h
      go false h k = absurd (false≢true (cc k))

  -- what the cell's column answers
  abbrev said : List VarType → Answer
  said t = column (get_or t (i - 1) byte_type) (offset_in e t i) (width_in e t)

  column_is : (r : Try (List VarType)) → layout_types e o f l ≡ r → column_by (answer_of f l (ask_column i)) ≡ column_by (or_refused (bind r λ t. got (said t)))
  column_is r h =
      ap column_by (answer_open f l (ask_column i) among_both.0 q (is_open f l (ask_cell i j) q R))
      ∙ ap (λ (r : Try (List VarType)). column_by (or_refused (bind r λ t. got (said t)))) h

  pub tells : {x : Result Cell Refusal} → (r : Try (List VarType)) → layout_types e o f l ≡ r
      → x ≡ said_by (or_refused (bind (bind r λ t. cell_at e o f (get_or t (i - 1) byte_type) (cell_place e t (start_of e.tagged l 9 n_data) i j)) λ s. got (cell s))) → x ≡ asked
  tells {x} r h k =
      tells_open f l (ask_cell i j) q R said_by (bind (cell_in e o f l i j) λ s. got (cell s)) refl
      (k ∙ ap (λ (r : Try (List VarType)). said_by (or_refused (bind (bind r λ t. cell_at e o f (get_or t (i - 1) byte_type) (cell_place e t (start_of e.tagged l 9 n_data) i j)) λ s. got (cell s)))) (sym h))

  -- a column that is refused
  pub cell_unread : (d : Refusal) → Err d ≡ column_by (answer_of f l (ask_column i)) → Err d ≡ asked
  cell_unread d D = go (layout_types e o f l) refl
    where
      go : (r : Try (List VarType)) → layout_types e o f l ≡ r → Err d ≡ asked
      go none h = let z : d ≡ NotReadable = cc (D ∙ column_is none h) in tells none h (ap Err z)
      go (got t) h = absurd (false≢true (cc (D ∙ column_is (got t) h)))

  module _ (c : Column) (C : Ok c ≡ column_by (answer_of f l (ask_column i))) where
    -- the cell of a type
    pub record Stands : Type 0 where
      pub type : VarType
      pub off : ℕ
      pub row : ℕ
      pub has : has_type e.tagged type ≡ true
      pub column : c ≡ record { field = field_by type; offset = capped off; row = capped row }
      pub is : {x : Result Cell Refusal} → x ≡ said_by (cell_said e o f type (start_of e.tagged l 9 n_data + (j - 1) * row + off)) → x ≡ asked

    pub stands : Stands
    unfolding cell_said
    stands = go (layout_types e o f l) refl
      where
        go : (r : Try (List VarType)) → layout_types e o f l ≡ r → Stands
        go none h = absurd (false≢true (cc (C ∙ column_is none h)))
        go (got t) h =
            let a = among_in i l.variables among_both.0 in
            record {
              type = get_or t (i - 1) byte_type;
              off = offset_in e t i;
              row = width_in e t;
              has = types_has e.tagged o f l.variables (start_of e.tagged l 2 n_variable_types) t h (i - 1) (omega (arith, a));
              column = cc (C ∙ column_is (got t) h);
              is = λ {x} k. tells (got t) h k;
            }

-- ---- capped places

module _ (s m r x n : ℕ) where
  less : m * capped r ≤ m * r
  less = mul-le-mul_left m (capped_le r).0

  pub far : n < s + m * capped r → n ≤ s + m * r + x
  far h = omega (arith, h, less)

  pub far_off : n ≤ s + m * capped r + capped x → n ≤ s + m * r + x
  far_off h = omega (arith, h, less, (capped_le x).0)

  pub near : n ≤ 18446744073709551615 → s + m * capped r + capped x < n → s + m * capped r + capped x ≡ s + m * r + x
  near b h =
      let e : x ≡ capped x = capped_is x (omega (arith, b, h)) in
      let k : m * r ≡ m * capped r = same m (omega (arith, b, h)) in
      omega (arith, e, k)
    where
      same : (m : ℕ) → m * capped r < 18446744073709551615 → m * r ≡ m * capped r
      same zero k = zero-mul r ∙ sym (zero-mul (capped r))
      same (suc m) k = ap (λ (y : ℕ). suc m * y) (capped_is r (omega (arith, k, suc-mul m (capped r))))

-- what is said at the capped place is said at the place itself
pub capped_said : (e : Edition) (o : Order) (f : List ℕ) (x : VarType) (t : Bool) → e.v_width + e.o_width ≡ 8 → has_type t x ≡ true → (s m r y : ℕ) → length f ≤ 18446744073709551615
    → cell_said e o f x (s + m * capped r + capped y) ≡ cell_said e o f x (s + m * r + y)
capped_said e o f x t w h s m r y n = go (leb (length f) (s + m * capped r + capped y)) refl
  where
    go : (b : Bool) → leb (length f) (s + m * capped r + capped y) ≡ b → cell_said e o f x (s + m * capped r + capped y) ≡ cell_said e o f x (s + m * r + y)
    go true b =
        let k = leb-true (length f) (s + m * capped r + capped y) b in
        sym (cell_past e o f t x (s + m * capped r + capped y) w h k) ∙ cell_past e o f t x (s + m * r + y) w h (far_off s m r y (length f) k)
    go false b = ap (cell_said e o f x) (near s m r y (length f) n (leb-false (length f) (s + m * capped r + capped y) b))

-- ---- for the code

-- kind and width of a type, as code hands them on
pub kind_known : (c : Column) (x : VarType) (a b : ℕ) → c ≡ record { field = field_by x; offset = a; row = b }
    → (known c.field.kind ≡ true) × (type_of c.field.kind c.field.width ≡ x) × (c.offset ≡ a) × (c.row ≡ b)
kind_known c x a b e =
    (ap (λ (y : Column). known y.field.kind) e ∙ type_known x, ap (λ (y : Column). type_of y.field.kind y.field.width) e ∙ type_back x, ap (λ (y : Column). y.offset) e, ap (λ (y : Column). y.row) e)

pub width_is : (vw ow : ℕ) → vw + ow ≡ 8 → (x : VarType) → (field_by x).width ≡ cell_width vw ow x
width_is vw ow e (text_type w) = refl
width_is vw ow e strl_type = sym e
width_is vw ow e byte_type = refl
width_is vw ow e int_type = refl
width_is vw ow e long_type = refl
width_is vw ow e float_type = refl
width_is vw ow e double_type = refl

pub text_kind : (e : Edition) (o : Order) (f : List ℕ) (k : Kind) (w p : ℕ) → is_text k ≡ true → (r : Result Cell Refusal) → r ≡ said_by (cell_said e o f (text_type w) p)
    → r ≡ said_by (cell_said e o f (type_of k w) p)
text_kind e o f Text w p h r s = s
text_kind e o f StrL w p h r s = absurd (false≢true h)
text_kind e o f Byte w p h r s = absurd (false≢true h)
text_kind e o f Int w p h r s = absurd (false≢true h)
text_kind e o f Long w p h r s = absurd (false≢true h)
text_kind e o f Float w p h r s = absurd (false≢true h)
text_kind e o f Double w p h r s = absurd (false≢true h)
text_kind e o f Unknown w p h r s = absurd (false≢true h)
