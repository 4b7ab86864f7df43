-- Where a variable's cells stand: sums of widths that are capped, and the types on the way.
use mathlib.Core.Path.{◌≡◌, refl, sym, ap, ◌∙◌}
use Prim.Native.Nat.{ℕ, zero, suc, ◌+◌, ◌-◌, ◌*◌, ◌≤◌, ◌<◌}
use native.Mathlib.Nat.{mul-le-mul_right, suc-mul, zero-mul, add-zero, zero-add, sub-zero}
use native.Mathlib.Numerals.{add-one}
use native.Mathlib.Omega.{arith}
use mathlib.Core.List.{List, [], ◌∷◌}
use mathlib.Core.Bool.{Bool, true, false, cond, false≢true}
use lib.ListN.{length, get_or, take}
use lib.Dec.{leb, ltb}
use borrow.Author.Tests.{le-leb, lt-leb, leb-true, leb-false, ltb-true}
use Rattle.format.specs.Number.{Order, order_by, num}
use Rattle.format.specs.Grammar.{row_width}
use Rattle.format.specs.Edition.{Edition, code_width, text_max, n_variable_types}
use Rattle.format.specs.Variables.{VarType, text_type, strl_type, byte_type, int_type, long_type, float_type, double_type, type_by, has_type}
use Rattle.format.specs.Data.{cell_width}
use Rattle.format.specs.Dta.{Layout}
use Rattle.format.proofs.Good.{and_left, and_right}
use Rattle.codes.specs.declared.Field.{Field}
use Rattle.codes.specs.Fields.{field_by, unknown, field_of}
use Rattle.data.specs.Places.{field_at}
use Rattle.questions.specs.Readings.{Try, none, got, bind}
use Rattle.questions.specs.Ask.{Answer, column, or_refused, among, type_in, types_in, layout_types, column_in, start_of, answer_of, ask_column}
use Rattle.reading.specs.declared.Opened.{Opened}
use Rattle.reading.specs.Reads.{edition_in}
use Rattle.reading.proofs.ReadLaws.{number_got}
use Rattle.reading.proofs.AnswerLaws.{edition_widths}
use Rattle.answers.specs.Answers.{opened_if}
use Rattle.answers.proofs.TellLaws.{tells_open, is_open}
use Rattle.editions.specs.Editions.{numbers_of}
use Rattle.columns.specs.declared.Column.{Column}
use Rattle.std.specs.Prelude.{Result, Ok, Err, min}
use Rattle.refusal.specs.declared.Refusal.{Refusal}
use Rattle.refusal.specs.declared.Refusal.TheVariants.{NotReadable}
use Rattle.columns.specs.Columns.{capped, column_by, widths, widths_in}

-- ---- capped numbers

abbrev most : ℕ
most = 18446744073709551615

pub capped_small : (n : ℕ) → n ≤ 18446744073709551615 → n ≡ capped n
capped_small n h = rw (le-leb n most h)

pub capped_large : (n : ℕ) → 18446744073709551615 < n → 18446744073709551615 ≡ capped n
capped_large n h = rw (lt-leb n most h)

-- a sum that stops at the greatest number
pub capped_min : (n : ℕ) → min n 18446744073709551615 ≡ capped n
capped_min n = go (leb n most) refl
  where
    go : (b : Bool) → leb n most ≡ b → min n most ≡ capped n
    go true e = let h = leb-true n most e in let m : min n most ≡ n = omega arith in m ∙ capped_small n h
    go false e = let h = leb-false n most e in let m : min n most ≡ most = omega arith in m ∙ capped_large n h

pub capped_le : (n : ℕ) → (capped n ≤ n) × (capped n ≤ 18446744073709551615)
capped_le n = go (leb n most) refl
  where
    go : (b : Bool) → leb n most ≡ b → (capped n ≤ n) × (capped n ≤ 18446744073709551615)
    go true e = rw e (omega arith, leb-true n most e)
    go false e = rw e (omega (arith, leb-false n most e), omega arith)

pub capped_is : (n : ℕ) → capped n < 18446744073709551615 → n ≡ capped n
capped_is n h = go (leb n most) refl
  where
    go : (b : Bool) → leb n most ≡ b → n ≡ capped n
    go true e = capped_small n (leb-true n most e)
    go false e = absurd (omega (arith, h, capped_large n (leb-false n most e)))

-- a part may be capped before the sum is
pub capped_sum : (a b c : ℕ) → capped (a + (b + c)) ≡ capped (capped (a + b) + c)
capped_sum a b c = go (leb (a + b) most) refl
  where
    go : (t : Bool) → leb (a + b) most ≡ t → capped (a + (b + c)) ≡ capped (capped (a + b) + c)
    go true e = let q : a + (b + c) ≡ a + b + c = omega arith in rw (e, q)
    go false e =
        let h = leb-false (a + b) most e in
        let l : 18446744073709551615 ≡ capped (a + (b + c)) = capped_large (a + (b + c)) (omega arith) in
        by (leb (most + c) most) refl l
      where
        by : (t : Bool) → leb (most + c) most ≡ t → 18446744073709551615 ≡ capped (a + (b + c)) → capped (a + (b + c)) ≡ capped (capped (a + b) + c)
        by true k l = let z : c ≡ 0 = omega (arith, leb-true (most + c) most k) in sym l ∙ rw (e, z)
        by false k l = sym l ∙ rw (e, k)

pub among_in : (i k : ℕ) → among i k ≡ true → (1 ≤ i) × (i ≤ k)
among_in i k h = (ltb-true 0 i (and_left (ltb 0 i) (leb i k) h), leb-true i k (and_right (ltb 0 i) (leb i k) h))

-- ---- one type

type_some : (t : Bool) (x : VarType) → has_type t x ≡ true → 1 ≤ (field_by x).width
type_some t (text_type w) h = leb-true 1 w (and_left (leb 1 w) (leb w (text_max t)) h)
type_some t strl_type h = omega arith
type_some t byte_type h = omega arith
type_some t int_type h = omega arith
type_some t long_type h = omega arith
type_some t float_type h = omega arith
type_some t double_type h = omega arith

module _ (t : Bool) (o : Order) (f : List ℕ) where
  -- the type whose code stands at q
  abbrev type_back : ℕ → VarType
  type_back q = type_by t (num o (code_width t) f q)

  module _ (p i : ℕ) (h : p + i * code_width t + code_width t ≤ length f) (x : Field) (e : x ≡ field_at t o f p i) where
    abbrev q : ℕ
    q = p + i * code_width t

    field_kind : (b : Bool) → has_type t (type_back q) ≡ b → x ≡ cond b (field_by (type_back q)) unknown
    unfolding field_at
    field_kind b k = e ∙ rw k

    pub type_none : x.width ≡ 0 → type_in t o f q ≡ none
    type_none z = go (has_type t (type_back q)) refl
      where
        go : (b : Bool) → has_type t (type_back q) ≡ b → type_in t o f q ≡ none
        go true k = absurd (omega (arith, type_some t (type_back q) k, z, ap (λ (y : Field). y.width) (field_kind true k)))
        go false k = rw (number_got o (code_width t) f q h, k)

    pub type_got : (x.width ≡ 0 → ⊥) → (type_in t o f q ≡ got (type_back q)) × (x ≡ field_by (type_back q))
    type_got z = go (has_type t (type_back q)) refl
      where
        go : (b : Bool) → has_type t (type_back q) ≡ b → (type_in t o f q ≡ got (type_back q)) × (x ≡ field_by (type_back q))
        go true k = (rw (number_got o (code_width t) f q h, k), field_kind true k)
        go false k = absurd (z (ap (λ (y : Field). y.width) (field_kind false k)))

-- ---- n types, one at a time

abbrev sum_from : Bool → Order → List ℕ → ℕ → ℕ → ℕ → Try ℕ
sum_from t o f s n q = bind (types_in t o f n q) λ l. got (capped (s + widths l))

sum_turn : (t : Bool) (o : Order) (f : List ℕ) (s n q : ℕ) (x : VarType) → type_in t o f q ≡ got x
    → sum_from t o f s (suc n) q ≡ sum_from t o f (capped (s + (field_by x).width)) n (q + code_width t)
sum_turn t o f s n q x e = rw e (by (types_in t o f n (q + code_width t)))
  where
    by : (r : Try (List VarType)) → bind (bind r λ l. got (x ∷ l)) (λ l. got (capped (s + widths l))) ≡ bind r λ l. got (capped (capped (s + (field_by x).width) + widths l))
    by none = refl
    by (got l) = ap got (capped_sum s (field_by x).width (widths l))

-- a loop over the n types at p has added up j of them
pub record Summed (t : Bool) (o : Order) (f : List ℕ) (n p s j : ℕ) : Type 0 where
  pub upto : j ≤ n
  pub small : s ≤ 18446744073709551615
  pub rest : widths_in t o f n p ≡ sum_from t o f s (n - j) (p + j * code_width t)

module _ (t : Bool) (o : Order) (f : List ℕ) (n p : ℕ) where
  pub sum_start : Summed t o f n p 0 0
  unfolding widths_in
  sum_start =
      record {
        upto = omega arith;
        small = omega arith;
        rest = (let a : p + 0 * code_width t ≡ p = rw zero-mul (add-zero p) in rw (sub-zero n, a) (by (types_in t o f n p)));
      }
    where
      by : (r : Try (List VarType)) → bind r (λ l. got (capped (widths l))) ≡ bind r λ l. got (capped (0 + widths l))
      by none = refl
      by (got l) = ap (λ (k : ℕ). got (capped k)) (sym (zero-add (widths l)))

  module _ (s j : ℕ) (c : Summed t o f n p s j) where
    pub sum_end : n ≤ j → got s ≡ widths_in t o f n p
    sum_end h =
        let e : n - j ≡ 0 = omega (arith, h) in
        sym (c.rest ∙ (rw e (ap (λ (k : ℕ). got (capped k)) (add-zero s) ∙ ap got (sym (capped_small s c.small)))))

    module _ (b : j < n) (h : p + j * code_width t + code_width t ≤ length f) (x : Field) (e : x ≡ field_at t o f p j) where
      abbrev left : n - j ≡ suc (n - (j + 1))
      left = omega (arith, b)

      pub sum_none : x.width ≡ 0 → none ≡ widths_in t o f n p
      sum_none z = sym (c.rest ∙ (rw (left, type_none t o f p j h x e z)))

      pub sum_on : (x.width ≡ 0 → ⊥) → (r : ℕ) → r ≡ capped (s + x.width) → Summed t o f n p r (j + 1)
      sum_on z r k =
          let g = type_got t o f p j h x e z in
          let y = type_by t (num o (code_width t) f (p + j * code_width t)) in
          let w : r ≡ capped (s + (field_by y).width) = k ∙ ap (λ (d : Field). capped (s + d.width)) g.1 in
          let q : p + j * code_width t + code_width t ≡ p + (j + 1) * code_width t = rw (add-one j) (omega (arith, suc-mul j (code_width t))) in
          record {
            upto = omega (arith, b);
            small = omega (arith, k, (capped_le (s + x.width)).1);
            rest =
                c.rest ∙ ap (λ (m : ℕ). sum_from t o f s m (p + j * code_width t)) left ∙ sum_turn t o f s (n - (j + 1)) (p + j * code_width t) y g.0
                ∙ ap (λ (a : ℕ). sum_from t o f a (n - (j + 1)) (p + j * code_width t + code_width t)) (sym w)
                ∙ ap (λ (a : ℕ). sum_from t o f r (n - (j + 1)) a) q;
          }

-- ---- the types that were read

pub record Consed (a : Try VarType) (b : Try (List VarType)) (l : List VarType) : Type 0 where
  pub head : VarType
  pub tail : List VarType
  pub head_got : a ≡ got head
  pub tail_got : b ≡ got tail
  pub is : l ≡ head ∷ tail

pub consed : (a : Try VarType) (b : Try (List VarType)) (l : List VarType) → bind a (λ x. bind b λ r. got (x ∷ r)) ≡ got l → Consed a b l
consed none b l e = absurd (false≢true (cc e))
consed (got x) none l e = absurd (false≢true (cc e))
consed (got x) (got r) l e = record { head = x; tail = r; head_got = refl; tail_got = refl; is = sym (cc e) }

take_next : (a : Try VarType) (b : Try (List VarType)) (x : VarType) (r l : List VarType) (m : ℕ) → a ≡ got x → b ≡ got (take m r) → l ≡ x ∷ r
    → bind a (λ x. bind b λ r. got (x ∷ r)) ≡ got (take (suc m) l)
take_next a b x r l m p q s = rw (p, q, s)

module _ (t : Bool) (o : Order) (f : List ℕ) where
  pub record TypeIs (q : ℕ) (x : VarType) : Type 0 where
    pub inside : q + code_width t ≤ length f
    pub is : x ≡ type_by t (num o (code_width t) f q)
    pub has : has_type t (type_by t (num o (code_width t) f q)) ≡ true

  pub type_is : (q : ℕ) (x : VarType) → type_in t o f q ≡ got x → TypeIs q x
  type_is q x e = go (leb (q + code_width t) (length f)) refl (has_type t (type_back t o f q)) refl
    where
      go : (a : Bool) → leb (q + code_width t) (length f) ≡ a → (b : Bool) → has_type t (type_back t o f q) ≡ b → TypeIs q x
      go false a b k = let n : type_in t o f q ≡ none = rw a in absurd (false≢true (cc (sym e ∙ n)))
      go true a false k = let n : type_in t o f q ≡ none = rw (a, k) in absurd (false≢true (cc (sym e ∙ n)))
      go true a true k =
          let n : type_in t o f q ≡ got (type_back t o f q) = rw (a, k) in
          record { inside = leb-true (q + code_width t) (length f) a; is = cc (sym e ∙ n); has = k }

  next_place : (p m : ℕ) → p + code_width t + m * code_width t ≡ p + suc m * code_width t
  next_place p m = omega (arith, suc-mul m (code_width t))

  -- where the types are not all in the file
  pub types_out : (n p : ℕ) → 0 < n → length f < p + n * code_width t → types_in t o f n p ≡ none
  types_out zero p z h = absurd (omega arith)
  types_out (suc n) p z h = go (type_in t o f p) refl n (types_out n (p + code_width t)) (omega (arith, next_place p n))
    where
      go : (a : Try VarType) → type_in t o f p ≡ a → (n : ℕ) → (0 < n → length f < p + code_width t + n * code_width t → types_in t o f n (p + code_width t) ≡ none)
          → length f < p + code_width t + n * code_width t → types_in t o f (suc n) p ≡ none
      go none e n r k = rw e
      go (got x) e zero r k = absurd (omega (arith, (type_is p x e).inside, zero-mul (code_width t)))
      go (got x) e (suc n) r k = rw (e, r (omega arith) k)

  pub types_take : (n p : ℕ) (l : List VarType) → types_in t o f n p ≡ got l → (m : ℕ) → m ≤ n → types_in t o f m p ≡ got (take m l)
  types_take n p l e zero h = refl
  types_take zero p l e (suc m) h = absurd (omega arith)
  types_take (suc n) p l e (suc m) h =
      let c = consed (type_in t o f p) (types_in t o f n (p + code_width t)) l e in
      take_next (type_in t o f p) (types_in t o f m (p + code_width t)) c.head c.tail l m c.head_got
      (types_take n (p + code_width t) c.tail c.tail_got m (omega arith)) c.is

  field_next : (p m : ℕ) → field_at t o f (p + code_width t) m ≡ field_at t o f p (suc m)
  unfolding field_at
  field_next p m = ap (λ (q : ℕ). field_of t (num o (code_width t) f q)) (next_place p m)

  field_first : (p : ℕ) (x : VarType) → type_in t o f p ≡ got x → field_at t o f p 0 ≡ field_by x
  unfolding field_at
  field_first p x e =
      let g = type_is p x e in
      let q : p + 0 * code_width t ≡ p = rw zero-mul (add-zero p) in
      rw (q, g.has, sym g.is)

  pub types_at : (n p : ℕ) (l : List VarType) → types_in t o f n p ≡ got l → (m : ℕ) → m < n → field_at t o f p m ≡ field_by (get_or l m byte_type)
  types_at zero p l e m h = absurd (omega arith)
  types_at (suc n) p l e zero h =
      let c = consed (type_in t o f p) (types_in t o f n (p + code_width t)) l e in
      field_first p c.head c.head_got ∙ ap (λ (k : List VarType). field_by (get_or k zero byte_type)) (sym c.is)
  types_at (suc n) p l e (suc m) h =
      let c = consed (type_in t o f p) (types_in t o f n (p + code_width t)) l e in
      sym (field_next p m) ∙ types_at n (p + code_width t) c.tail c.tail_got m (omega arith) ∙ ap (λ (k : List VarType). field_by (get_or k (suc m) byte_type)) (sym c.is)

-- ---- the column

widths_row : (vw ow : ℕ) → vw + ow ≡ 8 → (l : List VarType) → widths l ≡ row_width (cell_width vw ow) l
widths_row vw ow e [] = refl
widths_row vw ow e (x ∷ l) = rw (by x, widths_row vw ow e l)
  where
    by : (x : VarType) → (field_by x).width ≡ cell_width vw ow x
    by (text_type w) = refl
    by strl_type = sym e
    by byte_type = refl
    by int_type = refl
    by long_type = refl
    by float_type = refl
    by double_type = refl

module _ (e : Edition) (o : Order) (f : List ℕ) (l : Layout) (i : ℕ) (p : ℕ) (P : p ≡ start_of e.tagged l 2 n_variable_types) where
  abbrev types : Try (List VarType)
  types = types_in e.tagged o f l.variables p

  types_start : layout_types e o f l ≡ types
  types_start = ap (types_in e.tagged o f l.variables) (sym P)

  abbrev said : List VarType → Answer
  said t = column (get_or t (i - 1) byte_type) (row_width (cell_width e.v_width e.o_width) (take (i - 1) t)) (row_width (cell_width e.v_width e.o_width) t)

  by_types : (r : Try (List VarType)) → types ≡ r → column_in e o f l i ≡ bind r λ t. got (said t)
  by_types r h = ap (λ (r : Try (List VarType)). bind r λ t. got (said t)) (types_start ∙ h)

  pub column_out : 0 < l.variables → length f < p + l.variables * code_width e.tagged → column_in e o f l i ≡ none
  column_out z h = by_types none (types_out e.tagged o f l.variables p z h)

  types_none : (r : Try (List VarType)) → bind r (λ t. got (capped (widths t))) ≡ none → r ≡ none
  types_none none h = refl
  types_none (got t) h = absurd (false≢true (cc (sym h)))

  pub column_none : widths_in e.tagged o f l.variables p ≡ none → column_in e o f l i ≡ none
  unfolding widths_in
  column_none h = by_types none (types_none types h)

  types_got : (r : Try (List VarType)) (s : ℕ) → bind r (λ t. got (capped (widths t))) ≡ got s → (t : List VarType) × (r ≡ got t) × (s ≡ capped (widths t))
  types_got none s h = absurd (false≢true (cc h))
  types_got (got t) s h = (t, refl, sym (cc h))

  column_by_lem : e.v_width + e.o_width ≡ 8 → (t : List VarType) → types ≡ got t → (s : ℕ) → s ≡ capped (widths t)
      → (x : Field) → x ≡ field_by (get_or t (i - 1) byte_type) → (b : ℕ) → b ≡ capped (widths (take (i - 1) t))
      → Ok (record { field = x; offset = b; row = s }) ≡ column_by (or_refused (column_in e o f l i))
  column_by_lem w t T s S x X b B =
      rw (S, X, B, widths_row e.v_width e.o_width w (take (i - 1) t), widths_row e.v_width e.o_width w t)
      (sym (ap (λ (r : Try Answer). column_by (or_refused r)) (by_types (got t) T)))

  module _ (h : i - 1 < l.variables) (s : ℕ) (k : widths_in e.tagged o f l.variables p ≡ got s) where
    -- the widths before are known where all are
    pub before_got : widths_in e.tagged o f (i - 1) p ≡ none → ⊥
    unfolding widths_in
    before_got b =
        let g = types_got types s k in
        let a : widths_in e.tagged o f (i - 1) p ≡ got (capped (widths (take (i - 1) g.0))) = rw (types_take e.tagged o f l.variables p g.0 g.1 (i - 1) (omega arith)) in
        false≢true (cc (sym b ∙ a))

    pub column_got : e.v_width + e.o_width ≡ 8 → (x : Field) → x ≡ field_at e.tagged o f p (i - 1) → (b : ℕ) → widths_in e.tagged o f (i - 1) p ≡ got b
        → Ok (record { field = x; offset = b; row = s }) ≡ column_by (or_refused (column_in e o f l i))
    unfolding widths_in
    column_got w x X b B =
        let g = types_got types s k in
        let t = g.0 in
        let a : got b ≡ got (capped (widths (take (i - 1) t))) = sym B ∙ rw (types_take e.tagged o f l.variables p t g.1 (i - 1) (omega arith)) in
        let y : x ≡ field_by (get_or t (i - 1) byte_type) = X ∙ types_at e.tagged o f l.variables p t g.1 (i - 1) h in
        column_by_lem w t g.1 s g.2 x y b (cc a)

-- ---- for the code

pub less_of : (j n w : ℕ) → j ≤ n → j * w ≤ n * w
less_of j n w h = mul-le-mul_right w h

-- of an edition and an order that are read, with the types at p
module _ (f : List ℕ) (l : Layout) (i : ℕ) (r : Opened) (R : Ok r ≡ opened_if (among i l.variables) (edition_in l.release l.order))
    (p : ℕ) (P : p ≡ start_of r.e.tagged l 2 n_variable_types) where
  abbrev E : Edition
  E = numbers_of r.e

  abbrev asked : Result Column Refusal
  asked = column_by (answer_of f l (ask_column i))

  tells : {x : Result Column Refusal} → x ≡ column_by (or_refused (column_in E (order_by r.msf) f l i)) → x ≡ asked
  tells = tells_open f l (ask_column i) r R column_by _ refl

  -- a refusal of a reading
  unread : column_in E (order_by r.msf) f l i ≡ none → Err NotReadable ≡ asked
  unread h = tells (ap (λ (t : Try Answer). column_by (or_refused t)) (sym h))

  b : (1 ≤ i) × (i ≤ l.variables)
  b = go (among i l.variables) refl R
    where
      go : (a : Bool) → among i l.variables ≡ a → Ok r ≡ opened_if a (edition_in l.release l.order) → (1 ≤ i) × (i ≤ l.variables)
      go true e h = among_in i l.variables e
      go false e h = absurd (false≢true (cc h))

  pub told_out : length f < p + l.variables * code_width r.e.tagged → Err NotReadable ≡ asked
  told_out h = unread (column_out E (order_by r.msf) f l i p P (omega (arith, b)) h)

  pub told_none : widths_in r.e.tagged (order_by r.msf) f l.variables p ≡ none → Err NotReadable ≡ asked
  told_none h = unread (column_none E (order_by r.msf) f l i p P h)

  module _ (s : ℕ) (S : widths_in r.e.tagged (order_by r.msf) f l.variables p ≡ got s) where
    pub told_before : widths_in r.e.tagged (order_by r.msf) f (i - 1) p ≡ none → Err NotReadable ≡ asked
    told_before h = absurd (before_got E (order_by r.msf) f l i p P (omega (arith, b)) s S h)

    pub told_got : (x : Field) → x ≡ field_at r.e.tagged (order_by r.msf) f p (i - 1) → (k : ℕ) → widths_in r.e.tagged (order_by r.msf) f (i - 1) p ≡ got k
        → Ok (record { field = x; offset = k; row = s }) ≡ asked
    told_got x X k K =
        let W = edition_widths l.release l.order r (is_open f l (ask_column i) r R) in
        tells (column_got E (order_by r.msf) f l i p P (omega (arith, b)) s S (omega (arith, W.eight)) x X k K)
