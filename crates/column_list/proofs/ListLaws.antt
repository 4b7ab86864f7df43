-- The list of offsets: how it is filled, and what a column is by it.
use mathlib.Core.Path.{◌≡◌, refl, sym, ap, ◌∙◌, subst}
use Prim.Native.Nat.{ℕ, ◌+◌, ◌-◌, ◌*◌, ◌≤◌, ◌<◌}
use native.Mathlib.Omega.{arith}
use mathlib.Core.List.{List, ◌++◌}
use mathlib.Core.Bool.{Bool, true, false, false≢true}
use lib.ListN.{length, get_or, set, length-set, drop, replicate, length-append, length-drop, length-replicate, get_or-append}
use lib.Seq.{get_or-set_same, get_or-set_other}
use lib.Dec.{eqb, leb}
use borrow.Author.Tests.{eqb-true, eqb-false}
use Rattle.std.specs.Prelude.{Some, Result, Ok, Err, IfOk, min}
use Rattle.refusal.specs.declared.Refusal.{Refusal}
use Rattle.format.specs.Number.{Order, order_by}
use Rattle.format.specs.Edition.{Edition, code_width, n_variable_types}
use Rattle.format.specs.Dta.{Layout}
use Rattle.codes.specs.declared.Field.{Field}
use Rattle.editions.specs.Editions.{numbers_of}
use Rattle.data.specs.Places.{field_at}
use Rattle.questions.specs.Readings.{got}
use Rattle.questions.specs.Ask.{among, start_of, answer_of, ask_column}
use Rattle.reading.specs.declared.Opened.{Opened}
use Rattle.reading.specs.Reads.{opened_by, edition_in}
use Rattle.reading.proofs.AnswerLaws.{answer_out}
use Rattle.answers.specs.Answers.{opened_if}
use Rattle.answers.proofs.TellLaws.{is_read, tells_refused}
use Rattle.columns.specs.declared.Column.{Column}
use Rattle.columns.specs.Columns.{capped, column_by}
use Rattle.columns.proofs.ColumnLaws.{among_in}
use Rattle.coded.specs.Coded.{least}
use Rattle.cell_runs.specs.Next.{column_after}
use Rattle.cell_runs.proofs.RunLaws.{least_both}
use Rattle.cell_runs.proofs.NextLaws.{in_among, refused_as, by_types, column_as, stands, code_inside, field_is, column_next}
use Rattle.std.proofs.lemmas.List.{get_or-replicate, get_or-append_right, get_or-drop}
use Rattle.column_list.specs.Offsets.{Offsets, Kept, Cleared}

-- a column that is told is that of a variable of the file, whose edition and order are read
module _ (f : List ℕ) (l : Layout) (i : ℕ) (c : Column) (C : Ok c ≡ column_by (answer_of f l (ask_column i))) where
  pub told_among : among i l.variables ≡ true
  told_among = go (among i l.variables) refl
    where
      go : (b : Bool) → among i l.variables ≡ b → among i l.variables ≡ true
      go true e = e
      go false e = absurd (false≢true (cc (C ∙ ap column_by (answer_out f l (ask_column i) e))))

  pub told_opens : (d : Refusal) → Err d ≡ opened_if true (edition_in l.release l.order) → ⊥
  told_opens d D =
      let k : Err d ≡ opened_if (among i l.variables) (edition_in l.release l.order) = rw told_among D in
      false≢true (cc (C ∙ sym (tells_refused f l (ask_column i) column_by (λ n. refl) d k)))

-- ---- the list is filled

least_most : (a b i : ℕ) → i ≤ a → i ≤ b → i ≤ least a b
least_most a b i h k = go (leb a b) refl
  where
    go : (x : Bool) → leb a b ≡ x → i ≤ least a b
    go true e = rw e h
    go false e = rw e k

abbrev At : List ℕ → Layout → List ℕ → ℕ → Type 0
At f l t i = IfOk (column_by (answer_of f l (ask_column i))) (λ c. get_or t (i - 1) 0 ≡ c.offset)

at_ok : (f : List ℕ) (l : Layout) (t : List ℕ) (i : ℕ) (c : Column) → Ok c ≡ column_by (answer_of f l (ask_column i)) → get_or t (i - 1) 0 ≡ c.offset → At f l t i
at_ok f l t i c C h = subst (λ (r : Result Column Refusal). IfOk r (λ c. get_or t (i - 1) 0 ≡ c.offset)) C h

ok_at : (f : List ℕ) (l : Layout) (t : List ℕ) (i : ℕ) (c : Column) → column_by (answer_of f l (ask_column i)) ≡ Ok c → At f l t i → get_or t (i - 1) 0 ≡ c.offset
ok_at f l t i c C h = subst (λ (r : Result Column Refusal). IfOk r (λ c. get_or t (i - 1) 0 ≡ c.offset)) C h

-- zeros are listed where the first column is refused
module _ (t u : List ℕ) (n : ℕ) (U : u ≡ replicate n 0 ++ drop n t) (h : n ≤ length t) where
  cleared_long : length u ≡ length t
  cleared_long = ap length U ∙ length-append (replicate n 0) (drop n t) ∙ rw (length-replicate {A = ℕ} n 0, length-drop n t) (omega arith)

  cleared_in : (k : ℕ) → k < n → get_or u k 0 ≡ 0
  cleared_in k b =
      ap (λ (x : List ℕ). get_or x k 0) U ∙ get_or-append (replicate n 0) (drop n t) 0 k (rw (length-replicate {A = ℕ} n 0) b) ∙ get_or-replicate n k 0 0 b

  cleared_past : Kept n t u
  cleared_past k b =
      let e : n + (k - n) ≡ k = omega arith in
      ap (λ (x : List ℕ). get_or x k 0) U ∙ get_or-append_right (replicate n 0) (drop n t) n k 0 (length-replicate n 0) b ∙ get_or-drop n t (k - n) 0 ∙ ap (λ (x : ℕ). get_or t x 0) e

-- where it is refused, any list is right
pub listed_none : (f : List ℕ) (l : Layout) (t : List ℕ) → length t ≡ 32768 → (d : Refusal) → Err d ≡ column_by (answer_of f l (ask_column 1))
    → (Offsets f l t (Err d)) × (Kept (least 32768 l.variables) t t)
listed_none f l t T d D = (
  record {
    long = T;
    first = D;
    each = λ i a b h.
        let k = refused_as f l 1 i (in_among 1 l.variables (omega arith) (omega (arith, a, b))) (in_among i l.variables a b) d D in
        subst (λ (r : Result Column Refusal). IfOk r (λ c. get_or t (i - 1) 0 ≡ c.offset)) k tt;
  },
  λ k h. refl,
)

-- .. and zeros are
pub listed_cleared : (f : List ℕ) (l : Layout) (t : List ℕ) → length t ≡ 32768 → (d : Refusal) → Err d ≡ column_by (answer_of f l (ask_column 1))
    → (n : ℕ) → n ≡ least 32768 l.variables → (u : List ℕ) → u ≡ replicate n 0 ++ drop n t
    → (Offsets f l u (Err d)) × (Kept (least 32768 l.variables) t u) × (Cleared (least 32768 l.variables) u (Err d))
listed_cleared f l t T d D n N u U =
    let h : n ≤ length t = omega (arith, N, T, least_both 32768 l.variables) in (
      (listed_none f l u (cleared_long t u n U h ∙ T) d D).0,
      λ k b. cleared_past t u n U h k (omega (arith, b, N)),
      λ k b. cleared_in t u n U h k (omega (arith, b, N)),
    )

-- t, which was s, has the offsets of variables 1 to m of the n that are listed, and else what it had; c is the column of variable m
pub record Listed (f : List ℕ) (l : Layout) (n : ℕ) (s t : List ℕ) (m : ℕ) (c : Column) : Type 0 where
  pub long : length t ≡ 32768
  pub count : n ≡ least 32768 l.variables
  pub some : 1 ≤ m
  pub few : m ≤ n
  pub column : Ok c ≡ column_by (answer_of f l (ask_column m))
  pub each : (i : ℕ) → 1 ≤ i → i ≤ m → At f l t i
  pub kept : Kept m s t

pub listed_start : (f : List ℕ) (l : Layout) (d : Column) → Ok d ≡ column_by (answer_of f l (ask_column 1)) → (t : List ℕ) → length t ≡ 32768
    → (n : ℕ) → n ≡ least 32768 l.variables → Listed f l n (set t 0 d.offset) (set t 0 d.offset) 1 d
listed_start f l d D t T n N =
    let b = among_in 1 l.variables (told_among f l 1 d D) in
    record {
      long = length-set t 0 d.offset ∙ T;
      count = N;
      some = omega arith;
      few = omega (arith, N, least_most 32768 l.variables 1 (omega arith) b.1);
      column = D;
      each = λ i x y. let e : i ≡ 1 = omega (arith, x, y) in rw e (at_ok f l (set t 0 d.offset) 1 d D (get_or-set_same t 0 d.offset 0 (omega (arith, T))));
      kept = λ k h. refl;
    }

module _ {f : List ℕ} {l : Layout} {n : ℕ} {s t : List ℕ} {m : ℕ} {c : Column} (L : Listed f l n s t m c) where
  module _ (h : m < n) where
    pub listed_in : (m < 32768) × (m + 1 ≤ l.variables)
    listed_in = let b = least_both 32768 l.variables in (omega (arith, h, L.count, b.0), omega (arith, h, L.count, b.1))

    pub listed_next : (r : Column) → Ok r ≡ column_by (answer_of f l (ask_column (m + 1))) → Listed f l n s (set t m r.offset) (m + 1) r
    listed_next r R =
        record {
          long = length-set t m r.offset ∙ L.long;
          count = L.count;
          some = omega arith;
          few = omega (arith, h);
          column = R;
          each = λ i a b. told i a b (eqb i (m + 1)) refl;
          kept = λ k b. get_or-set_other t m k r.offset 0 (λ x. omega (arith, b, x)) ∙ L.kept k (omega (arith, b));
        }
      where
        told : (i : ℕ) → 1 ≤ i → i ≤ m + 1 → (q : Bool) → eqb i (m + 1) ≡ q → At f l (set t m r.offset) i
        told i a b true q =
            let e : i ≡ m + 1 = eqb-true i (m + 1) q in
            let k : m + 1 - 1 ≡ m = omega arith in
            let g : get_or (set t m r.offset) (m + 1 - 1) 0 ≡ r.offset = rw k (get_or-set_same t m r.offset 0 (omega (arith, listed_in.0, L.long))) in
            subst (At f l (set t m r.offset)) (sym e) (at_ok f l (set t m r.offset) (m + 1) r R g)
        told i a b false q =
            let g = eqb-false i (m + 1) q in
            let k : get_or (set t m r.offset) (i - 1) 0 ≡ get_or t (i - 1) 0 = get_or-set_other t m (i - 1) r.offset 0 (λ x. g (omega (arith, a, x))) in
            subst (λ (x : ℕ). IfOk (column_by (answer_of f l (ask_column i))) (λ c. x ≡ c.offset)) (sym k) (L.each i a (omega (arith, b, g)))

pub listed_all : {f : List ℕ} {l : Layout} {n : ℕ} (s : List ℕ) {t : List ℕ} (x : ℕ) {m : ℕ} {c : Column} → Listed f l n (set s 0 x) t m c → n ≤ m
    → (d : Column) → Ok d ≡ column_by (answer_of f l (ask_column 1)) → (Offsets f l t (Ok d)) × (Kept (least 32768 l.variables) s t) × (Cleared (least 32768 l.variables) t (Ok d))
listed_all {f} {l} {n} s {t} x {m} L b d D = (
  record { long = L.long; first = D; each = λ i y z w. L.each i y (omega (arith, b, L.count, least_most 32768 l.variables i w z)) },
  λ k h. L.kept k (omega (arith, h, L.few, L.count)) ∙ get_or-set_other s 0 k x 0 (λ e. omega (arith, h, e, L.some, L.few, L.count)),
  tt,
)

-- ---- with the edition and order that are read

module _ (f : List ℕ) (l : Layout) (q : Opened) (Q : Ok q ≡ opened_if true (edition_in l.release l.order)) (n : length f ≤ 18446744073709551615)
    (p : ℕ) (P : p ≡ capped (start_of (numbers_of q.e).tagged l 2 n_variable_types)) where
  abbrev e : Edition
  e = numbers_of q.e

  abbrev o : Order
  o = order_by q.msf

  opened : Some q ≡ opened_by (edition_in l.release l.order)
  opened = is_read q (opened_by (edition_in l.release l.order)) Q

  -- a turn of the list
  module _ {k : ℕ} {s t : List ℕ} {m : ℕ} {c : Column} (L : Listed f l k s t m c) (h : m < k) where
    pub turn_inside : p + m * code_width e.tagged + code_width e.tagged ≤ length f
    turn_inside = code_inside f l m q opened (told_among f l m c L.column) c L.column n p P m (omega (arith, listed_in L h))

    pub turn : (r : Column) → r ≡ column_after (field_at e.tagged o f p m) c → Listed f l k s (set t m r.offset) (m + 1) r
    turn r R = listed_next L h r (ap Ok R ∙ column_next f l m q opened (told_among f l m c L.column) c L.column n p P L.some (listed_in L h).1)

  -- a column by the list
  module _ {t : List ℕ} {r : Column} (T : Offsets f l t (Ok r)) (i : ℕ) (a : among i (min l.variables 32768) ≡ true) where
    low : (1 ≤ i) × (i ≤ l.variables) × (i ≤ 32768)
    low = let b = among_in i (min l.variables 32768) a in (b.0, omega (arith, b.1), omega (arith, b.1))

    one : among 1 l.variables ≡ true
    one = in_among 1 l.variables (omega arith) (omega (arith, low.0, low.1))

    pub at_inside : p + (i - 1) * code_width e.tagged + code_width e.tagged ≤ length f
    at_inside = code_inside f l 1 q opened one r T.first n p P (i - 1) (omega (arith, low.0, low.1))

    pub column_is : (x : Field) → x ≡ field_at e.tagged o f p (i - 1) → Ok (record { field = x; offset = get_or t (i - 1) 0; row = r.row }) ≡ column_by (answer_of f l (ask_column i))
    column_is x X =
        let S = stands f l 1 q opened one r T.first in
        let y = S.types in
        let B = by_types f l q opened i (in_among i l.variables low.0 low.1) (got y) S.got_types in
        let F = X ∙ field_is f l 1 q opened one r T.first n p P (i - 1) (omega (arith, low.0, low.1)) in
        let G = ok_at f l t i _ B (T.each i low.0 low.1 low.2) in
        column_as F G (ap (λ (z : Column). z.row) S.column) ∙ sym B

-- a refusal is that of all variables
pub refused_all : {f : List ℕ} {l : Layout} {t : List ℕ} (d : Refusal) → Offsets f l t (Err d) → (i : ℕ) → among i (min l.variables 32768) ≡ true
    → Err d ≡ column_by (answer_of f l (ask_column i))
refused_all {f} {l} d T i a =
    let b = among_in i (min l.variables 32768) a in
    refused_as f l 1 i (in_among 1 l.variables (omega arith) (omega (arith, b))) (in_among i l.variables b.0 (omega (arith, b))) d T.first
