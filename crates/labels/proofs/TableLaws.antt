-- Laws of label tables: the loops over their numbers and their text, and the answer of each step.
use mathlib.Core.Path.{◌≡◌, refl, sym, ap, ◌∙◌}
use Prim.Native.Nat.{ℕ, zero, suc, ◌+◌, ◌-◌, ◌*◌, ◌≤◌, ◌<◌}
use native.Mathlib.Nat.{add-zero, not-suc-le-zero}
use native.Mathlib.Omega.{arith}
use mathlib.Core.Bool.{Bool, true, false, ◌&&◌, and-true, and-false}
use mathlib.Core.List.{List, ◌∷◌}
use lib.ListN.{length, get_or}
use lib.Dec.{eqb, leb}
use borrow.Author.Tests.{eq-eqb, ne_eqb, lt-ltb, le-ltb, le-leb, lt-leb, eqb-true}
use Rattle.format.specs.Number.{Order, num}
use Rattle.format.specs.Grammar.{also, unless, next, number, read_times, judge_times, sizes, all_below, past_zero}
use Rattle.format.specs.Labels.{signed, ascending, table_sizes, table_head, table_body, table}
use Rattle.format.proofs.Good.{need_fits, and_left}
use Rattle.format.proofs.SlotLaws.{length_tab}
use Rattle.format.proofs.StepLaws.{times_next}
use Rattle.std.specs.Prelude.{Ok, Err}
use Rattle.refusal.specs.declared.Refusal.{Refusal}
use Rattle.refusal.specs.declared.Refusal.TheVariants.{CutShort, WrongLabelTable}
use Rattle.refusal.specs.Refusals.{number_of}
use Rattle.section.specs.Judged.{Judged}
use Rattle.section.proofs.StepLaws.{refused}

-- ---- the last zero, from the end

pub past_here : (a : ℕ → ℕ) (r : ℕ) → 0 < r → a (r - 1) ≡ 0 → r ≡ past_zero a r
past_here a zero h z = absurd (not-suc-le-zero h)
past_here a (suc r) h z = let e : suc r - 1 ≡ r = omega arith in rw (eq-eqb (a r) 0 (rw e at z))

pub past_less : (a : ℕ → ℕ) (r s : ℕ) → s ≡ suc r → (a r ≡ 0 → ⊥) → past_zero a r ≡ past_zero a s
past_less a r s e z = rw (e, ne_eqb (a r) 0 z)

-- ---- the numbers at p, from the first

module _ (o : Order) (f : List ℕ) (p n : ℕ) where
  -- the numbers from the i-th of n on
  abbrev pub rest : ℕ → List ℕ
  rest i = read_times (number o 4) (n - i) f (p + i * 4)

  rest_turn : (i : ℕ) → i < n → rest i ≡ num o 4 f (p + i * 4) ∷ rest (i + 1)
  rest_turn i b =
      let k : n - i ≡ suc (n - (i + 1)) = omega arith in
      let q : p + (i + 1) * 4 ≡ p + i * 4 + 4 = omega arith in
      rw (k, q)

  module _ (i : ℕ) (b : i < n) where
    pub below_turn : (z : ℕ) → num o 4 f (p + i * 4) < z → all_below z (rest (i + 1)) ≡ all_below z (rest i)
    below_turn z h = rw (rest_turn i b, lt-ltb (num o 4 f (p + i * 4)) z h)

    module _ (a : 1 ≤ i) where
      two : rest (i - 1) ≡ num o 4 f (p + (i - 1) * 4) ∷ num o 4 f (p + i * 4) ∷ rest (i + 1)
      two =
          let e : i - 1 + 1 ≡ i = omega arith in
          (rw e at (rest_turn (i - 1) (omega arith))) ∙ ap (λ (l : List ℕ). num o 4 f (p + (i - 1) * 4) ∷ l) (rest_turn i b)

      pub ascend_turn : signed (num o 4 f (p + (i - 1) * 4)) < signed (num o 4 f (p + i * 4)) → ascending (rest (i + 1 - 1)) ≡ ascending (rest (i - 1))
      ascend_turn h =
          let e : i + 1 - 1 ≡ i = omega arith in
          rw (e, two, rest_turn i b, lt-ltb (signed (num o 4 f (p + (i - 1) * 4))) (signed (num o 4 f (p + i * 4))) h)

      pub ascend_stop : signed (num o 4 f (p + i * 4)) ≤ signed (num o 4 f (p + (i - 1) * 4)) → false ≡ ascending (rest (i - 1))
      ascend_stop h = rw (two, le-ltb (signed (num o 4 f (p + (i - 1) * 4))) (signed (num o 4 f (p + i * 4))) h)

-- a number that is not below z; and at most one number left
module _ (o : Order) (f : List ℕ) (n i q : ℕ) where
  pub below_stop : i < n → (z : ℕ) → z ≤ num o 4 f q → false ≡ all_below z (read_times (number o 4) (n - i) f q)
  below_stop b z h =
      let k : n - i ≡ suc (n - (i + 1)) = omega arith in
      rw (k, le-ltb (num o 4 f q) z h)

  pub ascend_end : n ≤ i + 1 → true ≡ ascending (read_times (number o 4) (n - i) f q)
  ascend_end h = go (n - i) refl
    where
      go : (k : ℕ) → n - i ≡ k → true ≡ ascending (read_times (number o 4) (n - i) f q)
      go zero e = rw e
      go (suc zero) e = rw e
      go (suc (suc k)) e = absurd (omega arith)

times_none : (o : Order) (n : ℕ) (f : List ℕ) (p : ℕ) → judge_times (number o 4) n f p ≡ 0
times_none o zero f p = refl
times_none o (suc n) f p = times_none o n f (p + 4)

numbers_end : (o : Order) (n : ℕ) (f : List ℕ) (p : ℕ) → p + sizes (number o 4) (read_times (number o 4) n f p) ≡ p + n * 4
numbers_end o n f p = times_next (number o 4) 4 (λ a. refl) n f p

-- ---- offsets, values and text

module _ (o : Order) (n m : ℕ) (f : List ℕ) (q : ℕ) (h : q + (n * 4 + (n * 4 + m)) ≤ length f) where
  -- what refuses them
  pub body_judge : (table_body o (n, m)).judge f q
      ≡ also (unless (ascending (read_times (number o 4) n f (q + n * 4))) 12)
      (unless (all_below (past_zero (λ i. get_or f (q + n * 4 + n * 4 + i) 0) m) (read_times (number o 4) n f q)) 12)
  unfolding table_body
  body_judge = rw (need_fits (n * 4 + (n * 4 + m)) f q h, times_none o n f q, numbers_end o n f q, times_none o n f (q + n * 4), numbers_end o n f (q + n * 4))

  pub body_unordered : ascending (read_times (number o 4) n f (q + n * 4)) ≡ false → 12 ≡ (table_body o (n, m)).judge f q
  body_unordered e = sym (body_judge ∙ rw e)

  -- t: whether the offsets are below z, one past the last zero
  pub body_ordered : ascending (read_times (number o 4) n f (q + n * 4)) ≡ true
      → (z : ℕ) → z ≡ past_zero (λ i. get_or f (q + n * 4 + n * 4 + i) 0) m → (t : Bool) → all_below z (read_times (number o 4) n f q) ≡ t → unless t 12 ≡ (table_body o (n, m)).judge f q
  body_ordered e z d t b = sym (body_judge ∙ rw (e, sym d, b))

-- ---- the sizes

module _ (w n m : ℕ) where
  pub sizes_many : 65536 < n → false ≡ table_sizes w (n, m)
  sizes_many h = simp (lt-leb n 65536 h, and-false)

  pub sizes_long : 5308416 < m → false ≡ table_sizes w (n, m)
  sizes_long h = simp (lt-leb m 5308416 h, and-false)

  pub sizes_rest : n ≤ 65536 → m ≤ 5308416 → eqb w (8 + (8 * n + m)) ≡ table_sizes w (n, m)
  sizes_rest h k = simp (le-leb n 65536 h, le-leb m 5308416 k, and-true)

pub sizes_say : (w n m : ℕ) → table_sizes w (n, m) ≡ true → w ≡ 8 + (8 * n + m)
sizes_say w n m h = eqb-true w (8 + (8 * n + m)) (and_left (eqb w (8 + (8 * n + m))) (leb n 65536 && leb m 5308416) h)

-- ---- the whole table: n and m are the sizes as read

module _ (o : Order) (w : ℕ) (f : List ℕ) (p : ℕ) where
  short : length f < p + w → 3 ≡ (table o w).judge f p
  unfolding table
  short h = rw (lt-leb (p + w) (length f) h)

  pub table_short : length f < p + w → Judged (table o w) f p (Err CutShort)
  table_short h = refused (table o w) f p CutShort (short h)

  module _ (h : p + w ≤ length f) where
    small : w < 8 → 12 ≡ (table o w).judge f p
    unfolding table
    small b = rw (need_fits w f p h, lt-leb 8 w b)

    pub table_small : w < 8 → Judged (table o w) f p (Err WrongLabelTable)
    table_small b = refused (table o w) f p WrongLabelTable (small b)

    module _ (b : 8 ≤ w) (n m : ℕ) (d : n ≡ num o 4 f p) (e : m ≡ num o 4 f (p + 4)) where
      judged : (table o w).judge f p ≡ also (unless (table_sizes w (n, m)) 12) ((table_body o (n, m)).judge f (p + 8))
      unfolding table table_head
      judged = rw (need_fits w f p h, le-leb 8 w b, add-zero p, need_fits 8 f p (omega arith), d, e)

      ends : p + (8 + (8 * n + m)) ≡ next (table o w) f p
      unfolding table table_head table_body
      ends =
          let k = num o 4 f p in
          let q = p + 8 in
          rw (d, e, add-zero p, length_tab)
          (omega (arith, numbers_end o k f q, numbers_end o k f (q + sizes (number o 4) (read_times (number o 4) k f q))))

      pub table_sizes_lem : table_sizes w (n, m) ≡ false → Judged (table o w) f p (Err WrongLabelTable)
      table_sizes_lem t = refused (table o w) f p WrongLabelTable (sym (judged ∙ rw t))

      module _ (t : table_sizes w (n, m) ≡ true) where
        body : (table_body o (n, m)).judge f (p + 8) ≡ (table o w).judge f p
        body = sym (judged ∙ rw t)

        pub table_refused : (c : Refusal) → number_of c ≡ (table_body o (n, m)).judge f (p + 8) → Judged (table o w) f p (Err c)
        table_refused c u = refused (table o w) f p c (u ∙ body)

        pub table_accepted : 0 ≡ (table_body o (n, m)).judge f (p + 8) → Judged (table o w) f p (Ok (p + w))
        table_accepted u = record { code = u ∙ body; ends = ap (λ (k : ℕ). p + k) (sizes_say w n m t) ∙ ends; inside = h }
