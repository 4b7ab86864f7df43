-- Records of long strings, step by step.
use mathlib.Core.Path.{◌≡◌, refl, sym, ap, ◌∙◌, subst}
use Prim.Native.Nat.{ℕ, zero, suc, ◌+◌, ◌≤◌, ◌<◌}
use native.Mathlib.Omega.{arith}
use mathlib.Core.List.{List}
use mathlib.Core.Bool.{Bool, true, false, cond, ◌&&◌, and-false}
use lib.ListN.{length, get_or, get_or-eq_default}
use lib.Dec.{eqb, leb}
use borrow.Author.Tests.{eq-eqb, ne_eqb, le-leb, lt-leb, leb-true, leb-false}
use Rattle.format.specs.Number.{Order, num, tab}
use Rattle.format.specs.Grammar.{Sect, also, need, next, same_at, tag, text_at}
use Rattle.format.specs.Edition.{t_gso}
use Rattle.format.specs.Data.{LongString, long_next, long_head, long_record}
use Rattle.format.proofs.Good.{and_left, and_right, also_right, need_room}
use Rattle.std.specs.Prelude.{Ok, Err}
use Rattle.refusal.specs.declared.Refusal.TheVariants.{CutShort}
use Rattle.section.specs.Judged.{Judged}
use Rattle.section.proofs.StepLaws.{refused}
use Rattle.strls.specs.declared.Frame.{Frame}
use Rattle.strls.specs.Records.{order_of, head_size, kind_ok, kind_at, len_at, pair_at, record_ok}
use Rattle.strls.specs.Links.{Turn, broken, record_step}

three : (a b c : Bool) → ((a && b) && c) ≡ (a && (b && (c && true)))
three true true true = refl
three true true false = refl
three true false c = refl
three false b c = refl

-- ---- whether a record is next

module _ (t : Bool) (f : List ℕ) (p : ℕ) where
  pub next_none : t ≡ false → false ≡ long_next t f p
  next_none h = rw h

  pub next_out : length f < p + 3 → false ≡ long_next t f p
  next_out h = let e : get_or f (suc (suc p)) 0 ≡ 0 = get_or-eq_default f 0 (omega arith) in rw (e, and-false, and-false, and-false)

  pub next_same : t ≡ true → ((eqb (get_or f p 0) 71 && eqb (get_or f (p + 1) 0) 83) && eqb (get_or f (p + 2) 0) 79) ≡ long_next t f p
  next_same h =
      let a : p + 1 ≡ suc p = omega arith in
      let b : p + 2 ≡ suc (suc p) = omega arith in
      rw (h, a, b) (three (eqb (get_or f p 0) 71) (eqb (get_or f (suc p) 0) 83) (eqb (get_or f (suc (suc p)) 0) 79))

  pub next_in : long_next t f p ≡ true → p + 3 ≤ length f
  next_in h = go (leb (p + 3) (length f)) refl
    where
      go : (b : Bool) → leb (p + 3) (length f) ≡ b → p + 3 ≤ length f
      go true q = leb-true (p + 3) (length f) q
      go false q = absurd (subst (λ (b : Bool). cond b (Unit {0}) ⊥) (sym h ∙ sym (next_out (leb-false (p + 3) (length f) q))) tt)

-- ---- two numbers

module _ (o : Order) (f : List ℕ) (p v x : ℕ) where
  module _ (vw ow : ℕ) where
    pub pair_no : (num o vw f p ≡ v → ⊥) → false ≡ pair_at o vw ow f p v x
    pair_no h = rw (ne_eqb (num o vw f p) v h)

    pub pair_yes : num o vw f p ≡ v → eqb (num o ow f (p + vw)) x ≡ pair_at o vw ow f p v x
    pair_yes h = rw (eq-eqb (num o vw f p) v h)

    -- widths that are known
    pub pair_as : (m n : ℕ) → vw ≡ m → ow ≡ n → pair_at o m n f p v x ≡ pair_at o vw ow f p v x
    pair_as m n a b = rw (a, b)

-- ---- contents by kind

module _ (f : List ℕ) (p kind n : ℕ) where
  pub kind_any : kind ≡ 129 → true ≡ kind_ok f p kind n
  kind_any e = rw (eq-eqb kind 129 e)

  pub kind_none : (kind ≡ 129 → ⊥) → (kind ≡ 130 → ⊥) → false ≡ kind_ok f p kind n
  kind_none a b = rw (ne_eqb kind 129 a, ne_eqb kind 130 b)

  pub kind_short : (kind ≡ 129 → ⊥) → kind ≡ 130 → n < 2 → false ≡ kind_ok f p kind n
  kind_short a b h = rw (ne_eqb kind 129 a, eq-eqb kind 130 b, lt-leb 2 n h)

  pub kind_text : (kind ≡ 129 → ⊥) → kind ≡ 130 → 2 ≤ n → eqb (suc (length (text_at n f p))) n ≡ kind_ok f p kind n
  kind_text a b h = rw (ne_eqb kind 129 a, eq-eqb kind 130 b, le-leb 2 n h)

-- ---- the record of a cell

module _ (f : List ℕ) (d : Frame) (q v x : ℕ) where
  abbrev h : ℕ
  h = head_size d

  abbrev step : Turn
  step = record_step f d q v x

  pub rec_short : length f < q + h → broken ≡ step
  unfolding record_ok
  rec_short c = rw (lt-leb (q + h) (length f) c)

  module _ (c : q + h ≤ length f) where
    pub rec_gso : long_next d.tagged f q ≡ false → broken ≡ step
    unfolding record_ok
    rec_gso g = rw (le-leb (q + h) (length f) c, g)

    module _ (g : long_next d.tagged f q ≡ true) where
      pub rec_other : pair_at (order_of d) 4 d.rwidth f (q + 3) v x ≡ false → broken ≡ step
      unfolding record_ok
      rec_other a = rw (le-leb (q + h) (length f) c, g, a)

      module _ (a : pair_at (order_of d) 4 d.rwidth f (q + 3) v x ≡ true) where
        pub rec_cut : length f < q + h + len_at f d q → broken ≡ step
        unfolding record_ok
        rec_cut e = rw (le-leb (q + h) (length f) c, g, a, lt-leb (q + h + len_at f d q) (length f) e)

        pub rec_kind : q + h + len_at f d q ≤ length f → cond (kind_ok f (q + h) (kind_at f d q) (len_at f d q)) (Ok (q + (h + len_at f d q))) broken ≡ step
        unfolding record_ok
        rec_kind e = rw (le-leb (q + h) (length f) c, g, a, le-leb (q + h + len_at f d q) (length f) e)

        -- the same of numbers in hand
        pub rec_is : (n k : ℕ) → n ≡ len_at f d q → k ≡ kind_at f d q → q + h + n ≤ length f → (b : Bool) → b ≡ kind_ok f (q + h) k n → cond b (Ok (q + (h + n))) broken ≡ step
        rec_is n k e i r b z =
            ap (λ (y : Bool). cond y (Ok (q + (h + n))) broken) z
            ∙ ap (λ (y : ℕ). cond (kind_ok f (q + h) y n) (Ok (q + (h + n))) broken) i
            ∙ ap (λ (y : ℕ). cond (kind_ok f (q + h) (kind_at f d q) y) (Ok (q + (h + y))) broken) e
            ∙ rec_kind (omega (arith, e))

-- ---- a record, in the grammar

pub tab_length : (n : ℕ) (s : ℕ → ℕ) → length (tab n s) ≡ n
tab_length zero s = refl
tab_length (suc n) s = ap suc (tab_length n (λ i. s (suc i)))

abbrev pub Lo : Frame → Sect LongString
Lo d = long_record d.tagged (order_of d) d.rwidth

module _ (f : List ℕ) (d : Frame) where
  -- the record at q
  unfoldable pub long_at : ℕ → LongString
  long_at q =
      record {
        v = num (order_of d) 4 f (q + 3);
        o = num (order_of d) d.rwidth f (q + 7);
        kind = kind_at f d q;
        contents = tab (len_at f d q) (λ i. get_or f (q + head_size d + i) 0);
      }

  pub long_read : (p : ℕ) → (Lo d).read f p ≡ long_at p
  unfolding long_record long_head tag long_at
  long_read p =
      let o = order_of d in
      let w = d.rwidth in
      let a : p + 3 + 4 ≡ p + 7 = omega arith in
      let b : p + 3 + 4 + w ≡ p + (7 + w) = omega arith in
      let c : p + 3 + 4 + w + 1 ≡ p + (8 + w) = omega arith in
      let e : p + 3 + (4 + (w + 5)) ≡ p + (12 + w) = omega arith in
      λ i. record {
        v = num o 4 f (p + 3);
        o = num o w f (a i);
        kind = num o 1 f (b i);
        contents = tab (num o 4 f (c i)) (λ j. get_or f (e i + j) 0);
      }

  pub long_next_lem : (p : ℕ) → next (Lo d) f p ≡ p + (head_size d + len_at f d p)
  unfolding long_record long_head tag long_at
  long_next_lem p =
      ap (λ (r : LongString). p + (Lo d).size r) (long_read p)
      ∙ omega (arith, tab_length (len_at f d p) (λ i. get_or f (p + head_size d + i) 0))

  pub long_some : (a : LongString) → 0 < (Lo d).size a
  unfolding long_record long_head tag
  long_some a = omega arith

  module _ (p : ℕ) (g : long_next d.tagged f p ≡ true) where
    tagged : d.tagged ≡ true
    tagged = and_left d.tagged (same_at t_gso f p) g

    same : same_at t_gso f p ≡ true
    same = and_right d.tagged (same_at t_gso f p) g

    len_is : num (order_of d) 4 f (p + 3 + 4 + d.rwidth + 1) ≡ len_at f d p
    len_is = ap (λ (q : ℕ). num (order_of d) 4 f q) (omega arith)

    long_judge : (Lo d).judge f p ≡ also (need (4 + (d.rwidth + 5)) f (p + 3)) (need (len_at f d p) f (p + 3 + (4 + (d.rwidth + 5))))
    unfolding long_record long_head tag
    long_judge = rw (le-leb (p + 3) (length f) (next_in d.tagged f p g), same, tagged, len_is) (ends (need (4 + (d.rwidth + 5)) f (p + 3)) (need (len_at f d p) f (p + 3 + (4 + (d.rwidth + 5)))))
      where
        ends : (a b : ℕ) → also (also (also a 0) (also b 0)) 0 ≡ also a b
        ends zero zero = refl
        ends zero (suc b) = refl
        ends (suc a) b = refl

    module _ (b : p ≤ length f) where
      pub long_short : length f < p + head_size d → Judged (Lo d) f p (Err CutShort)
      long_short h =
          refused (Lo d) f p CutShort (sym (long_judge ∙ rw (lt-leb (p + 3 + (4 + (d.rwidth + 5))) (length f) (omega arith))))

      module _ (h : p + head_size d ≤ length f) (n : ℕ) (e : n ≡ len_at f d p) where
        pub long_cut : length f < p + head_size d + n → Judged (Lo d) f p (Err CutShort)
        long_cut c =
            refused (Lo d) f p CutShort
            (sym (long_judge ∙ rw (le-leb (p + 3 + (4 + (d.rwidth + 5))) (length f) (omega arith), lt-leb (p + 3 + (4 + (d.rwidth + 5)) + len_at f d p) (length f) (omega (arith, e)))))

        pub long_whole : p + head_size d + n ≤ length f → Judged (Lo d) f p (Ok (p + (head_size d + n)))
        long_whole c =
            record {
              code = sym (long_judge ∙ rw (le-leb (p + 3 + (4 + (d.rwidth + 5))) (length f) (omega arith), le-leb (p + 3 + (4 + (d.rwidth + 5)) + len_at f d p) (length f) (omega (arith, e))));
              ends = ap (λ (m : ℕ). p + (head_size d + m)) e ∙ sym (long_next_lem p);
              inside = omega arith;
            }

    -- a record that is right is whole
    pub long_there : (Lo d).judge f p ≡ 0 → p + head_size d + len_at f d p ≤ length f
    long_there z =
        let j : also (need (4 + (d.rwidth + 5)) f (p + 3)) (need (len_at f d p) f (p + 3 + (4 + (d.rwidth + 5)))) ≡ 0 = sym long_judge ∙ z in
        omega (arith, need_room (len_at f d p) f (p + 3 + (4 + (d.rwidth + 5))) (also_right (need (4 + (d.rwidth + 5)) f (p + 3)) (need (len_at f d p) f (p + 3 + (4 + (d.rwidth + 5)))) j))
