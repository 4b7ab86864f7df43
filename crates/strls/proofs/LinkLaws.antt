-- References and cells, step by step.
use mathlib.Core.Path.{◌≡◌, refl, sym, ◌∙◌}
use Prim.Native.Nat.{ℕ, suc, ◌+◌, ◌-◌, ◌≤◌, ◌<◌}
use native.Mathlib.Omega.{arith}
use native.Mathlib.Numerals.{add-one}
use mathlib.Core.List.{List}
use mathlib.Core.Bool.{Bool, true, false, ◌||◌, ◌&&◌}
use lib.Dec.{eqb, leb}
use borrow.Author.Tests.{eq-eqb, eqb-true, le-leb, lt-leb, lt-ltb, le-ltb, ne_eqb}
use Rattle.format.specs.Number.{num}
use Rattle.format.proofs.Good.{and_left, and_right}
use Rattle.std.specs.Prelude.{Ok}
use Rattle.strls.specs.declared.Frame.{Frame}
use Rattle.strls.specs.Records.{order_of}
use Rattle.strls.specs.Links.{earlier, place_of, is_long, link_at, self_at, ref_ok, link_ok, broken, record_step, cell_step}

-- ---- whether a cell is (i, j) or earlier

module _ (v x i j : ℕ) where
  pub before_row : x < j → true ≡ earlier v x i j
  before_row h = rw (lt-ltb x j h)

  module _ (h : j ≤ x) where
    pub after_row : (x ≡ j → ⊥) → false ≡ earlier v x i j
    after_row n = rw (le-ltb x j h, ne_eqb x j n)

    pub same_row : x ≡ j → leb v i ≡ earlier v x i j
    same_row e = rw (le-ltb x j h, eq-eqb x j e)

or_first : (s t : Bool) → s ≡ true → true ≡ (s || t)
or_first s t e = rw e

or_none : (s t u : Bool) → s ≡ false → t ≡ false → false ≡ (s || (t && u))
or_none s t u a b = rw (a, b)

or_last : (s t u : Bool) → s ≡ false → t ≡ true → u ≡ (s || (t && u))
or_last s t u a b = rw (a, b)

or_both : (s t u : Bool) → t ≡ true → u ≡ true → true ≡ (s || (t && u))
or_both true t u a b = refl
or_both false t u a b = rw (a, b)

module _ (f : List ℕ) (d : Frame) where
  -- the numbers v and o of the strL cell at p
  abbrev v_at : ℕ → ℕ
  v_at p = num (order_of d) d.vwidth f p

  abbrev o_at : ℕ → ℕ
  o_at p = num (order_of d) d.owidth f (p + d.vwidth)

  -- ---- whether a cell names itself

  module _ (v x : ℕ) where
    pub self_none : v < 1 → false ≡ self_at f d v x
    unfolding self_at
    self_none h = rw (lt-leb 1 v h)

    pub self_past : 1 ≤ v → d.k < v → false ≡ self_at f d v x
    unfolding self_at
    self_past h a = rw (le-leb 1 v h, lt-leb v d.k a)

    module _ (h : 1 ≤ v) (a : v ≤ d.k) where
      pub self_first : x < 1 → false ≡ self_at f d v x
      unfolding self_at
      self_first b = rw (le-leb 1 v h, le-leb v d.k a, lt-leb 1 x b)

      pub self_after : 1 ≤ x → d.n < x → false ≡ self_at f d v x
      unfolding self_at
      self_after b g = rw (le-leb 1 v h, le-leb v d.k a, le-leb 1 x b, lt-leb x d.n g)

      module _ (b : 1 ≤ x) (g : x ≤ d.n) where
        pub self_other : is_long f d (v - 1) ≡ false → false ≡ self_at f d v x
        unfolding self_at
        self_other n = rw (le-leb 1 v h, le-leb v d.k a, le-leb 1 x b, le-leb x d.n g, n)

        pub self_is : is_long f d (v - 1) ≡ true → link_at f d (place_of f d (v - 1) (x - 1)) v x ≡ self_at f d v x
        unfolding self_at
        self_is n = rw (le-leb 1 v h, le-leb v d.k a, le-leb 1 x b, le-leb x d.n g, n)

  -- ---- the reference at p, the cell of variable i in observation j

  module _ (i j p v x : ℕ) (e : p ≡ place_of f d i j) (a : v ≡ v_at p) (b : x ≡ o_at p) where
    ref_is : ref_ok f d v x (i + 1) (j + 1) ≡ link_ok f d i j
    unfolding link_ok
    ref_is = rw (a, b, e, add-one i, add-one j)

    pub ref_empty : link_at f d p 0 0 ≡ true → true ≡ link_ok f d i j
    ref_empty z = or_first (eqb v 0 && eqb x 0) (earlier v x (i + 1) (j + 1) && self_at f d v x) (rw (a, b) z) ∙ ref_is

    -- a cell that names itself is right
    pub ref_own : i < d.k → j < d.n → is_long f d i ≡ true → link_at f d p (i + 1) (j + 1) ≡ true → true ≡ link_ok f d i j
    ref_own h n l z =
        let y : v ≡ i + 1 = a ∙ eqb-true (v_at p) (i + 1) (and_left (eqb (v_at p) (i + 1)) (eqb (o_at p) (j + 1)) z) in
        let w : x ≡ j + 1 = b ∙ eqb-true (o_at p) (j + 1) (and_right (eqb (v_at p) (i + 1)) (eqb (o_at p) (j + 1)) z) in
        let g : v - 1 ≡ i = omega arith in
        let k : x - 1 ≡ j = omega arith in
        let s : link_at f d (place_of f d (v - 1) (x - 1)) v x ≡ true = rw (g, k, ← e, y, w) z in
        let t : earlier v x (i + 1) (j + 1) ≡ true = sym (same_row v x (i + 1) (j + 1) (omega arith) w) ∙ le-leb v (i + 1) (omega arith) in
        let u : self_at f d v x ≡ true = sym (self_is v x (omega arith) (omega arith) (omega arith) (omega arith) (rw g l)) ∙ s in
        or_both (eqb v 0 && eqb x 0) (earlier v x (i + 1) (j + 1)) (self_at f d v x) t u ∙ ref_is

    module _ (z : link_at f d p 0 0 ≡ false) where
      pub ref_late : earlier v x (i + 1) (j + 1) ≡ false → false ≡ link_ok f d i j
      ref_late n = or_none (eqb v 0 && eqb x 0) (earlier v x (i + 1) (j + 1)) (self_at f d v x) (rw (a, b) z) n ∙ ref_is

      pub ref_self : earlier v x (i + 1) (j + 1) ≡ true → self_at f d v x ≡ link_ok f d i j
      ref_self n = or_last (eqb v 0 && eqb x 0) (earlier v x (i + 1) (j + 1)) (self_at f d v x) (rw (a, b) z) n ∙ ref_is

  -- ---- a cell, where the record at q is due

  module _ (i j q : ℕ) where
    pub step_other : is_long f d i ≡ false → Ok q ≡ cell_step f d i j q
    unfolding cell_step
    step_other a = rw a

    module _ (a : is_long f d i ≡ true) where
      pub step_bad : link_ok f d i j ≡ false → broken ≡ cell_step f d i j q
      unfolding cell_step
      step_bad b = rw (a, b)

      module _ (b : link_ok f d i j ≡ true) (p : ℕ) (s : p ≡ place_of f d i j) where
        there : {r : Bool} → link_at f d p (i + 1) (j + 1) ≡ r → link_at f d (place_of f d i j) (suc i) (suc j) ≡ r
        there e = rw (← s, ← add-one i, ← add-one j) e

        pub step_ref : link_at f d p (i + 1) (j + 1) ≡ false → Ok q ≡ cell_step f d i j q
        unfolding cell_step
        step_ref e = rw (a, b, there e)

        pub step_size : link_at f d p (i + 1) (j + 1) ≡ true → record_step f d q (i + 1) (j + 1) ≡ cell_step f d i j q
        unfolding cell_step
        step_size e = rw (a, b, there e, add-one i, add-one j)
