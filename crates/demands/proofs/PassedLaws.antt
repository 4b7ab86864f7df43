-- A walk, by what was passed: where it stops, and what gives its number there.
use mathlib.Core.Path.{◌≡◌, refl, sym, ap, ◌∙◌, subst}
use Prim.Native.Nat.{ℕ, zero, suc, ◌+◌, ◌≤◌, ◌<◌}
use native.Mathlib.Nat.{add-zero}
use native.Mathlib.Omega.{arith}
use mathlib.Core.List.{List, [], ◌∷◌, ◌++◌, append-nil}
use mathlib.Core.Logic.{◌⊎◌, inl, inr}
use mathlib.Core.Bool.{Bool, true, false}
use lib.ListN.{length}
use lib.Seq.{append_snoc}
use Rattle.format.specs.Grammar.{Sect, also, next, sizes, judge_walk, read_walk}
use Rattle.format.proofs.WalkLaws.{walk_judge, walk_read}
use Rattle.demands.specs.Reasons.{Passed, none, one}

module _ {A B : Type 0} (more : List ℕ → ℕ → Bool) (E : Sect A) (T : List A → Sect B)
    (inside : (f : List ℕ) (p : ℕ) → more f p ≡ true → p < length f) (some : (a : A) → 0 < E.size a) (f : List ℕ) where
  -- what was passed is right: the number is that of the rest
  pub passed_judge : (p : ℕ) (m : List A) (q : ℕ) → Passed more E f p m q → (l : List A)
      → judge_walk more E T (length f) l f p ≡ judge_walk more E T (length f) (l ++ m) f q
  passed_judge p m q none l = ap (λ (x : List A). judge_walk more E T (length f) x f p) (sym (append-nil l))
  passed_judge p m q (one {l = n} h j r) l =
      walk_judge more E T inside some l f p
      ∙ rw (h, j) (passed_judge (next E f p) n q r (l ++ E.read f p ∷ []) ∙ ap (λ (x : List A). judge_walk more E T (length f) x f q) (append_snoc l (E.read f p) n))

  -- what is read is what was passed, and the end
  pub passed_read : (p : ℕ) (m : List A) (q : ℕ) → Passed more E f p m q → more f q ≡ false → (l : List A)
      → read_walk more E T (length f) l f p ≡ (l ++ m, (T (l ++ m)).read f q)
  passed_read p m q none g l = walk_read more E T inside some l f p ∙ rw (g, append-nil l)
  passed_read p m q (one {l = n} h j r) g l =
      walk_read more E T inside some l f p
      ∙ rw h (passed_read (next E f p) n q r g (l ++ E.read f p ∷ []) ∙ ap (λ (x : List A). (x, (T x).read f q)) (append_snoc l (E.read f p) n))

  -- where it ends
  pub passed_sizes : (p : ℕ) (m : List A) (q : ℕ) → Passed more E f p m q → p + sizes E m ≡ q
  passed_sizes p m q none = add-zero p
  passed_sizes p m q (one {l = n} h j r) = omega (arith, passed_sizes (next E f p) n q r)

  -- the end, and a section that is refused
  pub at_end : (q : ℕ) (l : List A) → more f q ≡ false → judge_walk more E T (length f) l f q ≡ (T l).judge f q
  at_end q l g = walk_judge more E T inside some l f q ∙ rw g

  pub at_next : (q : ℕ) (l : List A) → more f q ≡ true
      → judge_walk more E T (length f) l f q ≡ also (E.judge f q) (judge_walk more E T (length f) (l ++ E.read f q ∷ []) f (next E f q))
  at_next q l g = walk_judge more E T inside some l f q ∙ rw g

  -- a walk from p after l with the number v: what was passed, and where it stops
  pub record Stops (p : ℕ) (l : List A) (v : ℕ) : Type 0 where
    pub list : List A
    pub at : ℕ
    pub passed : Passed more E f p list at
    pub why : ((more f at ≡ true) × (E.judge f at ≡ v) × (v ≡ 0 → ⊥)) ⊎ ((more f at ≡ false) × ((T (l ++ list)).judge f at ≡ v))

  stops_by : (k : ℕ) (l : List A) (p v : ℕ) → length f ≤ p + k → judge_walk more E T k l f p ≡ v → Stops p l v
  stops_by zero l p v b h =
      record { list = []; at = p; passed = none; why = inr (out (more f p) refl, subst (λ (x : List A). (T x).judge f p ≡ v) (sym (append-nil l)) h) }
    where
      out : (t : Bool) → more f p ≡ t → more f p ≡ false
      out true e = absurd (omega (arith, inside f p e))
      out false e = e
  stops_by (suc k) l p v b h =
      go (more f p) refl (E.judge f p) refl (stops_by k (l ++ E.read f p ∷ []) (next E f p) v (omega (arith, some (E.read f p))))
    where
      go : (t : Bool) → more f p ≡ t → (x : ℕ) → E.judge f p ≡ x
          → (judge_walk more E T k (l ++ E.read f p ∷ []) f (next E f p) ≡ v → Stops (next E f p) (l ++ E.read f p ∷ []) v) → Stops p l v
      go false e x j ih =
          record { list = []; at = p; passed = none; why = inr (e, subst (λ (x : List A). (T x).judge f p ≡ v) (sym (append-nil l)) (rw e at h)) }
      go true e zero j ih =
          let s = ih (rw (e, j) at h) in
          record {
            list = E.read f p ∷ s.list;
            at = s.at;
            passed = one e j s.passed;
            why = turn s.list s.at s.why;
          }
        where
          turn : (n : List A) (q : ℕ) → ((more f q ≡ true) × (E.judge f q ≡ v) × (v ≡ 0 → ⊥)) ⊎ ((more f q ≡ false) × ((T ((l ++ E.read f p ∷ []) ++ n)).judge f q ≡ v))
              → ((more f q ≡ true) × (E.judge f q ≡ v) × (v ≡ 0 → ⊥)) ⊎ ((more f q ≡ false) × ((T (l ++ E.read f p ∷ n)).judge f q ≡ v))
          turn n q (inl y) = inl y
          turn n q (inr y) = inr (y.0, subst (λ (x : List A). (T x).judge f q ≡ v) (append_snoc l (E.read f p) n) y.1)
      go true e (suc x) j ih =
          let y : suc x ≡ v = rw (e, j) at h in
          record { list = []; at = p; passed = none; why = inl (e, j ∙ y, λ z. omega (arith, y, z)) }

  pub stops : (p : ℕ) (l : List A) (v : ℕ) → judge_walk more E T (length f) l f p ≡ v → Stops p l v
  stops p l v h = stops_by (length f) l p v (omega arith) h
