-- A walk whose end depends on what was walked over.
use mathlib.Core.Path.{◌≡◌, refl, sym, ap, ◌∙◌}
use Prim.Native.Nat.{ℕ, zero, suc, ◌+◌}
use native.Mathlib.Nat.{add-zero}
use native.Mathlib.Omega.{arith}
use mathlib.Core.List.{List, [], ◌∷◌, ◌++◌}
use mathlib.Core.Bool.{Bool, true, false}
use lib.ListN.{length}
use Rattle.format.specs.Grammar.{Sect, also, next, idle, seq, walk, judge_walk, read_walk, sizes}
use Rattle.std.specs.Prelude.{Result}
use Rattle.std.proofs.lemmas.Result.{IfOk-weaker}
use Rattle.refusal.specs.declared.Refusal.{Refusal}
use Rattle.section.specs.Judged.{Judged}

-- it is the walk alone, then its end
module _ {A B : Type 0} (more : List ℕ → ℕ → Bool) (E : Sect A) (T : List A → Sect B) where
  abbrev alone : List A → Sect (Unit {0})
  alone l = idle 0 0

  sizes_snoc : (l : List A) (a : A) → sizes E (l ++ a ∷ []) ≡ sizes E l + E.size a
  sizes_snoc [] a = omega arith
  sizes_snoc (b ∷ l) a = omega (arith, sizes_snoc l a)

  -- with fuel k, after l of which the bytes started at s
  split : (k : ℕ) (l : List A) (f : List ℕ) (s p : ℕ) → s + sizes E l ≡ p
      → (judge_walk more E T k l f p
      ≡ also (judge_walk more E alone k l f p) ((T (read_walk more E alone k l f p).0).judge f (s + sizes E (read_walk more E alone k l f p).0)))
      × (read_walk more E T k l f p
      ≡ ((read_walk more E alone k l f p).0, (T (read_walk more E alone k l f p).0).read f (s + sizes E (read_walk more E alone k l f p).0)))
  split zero l f s p e = (ap (λ (x : ℕ). (T l).judge f x) (sym e), λ i. (l, (T l).read f (sym e i)))
  split (suc k) l f s p e =
      go (more f p) refl (split k (l ++ E.read f p ∷ []) f s (next E f p) (omega (arith, sizes_snoc l (E.read f p))))
    where
      Split : ℕ → List A → ℕ → Type 0
      Split n m q =
          (judge_walk more E T n m f q
          ≡ also (judge_walk more E alone n m f q) ((T (read_walk more E alone n m f q).0).judge f (s + sizes E (read_walk more E alone n m f q).0)))
          × (read_walk more E T n m f q
          ≡ ((read_walk more E alone n m f q).0, (T (read_walk more E alone n m f q).0).read f (s + sizes E (read_walk more E alone n m f q).0)))

      assoc : (a b c : ℕ) → also a (also b c) ≡ also (also a b) c
      assoc zero b c = refl
      assoc (suc a) b c = refl

      go : (t : Bool) → more f p ≡ t → Split k (l ++ E.read f p ∷ []) (next E f p) → Split (suc k) l p
      go true h r = (
        rw h (ap (also (E.judge f p)) r.0
            ∙ assoc (E.judge f p) (judge_walk more E alone k (l ++ E.read f p ∷ []) f (next E f p))
            ((T (read_walk more E alone k (l ++ E.read f p ∷ []) f (next E f p)).0).judge f (s + sizes E (read_walk more E alone k (l ++ E.read f p ∷ []) f (next E f p)).0))),
        rw h r.1,
      )
      go false h r = (rw h (ap (λ (x : ℕ). (T l).judge f x) (sym e)), rw h (λ i. (l, (T l).read f (sym e i))))

  -- so its answer is that of the two in turn
  pub walk_on : (f : List ℕ) (p : ℕ) (r : Result ℕ Refusal) → Judged (seq (walk more E alone) λ v. T v.0) f p r → Judged (walk more E T) f p r
  walk_on f p r j =
      let v = (walk more E alone).read f p in
      let h = split (length f) [] f p p (add-zero p) in
      let e : p + (sizes E v.0 + 0) ≡ p + sizes E v.0 = omega arith in
      record {
        code = j.code ∙ ap (λ (x : ℕ). also ((walk more E alone).judge f p) ((T v.0).judge f x)) e ∙ sym h.0;
        ends = IfOk-weaker r _ _ (λ y z. z
            ∙ ap (λ (x : ℕ). p + (sizes E v.0 + 0 + (T v.0).size ((T v.0).read f x))) e
            ∙ ap (λ (x : ℕ). p + (x + (T v.0).size ((T v.0).read f (p + sizes E v.0)))) (add-zero (sizes E v.0))
            ∙ sym (ap (λ (x : List A × B). p + (sizes E x.0 + (T x.0).size x.1)) h.1)) j.ends;
        inside = j.inside;
      }
