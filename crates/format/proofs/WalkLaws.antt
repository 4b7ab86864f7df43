-- A walk, whose end may depend on what was walked over, is good; and the equations by which a loop over it goes.
use mathlib.Core.Path.{◌≡◌, refl, sym, ap, ◌∙◌, subst}
use Prim.Native.Nat.{ℕ, zero, suc, ◌+◌, ◌*◌, ◌≤◌, ◌<◌}
use native.Mathlib.Nat.{zero-add, add_assoc}
use native.Mathlib.Omega.{arith}
use mathlib.Core.List.{List, [], ◌∷◌, ◌++◌, append-nil, append_assoc}
use mathlib.Core.Bool.{Bool, true, false, cond}
use lib.ListN.{length, length-append}
use lib.Seq.{append_snoc}
use Rattle.format.specs.Slot.{Slot, Fits, Bytes}
use Rattle.format.specs.Grammar.{Sect, also, next, all_slots, sizes, AllRight, judge_walk, read_walk, walk}
use Rattle.format.proofs.SlotLaws.{fits_left, small_append}
use Rattle.format.proofs.Good.{Good, also_left, also_right, also_both, all_sized, all_small, good_bound, good_right, good_append}

module _ {R : ℕ → ℕ → Type 0} {A B : Type 0} (more : List ℕ → ℕ → Bool) (E : Sect A) (T : List A → Sect B)
    (goes : (f : List ℕ) (p : ℕ) (a : A) → E.Right a → Fits f p (E.slots a) → more f p ≡ true)
    (stops : (f : List ℕ) (p : ℕ) (l : List A) (b : B) → (T l).Right b → Fits f p ((T l).slots b) → R (p + (T l).size b) (length f) → more f p ≡ false)
    (some : (a : A) → 0 < E.size a)
    (G : Good 0 ◌≤◌ E) (H : (l : List A) → Good 0 R (T l)) where
  on_end : (k : ℕ) (l : List A) (f : List ℕ) (p : ℕ) (b : B) → (T l).Right b → Fits f p ((T l).slots b) → R (p + (T l).size b) (length f)
      → (judge_walk more E T k l f p ≡ 0) × (read_walk more E T k l f p ≡ (l, b))
  on_end zero l f p b r m e = let h = (H l).complete f p b r m e in (h.accepted, λ i. (l, h.read_back i))
  on_end (suc k) l f p b r m e =
      let h = (H l).complete f p b r m e in
      let s = stops f p l b r m e in
      (rw s h.accepted, rw s (λ i. (l, h.read_back i)))

  -- z, the whole list, is l, what was walked over, with n, what is to come
  on_complete : (n : List A) (k : ℕ) (l z : List A) (f : List ℕ) (p : ℕ) (b : B) → l ++ n ≡ z → length f ≤ p + k → AllRight E n → (T z).Right b
      → Fits f p (all_slots E n ++ (T z).slots b) → R (p + (sizes E n + (T z).size b)) (length f)
      → (judge_walk more E T k l f p ≡ 0) × (read_walk more E T k l f p ≡ (z, b))
  on_complete [] k l z f p b y c r q m e =
      let w : z ≡ l = sym y ∙ append-nil l in
      subst (λ (x : List A). (judge_walk more E T k l f p ≡ 0) × (read_walk more E T k l f p ≡ (x, b))) (sym w)
      (on_end k l f p b (subst (λ (x : List A). (T x).Right b) w q) (subst (λ (x : List A). Fits f p ((T x).slots b)) w m)
      (subst (λ (x : List A). R (p + (T x).size b) (length f)) w (rw zero-add at e)))
  on_complete (a ∷ n) zero l z f p b y c r q m e =
      let v = rw append_assoc at m in
      absurd (omega (arith, good_bound E G f p a (fits_left f p (E.slots a) (all_slots E n ++ (T z).slots b) v), some a))
  on_complete (a ∷ n) (suc k) l z f p b y c r q m e =
      let v = rw append_assoc at m in
      let h = fits_left f p (E.slots a) (all_slots E n ++ (T z).slots b) v in
      let d = G.complete f p a r.0 h (good_bound E G f p a h) in
      let g = on_complete n k (l ++ a ∷ []) z f (p + E.size a) b (append_snoc l a n ∙ y) (omega (arith, some a)) r.1 q
      (good_right E G f p a (all_slots E n ++ (T z).slots b) v) (simp add_assoc (simp add_assoc at e)) in
      let s = goes f p a r.0 h in (
        rw s (also_both (E.judge f p) (judge_walk more E T k (l ++ E.read f p ∷ []) f (next E f p)) d.accepted (rw d.read_back g.0)),
        rw (s, d.read_back) g.1,
      )

  -- what is read from p on, after l
  OnSound : List ℕ → ℕ → List A → List A × B → Type 0
  OnSound f p l v =
      (n : List A) × (l ++ n ≡ v.0) × (AllRight E n) × ((T v.0).Right v.1) × (Fits f p (all_slots E n ++ (T v.0).slots v.1))
      × (R (p + (sizes E n + (T v.0).size v.1)) (length f))

  on_sound : (k : ℕ) (l : List A) (f : List ℕ) (p : ℕ) → Bytes f → p ≤ length f → judge_walk more E T k l f p ≡ 0 → OnSound f p l (read_walk more E T k l f p)
  unfolding OnSound
  on_sound zero l f p u z j = let h = (H l).sound f p u (omega arith) j in ([], append-nil l, tt, h.right, h.fits, rw zero-add h.ends)
  on_sound (suc k) l f p u z j = go (more f p) refl (on_sound k (l ++ E.read f p ∷ []) f (next E f p) u)
    where
      go : (t : Bool) → more f p ≡ t
          → (next E f p ≤ length f → judge_walk more E T k (l ++ E.read f p ∷ []) f (next E f p) ≡ 0
          → OnSound f (next E f p) (l ++ E.read f p ∷ []) (read_walk more E T k (l ++ E.read f p ∷ []) f (next E f p)))
          → OnSound f p l (read_walk more E T (suc k) l f p)
      go true e ih =
          let i : also (E.judge f p) (judge_walk more E T k (l ++ E.read f p ∷ []) f (next E f p)) ≡ 0 = rw e at j in
          let c = G.sound f p u (omega arith) (also_left (E.judge f p) (judge_walk more E T k (l ++ E.read f p ∷ []) f (next E f p)) i) in
          let g = ih c.ends (also_right (E.judge f p) (judge_walk more E T k (l ++ E.read f p ∷ []) f (next E f p)) i) in
          rw e (
            E.read f p ∷ g.0,
            sym (append_snoc l (E.read f p) g.0) ∙ g.1,
            (c.right, g.2),
            g.3,
            rw append_assoc (good_append E G f p (E.read f p) _ c.fits g.4),
            simp add_assoc (simp add_assoc at g.5),
          )
      go false e ih =
          let i : (T l).judge f p ≡ 0 = rw e at j in
          let h = (H l).sound f p u (omega arith) i in
          rw e ([], append-nil l, tt, h.right, h.fits, rw zero-add h.ends)

  pub walk_good : Good 0 R (walk more E T)
  unfolding OnSound
  walk_good =
      record {
        sized = λ v. length-append (all_slots E v.0) ((T v.0).slots v.1) ∙ rw (all_sized E G v.0, (H v.0).sized v.1);
        small = λ v r. small_append (all_slots E v.0) ((T v.0).slots v.1) (all_small E G v.0 r.0) ((H v.0).small v.1 r.1);
        complete = λ f p v r m e. (let k = on_complete v.0 (length f) [] v.0 f p v.1 refl (omega arith) r.0 r.1 m e in
            record { accepted = k.0; read_back = k.1 });
        sound = λ f p u l j. (let k = on_sound (length f) [] f p u (omega arith) j in
            let n = k.1 in
            record {
              right = (subst (λ (x : List A). AllRight E x) n k.2, k.3);
              fits = subst (λ (x : List A). Fits f p (all_slots E x ++ (T (read_walk more E T (length f) [] f p).0).slots (read_walk more E T (length f) [] f p).1)) n k.4;
              ends = subst (λ (x : List A). R (p + (sizes E x + (T (read_walk more E T (length f) [] f p).0).size (read_walk more E T (length f) [] f p).1)) (length f)) n k.5;
            });
      }

-- a walk unfolds, from what was walked over before: what a loop over it uses. Nothing is asked of the file
module _ {A B : Type 0} (more : List ℕ → ℕ → Bool) (E : Sect A) (T : List A → Sect B)
    (inside : (f : List ℕ) (p : ℕ) → more f p ≡ true → p < length f)
    (some : (a : A) → 0 < E.size a) where
  on_out : (t : Bool) (n : ℕ) (l : List A) (f : List ℕ) (p : ℕ) → more f p ≡ t → length f ≤ p
      → (judge_walk more E T (suc n) l f p ≡ (T l).judge f p) × (read_walk more E T (suc n) l f p ≡ (l, (T l).read f p))
  on_out true n l f p e b = absurd (omega (arith, inside f p e))
  on_out false n l f p e b = (rw e, rw e)

  on_same : (k n : ℕ) (l : List A) (f : List ℕ) (p : ℕ) → length f ≤ p + k → length f ≤ p + n
      → (judge_walk more E T k l f p ≡ judge_walk more E T n l f p) × (read_walk more E T k l f p ≡ read_walk more E T n l f p)
  on_same zero zero l f p b c = (refl, refl)
  on_same zero (suc n) l f p b c = let h = on_out (more f p) n l f p refl (omega arith) in (sym h.0, sym h.1)
  on_same (suc k) zero l f p b c = on_out (more f p) k l f p refl (omega arith)
  on_same (suc k) (suc n) l f p b c =
      let h = on_same k n (l ++ E.read f p ∷ []) f (next E f p) (omega (arith, some (E.read f p))) (omega (arith, some (E.read f p))) in
      (rw h.0, rw h.1)

  pub walk_judge : (l : List A) (f : List ℕ) (p : ℕ)
      → judge_walk more E T (length f) l f p
      ≡ cond (more f p) (also (E.judge f p) (judge_walk more E T (length f) (l ++ E.read f p ∷ []) f (next E f p))) ((T l).judge f p)
  walk_judge l f p = (on_same (length f) (suc (length f)) l f p (omega arith) (omega arith)).0

  pub walk_read : (l : List A) (f : List ℕ) (p : ℕ)
      → read_walk more E T (length f) l f p ≡ cond (more f p) (read_walk more E T (length f) (l ++ E.read f p ∷ []) f (next E f p)) (l, (T l).read f p)
  walk_read l f p = (on_same (length f) (suc (length f)) l f p (omega arith) (omega arith)).1

-- a walk whose end does not depend on what was walked over: the same equations, without it
module _ {A B : Type 0} (more : List ℕ → ℕ → Bool) (E : Sect A) (T : Sect B) where
  forget : (k : ℕ) (l m : List A) (f : List ℕ) (p : ℕ)
      → (judge_walk more E (λ x. T) k l f p ≡ judge_walk more E (λ x. T) k m f p)
      × (read_walk more E (λ x. T) k (l ++ m) f p ≡ (l ++ (read_walk more E (λ x. T) k m f p).0, (read_walk more E (λ x. T) k m f p).1))
  forget zero l m f p = (refl, refl)
  forget (suc k) l m f p = go (more f p) refl (forget k (l ++ E.read f p ∷ []) (m ++ E.read f p ∷ []) f (next E f p)).0 (forget k l (m ++ E.read f p ∷ []) f (next E f p)).1
    where
      go : (t : Bool) → more f p ≡ t
          → judge_walk more E (λ x. T) k (l ++ E.read f p ∷ []) f (next E f p) ≡ judge_walk more E (λ x. T) k (m ++ E.read f p ∷ []) f (next E f p)
          → read_walk more E (λ x. T) k (l ++ (m ++ E.read f p ∷ [])) f (next E f p)
          ≡ (l ++ (read_walk more E (λ x. T) k (m ++ E.read f p ∷ []) f (next E f p)).0, (read_walk more E (λ x. T) k (m ++ E.read f p ∷ []) f (next E f p)).1)
          → (judge_walk more E (λ x. T) (suc k) l f p ≡ judge_walk more E (λ x. T) (suc k) m f p)
          × (read_walk more E (λ x. T) (suc k) (l ++ m) f p ≡ (l ++ (read_walk more E (λ x. T) (suc k) m f p).0, (read_walk more E (λ x. T) (suc k) m f p).1))
      go true e j r = (rw (e, j), rw (e, append_assoc) r)
      go false e j r = (rw e, rw e)

  module _ (inside : (f : List ℕ) (p : ℕ) → more f p ≡ true → p < length f) (some : (a : A) → 0 < E.size a) where
    pub plain_judge : (f : List ℕ) (p : ℕ)
        → (walk more E (λ x. T)).judge f p ≡ cond (more f p) (also (E.judge f p) ((walk more E (λ x. T)).judge f (next E f p))) (T.judge f p)
    plain_judge f p =
        walk_judge more E (λ x. T) inside some [] f p
        ∙ ap (λ (j : ℕ). cond (more f p) (also (E.judge f p) j) (T.judge f p)) (forget (length f) (E.read f p ∷ []) [] f (next E f p)).0

    pub plain_read : (f : List ℕ) (p : ℕ)
        → (walk more E (λ x. T)).read f p
        ≡ cond (more f p) (E.read f p ∷ ((walk more E (λ x. T)).read f (next E f p)).0, ((walk more E (λ x. T)).read f (next E f p)).1) ([], T.read f p)
    plain_read f p =
        walk_read more E (λ x. T) inside some [] f p
        ∙ ap (λ (r : List A × B). cond (more f p) r ([], T.read f p)) (forget (length f) (E.read f p ∷ []) [] f (next E f p)).1
