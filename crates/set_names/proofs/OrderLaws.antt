-- The order of names, and names listed in order.
use mathlib.Core.Path.{◌≡◌, refl, sym, ap, ◌∙◌}
use Prim.Native.Nat.{ℕ, zero, suc, ◌-◌, ◌≤◌, ◌<◌}
use native.Mathlib.Omega.{arith}
use mathlib.Core.List.{List, [], ◌∷◌}
use mathlib.Core.Bool.{Bool, true, false, cond, ◌&&◌, false≢true}
use lib.ListN.{length}
use lib.Dec.{eqb, ltb}
use borrow.Author.Tests.{eqb-true, eqb-false, eq-eqb, ne_eqb, ltb-true, ltb-false, lt-ltb, not-true}
use Rattle.format.specs.Dta.{Layout, same_list}
use Rattle.format.proofs.Good.{and_left, and_right}
use Rattle.set_names.specs.Names.{less, name_at, ordered_to, in_order, IsFirst}

-- ---- the order

-- none stands before itself
pub less_same : (s : List ℕ) → less s s ≡ false
less_same [] = refl
less_same (x ∷ s) = rw (eq-eqb x x refl) (less_same s)

-- a before b, and b not after c: a before c
pub less_le : (a b c : List ℕ) → less a b ≡ true → less c b ≡ false → less a c ≡ true
less_le a [] c h k = absurd (false≢true h)
less_le a (y ∷ b) [] h k = absurd (false≢true (sym k))
less_le [] (y ∷ b) (z ∷ c) h k = refl
less_le (x ∷ a) (y ∷ b) (z ∷ c) h k = go (eqb x y) refl (eqb z y) refl (less_le a b c)
  where
    past : x < z → less (x ∷ a) (z ∷ c) ≡ true
    past w = rw (ne_eqb x z (λ e. omega (arith, w, e))) (lt-ltb x z w)

    go : (s : Bool) → eqb x y ≡ s → (t : Bool) → eqb z y ≡ t → (less a b ≡ true → less c b ≡ false → less a c ≡ true) → less (x ∷ a) (z ∷ c) ≡ true
    go true p true q r =
        let h' : less a b ≡ true = ap (λ (b' : Bool). cond b' (less a b) (ltb x y)) (sym p) ∙ h in
        let k' : less c b ≡ false = ap (λ (b' : Bool). cond b' (less c b) (ltb z y)) (sym q) ∙ k in
        rw (eq-eqb x z (eqb-true x y p ∙ sym (eqb-true z y q))) (r h' k')
    go true p false q r =
        let k' : ltb z y ≡ false = ap (λ (b' : Bool). cond b' (less c b) (ltb z y)) (sym q) ∙ k in
        past (omega (arith, ltb-false z y k', eqb-true x y p, eqb-false z y q))
    go false p true q r =
        let h' : ltb x y ≡ true = ap (λ (b' : Bool). cond b' (less a b) (ltb x y)) (sym p) ∙ h in
        past (omega (arith, ltb-true x y h', eqb-true z y q))
    go false p false q r =
        let h' : ltb x y ≡ true = ap (λ (b' : Bool). cond b' (less a b) (ltb x y)) (sym p) ∙ h in
        let k' : ltb z y ≡ false = ap (λ (b' : Bool). cond b' (less c b) (ltb z y)) (sym q) ∙ k in
        past (omega (arith, ltb-true x y h', ltb-false z y k'))

-- a not after b, and b before c: a before c
pub le_less : (a b c : List ℕ) → less b a ≡ false → less b c ≡ true → less a c ≡ true
le_less a b c h k = go (less a c) refl
  where
    go : (t : Bool) → less a c ≡ t → less a c ≡ true
    go true e = e
    go false e = absurd (false≢true (sym h ∙ less_le b c a k e))

-- a not after b, and b not after c: a not after c
pub le_le : (a b c : List ℕ) → less b a ≡ false → less c b ≡ false → less c a ≡ false
le_le a b c h k = go (less c a) refl
  where
    go : (t : Bool) → less c a ≡ t → less c a ≡ false
    go true e = absurd (false≢true (sym k ∙ less_le c a b e h))
    go false e = e

-- two of which neither stands before the other are one
pub less_neither : (a b : List ℕ) → less a b ≡ false → less b a ≡ false → same_list a b ≡ true
less_neither [] [] h k = refl
less_neither [] (y ∷ b) h k = absurd (false≢true (sym h))
less_neither (x ∷ a) [] h k = absurd (false≢true (sym k))
less_neither (x ∷ a) (y ∷ b) h k = go (eqb x y) refl (less_neither a b)
  where
    go : (t : Bool) → eqb x y ≡ t → (less a b ≡ false → less b a ≡ false → same_list a b ≡ true) → same_list (x ∷ a) (y ∷ b) ≡ true
    go true p r =
        let h' : less a b ≡ false = ap (λ (b' : Bool). cond b' (less a b) (ltb x y)) (sym p) ∙ h in
        let k' : less b a ≡ false = ap (λ (b' : Bool). cond b' (less b a) (ltb y x)) (sym (eq-eqb y x (sym (eqb-true x y p)))) ∙ k in
        rw p (r h' k')
    go false p r =
        let h' : ltb x y ≡ false = ap (λ (b' : Bool). cond b' (less a b) (ltb x y)) (sym p) ∙ h in
        let k' : ltb y x ≡ false = ap (λ (b' : Bool). cond b' (less b a) (ltb y x)) (sym (ne_eqb y x (λ e. eqb-false x y p (sym e)))) ∙ k in
        absurd (eqb-false x y p (omega (arith, ltb-false x y h', ltb-false y x k')))

-- equal ones are one list
pub same_is : (a b : List ℕ) → same_list a b ≡ true → a ≡ b
same_is [] [] h = refl
same_is [] (y ∷ b) h = absurd (false≢true h)
same_is (x ∷ a) [] h = absurd (false≢true h)
same_is (x ∷ a) (y ∷ b) h = go (eqb x y) refl (same_is a b)
  where
    go : (t : Bool) → eqb x y ≡ t → (same_list a b ≡ true → a ≡ b) → (x ∷ a) ≡ (y ∷ b)
    go true p r =
        let h' : same_list a b ≡ true = ap (λ (b' : Bool). b' && same_list a b) (sym p) ∙ h in
        ap (λ (z : ℕ). z ∷ a) (eqb-true x y p) ∙ ap (λ (t : List ℕ). y ∷ t) (r h')
    go false p r = absurd (false≢true (ap (λ (b' : Bool). b' && same_list a b) (sym p) ∙ h))

-- one that stands before the other is another
pub less_other : (a b : List ℕ) → less a b ≡ true → same_list a b ≡ false
less_other a b h = go (same_list a b) refl
  where
    go : (t : Bool) → same_list a b ≡ t → same_list a b ≡ false
    go true e = absurd (false≢true (sym (less_same b) ∙ ap (λ (s : List ℕ). less s b) (sym (same_is a b e)) ∙ h))
    go false e = e

pub more_other : (a b : List ℕ) → less b a ≡ true → same_list a b ≡ false
more_other a b h = go (same_list a b) refl
  where
    go : (t : Bool) → same_list a b ≡ t → same_list a b ≡ false
    go true e = absurd (false≢true (sym (less_same b) ∙ ap (λ (s : List ℕ). less b s) (sym (same_is a b e)) ∙ h))
    go false e = e

-- of two others that do not stand in this order, the second stands before the first
pub other_more : (a b : List ℕ) → less a b ≡ false → same_list a b ≡ false → less b a ≡ true
other_more a b h k = go (less b a) refl
  where
    go : (t : Bool) → less b a ≡ t → less b a ≡ true
    go true e = e
    go false e = absurd (false≢true (sym k ∙ less_neither a b h e))

-- ---- names in order

module _ (f : List ℕ) (l : Layout) (v : List ℕ) where
  -- each of the first names is not before the one that it follows
  pub ordered_next : (n : ℕ) → ordered_to f l v n ≡ true → (k : ℕ) → k < n → less (name_at f l v (suc k)) (name_at f l v k) ≡ false
  unfolding ordered_to
  ordered_next zero h k b = absurd (omega (arith, b))
  ordered_next (suc n) h k b = go (eqb k n) refl (ordered_next n (and_left _ _ h))
    where
      go : (t : Bool) → eqb k n ≡ t → ((k : ℕ) → k < n → less (name_at f l v (suc k)) (name_at f l v k) ≡ false) → less (name_at f l v (suc k)) (name_at f l v k) ≡ false
      go true e r = rw (eqb-true k n e) (not-true _ (and_right (ordered_to f l v n) _ h))
      go false e r = r k (omega (arith, b, eqb-false k n e))

  -- none stands before one that is listed before it
  pub ordered_far : in_order f l v ≡ true → (k m : ℕ) → k ≤ m → m < length v → less (name_at f l v m) (name_at f l v k) ≡ false
  ordered_far h k zero a b =
      let e : k ≡ 0 = omega (arith, a) in
      rw e (less_same (name_at f l v 0))
  ordered_far h k (suc m) a b = go (eqb k (suc m)) refl (ordered_far h k m)
    where
      go : (t : Bool) → eqb k (suc m) ≡ t → (k ≤ m → m < length v → less (name_at f l v m) (name_at f l v k) ≡ false) → less (name_at f l v (suc m)) (name_at f l v k) ≡ false
      go true e r = rw (eqb-true k (suc m) e) (less_same (name_at f l v (suc m)))
      go false e r =
          let d = eqb-false k (suc m) e in
          le_le (name_at f l v k) (name_at f l v m) (name_at f l v (suc m)) (r (omega (arith, a, d)) (omega (arith, b)))
          (ordered_next (length v - 1) h m (omega (arith, b)))

  -- ---- the first that is not before s

  module _ (s : List ℕ) (r : ℕ) (i : IsFirst f l v s r) where
    -- none of those before it is s
    pub first_all : (k : ℕ) → k < r → same_list (name_at f l v k) s ≡ false
    first_all k b = less_other (name_at f l v k) s (i.before k b)

    -- from one that is not s on, none is s
    pub run_over : in_order f l v ≡ true → (k : ℕ) → r ≤ k → same_list (name_at f l v k) s ≡ false
        → (m : ℕ) → k ≤ m → m < length v → same_list (name_at f l v m) s ≡ false
    run_over h k a d m b c =
        more_other (name_at f l v m) s
        (less_le s (name_at f l v k) (name_at f l v m) (other_more (name_at f l v k) s (i.after k a (omega (arith, b, c))) d) (ordered_far h k m b c))
