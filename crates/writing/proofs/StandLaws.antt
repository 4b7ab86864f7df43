-- Sections that stand one after another: the next and the rest.
use mathlib.Core.Path.{◌≡◌, refl, sym, ◌∙◌, subst}
use Prim.Native.Nat.{ℕ, ◌+◌, ◌≤◌, ◌<◌}
use native.Mathlib.Omega.{arith}
use mathlib.Core.List.{List, [], ◌∷◌}
use Rattle.format.specs.Slot.{Fits}
use Rattle.format.specs.Grammar.{Sect, all_slots}
use Rattle.format.proofs.SlotLaws.{fits_bound, fits_left, fits_after}
use Rattle.format.proofs.Good.{Good}
use Rattle.writing.specs.Writes.{Stand}

module _ {A : Type 0} {n : ℕ} (E : Sect A) (G : Good n ◌≤◌ E) (some : (a : A) → 0 < E.size a) (f : List ℕ) where
  -- at p, before q: a, and then l
  pub record Next (p q : ℕ) (l : List A) : Type 0 where
    pub first : A
    pub others : List A
    pub is : l ≡ first ∷ others
    pub right : E.Right first
    pub fits : Fits f p (E.slots first)
    pub rest : Stand E f (p + E.size first) q others

  pub stand_next : (p q : ℕ) (l : List A) → Stand E f p q l → p < q → Next p q l
  stand_next p q [] s b = absurd (omega (arith, s.ends))
  stand_next p q (a ∷ l) s b =
      record {
        first = a;
        others = l;
        is = refl;
        right = s.right.0;
        fits = fits_left f p (E.slots a) (all_slots E l) s.fits;
        rest =
            record {
              right = s.right.1;
              fits = fits_after f p (E.size a) (E.slots a) (all_slots E l) (G.sized a) s.fits;
              ends = omega (arith, s.ends);
            };
      }

  -- at q: none
  pub stand_end : (p q : ℕ) (l : List A) → Stand E f p q l → p ≡ q → l ≡ []
  stand_end p q [] s b = refl
  stand_end p q (a ∷ l) s b = absurd (omega (arith, s.ends, some a))

  first_same : (p : ℕ) (a b : A) → E.Right a → E.Right b → Fits f p (E.slots a) → Fits f p (E.slots b) → a ≡ b
  first_same p a b r t m n = sym (back a r m) ∙ back b t n
    where
      back : (c : A) → E.Right c → Fits f p (E.slots c) → E.read f p ≡ c
      back c u v = (G.complete f p c u v (omega (arith, fits_bound f p (E.slots c) v, G.sized c))).read_back

  -- they are determined
  pub stand_same : (p q : ℕ) (l m : List A) → Stand E f p q l → Stand E f p q m → l ≡ m
  unfolding stand_next
  stand_same p q [] m s t = sym (stand_end p q m t (omega (arith, s.ends)))
  stand_same p q (a ∷ l) [] s t = stand_end p q (a ∷ l) s (omega (arith, t.ends))
  stand_same p q (a ∷ l) (b ∷ m) s t =
      let e = first_same p a b s.right.0 t.right.0 (fits_left f p (E.slots a) (all_slots E l) s.fits) (fits_left f p (E.slots b) (all_slots E m) t.fits) in
      let r = (stand_next p q (a ∷ l) s (omega (arith, s.ends, some a))).rest in
      let u = (stand_next p q (b ∷ m) t (omega (arith, t.ends, some b))).rest in
      let v = subst (λ (x : A). Stand E f (p + E.size x) q m) (sym e) u in
      λ i. e i ∷ stand_same (p + E.size a) q l m r v i
