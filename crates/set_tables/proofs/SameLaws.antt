-- Texts that are the same.
use mathlib.Core.Path.{◌≡◌, refl, sym, ap, ◌∙◌}
use Prim.Native.Nat.{ℕ, zero, suc, ◌+◌, ◌≤◌}
use native.Mathlib.Omega.{arith}
use mathlib.Core.List.{List, [], ◌∷◌}
use mathlib.Core.Bool.{Bool, true, false, ◌&&◌, and-false}
use lib.ListN.{length, get_or, take, drop, length-drop}
use lib.Seq.{length-take-le, drop-cons}
use lib.Dec.{eqb}
use borrow.Author.Tests.{le-leb, eq-eqb, ne_eqb, eqb-true, eqb-false}
use Rattle.std.specs.Cmp.Lexicographic.{pointwise}
use Rattle.format.specs.Grammar.{same_at}
use Rattle.format.specs.Dta.{same_list}
use Rattle.questions.specs.Ask.{slice}
use Rattle.refusal.specs.declared.Refusal.{Refusal}
use Rattle.answers.specs.Answers.{part_in}
use Rattle.walks.specs.Walks.{same_name}
use Rattle.std.specs.Prelude.{Ok}

pub same_swap : (a b : List ℕ) → same_list a b ≡ same_list b a
same_swap [] [] = refl
same_swap [] (y ∷ b) = refl
same_swap (x ∷ a) [] = refl
same_swap (x ∷ a) (y ∷ b) = go (eqb x y) refl (same_swap a b)
  where
    go : (t : Bool) → eqb x y ≡ t → same_list a b ≡ same_list b a → (eqb x y && same_list a b) ≡ (eqb y x && same_list b a)
    go true e r = rw (e, eq-eqb y x (sym (eqb-true x y e))) r
    go false e r = rw (e, ne_eqb y x (λ q. eqb-false x y e (sym q)))

-- `==` on slices
pub eq_same : (a b : List ℕ) → pointwise eqb a b ≡ same_list a b
eq_same [] [] = refl
eq_same [] (y ∷ b) = refl
eq_same (x ∷ a) [] = refl
eq_same (x ∷ a) (y ∷ b) = ap (λ (t : Bool). eqb x y && t) (eq_same a b)

pub slice_long : (f : List ℕ) (p n : ℕ) → p + n ≤ length f → length (slice f p n) ≡ n
slice_long f p n h = length-take-le n (drop p f) (simp length-drop (omega arith))

-- the bytes of a part that is in the file
pub part_there : (f : List ℕ) (p n : ℕ) {a s : List ℕ} → a ≡ part_in {E = Refusal} f (Ok (record { at = p; len = n })) → p + n ≤ length f → slice f p n ≡ s → a ≡ s
part_there f p n e h k = e ∙ (rw (le-leb (p + n) (length f) h) k)

-- ---- two parts of a file

eqb_suc : (a b : ℕ) → eqb (suc a) (suc b) ≡ eqb a b
eqb_suc a b = go (eqb a b) refl
  where
    go : (t : Bool) → eqb a b ≡ t → eqb (suc a) (suc b) ≡ eqb a b
    go true e = eq-eqb (suc a) (suc b) (ap suc (eqb-true a b e)) ∙ sym e
    go false e = ne_eqb (suc a) (suc b) (λ q. eqb-false a b e (cc q)) ∙ sym e

by : (a b c d : Bool) → (b && c) ≡ d → (b && (a && c)) ≡ (a && d)
by true b c d h = h
by false b c d h = and-false b

same_part : (n : ℕ) (f : List ℕ) (p : ℕ) (s : List ℕ) → p + n ≤ length f → (eqb n (length s) && same_at s f p) ≡ same_list (take n (drop p f)) s
same_part zero f p [] h = refl
same_part zero f p (y ∷ s) h = rw (ne_eqb 0 (suc (length s)) (λ q. omega arith))
same_part (suc n) f p [] h = rw (ne_eqb (suc n) 0 (λ q. omega arith), drop-cons f p 0 (omega arith))
same_part (suc n) f p (y ∷ s) h =
    rw (eqb_suc n (length s), drop-cons f p 0 (omega arith))
    (by (eqb (get_or f p 0) y) (eqb n (length s)) (same_at s f (suc p)) (same_list (take n (drop (suc p) f)) s) (same_part n f (suc p) s (omega arith)))

pub name_slices : (f : List ℕ) (p n a m : ℕ) → p + n ≤ length f → a + m ≤ length f → same_name f p n a m ≡ same_list (slice f p n) (slice f a m)
unfolding same_name
name_slices f p n a m h k =
    ap (λ (x : ℕ). eqb n x && same_at (slice f a m) f p) (sym (slice_long f a m k)) ∙ same_part n f p (slice f a m) h
