-- Laws of tags.
use mathlib.Core.Path.{◌≡◌, refl, sym, ap, ◌∙◌, subst}
use Prim.Native.Nat.{ℕ, suc, ◌+◌, ◌≤◌, ◌<◌}
use native.Mathlib.Omega.{arith}
use mathlib.Core.List.{List, [], ◌∷◌}
use mathlib.Core.Bool.{Bool, true, false, cond, not}
use lib.ListN.{length, get_or, get_or-eq_default}
use lib.Dec.{eqb, leb}
use borrow.Author.Tests.{eqb-true, eqb-false, ne_eqb, leb-true, leb-false, not-true}
use Rattle.format.specs.Grammar.{also, unless, need, next, no_zero, same_at, tag}
use Rattle.format.specs.Edition.{opening, closing}
use Rattle.format.proofs.Good.{and_left, and_right}
use Rattle.std.specs.Prelude.{Result, Ok, Err}
use Rattle.std.specs.Result.{is_ok}
use Rattle.refusal.specs.declared.Refusal.{Refusal}
use Rattle.refusal.specs.Refusals.{number_of, code_of}
use Rattle.section.specs.Judged.{Judged, Numbered}
use Rattle.section.proofs.StepLaws.{need_there, some_number}

-- a byte that is not zero is in the file
pub byte_inside : (b : ℕ) (f : List ℕ) (p : ℕ) → get_or f p 0 ≡ b → (b ≡ 0 → ⊥) → p < length f
byte_inside b f p e n = go (leb (suc p) (length f)) refl
  where
    go : (t : Bool) → leb (suc p) (length f) ≡ t → p < length f
    go true h = leb-true (suc p) (length f) h
    go false h = absurd (n (sym e ∙ get_or-eq_default f 0 (omega (arith, leb-false (suc p) (length f) h))))

-- so are bytes that are not zero
same_room : (l f : List ℕ) (p : ℕ) → no_zero l ≡ true → p ≤ length f → same_at l f p ≡ true → p + length l ≤ length f
same_room [] f p z b h = omega arith
same_room (x ∷ l) f p z b h =
    let e = eqb-true (get_or f p 0) x (and_left (eqb (get_or f p 0) x) (same_at l f (suc p)) h) in
    let n = eqb-false x 0 (not-true (eqb x 0) (and_left (not (eqb x 0)) (no_zero l) z)) in
    let k = byte_inside x f p e n in
    let r = same_room l f (suc p) (and_right (not (eqb x 0)) (no_zero l) z) (omega arith) (and_right (eqb (get_or f p 0) x) (same_at l f (suc p)) h) in
    omega arith

-- a tag without zeros is right exactly if its bytes are there
pub tag_same : (l : List ℕ) (c : ℕ) (f : List ℕ) (p : ℕ) → no_zero l ≡ true → p ≤ length f → eqb ((tag l (suc c)).judge f p) 0 ≡ same_at l f p
unfolding tag
tag_same l c f p z b = go (same_at l f p) refl (leb (p + length l) (length f)) refl
  where
    go : (t : Bool) → same_at l f p ≡ t → (u : Bool) → leb (p + length l) (length f) ≡ u → eqb (also (need (length l) f p) (unless (same_at l f p) (suc c))) 0 ≡ same_at l f p
    go true h u k = rw (need_there (length l) f p (same_room l f p z b h)) (rw h)
    go false h true k = rw (k, h) (ne_eqb (suc c) 0 (λ y. omega arith))
    go false h false k = rw (k, h)

-- so a test of its answer is one of its bytes
is_right : {A : Type 0} (r : Result A Refusal) → is_ok r ≡ eqb (code_of r) 0
is_right (Ok a) = refl
is_right (Err e) = sym (ne_eqb (number_of e) 0 (some_number e))

pub tag_test : {A : Type 0} (l : List ℕ) (c : ℕ) (f : List ℕ) (p : ℕ) (r : Result A Refusal) → no_zero l ≡ true → p ≤ length f → code_of r ≡ (tag l (suc c)).judge f p → is_ok r ≡ same_at l f p
tag_test l c f p r z b j = is_right r ∙ ap (λ (n : ℕ). eqb n 0) j ∙ tag_same l c f p z b

-- a tag that is refused, but for want of bytes, is refused with its own number
pub tag_own : (l : List ℕ) (c : ℕ) (f : List ℕ) (p n : ℕ) → Numbered (tag l c) f p (Err n) → (n ≡ 3 → ⊥) → c ≡ (tag l c).judge f p
unfolding tag
tag_own l c f p n j e = go (leb (p + length l) (length f)) refl (same_at l f p) refl
  where
    J : ℕ
    J = (tag l c).judge f p

    is : (n ≡ J) × (J ≡ 0 → ⊥)
    is = other (eqb J 0) refl
      where
        with_it : (t : Bool) → eqb J 0 ≡ t → ◌≡◌ {A = Result ℕ ℕ} (Err n) (cond t (Ok (next (tag l c) f p)) (Err J))
        with_it t h = j.code ∙ ap (λ (b : Bool). cond {A = Result ℕ ℕ} b (Ok (next (tag l c) f p)) (Err J)) h

        other : (t : Bool) → eqb J 0 ≡ t → (n ≡ J) × (J ≡ 0 → ⊥)
        other true h = let x : ◌≡◌ {A = Result ℕ ℕ} (Err n) (Ok (next (tag l c) f p)) = with_it true h in absurd cc
        other false h = let x : ◌≡◌ {A = Result ℕ ℕ} (Err n) (Err J) = with_it false h in (cc, eqb-false J 0 h)

    go : (t : Bool) → leb (p + length l) (length f) ≡ t → (u : Bool) → same_at l f p ≡ u → c ≡ also (need (length l) f p) (unless (same_at l f p) c)
    go false h u k = absurd (e (is.0 ∙ rw h))
    go true h true k = absurd (is.1 (rw (h, k)))
    go true h false k = rw (h, k)

-- ---- tags of an edition that is tagged or not

pub opening_by : (t : Bool) (n : List ℕ) → cond t (opening true n) [] ≡ opening t n
opening_by true n = refl
opening_by false n = refl

pub closing_by : (t : Bool) (n : List ℕ) → cond t (closing true n) [] ≡ closing t n
closing_by true n = refl
closing_by false n = refl

-- a tag by its bytes
pub numbered_by : {l m : List ℕ} (c : ℕ) (f : List ℕ) (p : ℕ) (r : Result ℕ ℕ) → l ≡ m → Numbered (tag l c) f p r → Numbered (tag m c) f p r
numbered_by c f p r e j = subst (λ (x : List ℕ). Numbered (tag x c) f p r) e j

pub tag_by : {l m : List ℕ} (c : ℕ) (f : List ℕ) (p : ℕ) (r : Result ℕ Refusal) → l ≡ m → Judged (tag l c) f p r → Judged (tag m c) f p r
tag_by c f p r e j = subst (λ (x : List ℕ). Judged (tag x c) f p r) e j
