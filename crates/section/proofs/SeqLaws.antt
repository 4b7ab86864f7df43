-- Answers of functions that judge one section after another.
use mathlib.Core.Path.{◌≡◌, refl, sym, ap, ◌∙◌}
use Prim.Native.Nat.{ℕ, zero, suc, ◌+◌, ◌≤◌}
use native.Mathlib.Nat.{add-zero}
use native.Mathlib.Omega.{arith}
use mathlib.Core.List.{List, []}
use lib.ListN.{length}
use Rattle.format.specs.Grammar.{Sect, also, next, seq, tag}
use Rattle.std.specs.Prelude.{Result, Ok, Err}
use Rattle.std.proofs.lemmas.Result.{IfOk-weaker}
use Rattle.refusal.specs.declared.Refusal.{Refusal}
use Rattle.refusal.specs.Refusals.{number_of}
use Rattle.section.specs.Judged.{Judged}
use Rattle.section.proofs.StepLaws.{need_there, tag_room, some_number}

-- a refusal is the first of two
pub also_first : (c a b : ℕ) → c ≡ a → (c ≡ 0 → ⊥) → c ≡ also a b
also_first zero a b e n = absurd (n refl)
also_first (suc c) a b e n = rw (sym e)

module _ {A B : Type 0} (S : Sect A) (T : A → Sect B) (f : List ℕ) (p : ℕ) where
  -- S is refused
  pub seq_refused : (e : Refusal) → Judged S f p (Err e) → Judged (seq S T) f p (Err e)
  seq_refused e j =
      record {
        code = also_first (number_of e) (S.judge f p) ((T (S.read f p)).judge f (next S f p)) j.code (some_number e);
        ends = tt;
        inside = tt;
      }

  -- S is right: what follows decides
  pub seq_on : (q : ℕ) → Judged S f p (Ok q) → (r : Result ℕ Refusal) → Judged (T (S.read f p)) f q r → Judged (seq S T) f p r
  seq_on q j r k =
      let b = T (S.read f p) in
      record {
        code = k.code ∙ ap (λ (x : ℕ). b.judge f x) j.ends ∙ ap (λ (c : ℕ). also c (b.judge f (next S f p))) j.code;
        ends = IfOk-weaker r _ _ (λ x h. h ∙ ap (λ (y : ℕ). next b f y) j.ends ∙ sums p (S.size (S.read f p)) (b.size (b.read f (next S f p)))) k.ends;
        inside = k.inside;
      }
    where
      sums : (a b c : ℕ) → a + b + c ≡ a + (b + c)
      sums a b c = omega arith

-- two sections and a third, in either grouping
pub regroup : {A B C : Type 0} (S : Sect A) (T : A → Sect B) (U : Sect C) (f : List ℕ) (p : ℕ) (r : Result ℕ Refusal) → Judged (seq (seq S T) λ v. U) f p r
    → Judged (seq S λ a. seq (T a) λ b. U) f p r
regroup S T U f p r j =
    let a = S.read f p in
    let b = (T a).read f (next S f p) in
    let e = sums p (S.size a) ((T a).size b) in
    record {
      code = j.code ∙ nested (S.judge f p) ((T a).judge f (next S f p)) (U.judge f (p + (S.size a + (T a).size b)))
          ∙ ap (λ (q : ℕ). also (S.judge f p) (also ((T a).judge f (next S f p)) (U.judge f q))) e;
      ends = IfOk-weaker r _ _ (λ x h. h ∙ ap (λ (q : ℕ). p + (S.size a + (T a).size b + U.size (U.read f q))) e ∙ four p (S.size a) ((T a).size b) (U.size (U.read f (next S f p + (T a).size b)))) j.ends;
      inside = j.inside;
    }
  where
    nested : (a b c : ℕ) → also (also a b) c ≡ also a (also b c)
    nested zero b c = refl
    nested (suc a) b c = refl

    sums : (a b c : ℕ) → a + (b + c) ≡ a + b + c
    sums a b c = omega arith

    four : (a b c d : ℕ) → a + (b + c + d) ≡ a + (b + (c + d))
    four a b c d = omega arith

-- where a tag ends
pub tag_end : (l : List ℕ) (c : ℕ) (f : List ℕ) (p : ℕ) → p + length l ≡ next (tag l c) f p
unfolding tag
tag_end l c f p = refl

-- a tag that is right, and one of no bytes
pub tag_right : (l : List ℕ) (c : ℕ) (f : List ℕ) (p : ℕ) → 0 ≡ (tag l c).judge f p → Judged (tag l c) f p (Ok (p + length l))
tag_right l c f p e = record { code = e; ends = tag_end l c f p; inside = tag_room l c f p (sym e) }

pub tag_none : (c : ℕ) (f : List ℕ) (p : ℕ) → p ≤ length f → Judged (tag [] c) f p (Ok p)
unfolding tag
tag_none c f p b = record { code = rw (need_there 0 f p (omega arith)); ends = sym (add-zero p); inside = b }
