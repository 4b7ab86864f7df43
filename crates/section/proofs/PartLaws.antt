-- A section between tags, from the answers for its first tag and room, its content, and its last tag.
use mathlib.Core.Path.{◌≡◌, refl, sym, ◌∙◌}
use Prim.Native.Nat.{ℕ, zero, suc, ◌+◌, ◌≤◌}
use native.Mathlib.Omega.{arith}
use mathlib.Core.List.{List, []}
use mathlib.Core.Bool.{Bool, true, false, cond}
use lib.ListN.{length}
use Rattle.format.specs.Grammar.{Sect, also, need, next, within, tag, between}
use Rattle.format.specs.Edition.{opening, closing}
use Rattle.format.proofs.StepLaws.{between_judge, between_next}
use Rattle.format.proofs.Good.{need_room}
use Rattle.section.specs.Judged.{Judged}
use Rattle.std.specs.Prelude.{Result, Ok, Err}
use Rattle.std.proofs.lemmas.Result.{IfOk-weaker}
use Rattle.refusal.specs.declared.Refusal.{Refusal}
use Rattle.refusal.specs.Refusals.{number_of}
use Rattle.section.specs.Parts.{Opened}
use Rattle.section.proofs.StepLaws.{some_number}
use Rattle.section.proofs.SeqLaws.{also_first, tag_end}

also_assoc : (a b c : ℕ) → also (also a b) c ≡ also a (also b c)
also_assoc zero b c = refl
also_assoc (suc a) b c = refl

-- the first of two is the refusal, or the second is
pub also_stop : (a b c : ℕ) → a ≡ b → (a ≡ 0 → ⊥) → also b c ≡ a
also_stop zero b c e n = absurd (n refl)
also_stop (suc a) b c e n = rw (sym e)

pub also_on : (a b : ℕ) → a ≡ 0 → also a b ≡ b
also_on a b e = rw e

pub also_right : (a b : ℕ) → also a b ≡ 0 → b ≡ 0
also_right zero b e = e
also_right (suc a) b e = absurd (let z : suc a ≡ 0 = e in omega arith)

module _ {A : Type 0} (l r : List ℕ) (n : ℕ) (S : Sect A) (f : List ℕ) (p : ℕ) where
  -- the section's refusal is that of the first tag and the room, then that of the rest
  parts : (between l r (within n S)).judge f p
      ≡ also (also ((tag l 4).judge f p) (need n f (p + length l))) (also (S.judge f (p + length l)) ((tag r 4).judge f (next S f (p + length l))))
  parts = between_judge l r (within n S) f p ∙ simp also_assoc

  -- the first tag or the room is refused
  pub open_refused : (e : Refusal) → Opened l n f p (Err e) → Judged (between l r (within n S)) f p (Err e)
  open_refused e o = record { code = sym (parts ∙ also_stop (number_of e) _ _ o.code (some_number e)); ends = tt; inside = tt }

  module _ {a : ℕ} (o : Opened l n f p (Ok a)) where
    -- the content's bytes are there
    pub open_room : a + n ≤ length f
    open_room =
        let h : p + length l + n ≤ length f = need_room n f (p + length l) (also_right ((tag l 4).judge f p) (need n f (p + length l)) (sym o.code)) in
        omega (arith, o.ends)

    -- the content and the last tag decide
    on : (between l r (within n S)).judge f p ≡ also (S.judge f a) ((tag r 4).judge f (next S f a))
    on = parts ∙ rw (sym o.code, o.ends)

    pub content_refused : (e : Refusal) → number_of e ≡ S.judge f a → Judged (between l r (within n S)) f p (Err e)
    content_refused e h = record { code = sym (on ∙ also_stop (number_of e) _ _ h (some_number e)); ends = tt; inside = tt }

    pub close_judged : (b : ℕ) (s : Result ℕ Refusal) → 0 ≡ S.judge f a → b ≡ next S f a → Judged (tag r 4) f b s → Judged (between l r (within n S)) f p s
    close_judged b s h g k =
        record {
          code = k.code ∙ rw g (sym (on ∙ rw (sym h)));
          ends = IfOk-weaker s _ _ (λ x y. y ∙ sym (tag_end r 4 f b) ∙ rw (g, o.ends) (sym (between_next l r (within n S) f p))) k.ends;
          inside = k.inside;
        }

-- ---- a content that takes care of its own room

module _ {A : Type 0} (l r : List ℕ) (S : Sect A) (f : List ℕ) (p : ℕ) where
  pub first_refused : (e : Refusal) → Judged (tag l 4) f p (Err e) → Judged (between l r S) f p (Err e)
  first_refused e o =
      record { code = also_first (number_of e) ((tag l 4).judge f p) _ o.code (some_number e) ∙ sym (between_judge l r S f p); ends = tt; inside = tt }

  module _ {a : ℕ} (o : Judged (tag l 4) f p (Ok a)) where
    here : a ≡ p + length l
    here = o.ends ∙ sym (tag_end l 4 f p)

    passed : (between l r S).judge f p ≡ also (S.judge f a) ((tag r 4).judge f (next S f a))
    passed = between_judge l r S f p ∙ rw (sym o.code, here)

    -- the content is refused
    pub part_refused : (e : Refusal) → Judged S f a (Err e) → Judged (between l r S) f p (Err e)
    part_refused e j = record { code = also_first (number_of e) (S.judge f a) _ j.code (some_number e) ∙ sym passed; ends = tt; inside = tt }

    -- it is right: the last tag decides
    pub part_judged : {b : ℕ} → Judged S f a (Ok b) → (s : Result ℕ Refusal) → Judged (tag r 4) f b s → Judged (between l r S) f p s
    part_judged {b} j s k =
        record {
          code = k.code ∙ rw j.ends (sym (passed ∙ rw (sym j.code)));
          ends = IfOk-weaker s _ _ (λ x y. y ∙ sym (tag_end r 4 f b) ∙ rw (j.ends, here) (sym (between_next l r S f p))) k.ends;
          inside = k.inside;
        }

-- the tags of an edition that is tagged or not
pub part_by : {A : Type 0} (t : Bool) (n : List ℕ) (S : Sect A) (f : List ℕ) (p : ℕ) (r : Result ℕ Refusal)
    → Judged (between (cond t (opening true n) []) (cond t (closing true n) []) S) f p r → Judged (between (opening t n) (closing t n) S) f p r
part_by true n S f p r j = j
part_by false n S f p r j = j
