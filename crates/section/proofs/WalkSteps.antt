-- A walk whose end does not depend on what was walked over, step by step: what a loop over it uses.
use mathlib.Core.Path.{◌≡◌, refl, sym, ap, ◌∙◌}
use Prim.Native.Nat.{ℕ, ◌+◌, ◌-◌, ◌≤◌, ◌<◌}
use native.Mathlib.Nat.{zero-add}
use native.Mathlib.Omega.{arith}
use mathlib.Core.List.{List, [], ◌∷◌}
use mathlib.Core.Bool.{Bool, true, false, cond}
use lib.ListN.{length}
use Rattle.format.specs.Grammar.{Sect, also, next, walk, sizes}
use Rattle.format.proofs.WalkLaws.{plain_judge, plain_read}
use Rattle.std.specs.Prelude.{Result, Ok, Err}
use Rattle.std.proofs.lemmas.Result.{IfOk-weaker}
use Rattle.refusal.specs.declared.Refusal.{Refusal}
use Rattle.refusal.specs.Refusals.{number_of}
use Rattle.section.proofs.StepLaws.{some_number}
use Rattle.section.specs.Judged.{Judged}
use Rattle.section.proofs.SeqLaws.{also_first}

module _ {A B : Type 0} (more : List ℕ → ℕ → Bool) (E : Sect A) (T : Sect B)
    (inside : (f : List ℕ) (p : ℕ) → more f p ≡ true → p < length f)
    (some : (a : A) → 0 < E.size a) (f : List ℕ) (p : ℕ) where
  abbrev W : Sect (List A × B)
  W = walk more E (λ x. T)

  judged : (t : Bool) → more f p ≡ t → W.judge f p ≡ cond t (also (E.judge f p) (W.judge f (next E f p))) (T.judge f p)
  judged t h = plain_judge more E T inside some f p ∙ ap (λ (b : Bool). cond b (also (E.judge f p) (W.judge f (next E f p))) (T.judge f p)) h

  abbrev rest : List A × B
  rest = W.read f (next E f p)

  abbrev past : List A × B → ℕ
  past v = p + (sizes E v.0 + T.size v.1)

  ended : (t : Bool) → more f p ≡ t → next W f p ≡ past (cond {A = List A × B} t (E.read f p ∷ rest.0, rest.1) ([], T.read f p))
  ended t h = ap past (plain_read more E T inside some f p ∙ ap (λ (b : Bool). cond {A = List A × B} b (E.read f p ∷ rest.0, rest.1) ([], T.read f p)) h)

  -- one more is refused, or is right and the rest decides
  pub walk_stop : more f p ≡ true → (c : ℕ) → c ≡ E.judge f p → (c ≡ 0 → ⊥) → c ≡ W.judge f p
  walk_stop h c e n = also_first c (E.judge f p) (W.judge f (next E f p)) e n ∙ sym (judged true h)

  pub walk_turn : more f p ≡ true → 0 ≡ E.judge f p → W.judge f p ≡ W.judge f (next E f p)
  walk_turn h e = judged true h ∙ ap (λ (c : ℕ). also c (W.judge f (next E f p))) (sym e)

  pub turn_next : more f p ≡ true → next W f p ≡ next W f (next E f p)
  turn_next h = ended true h ∙ same (E.size (E.read f p)) (sizes E rest.0) (T.size rest.1)
    where
      same : (a b c : ℕ) → p + (a + b + c) ≡ p + a + (b + c)
      same a b c = omega arith

  -- no more: the end decides
  pub walk_last : more f p ≡ false → W.judge f p ≡ T.judge f p
  walk_last h = judged false h

  pub last_next : more f p ≡ false → next W f p ≡ next T f p
  last_next h = ended false h ∙ ap (λ (n : ℕ). p + n) (zero-add (T.size (T.read f p)))

-- a loop over the walk from p on is at q: what is left there has the whole walk's answer and end
pub record Walked {A : Type 0} (W : Sect A) (f : List ℕ) (p q : ℕ) : Type 0 where
  pub inside : q ≤ length f
  pub same : W.judge f q ≡ W.judge f p
  pub ends : next W f q ≡ next W f p

pub walked_start : {A : Type 0} (W : Sect A) (f : List ℕ) (p : ℕ) → p ≤ length f → Walked W f p p
walked_start W f p b = record { inside = b; same = refl; ends = refl }

module _ {A B : Type 0} (more : List ℕ → ℕ → Bool) (E : Sect A) (T : Sect B)
    (inside : (f : List ℕ) (p : ℕ) → more f p ≡ true → p < length f)
    (some : (a : A) → 0 < E.size a) (f : List ℕ) (p q : ℕ) (w : Walked (walk more E (λ x. T)) f p q) where
  abbrev Whole : Sect (List A × B)
  Whole = walk more E (λ x. T)

  module _ (h : more f q ≡ true) where
    -- one more is refused
    pub walked_stop : (e : Refusal) → Judged E f q (Err e) → Judged Whole f p (Err e)
    walked_stop e j = record { code = walk_stop more E T inside some f q h (number_of e) j.code (some_number e) ∙ w.same; ends = tt; inside = tt }

    module _ {s : ℕ} (j : Judged E f q (Ok s)) where
      -- one more is right: the loop goes on after it, with fewer bytes left
      pub walked_turn : Walked Whole f p s
      walked_turn =
          record {
            inside = j.inside;
            same = ap (λ (x : ℕ). Whole.judge f x) j.ends ∙ sym (walk_turn more E T inside some f q h j.code) ∙ w.same;
            ends = ap (λ (x : ℕ). next Whole f x) j.ends ∙ sym (turn_next more E T inside some f q h) ∙ w.ends;
          }

      pub walked_less : length f - s < length f - q
      walked_less = omega (arith, j.ends, j.inside, inside f q h, some (E.read f q))

  -- no more: the end decides
  pub walked_last : more f q ≡ false → (r : Result ℕ Refusal) → Judged T f q r → Judged Whole f p r
  walked_last h r j =
      record {
        code = j.code ∙ sym (walk_last more E T inside some f q h) ∙ w.same;
        ends = IfOk-weaker r _ _ (λ x y. y ∙ sym (last_next more E T inside some f q h) ∙ w.ends) j.ends;
        inside = j.inside;
      }
