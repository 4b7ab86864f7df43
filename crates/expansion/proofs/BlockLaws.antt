-- Laws of expansion blocks and characteristics.
use mathlib.Core.Path.{◌≡◌, refl, sym, ap, ◌∙◌}
use Prim.Native.Nat.{ℕ, zero, suc, ◌+◌, ◌≤◌, ◌<◌}
use native.Mathlib.Nat.{add-zero, zero-add}
use native.Mathlib.Omega.{arith}
use mathlib.Core.List.{List}
use mathlib.Core.Bool.{Bool, true, false, not, ◌&&◌, ◌||◌}
use lib.ListN.{length, get_or}
use lib.Dec.{eqb}
use borrow.Author.Tests.{eqb-true, eqb-false, not-true}
use Rattle.format.specs.Number.{Order, msf, num}
use Rattle.format.specs.Grammar.{Sect, also, unless, need, next, seq, tag}
use Rattle.format.specs.Edition.{kind_width, opening, closing, n_characteristics, n_ch}
use Rattle.format.specs.Expansion.{Expansion, expansion_next, expansion_head, expansion_body, expansion, expansions}
use Rattle.format.proofs.Good.{and_left}
use Rattle.std.specs.Prelude.{Result, Ok, Err}
use Rattle.refusal.specs.declared.Refusal.{Refusal}
use Rattle.refusal.specs.declared.Refusal.TheVariants.{CutShort, WrongExpansion}
use Rattle.section.specs.Judged.{Judged}
use Rattle.section.proofs.StepLaws.{refused, need_short, need_there}
use Rattle.expansion.specs.Parts.{contents_of, blocks}
use Rattle.section.proofs.SeqLaws.{seq_on, seq_refused}
use Rattle.section.proofs.TagLaws.{byte_inside}

-- one that is next is in the file
pub next_inside : (t : Bool) (f : List ℕ) (p : ℕ) → expansion_next t f p ≡ true → p < length f
next_inside true f p h = byte_inside 60 f p (eqb-true (get_or f p 0) 60 (and_left (eqb (get_or f p 0) 60) _ h)) (λ y. (let z : ◌≡◌ {A = ℕ} 60 0 = y in omega arith))
next_inside false f p h = byte_inside (get_or f p 0) f p refl (eqb-false (get_or f p 0) 0 (not-true (eqb (get_or f p 0) 0) h))

-- ---- type, length and contents

one_byte : (f : List ℕ) (p : ℕ) → num msf 1 f p ≡ get_or f p 0
one_byte f p = rw (add-zero, zero-add)

-- the test of the type
kind_test : (t : Bool) (f : List ℕ) (p : ℕ) → (t || not (eqb (num msf (kind_width t) f p) 0)) ≡ not (not t && eqb (get_or f p 0) 0)
kind_test true f p = refl
kind_test false f p = rw (one_byte f p)

module _ (t : Bool) (o : Order) (f : List ℕ) (p : ℕ) where
  -- the length of the contents
  abbrev pub length_at : ℕ
  length_at = num o 4 f (p + kind_width t)

  head_short : length f < p + (kind_width t + 4) → (expansion_head t o).judge f p ≡ 3
  unfolding expansion_head
  head_short h = rw (need_short (kind_width t + 4) f p h)

  head_judge : p + (kind_width t + 4) ≤ length f → (expansion_head t o).judge f p ≡ unless (t || not (eqb (num msf (kind_width t) f p) 0)) 9
  unfolding expansion_head
  head_judge h = rw (need_there (kind_width t + 4) f p h)

  head_right : p + (kind_width t + 4) ≤ length f → (expansion_head t o).judge f p ≡ 0 → Judged (expansion_head t o) f p (Ok (p + (kind_width t + 4)))
  unfolding expansion_head
  head_right h e = record { code = sym e; ends = refl; inside = h }

  head_body : (expansion_body ((expansion_head t o).read f p).1).judge f (p + (kind_width t + 4)) ≡ need length_at f (p + (kind_width t + 4))
  unfolding expansion_head expansion_body
  head_body = also_zero (need length_at f (p + (kind_width t + 4)))
    where
      also_zero : (a : ℕ) → also a 0 ≡ a
      also_zero zero = refl
      also_zero (suc a) = refl

  body_next : next (expansion_body ((expansion_head t o).read f p).1) f (p + (kind_width t + 4)) ≡ p + (kind_width t + 4) + length_at
  unfolding expansion_head expansion_body
  body_next = refl

  -- the answers, q being where the contents start and n their length
  pub contents_short : length f < p + (kind_width t + 4) → Judged (contents_of t o) f p (Err CutShort)
  contents_short h = seq_refused (expansion_head t o) (λ x. expansion_body x.1) f p CutShort (refused (expansion_head t o) f p CutShort (sym (head_short h)))

  module _ (h : p + (kind_width t + 4) ≤ length f) where
    judged : (z : Bool) → (not t && eqb (get_or f p 0) 0) ≡ z → (expansion_head t o).judge f p ≡ unless (not z) 9
    judged z k = head_judge h ∙ ap (λ (y : Bool). unless y 9) (kind_test t f p ∙ ap not k)

    pub contents_zero : (not t && eqb (get_or f p 0) 0) ≡ true → Judged (contents_of t o) f p (Err WrongExpansion)
    contents_zero k =
        seq_refused (expansion_head t o) (λ x. expansion_body x.1) f p WrongExpansion (refused (expansion_head t o) f p WrongExpansion (sym (judged true k)))

    module _ (k : (not t && eqb (get_or f p 0) 0) ≡ false) (q n : ℕ) (u : q ≡ p + (kind_width t + 4)) (v : n ≡ length_at) where
      on_body : (r : Result ℕ Refusal) → Judged (expansion_body ((expansion_head t o).read f p).1) f (p + (kind_width t + 4)) r → Judged (contents_of t o) f p r
      on_body r j = seq_on (expansion_head t o) (λ x. expansion_body x.1) f p _ (head_right h (judged false k)) r j

      pub contents_cut : length f < q + n → Judged (contents_of t o) f p (Err CutShort)
      contents_cut l =
          on_body _ (record { code = sym (head_body ∙ need_short length_at f (p + (kind_width t + 4)) (rw (sym u, sym v) l)); ends = tt; inside = tt })

      pub contents_right : q + n ≤ length f → Judged (contents_of t o) f p (Ok (q + n))
      contents_right l =
          on_body _
          (record {
            code = sym (head_body ∙ need_there length_at f (p + (kind_width t + 4)) (rw (sym u, sym v) l));
            ends = rw (u, v) (sym body_next);
            inside = l;
          })

-- ---- what the sections say

-- what follows the opening tag of a block
abbrev pub block_rest : Bool → Order → Sect (Expansion × (Unit {0} × Unit {0}))
block_rest t o = seq (expansion_head t o) λ h. seq (expansion_body h.1) λ c. tag (closing t n_ch) 4

pub block_told : (t : Bool) (o : Order) (f : List ℕ) (p : ℕ) (r : Result ℕ Refusal) → Judged (seq (tag (opening t n_ch) 4) λ a. block_rest t o) f p r → Judged (expansion t o) f p r
unfolding expansion tag
block_told t o f p r j = record { code = j.code; ends = j.ends; inside = j.inside }

pub list_told : (t : Bool) (o : Order) (f : List ℕ) (p : ℕ) (r : Result ℕ Refusal) → Judged (seq (tag (opening t n_characteristics) 4) λ a. blocks t o) f p r → Judged (expansions t o) f p r
unfolding expansions tag
list_told t o f p r j = record { code = j.code; ends = j.ends; inside = j.inside }
