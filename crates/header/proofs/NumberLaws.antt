-- Numbers with a rule, and texts with their length before them.
use mathlib.Core.Path.{◌≡◌, refl, sym, ap, ◌∙◌, subst}
use Prim.Native.Nat.{ℕ, zero, suc, ◌+◌, ◌≤◌, ◌<◌}
use native.Mathlib.Nat.{add-zero}
use native.Mathlib.Omega.{arith}
use mathlib.Core.List.{List}
use mathlib.Core.Bool.{Bool, true, false}
use lib.ListN.{length, get_or}
use lib.Dec.{eqb}
use borrow.Author.Tests.{eqb-true, eqb-false, eq-eqb, ne_eqb}
use Rattle.std.specs.Prelude.{Result, Ok, Err}
use Rattle.refusal.specs.declared.Refusal.{Refusal}
use Rattle.refusal.specs.declared.Refusal.TheVariants.{CutShort, WrongHeader}
use Rattle.format.specs.Number.{Order, tab}
use Rattle.format.specs.Grammar.{Sect, unless, within, raw, ruled, seq, tag, between, text_at, no_zero}
use Rattle.format.specs.Header.{counted}
use Rattle.format.proofs.SlotLaws.{length_tab}
use Rattle.format.proofs.StepLaws.{between_read}
use Rattle.section.specs.Judged.{Judged}
use Rattle.section.proofs.StepLaws.{refused, need_short, need_there}
use Rattle.section.proofs.SeqLaws.{seq_refused, seq_on, tag_end}
use Rattle.header.specs.declared.Rule.{Rule}
use Rattle.header.specs.Rules.{holds, held}
use Rattle.header.specs.Numbers.{Held, Valued}

-- ---- a number with its rule

module _ {o : Order} {w : ℕ} {t : Rule} {f : List ℕ} {p : ℕ} where
  pub held_refused : {e : Refusal} → Held o w t f p (Err e) → Judged (held o w t) f p (Err e)
  held_refused h = record { code = h.code; ends = tt; inside = tt }

  pub held_judged : {n : ℕ} → Held o w t f p (Ok n) → Judged (held o w t) f p (Ok (p + w))
  held_judged h = record { code = h.code; ends = refl; inside = h.room }

-- a section's answer, with the number that it says
pub no_value : {S : Sect ℕ} {f : List ℕ} {p : ℕ} {e : Refusal} → Judged S f p (Err e) → Valued S f p (Err e)
no_value j = record { code = j.code; ends = tt; inside = tt; is = tt }

pub refused_value : {S : Sect ℕ} {f : List ℕ} {p : ℕ} {e : Refusal} → Valued S f p (Err e) → Judged S f p (Err e)
refused_value v = record { code = v.code; ends = tt; inside = tt }

pub judged_value : {S : Sect ℕ} {f : List ℕ} {p : ℕ} {v : ℕ × ℕ} → Valued S f p (Ok v) → Judged S f p (Ok v.0)
judged_value v = record { code = v.code; ends = v.ends; inside = v.inside }

pub part_value : (l r : List ℕ) (S : Sect ℕ) (f : List ℕ) (p : ℕ) {a b n : ℕ} → Judged (tag l 4) f p (Ok a) → n ≡ S.read f a → Judged (between l r S) f p (Ok b)
    → Valued (between l r S) f p (Ok (b, n))
part_value l r S f p o e j =
    record { code = j.code; ends = j.ends; inside = j.inside; is = e ∙ ap (λ (q : ℕ). S.read f q) (o.ends ∙ sym (tag_end l 4 f p)) ∙ sym (between_read l r S f p) }

-- ---- bytes that are not zero

-- no byte is zero exactly if the text among them is as long as they are
pub no_zero_by : (n : ℕ) (f : List ℕ) (p : ℕ) (s : ℕ → ℕ) → ((i : ℕ) → s i ≡ get_or f (p + i) 0) → no_zero (tab n s) ≡ eqb (length (text_at n f p)) n
no_zero_by zero f p s h = refl
no_zero_by (suc n) f p s h = go (eqb (get_or f p 0) 0) refl (no_zero_by n f (suc p) (λ i. s (suc i)) moved)
  where
    first : s 0 ≡ get_or f p 0
    first = h 0 ∙ ap (λ (q : ℕ). get_or f q 0) (add-zero p)

    moved : (i : ℕ) → s (suc i) ≡ get_or f (suc p + i) 0
    moved i = let e : p + suc i ≡ suc p + i = omega arith in h (suc i) ∙ ap (λ (q : ℕ). get_or f q 0) e

    both : (x : ℕ) → eqb (suc x) (suc n) ≡ eqb x n
    both x = pick (eqb x n) refl
      where
        pick : (b : Bool) → eqb x n ≡ b → eqb (suc x) (suc n) ≡ eqb x n
        pick true e = eq-eqb (suc x) (suc n) (ap suc (eqb-true x n e)) ∙ sym e
        pick false e = ne_eqb (suc x) (suc n) (λ q. eqb-false x n e (omega arith)) ∙ sym e

    go : (b : Bool) → eqb (get_or f p 0) 0 ≡ b → no_zero (tab n (λ i. s (suc i))) ≡ eqb (length (text_at n f (suc p))) n
        → no_zero (tab (suc n) s) ≡ eqb (length (text_at (suc n) f p)) (suc n)
    go true e k = rw (first, e) (sym (ne_eqb 0 (suc n) (λ q. omega arith)))
    go false e k = rw (first, e) (k ∙ sym (both (length (text_at n f (suc p)))))

-- n bytes, none zero
abbrev clean : ℕ → Sect (List ℕ)
clean n = within n (ruled (raw n) no_zero 5)

module _ (n : ℕ) (f : List ℕ) (q : ℕ) where
  pub clean_short : length f < q + n → Judged (clean n) f q (Err CutShort)
  clean_short h = refused (clean n) f q CutShort (rw (need_short n f q h))

  module _ (room : q + n ≤ length f) where
    clean_judge : (clean n).judge f q ≡ unless (no_zero ((raw n).read f q)) 5
    clean_judge = rw (need_there n f q room)

    pub clean_right : true ≡ no_zero ((raw n).read f q) → Judged (clean n) f q (Ok (q + n))
    clean_right h =
        record { code = sym (clean_judge ∙ rw (sym h)); ends = ap (λ (x : ℕ). q + x) (sym (length_tab n (λ i. get_or f (q + i) 0))); inside = room }

    pub clean_wrong : false ≡ no_zero ((raw n).read f q) → Judged (clean n) f q (Err WrongHeader)
    clean_wrong h = refused (clean n) f q WrongHeader (sym (clean_judge ∙ rw (sym h)))

-- ---- a text with its length before it

module _ (o : Order) (w : ℕ) (t : Rule) (f : List ℕ) (p : ℕ) where
  by_parts : {r : Result ℕ Refusal} → Judged (seq (held o w t) clean) f p r → Judged (counted o w (holds t)) f p r
  unfolding counted
  by_parts j = record { code = j.code; ends = j.ends; inside = j.inside }

  pub length_refused : {e : Refusal} → Held o w t f p (Err e) → Judged (counted o w (holds t)) f p (Err e)
  length_refused {e} h = by_parts (seq_refused (held o w t) clean f p e (held_refused h))

  pub length_on : {n : ℕ} → Held o w t f p (Ok n) → {r : Result ℕ Refusal} → Judged (clean n) f (p + w) r → Judged (counted o w (holds t)) f p r
  length_on h {r} k = by_parts (seq_on (held o w t) clean f p (p + w) (held_judged h) r (subst (λ (x : ℕ). Judged (clean x) f (p + w) r) h.is k))
