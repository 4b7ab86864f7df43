-- What code answers that reads with the edition and the order of a layout, and the answer that it says.
use mathlib.Core.Path.{◌≡◌, refl, sym, ap, ◌∙◌}
use Prim.Native.Nat.{ℕ}
use mathlib.Core.List.{List}
use mathlib.Core.Bool.{Bool, true, false, cond, false≢true}
use Rattle.std.specs.Prelude.{Option, Some, None, Result, Ok, Err}
use Rattle.std.specs.Option.{ok_or}
use Rattle.format.specs.Number.{order_by}
use Rattle.format.specs.Dta.{Layout}
use Rattle.editions.specs.Editions.{numbers_of}
use Rattle.questions.specs.Readings.{Try}
use Rattle.questions.specs.Ask.{Question, Answer, refused, answer_of, answer_in, in_range, or_refused}
use Rattle.refusal.specs.declared.Refusal.{Refusal}
use Rattle.refusal.specs.declared.Refusal.TheVariants.{NotThere, NotReadable}
use Rattle.refusal.specs.Refusals.{refusal_by}
use Rattle.reading.specs.declared.Opened.{Opened}
use Rattle.reading.specs.Reads.{opened_by, edition_in}
use Rattle.reading.proofs.AnswerLaws.{answer_out, answer_shut, answer_open}
use Rattle.answers.specs.Answers.{opened_if}

-- what is read, or refused with 17
module _ {A : Type 0} where
  pub not_read : (e : Refusal) (o : Option A) → Err e ≡ ok_or o NotReadable → (e ≡ NotReadable) × (None ≡ o)
  not_read e None h = (cc h, refl)
  not_read e (Some x) h = absurd (false≢true (cc h))

  pub is_read : (x : A) (o : Option A) → Ok x ≡ ok_or o NotReadable → Some x ≡ o
  is_read x None h = absurd (false≢true (cc h))
  is_read x (Some y) h = let z : x ≡ y = cc h in ap Some z

-- what is opened, by whether the variable is there and whether the edition is read
module _ (d : Bool) (o : Option Opened) where
  abbrev opens : Result Opened Refusal
  opens = let r = ok_or o NotReadable in cond d r (Err NotThere)

open_is : (x : Opened) (d : Bool) (o : Option Opened) → Ok x ≡ opens d o → (d ≡ true) × (Some x ≡ o)
open_is x false o h = absurd (false≢true (cc h))
open_is x true o h = (refl, is_read x o h)

module _ (f : List ℕ) (l : Layout) (q : Question) where
  -- it is refused before anything is read
  module _ {R : Type 0} (by : Answer → Result R Refusal) (b : (c : ℕ) → by (refused c) ≡ Err (refusal_by c)) where
    pub tells_refused : (e : Refusal) → Err e ≡ opened_if (in_range l q) (edition_in l.release l.order) → Err e ≡ by (answer_of f l q)
    tells_refused e h = go (in_range l q) refl h
      where
        go : (d : Bool) → in_range l q ≡ d → Err e ≡ opens d (opened_by (edition_in l.release l.order)) → Err e ≡ by (answer_of f l q)
        go false i k = let x : e ≡ NotThere = cc k in ap Err x ∙ sym (b 16) ∙ ap by (sym (answer_out f l q i))
        go true i k = let s = not_read e _ k in ap Err s.0 ∙ sym (b 17) ∙ ap by (sym (answer_shut f l q i s.1))

  -- it is read with what is opened
  module _ (o : Opened) (h : Ok o ≡ opened_if (in_range l q) (edition_in l.release l.order)) where
    pub is_open : Some o ≡ opened_by (edition_in l.release l.order)
    is_open = (open_is o (in_range l q) _ h).1

    pub tells_open : {R : Type 0} (by : Answer → R) (t : Try Answer) → t ≡ answer_in (numbers_of o.e) (order_by o.msf) f l q
        → {x : R} → x ≡ by (or_refused t) → x ≡ by (answer_of f l q)
    tells_open by t k s =
        s ∙ ap (λ (y : Try Answer). by (or_refused y)) k ∙ ap by (sym (answer_open f l q (open_is o (in_range l q) _ h).0 o is_open))
