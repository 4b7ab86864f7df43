-- Label and stamp of the header.
use mathlib.Core.Path.{◌≡◌, refl, sym, ap, ◌∙◌}
use Prim.Native.Nat.{ℕ, suc, ◌+◌, ◌*◌}
use native.Mathlib.Omega.{arith}
use native.Mathlib.Nat.{zero-mul}
use native.Mathlib.Numerals.{add-one}
use mathlib.Core.List.{List}
use mathlib.Core.Bool.{Bool, true, false}
use Rattle.format.specs.Number.{Order, order_by}
use Rattle.format.specs.Edition.{Edition}
use Rattle.format.specs.Dta.{Layout}
use Rattle.editions.specs.Editions.{numbers_of}
use Rattle.questions.specs.Ask.{Question, count, answer_of, in_range, or_refused, ask_label, ask_stamp, answer_in, label_in, stamp_in, text_part, counted_part, new_label_place}
use Rattle.reading.specs.declared.Opened.{Opened}
use Rattle.header_facts.specs.Header.{new_stamp}
use Rattle.questions.specs.Readings.{Try, none, got, bind}
use Rattle.std.specs.Prelude.{Result}
use Rattle.refusal.specs.declared.Refusal.{Refusal}
use Rattle.answers.specs.Answers.{number_by}
use Rattle.reading.proofs.AnswerLaws.{answer_in_lem}
use Rattle.reading.specs.Reads.{edition_in}

-- ---- numbers

-- the number that a layout answers, where its edition and order are read
pub number_told : (l : Layout) (q : Question) (v : ℕ) → in_range l q ≡ true → ((e : Edition) (o : Order) (f : List ℕ) → answer_in e o f l q ≡ got (count v))
    → (r : Result ℕ Refusal) → r ≡ number_by (or_refused (bind (edition_in l.release l.order) λ y. got (count v))) → (f : List ℕ) → r ≡ number_by (answer_of f l q)
number_told l q v i a r h f = h ∙ ap number_by (same (edition_in l.release l.order) ∙ sym (answer_in_lem f l q i))
  where
    same : (t : Try (Edition × Order)) → or_refused (bind t λ y. got (count v)) ≡ or_refused (bind t λ y. answer_in y.0 y.1 f l q)
    same none = refl
    same (got y) = ap or_refused (sym (a y.0 y.1 f))

-- ---- where they stand

-- where the label stands in a tagged edition
new_place : (e : Edition) → 90 + e.n_width ≡ new_label_place e
new_place e = omega arith

module _ (f : List ℕ) (l : Layout) (r : Opened) where
  abbrev E : Edition
  E = numbers_of r.e

  abbrev O : Order
  O = order_by r.msf

  pub label_new : r.e.tagged ≡ true → counted_part O E.label_length f (90 + E.n_width) ≡ answer_in E O f l ask_label
  label_new t = ap (counted_part O E.label_length f) (new_place E) ∙ ap (λ (b : Bool). label_in b E O f) (sym t)

  pub label_old : r.e.tagged ≡ false → text_part (E.label_max + 1) f (6 + E.n_width + 0 + 0 * (E.label_max + 1)) ≡ answer_in E O f l ask_label
  label_old t =
      let q : 6 + E.n_width + 0 + 0 * (E.label_max + 1) ≡ 6 + E.n_width = rw (zero-mul (E.label_max + 1)) (omega arith) in
      ap (text_part (E.label_max + 1) f) q ∙ ap (λ (w : ℕ). text_part w f (6 + E.n_width)) (add-one E.label_max) ∙ ap (λ (b : Bool). label_in b E O f) (sym t)

  pub stamp_new : r.e.tagged ≡ true → new_stamp O E.label_length f (90 + E.n_width) ≡ answer_in E O f l ask_stamp
  stamp_new t = ap (new_stamp O E.label_length f) (new_place E) ∙ ap (λ (b : Bool). stamp_in b E O f) (sym t)

  pub stamp_old : r.e.tagged ≡ false → text_part 18 f (6 + E.n_width + (E.label_max + 1) + 0 * 18) ≡ answer_in E O f l ask_stamp
  stamp_old t =
      let q : 6 + E.n_width + (E.label_max + 1) + 0 * 18 ≡ 6 + E.n_width + suc E.label_max = omega arith in
      ap (text_part 18 f) q ∙ ap (λ (b : Bool). stamp_in b E O f) (sym t)
