-- A question that asks for the cell first.
use mathlib.Core.Path.{◌≡◌, refl, sym, ap, ◌∙◌}
use Prim.Native.Nat.{ℕ}
use mathlib.Core.List.{List}
use mathlib.Core.Bool.{Bool, true, false, false≢true}
use Rattle.format.specs.Number.{Order, order_by}
use Rattle.format.specs.Edition.{Edition}
use Rattle.format.specs.Cells.{Says}
use Rattle.format.specs.Dta.{Layout}
use Rattle.editions.specs.Editions.{numbers_of}
use Rattle.questions.specs.Readings.{Try, none, got, bind}
use Rattle.questions.specs.Ask.{Question, Answer, refused, cell, or_refused, in_range, answer_of, answer_in, ask_cell, cell_in}
use Rattle.reading.specs.declared.Opened.{Opened}
use Rattle.reading.specs.Reads.{opened_by, edition_in}
use Rattle.reading.proofs.AnswerLaws.{answer_out, answer_shut, answer_open}
use Rattle.cell.specs.declared.Cell.{Cell}
use Rattle.cell.specs.Cells.{says, cell_by}
use Rattle.std.specs.Prelude.{Option, Some, None, Result, Ok, Err}
use Rattle.refusal.specs.declared.Refusal.{Refusal}
use Rattle.refusal.specs.Refusals.{refusal_by}
use Rattle.cells.specs.Cells.{said_by}
use Rattle.cells.proofs.CellLaws.{says_back}

module _ (f : List ℕ) (l : Layout) (i j : ℕ) (x : Question) (k : Edition → Order → Says → Try Answer)
    (same : in_range l x ≡ in_range l (ask_cell i j))
    (then : (e : Edition) (o : Order) → answer_in e o f l x ≡ bind (cell_in e o f l i j) (k e o)) where
  -- what the cell answers decides
  pub data Is : Type 0 where
    away : (c : ℕ) → (c ≡ 0 → ⊥) → answer_of f l (ask_cell i j) ≡ refused c → answer_of f l x ≡ refused c → Is
    here : (s : Says) (q : Opened) → Some q ≡ opened_by (edition_in l.release l.order) → answer_of f l (ask_cell i j) ≡ cell s
        → answer_of f l x ≡ or_refused (k (numbers_of q.e) (order_by q.msf) s) → Is

  pub cases : Is
  cases = go (in_range l (ask_cell i j)) refl (opened_by (edition_in l.release l.order)) refl
    where
      go : (a : Bool) → in_range l (ask_cell i j) ≡ a → (b : Option Opened) → b ≡ opened_by (edition_in l.release l.order) → Is
      go false a b t = away 16 (λ z. absurd (false≢true (cc z))) (answer_out f l (ask_cell i j) a) (answer_out f l x (same ∙ a))
      go true a None t = away 17 (λ z. absurd (false≢true (cc z))) (answer_shut f l (ask_cell i j) a t) (answer_shut f l x (same ∙ a) t)
      go true a (Some q) t = on (cell_in (numbers_of q.e) (order_by q.msf) f l i j) refl
        where
          on : (r : Try Says) → cell_in (numbers_of q.e) (order_by q.msf) f l i j ≡ r → Is
          on none m =
              away 17 (λ z. absurd (false≢true (cc z)))
              (answer_open f l (ask_cell i j) a q t ∙ ap (λ (r : Try Says). or_refused (bind r λ s. got (cell s))) m)
              (answer_open f l x (same ∙ a) q t ∙ ap or_refused (then (numbers_of q.e) (order_by q.msf)) ∙ ap (λ (r : Try Says). or_refused (bind r (k (numbers_of q.e) (order_by q.msf)))) m)
          on (got s) m =
              here s q t
              (answer_open f l (ask_cell i j) a q t ∙ ap (λ (r : Try Says). or_refused (bind r λ s. got (cell s))) m)
              (answer_open f l x (same ∙ a) q t ∙ ap or_refused (then (numbers_of q.e) (order_by q.msf)) ∙ ap (λ (r : Try Says). or_refused (bind r (k (numbers_of q.e) (order_by q.msf)))) m)

  -- .. as the code has it
  pub after_refused : {R : Type 0} (by : Answer → Result R Refusal) → ((c : ℕ) → by (refused c) ≡ Err (refusal_by c))
      → (d : Refusal) → Err d ≡ said_by (answer_of f l (ask_cell i j)) → Err d ≡ by (answer_of f l x)
  after_refused by b d D = go cases
    where
      go : Is → Err d ≡ by (answer_of f l x)
      go (away c u m n) = let z : d ≡ refusal_by c = cc (D ∙ ap said_by m) in ap Err z ∙ sym (b c) ∙ ap by (sym n)
      go (here s q t m n) = absurd (false≢true (cc (D ∙ ap said_by m)))

  pub record After (c : Cell) : Type 0 where
    pub opened : Opened
    pub read : Some opened ≡ opened_by (edition_in l.release l.order)
    pub is : answer_of f l x ≡ or_refused (k (numbers_of opened.e) (order_by opened.msf) (says c))

  pub after_said : (c : Cell) → Ok c ≡ said_by (answer_of f l (ask_cell i j)) → After c
  after_said c C = go cases
    where
      go : Is → After c
      go (away d u m n) = absurd (false≢true (cc (C ∙ ap said_by m)))
      go (here s q t m n) =
          let v : c ≡ cell_by s = cc (C ∙ ap said_by m) in
          let u : says c ≡ s = ap says v ∙ says_back s in
          record { opened = q; read = t; is = n ∙ ap (λ (y : Says). or_refused (k (numbers_of q.e) (order_by q.msf) y)) (sym u) }
