-- An answer as the enum, and the answer to a question.
use mathlib.Core.Path.{◌≡◌, refl, sym, ap, ◌∙◌, subst}
use Prim.Native.Nat.{ℕ}
use mathlib.Core.List.{List, []}
use Rattle.format.specs.Dta.{Layout}
use Rattle.codes.proofs.Laws.{type_back}
use Rattle.questions.specs.Ask as Spec
use Rattle.questions.specs.Ask.{answer_of, shown}
use Rattle.questions.proofs.EachLaws.{Kinds, each_asked}
use Rattle.cells.proofs.CellLaws.{says_back}
use Rattle.answers.specs.declared.Part.{Part}
use Rattle.walks.specs.Answers.{words_by}
use Rattle.std.specs.Prelude.{Option, Result}
use Rattle.refusal.specs.declared.Refusal.{Refusal}
use Rattle.refusal.specs.declared.Refusal.TheVariants.{NotThere, NotReadable}
use Rattle.cell.specs.declared.Cell.{Cell}
use Rattle.cells.specs.Cells.{said_by}
use Rattle.asking.specs.declared.Question as Code
use Rattle.asking.specs.declared.Question.TheVariants as Q
use Rattle.asking.specs.declared.Answer as Told
use Rattle.asking.specs.declared.Answer.TheVariants as A
use Rattle.asking.specs.Asking.{question_by, told_by, answer_by, Asked, by_cell, by_words}

-- the question q is k, whose answer is r, which is x as the enum
pub asked : (f : List ℕ) (l : Layout) {R : Type 0} (by : Spec.Answer → R) (as_enum : R → Told.Answer) {q k : Code.Question} {x : Told.Answer} {r : R}
    → q ≡ k → x ≡ as_enum r → r ≡ by (answer_of f l (question_by k))
    → as_enum (by (Spec.refused 16)) ≡ A.Refused NotThere → as_enum (by (Spec.refused 17)) ≡ A.Refused NotReadable → Kinds (λ a. as_enum (by a) ≡ told_by a) (question_by k)
    → Asked f l q x
asked f l by as_enum {q} {k} {x} {r} e h i a b g =
    subst (λ (y : Code.Question). Asked f l y x) (sym e)
    (h ∙ ap as_enum i ∙ each_asked (λ y. as_enum (by y) ≡ told_by y) f l (question_by k) a b g)

-- an answer that is handed on, as the enum, means what was answered
pub cell_means : (f : List ℕ) (l : Layout) (i j : ℕ) {r : Result Cell Refusal} → r ≡ said_by (answer_of f l (Spec.ask_cell i j)) → answer_by (by_cell r) ≡ answer_of f l (Spec.ask_cell i j)
cell_means f l i j e =
    ap (λ (x : Result Cell Refusal). answer_by (by_cell x)) e ∙ each_asked (λ a. answer_by (by_cell (said_by a)) ≡ a) f l (Spec.ask_cell i j) refl refl (λ s. ap Spec.cell (says_back s))

pub words_means : (f : List ℕ) (l : Layout) (i j : ℕ) {r : Result (Option Part) Refusal} → r ≡ words_by (answer_of f l (Spec.ask_words i j [])) → answer_by (by_words r) ≡ answer_of f l (Spec.ask_words i j [])
words_means f l i j e =
    ap (λ (x : Result (Option Part) Refusal). answer_by (by_words x)) e ∙ each_asked (λ a. answer_by (by_words (words_by a)) ≡ a) f l (Spec.ask_words i j []) refl refl ((λ p n. refl), refl)

-- what an answer of the code means is what was answered
module _ (f : List ℕ) (l : Layout) where
  meant : (q : Spec.Question) → Kinds (λ a. answer_by (told_by a) ≡ a) q → answer_by (told_by (answer_of f l q)) ≡ answer_of f l q
  meant q h = each_asked (λ a. answer_by (told_by a) ≡ a) f l q refl refl h

  pub asked_means : (q : Code.Question) → answer_by (told_by (answer_of f l (question_by q))) ≡ answer_of f l (question_by q)
  asked_means Q.Edition = meant Spec.ask_edition (λ n. refl)
  asked_means Q.Order = meant Spec.ask_order (λ n. refl)
  asked_means Q.Variables = meant Spec.ask_k (λ n. refl)
  asked_means Q.Rows = meant Spec.ask_n (λ n. refl)
  asked_means Q.Label = meant Spec.ask_label (λ p n. refl)
  asked_means Q.Stamp = meant Spec.ask_stamp (λ p n. refl)
  asked_means (Q.Type i) = meant (Spec.ask_type i) (λ t. ap Spec.typed (type_back t))
  asked_means (Q.Name i) = meant (Spec.ask_name i) (λ p n. refl)
  asked_means (Q.Format i) = meant (Spec.ask_format i) (λ p n. refl)
  asked_means (Q.Set i) = meant (Spec.ask_set i) (λ p n. refl)
  asked_means (Q.VarLabel i) = meant (Spec.ask_var_label i) (λ p n. refl)
  asked_means (Q.Date i) = meant (Spec.ask_date i) (λ b. refl)
  asked_means (Q.Sort i) = meant (Spec.ask_sort i) (λ n. refl)
  asked_means (Q.Content i j) = meant (Spec.ask_cell i j) (λ s. ap Spec.cell (says_back s))
  asked_means (Q.LongString i j) = meant (Spec.ask_long i j) (λ k p n. refl)
  asked_means (Q.LabelWords i j) = meant (Spec.ask_words i j []) ((λ p n. refl), refl)
