-- Which questions are refused, and with which number.
use mathlib.Core.Path.{◌≡◌, refl, sym, ap, ◌∙◌, subst}
use Prim.Native.Nat.{ℕ}
use native.Mathlib.Omega.{arith}
use mathlib.Core.List.{List}
use mathlib.Core.Logic.{◌⊎◌, inl, inr}
use mathlib.Core.Bool.{Bool, true, false, true≢false}
use Rattle.format.specs.Dta.{Layout}
use Rattle.questions.specs.Readings.{Try, none, got}
use Rattle.questions.specs.Ask.{Question, ask_edition, ask_order, ask_k, ask_n, ask_label, ask_stamp, ask_type, ask_name, ask_format, ask_set, ask_var_label, ask_date, ask_sort, ask_column, ask_table, ask_cell, ask_long, ask_words, Answer, refused, in_range, or_refused, answer_of}
use Rattle.questions.proofs.SomeLaws.{Answered}
use Rattle.questions.proofs.EachLaws.{Kinds, Each, each_read}
use Rattle.asking.specs.declared.Question as Code
use Rattle.asking.specs.declared.Answer as Told
use Rattle.asking.specs.declared.Answer.TheVariants as A
use Rattle.asking.specs.Asking.{question_by, told_by, answer_by, Asked}
use Rattle.asking.proofs.AskLaws.{asked_means}
use Rattle.refusal.specs.declared.Refusal.{Refusal}
use Rattle.refusal.specs.declared.Refusal.TheVariants.{NotThere, NotReadable}
use Rattle.refusal.specs.Refusals.{number_of}
use Rattle.demands.proofs.RefusalLaws.{same_refusal}
use Rattle.demands.specs.Logic.{Iff}
use Rattle.demands.specs.Demands.{read_for, AskGiven, ToldGiven}

-- no answer of a question's kind is a refusal
no_refusal : (q : Question) → Kinds Answered q
no_refusal ask_edition = λ n. tt
no_refusal ask_order = λ n. tt
no_refusal ask_k = λ n. tt
no_refusal ask_n = λ n. tt
no_refusal ask_label = λ p n. tt
no_refusal ask_stamp = λ p n. tt
no_refusal (ask_type i) = λ t. tt
no_refusal (ask_name i) = λ p n. tt
no_refusal (ask_format i) = λ p n. tt
no_refusal (ask_set i) = λ p n. tt
no_refusal (ask_var_label i) = λ p n. tt
no_refusal (ask_date i) = λ b. tt
no_refusal (ask_sort i) = λ n. tt
no_refusal (ask_column i) = λ t p n. tt
no_refusal (ask_table i) = λ s. tt
no_refusal (ask_cell i j) = λ s. tt
no_refusal (ask_long i j) = λ k p n. tt
no_refusal (ask_words i j t) = ((λ p n. tt), tt)

-- what is refused: nothing was read, and the number is 17
refusal_is : (t : Try Answer) (c : ℕ) → Each Answered t → or_refused t ≡ refused c → (t ≡ none) × (c ≡ 17)
refusal_is none c h q = (refl, cc (sym q))
refusal_is (got a) c h q = absurd (subst Answered q h.each)

read_some : (t : Try Answer) (a : Answer) → Each Answered t → t ≡ got a → (c : ℕ) → a ≡ refused c → ⊥
read_some t a h e c q = subst Answered q (subst (Each Answered) e h).each

module _ (f : List ℕ) (l : Layout) (q : Question) where
  read_told : Each Answered (read_for f l q)
  read_told = each_read Answered f l q (no_refusal q)

  in_answer : in_range l q ≡ true → answer_of f l q ≡ or_refused (read_for f l q)
  unfolding answer_of
  in_answer h = rw h

  out_answer : in_range l q ≡ false → answer_of f l q ≡ refused 16
  unfolding answer_of
  out_answer h = rw h

  in_none : in_range l q ≡ true → (c : ℕ) → answer_of f l q ≡ refused c → (read_for f l q ≡ none) × (c ≡ 17)
  in_none e c h = refusal_is (read_for f l q) c read_told (sym (in_answer e) ∙ h)

  out_16 : in_range l q ≡ false → (c : ℕ) → answer_of f l q ≡ refused c → c ≡ 16
  out_16 e c h = cc (sym h ∙ out_answer e)

  -- each number for its reason
  given_16 : Iff (answer_of f l q ≡ refused 16) (in_range l q ≡ false)
  given_16 = (λ h. go (in_range l q) refl h, out_answer)
    where
      go : (t : Bool) → in_range l q ≡ t → answer_of f l q ≡ refused 16 → in_range l q ≡ false
      go false e h = e
      go true e h = absurd (omega (arith, (in_none e 16 h).1))

  given_17 : Iff (answer_of f l q ≡ refused 17) ((in_range l q ≡ true) × (read_for f l q ≡ none))
  given_17 = (λ h. go (in_range l q) refl h, λ h. in_answer h.0 ∙ rw h.1)
    where
      go : (t : Bool) → in_range l q ≡ t → answer_of f l q ≡ refused 17 → (in_range l q ≡ true) × (read_for f l q ≡ none)
      go true e h = (e, (in_none e 17 h).0)
      go false e h = absurd (omega (arith, out_16 e 17 h))

  no_other : (c : ℕ) → answer_of f l q ≡ refused c → (c ≡ 16) ⊎ (c ≡ 17)
  no_other c h = go (in_range l q) refl
    where
      go : (t : Bool) → in_range l q ≡ t → (c ≡ 16) ⊎ (c ≡ 17)
      go true e = inr (in_none e c h).1
      go false e = inl (out_16 e c h)

  is_read : (a : Answer) → in_range l q ≡ true → read_for f l q ≡ got a → answer_of f l q ≡ a
  is_read a h k = in_answer h ∙ rw k

pub told_given : {R : Type 0} (by : Answer → R) (f : List ℕ) (l : Layout) (q : Question) (r : R) → r ≡ by (answer_of f l q) → ToldGiven by f l q r
told_given by f l q r h =
    record {
      out_of_range = λ e. h ∙ ap by (out_answer f l q e);
      unread = λ e n. h ∙ ap by ((given_17 f l q).1 (e, n));
      answer = λ a e k. (h ∙ ap by (is_read f l q a e k), read_some (read_for f l q) a (read_told f l q) k);
    }

pub ask_given : (f : List ℕ) (l : Layout) (q : Code.Question) (r : Told.Answer) → Asked f l q r → AskGiven f l q r
ask_given f l q r h =
    record {
      out_of_range = (λ e. (given_16 f l s).0 (back NotThere e), λ e. h ∙ ap told_by ((given_16 f l s).1 e));
      unread = (λ e. (given_17 f l s).0 (back NotReadable e), λ e. h ∙ ap told_by ((given_17 f l s).1 e));
      number = λ c e. which c (no_other f l s (number_of c) (back c e));
      answer = λ a e k. h ∙ ap told_by (is_read f l s a e k);
    }
  where
    s : Question
    s = question_by q

    back : (c : Refusal) → r ≡ A.Refused c → answer_of f l s ≡ refused (number_of c)
    back c e = sym (asked_means f l q) ∙ ap answer_by (sym h ∙ e)

    which : (c : Refusal) → (number_of c ≡ 16) ⊎ (number_of c ≡ 17) → (c ≡ NotThere) ⊎ (c ≡ NotReadable)
    which c (inl e) = inl (same_refusal c NotThere e)
    which c (inr e) = inr (same_refusal c NotReadable e)
