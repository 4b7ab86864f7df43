-- Runs of answers: 16, the dataset's facts, and nothing from a dead byte.
use mathlib.Core.Path.{◌≡◌, refl, sym, ap, ◌∙◌}
use Prim.Native.Nat.{ℕ, zero, suc, ◌*◌}
use native.Mathlib.Omega.{arith}
use mathlib.Core.List.{List, [], ◌++◌}
use mathlib.Core.Logic.{◌⊎◌, inl, inr}
use mathlib.Core.Bool.{Bool, true, false}
use lib.ListN.{length, drop}
use Rattle.format.specs.Dta.{Layout}
use Rattle.questions.specs.Ask.{Question, Answer, ask_cell, in_range, answer_of}
use Rattle.std.specs.Prelude.{Result, Err}
use Rattle.refusal.specs.declared.Refusal.{Refusal}
use Rattle.refusal.specs.declared.Refusal.TheVariants.{NotThere}
use Rattle.refusal.specs.Refusals.{code_of}
use Rattle.coded.specs.Coded.{numbers_of, told, stored, Tells}
use Rattle.demands.specs.Logic.{Iff}
use Rattle.demands.specs.Demands.{RunGiven}

-- answers that are the same are told as the same numbers
pub told_same : (f g : List ℕ) (l : Layout) (q : ℕ → Question) → ((n : ℕ) → answer_of g l (q n) ≡ answer_of f l (q n)) → (n : ℕ) → told g l q n ≡ told f l q n
unfolding told
told_same f g l q h zero = refl
told_same f g l q h (suc n) = ap (λ (t : List ℕ). t ++ numbers_of (answer_of g l (q n))) (told_same f g l q h n) ∙ ap (λ (a : Answer). told f l q n ++ numbers_of a) (h n)

pub run_given : (f : List ℕ) (l : Layout) (i j : ℕ) (q : ℕ → Question) (n : ℕ) (d w : List ℕ) (r : Result ℕ Refusal) → Tells f l i j q n d w r → RunGiven l i j d w r
unfolding told
run_given f l i j q n d w r T = go (in_range l (ask_cell i j)) refl
  where
    none : in_range l (ask_cell i j) ≡ false → r ≡ Err NotThere
    none h = T.answer ∙ rw h

    some : in_range l (ask_cell i j) ≡ true → code_of r ≡ 0
    some h = ap (λ (x : Result ℕ Refusal). code_of x) T.answer ∙ rw h

    number : in_range l (ask_cell i j) ≡ false → code_of r ≡ 16
    number h = ap (λ (x : Result ℕ Refusal). code_of x) (none h)

    count : in_range l (ask_cell i j) ≡ false → stored r ≡ 0
    count h = ap stored (none h)

    go : (b : Bool) → in_range l (ask_cell i j) ≡ b → RunGiven l i j d w r
    go true h =
        record {
          number = inl (some h);
          out_of_range = (λ e. absurd (omega (arith, e, some h)), number);
          untouched = λ e. absurd (omega (arith, e, some h));
        }
    go false h =
        record {
          number = inr (number h);
          out_of_range = (λ e. h, number);
          untouched = λ e. (T.out ∙ ap (λ (m : ℕ). told f l q m ++ drop (m * 4) d) (count h), count h);
        }
