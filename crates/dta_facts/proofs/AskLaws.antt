-- Questions by number, and answers as numbers.
use mathlib.Core.Path.{◌≡◌, sym, ap, ◌∙◌}
use Prim.Native.Nat.{ℕ, ◌≤◌, ◌<◌}
use mathlib.Core.List.{List, [], ◌++◌}
use mathlib.Core.Bool.{cond}
use lib.ListN.{length, drop}
use lib.Dec.{eqb}
use native.Mathlib.Omega.{arith}
use borrow.Author.Tests.{le-leb, lt-leb, eq-eqb, ne_eqb}
use Rattle.format.specs.Dta.{Layout, verdict}
use Rattle.questions.specs.Ask.{Question, Answer, ask_words, answer_of, shown}
use Rattle.coded.specs.Coded.{numbers_of}
use Rattle.dta_facts.specs.Exports.{layout_in, question_of, no_question, asked_in, shown_by, code_of, file_code, answered}

-- the question of the number q, where that is k
pub question_case : (i j : ℕ) {q k : ℕ} → q ≡ k → question_of k i j ≡ question_of q i j
question_case i j e = ap (λ (x : ℕ). question_of x i j) (sym e)

-- the answer to it
pub asked_none : (f : List ℕ) (l : Layout) (q i j : ℕ) → 15 < q → no_question ≡ asked_in f l q i j
unfolding asked_in
asked_none f l q i j h = rw (lt-leb q 15 h)

pub asked_some : (f : List ℕ) (l : Layout) (q i j : ℕ) (x : Answer) → q ≤ 15 → x ≡ answer_of f l (question_of q i j) → x ≡ asked_in f l q i j
unfolding asked_in
asked_some f l q i j x h e = rw (le-leb q 15 h) e

pub asked_of : (f : List ℕ) {l m : Layout} {q r : Question} → l ≡ m → q ≡ r → answer_of f l q ≡ answer_of f m r
asked_of f {l} {m} {q} {r} e h = ap (λ (x : Layout). answer_of f x q) e ∙ ap (λ (x : Question). answer_of f m x) h

-- the answer a stored over d, with room for it or not
pub answer_room : (d : List ℕ) (a : Answer) {w n : List ℕ} → 4 ≤ length d → w ≡ n ++ drop 4 d → n ≡ numbers_of a → w ≡ answered a d
answer_room d a h q m = rw (le-leb 4 (length d) h) (q ∙ ap (λ (x : List ℕ). x ++ drop 4 d) m)

pub answer_none : (d : List ℕ) (a : Answer) → length d < 4 → d ≡ answered a d
answer_none d a h = rw (lt-leb 4 (length d) h)

-- what is returned and what is stored, where a is the answer b
pub ask_stored : (d : List ℕ) {a b : Answer} {w : List ℕ} {c : ℕ} → a ≡ b → w ≡ answered a d → c ≡ code_of a → (c ≡ code_of b) × (w ≡ answered b d)
ask_stored d t q e = (e ∙ ap code_of t, q ∙ ap (λ (x : Answer). answered x d) t)

-- the bytes that are shown
module _ (f s t : List ℕ) (q i j : ℕ) where
  pub shown_none : 15 < q → [] ≡ shown_by f s t q i j
  shown_none h = rw (ne_eqb q 15 (omega arith)) (ap (λ (x : Answer). shown f x) (asked_none f (layout_in s) q i j h))

  pub shown_words : {w : List ℕ} {l : Layout} → q ≡ 15 → l ≡ layout_in s → w ≡ shown f (answer_of f l (ask_words i j t)) → w ≡ shown_by f s t q i j
  shown_words {w} {l} e h m = rw (eq-eqb q 15 e) (m ∙ ap (λ (x : Layout). shown f (answer_of f x (ask_words i j t))) h)

  pub shown_asked : {w : List ℕ} {l : Layout} {u : Question} → q < 15 → l ≡ layout_in s → u ≡ question_of q i j → w ≡ shown f (answer_of f l u) → w ≡ shown_by f s t q i j
  shown_asked {w} {l} {u} h e p m = rw (ne_eqb q 15 (omega arith)) (m ∙ ap (λ (x : Answer). shown f x) (asked_some f (layout_in s) q i j (answer_of f l u) (omega arith) (asked_of f e p)))

-- the same of a file that is checked first: v is its number
pub file_stored : (f d : List ℕ) {a b : Answer} {w : List ℕ} {v c r : ℕ} → a ≡ b → w ≡ answered a d → v ≡ verdict f → c ≡ code_of a → r ≡ cond (eqb v 0) c v → (r ≡ file_code f b) × (w ≡ answered b d)
file_stored f d {a} {b} {w} {v} t q e h m =
    (m ∙ ap (λ (x : ℕ). cond (eqb v 0) x v) (h ∙ ap code_of t) ∙ ap (λ (x : ℕ). cond (eqb x 0) (code_of b) x) e, q ∙ ap (λ (x : Answer). answered x d) t)
