-- What is answered about label words; with another lent text the answer is the same, but for the plain text itself.
use mathlib.Core.Path.{◌≡◌, refl, ap, ◌∙◌}
use Prim.Native.Nat.{ℕ, ◌+◌, ◌-◌, ◌*◌}
use native.Mathlib.Omega.{arith}
use mathlib.Core.List.{List, []}
use mathlib.Core.Bool.{Bool, true, false, cond}
use lib.ListN.{length}
use lib.Dec.{ltb}
use lib.IntN.{ℤ}
use Rattle.format.specs.Number.{Order}
use Rattle.format.specs.Edition.{Edition, edition}
use Rattle.format.specs.Cells.{Key, nothing, seeks, key_of}
use Rattle.format.specs.Search.{Slot, found, missing, lost, search_at}
use Rattle.format.specs.Dta.{Layout}
use Rattle.questions.specs.Readings.{Try, none, got, bind, test, number_in, text_in}
use Rattle.questions.specs.Ask.{Labels, unlabelled, labelled, Answer, refused, count, mark, typed, part, column, labels, cell, plain, long, ask_words, release_in, order_in, in_range, cell_in, slot_in, set_in, labels_in, sought_in, set_words, words_in, or_refused, answer_in, answer_of}

-- the answer with the lent text t
abbrev pub lend : List ℕ → Answer → Answer
lend t (refused c) = refused c
lend t (count n) = count n
lend t (mark b) = mark b
lend t (typed x) = typed x
lend t (part p n) = part p n
lend t (column x p n) = column x p n
lend t (labels s) = labels s
lend t (cell s) = cell s
lend t (plain u) = plain t
lend t (long k p n) = long k p n

abbrev lend_in : List ℕ → Try Answer → Try Answer
lend_in t none = none
lend_in t (got a) = got (lend t a)

module _ (t : List ℕ) where
  lend_bind : {A : Type 0} (r : Try A) (k j : A → Try Answer) → ((a : A) → j a ≡ lend_in t (k a)) → bind r j ≡ lend_in t (bind r k)
  lend_bind none k j h = refl
  lend_bind (got a) k j h = h a

  lend_or : (r : Try Answer) → or_refused (lend_in t r) ≡ lend t (or_refused r)
  lend_or none = refl
  lend_or (got a) = refl

  lend_slot : (o : Order) (f : List ℕ) (p n x : ℕ) (s : Slot) → slot_in o f t p n x s ≡ lend_in t (slot_in o f [] p n x s)
  lend_slot o f p n x (found m) =
      lend_bind (number_in o 4 f (p + 8 + m * 4)) _ _ λ y.
      lend_bind (test (ltb y x)) _ _ λ u.
      lend_bind (text_in (x - y) f (p + 8 + n * 4 + n * 4 + y)) _ _ λ w.
      lend_bind (test (ltb (length w) (x - y))) _ _ λ u. refl
  lend_slot o f p n x missing = refl
  lend_slot o f p n x lost = refl

  lend_labels : (o : Order) (f : List ℕ) (q : ℤ) (s : Labels) → labels_in o f t q s ≡ lend_in t (labels_in o f [] q s)
  lend_labels o f q unlabelled = refl
  lend_labels o f q (labelled p w) =
      lend_bind (number_in o 4 f p) _ _ λ n.
      lend_bind (number_in o 4 f (p + 4)) _ _ λ x. lend_slot o f p n x (search_at o f (p + 8 + n * 4) (length f) n q).slot

  lend_sought : (e : Edition) (o : Order) (f : List ℕ) (l : Layout) (i : ℕ) (k : Key) → sought_in k t (set_words e o f l i t) ≡ lend_in t (sought_in k [] (set_words e o f l i []))
  lend_sought e o f l i nothing = refl
  lend_sought e o f l i (seeks q) = lend_bind (set_in e o f l i) _ _ (lend_labels o f q)

  lend_words : (e : Edition) (o : Order) (f : List ℕ) (l : Layout) (i j : ℕ) → words_in e o f l i j t ≡ lend_in t (words_in e o f l i j [])
  lend_words e o f l i j = lend_bind (cell_in e o f l i j) _ _ λ c. lend_sought e o f l i (key_of c)

  if_lend : (b : Bool) (x : Answer) → cond b (lend t x) (refused 16) ≡ lend t (cond b x (refused 16))
  if_lend true x = refl
  if_lend false x = refl

  -- the answer with the lent text t, from that with an empty one
  pub lend_is : (f : List ℕ) (l : Layout) (i j : ℕ) → answer_of f l (ask_words i j t) ≡ lend t (answer_of f l (ask_words i j []))
  unfolding answer_of
  lend_is f l i j =
      let r : List ℕ → Try Answer = λ u. bind (release_in l.release) λ r. bind (order_in l.order) λ o. answer_in (edition r) o f l (ask_words i j u) in
      let e : r t ≡ lend_in t (r []) = lend_bind (release_in l.release) _ _ λ r. lend_bind (order_in l.order) _ _ λ o. lend_words (edition r) o f l i j in
      let b = in_range l (ask_words i j []) in
      ap (λ (x : Try Answer). cond b (or_refused x) (refused 16)) e
      ∙ ap (λ (x : Answer). cond b x (refused 16)) (lend_or (r []))
      ∙ if_lend b (or_refused (r []))
