-- The label words of a cell.
use mathlib.Core.Path.{◌≡◌, refl, sym, ap, ◌∙◌}
use Prim.Native.Nat.{ℕ, zero, suc, ◌+◌, ◌≤◌, ◌<◌}
use native.Mathlib.Omega.{arith}
use mathlib.Core.List.{List, [], ◌∷◌}
use mathlib.Core.Bool.{Bool, true, false, cond, false≢true}
use lib.ListN.{length, get_or, take, drop}
use lib.Seq.{drop-cons}
use lib.Dec.{eqb}
use lib.IntN.{ℤ}
use borrow.Author.Tests.{le-ltb, lt-ltb}
use Rattle.format.specs.Number.{Order, order_by}
use Rattle.format.specs.Grammar.{text_at}
use Rattle.format.specs.Edition.{Edition, n_value_label_names, n_value_labels}
use Rattle.format.specs.Variables.{nonempty}
use Rattle.format.specs.Cells.{Says, Key, nothing, seeks, key_of}
use Rattle.format.specs.Dta.{Layout}
use Rattle.questions.specs.Readings.{Try, none, got, bind}
use Rattle.questions.specs.Ask.{Labels, unlabelled, labelled, Answer, refused, part, labels, plain, or_refused, slice, blocks_in, set_in, labels_in, sought_in, set_words, start_of, end_of, field_place, among, in_range, answer_of, ask_table, ask_cell, ask_words}
use Rattle.questions.proofs.LendLaws.{lend, lend_is}
use Rattle.questions.proofs.EachLaws.{each_asked}
use Rattle.editions.specs.Editions.{numbers_of}
use Rattle.cell.specs.Cells.{says}
use Rattle.reading.specs.declared.Opened.{Opened}
use Rattle.reading.specs.Reads.{length_in, opened_by, edition_in}
use Rattle.reading.proofs.ReadLaws.{text_past}
use Rattle.reading.proofs.AnswerLaws.{answer_out, answer_open}
use Rattle.answers.specs.Answers.{opened_if}
use Rattle.answers.proofs.TellLaws.{tells_open}
use Rattle.cells.specs.Cells.{said_by}
use Rattle.cells.proofs.AfterLaws.{After, after_refused, after_said}
use Rattle.walks.specs.declared.LabelSet.{LabelSet}
use Rattle.answers.specs.declared.Part.{Part}
use Rattle.cell.specs.declared.Cell.{Cell}
use Rattle.refusal.specs.declared.Refusal.{Refusal}
use Rattle.refusal.specs.declared.Refusal.TheVariants.{NotThere}
use Rattle.refusal.specs.Refusals.{number_of}
use Rattle.std.specs.Prelude.{Option, None, Some, Result, Ok, Err}
use Rattle.std.proofs.lemmas.Option.{none-some, same_Some}
use Rattle.walks.specs.Answers.{words_by, set_by}
use Rattle.walks.specs.Walks.{table_words, ended_told, all_told, placed_told, block_labels}
use Rattle.walks.proofs.EndedLaws.{set_ended}
use Rattle.walks.proofs.TextLaws.{TextGot, text_none, text_got}
use Rattle.label_words.specs.Words.{set_said, said_told, said_in, sought_words, cell_words}

-- a text's bytes, as many as it has
pub text_slice : (w : ℕ) (f : List ℕ) (p : ℕ) → p + length (text_at w f p) ≤ length f → take (length (text_at w f p)) (drop p f) ≡ text_at w f p
text_slice zero f p h = refl
text_slice (suc w) f p h = go (eqb (get_or f p 0) 0) refl (text_slice w f (suc p))
  where
    go : (b : Bool) → eqb (get_or f p 0) 0 ≡ b → (suc p + length (text_at w f (suc p)) ≤ length f → take (length (text_at w f (suc p))) (drop (suc p) f) ≡ text_at w f (suc p))
        → take (length (text_at (suc w) f p)) (drop p f) ≡ text_at (suc w) f p
    go true e r = rw e
    go false e r =
        let l : length (text_at (suc w) f p) ≡ suc (length (text_at w f (suc p))) = rw e in
        rw (e, drop-cons f p 0 (omega (arith, h, l))) (ap (λ (t : List ℕ). get_or f p 0 ∷ t) (r (omega (arith, h, l))))

empty_no : (t : List ℕ) → length t ≡ 0 → nonempty t ≡ false
empty_no [] h = refl
empty_no (x ∷ t) h = absurd (omega arith)

some_yes : (t : List ℕ) → (length t ≡ 0 → ⊥) → nonempty t ≡ true
some_yes [] h = absurd (h refl)
some_yes (x ∷ t) h = lt-ltb 0 (suc (length t)) (omega arith)

-- a walk that starts past its part
block_over : (t : Bool) (w : ℕ) (o : Order) (f s : List ℕ) (z p : ℕ) → z ≤ p → block_labels t w o f s z p ≡ labels unlabelled
unfolding block_labels
block_over t w o f s z p h = rw (le-ltb p z h)

module _ (e : Edition) (o : Order) (f : List ℕ) (l : Layout) (i : ℕ) where
  abbrev at : ℕ
  at = field_place e.tagged l 6 n_value_label_names e.name_width i

  pub set_past : length f < field_place e.tagged l 6 n_value_label_names e.name_width i → set_said e o f l i ≡ refused 17
  unfolding set_said
  set_past h = rw (text_past e.name_width f at h)

  pub set_none : length_in e.name_width f (field_place e.tagged l 6 n_value_label_names e.name_width i) ≡ none → set_said e o f l i ≡ refused 17
  unfolding set_said
  set_none h = rw (text_none e.name_width f at h)

  module _ (n : ℕ) (h : length_in e.name_width f (field_place e.tagged l 6 n_value_label_names e.name_width i) ≡ got n) where
    abbrev g : TextGot e.name_width f at n
    g = text_got e.name_width f at n h

    pub set_inside : field_place e.tagged l 6 n_value_label_names e.name_width i + n ≤ length f
    set_inside = g.inside

    abbrev walk : List ℕ → ℕ → ℕ → Try Labels
    walk s z p = blocks_in e.tagged e.name_width o f s z (suc (length f)) p

    abbrev as_answer : Try Labels → Answer
    as_answer r = or_refused (bind r λ x. got (labels x))

    by_name : (b : Bool) → nonempty (text_at e.name_width f at) ≡ b
        → set_said e o f l i ≡ as_answer (cond b (walk (text_at e.name_width f at) (end_of e.tagged l 11 n_value_labels) (start_of e.tagged l 11 n_value_labels)) (got unlabelled))
    unfolding set_said
    by_name b k =
        ap (λ (r : Try (List ℕ)). as_answer (bind r λ s. cond (nonempty s) (walk s (end_of e.tagged l 11 n_value_labels) (start_of e.tagged l 11 n_value_labels)) (got unlabelled))) g.is
        ∙ ap (λ (b : Bool). as_answer (cond b (walk (text_at e.name_width f at) (end_of e.tagged l 11 n_value_labels) (start_of e.tagged l 11 n_value_labels)) (got unlabelled))) k

    pub set_empty : n ≡ 0 → set_said e o f l i ≡ labels unlabelled
    set_empty z = by_name false (empty_no (text_at e.name_width f at) (sym g.long ∙ z))

    module _ (z : n ≡ 0 → ⊥) (a p k : ℕ) (A : a ≡ field_place e.tagged l 6 n_value_label_names e.name_width i)
        (P : p ≡ start_of e.tagged l 11 n_value_labels) (K : k ≡ end_of e.tagged l 11 n_value_labels) where
      name_is : text_at e.name_width f at ≡ slice f a n
      name_is =
          sym (text_slice e.name_width f at (omega (arith, g.inside, g.long)))
          ∙ ap (λ (m : ℕ). take m (drop at f)) (sym g.long)
          ∙ ap (λ (b : ℕ). take n (drop b f)) (sym A)

      pub set_walk : set_said e o f l i ≡ block_labels e.tagged e.name_width o f (slice f a n) k p
      unfolding block_labels
      set_walk =
          by_name true (some_yes (text_at e.name_width f at) (λ y. z (g.long ∙ y)))
          ∙ ap (λ (s : List ℕ). as_answer (walk s (end_of e.tagged l 11 n_value_labels) (start_of e.tagged l 11 n_value_labels))) name_is
          ∙ ap (λ (y : ℕ). as_answer (walk (slice f a n) (end_of e.tagged l 11 n_value_labels) y)) (sym P)
          ∙ ap (λ (y : ℕ). as_answer (walk (slice f a n) y p)) (sym K)

      pub set_over : k ≤ p → set_said e o f l i ≡ labels unlabelled
      set_over b = set_walk ∙ block_over e.tagged e.name_width o f (slice f a n) k p b

-- the set of an answer, and of another that is the same
pub set_as : (r : Result (Option LabelSet) Refusal) (a b : Answer) → r ≡ set_by a → b ≡ a → r ≡ set_by b
set_as r a b e h = e ∙ ap set_by (sym h)

-- the set of a variable, in an edition and a byte order that are read
pub set_told : (f : List ℕ) (l : Layout) (i : ℕ) (q : Opened) → Ok q ≡ opened_if (in_range l (ask_table i)) (edition_in l.release l.order)
    → {r : Result (Option LabelSet) Refusal} → r ≡ set_by (set_said (numbers_of q.e) (order_by q.msf) f l i) → r ≡ set_by (answer_of f l (ask_table i))
unfolding set_said
set_told f l i q Q e = tells_open f l (ask_table i) q Q set_by _ refl e

-- ---- a value in a set

module _ (o : Order) (f : List ℕ) (v : ℤ) where
  found_words : (r : Try Labels) → said_in o f (set_by (or_refused (bind r λ x. got (labels x)))) v ≡ words_by (or_refused (bind r (labels_in o f [] v)))
  unfolding table_words
  found_words none = refl
  found_words (got unlabelled) = refl
  found_words (got (labelled p n)) = refl

  set_words_lem : (e : Edition) (l : Layout) (i : ℕ) → said_in o f (set_by (set_said e o f l i)) v ≡ words_by (or_refused (set_words e o f l i [] v))
  unfolding set_said
  set_words_lem e l i = found_words (set_in e o f l i)

-- ---- the words of a cell

-- what is sought
pub cell_sought : (g : ℤ → Result (Option Part) Refusal) (c : Cell) (k : Key) → k ≡ key_of (says c) → sought_words g k ≡ cell_words g (Ok c)
cell_sought g c k h = ap (sought_words g) h

-- they are what stands at their place, up to its end
module _ {E : Type 0} (t : Refusal → E) (o : Order) (f : List ℕ) where
  sought_ended : (s : Result (Option LabelSet) E) (k : Key) → sought_words (said_told t o f s) k ≡ all_told t f (sought_words (placed_told t o f s) k)
  unfolding ended_told
  sought_ended s nothing = refl
  sought_ended (Ok s) (seeks q) = set_ended t o f s q
  sought_ended (Err e) (seeks q) = refl

  pub cell_ended : (s : Result (Option LabelSet) E) (c : Result Cell E) → all_told t f (cell_words (placed_told t o f s) c) ≡ cell_words (said_told t o f s) c
  cell_ended s (Ok c) = sym (sought_ended s (key_of (says c)))
  cell_ended s (Err e) = refl

-- of a cell and a set that are those of the layout
module _ (f : List ℕ) (l : Layout) (i j : ℕ) (s : Result (Option LabelSet) Refusal) (S : s ≡ set_by (answer_of f l (ask_table i))) where
  abbrev then : Edition → Order → Says → Try Answer
  then e o c = sought_in (key_of c) [] (set_words e o f l i [])

  -- a refused cell
  pub words_refused : (d : Refusal) → Err d ≡ said_by (answer_of f l (ask_cell i j)) → Err d ≡ words_by (answer_of f l (ask_words i j []))
  words_refused d D = after_refused f l i j (ask_words i j []) then refl (λ e o. refl) words_by (λ n. refl) d D

  module _ (c : Cell) (C : Ok c ≡ said_by (answer_of f l (ask_cell i j))) where
    A : After f l i j (ask_words i j []) then refl (λ e o. refl) c
    A = after_said f l i j (ask_words i j []) then refl (λ e o. refl) c C

    -- edition and order are read, where the cell says something
    pub words_opened : None ≡ opened_by (edition_in l.release l.order) → ⊥
    words_opened n = none-some A.opened (n ∙ sym A.read)

    module _ (q : Opened) (Q : Some q ≡ opened_by (edition_in l.release l.order)) where
      same : A.opened ≡ q
      same = same_Some A.opened q (A.read ∙ sym Q)

      -- the variable is there
      there : in_range l (ask_table i) ≡ true
      there = go (among i l.variables) refl
        where
          go : (b : Bool) → among i l.variables ≡ b → among i l.variables ≡ true
          go true b = b
          go false b = let k : Ok c ≡ Err NotThere = C ∙ ap said_by (answer_out f l (ask_cell i j) (rw b)) in absurd (false≢true (cc k))

      -- in an edition and a byte order that are read
      set_open : set_by (answer_of f l (ask_table i)) ≡ set_by (set_said (numbers_of q.e) (order_by q.msf) f l i)
      unfolding set_said
      set_open = ap set_by (answer_open f l (ask_table i) there q Q)

      sought : (k : Key) → sought_words (said_in (order_by q.msf) f s) k ≡ words_by (or_refused (sought_in k [] (set_words (numbers_of q.e) (order_by q.msf) f l i [])))
      sought nothing = refl
      sought (seeks v) = ap (λ (x : Result (Option LabelSet) Refusal). said_in (order_by q.msf) f x v) (S ∙ set_open) ∙ set_words_lem (order_by q.msf) f v (numbers_of q.e) l i

      pub words_are : cell_words (said_in (order_by q.msf) f s) (Ok c) ≡ words_by (answer_of f l (ask_words i j []))
      words_are =
          sought (key_of (says c))
          ∙ ap (λ (y : Opened). words_by (or_refused (then (numbers_of y.e) (order_by y.msf) (says c)))) (sym same)
          ∙ ap words_by (sym A.is)

-- ---- for every lent text

-- what label words mean with the lent text t
abbrev pub words_of : List ℕ → Result (Option Part) Refusal → Answer
words_of t (Ok (Some r)) = part r.at r.len
words_of t (Ok None) = plain t
words_of t (Err e) = refused (number_of e)

pub words_lent : (f : List ℕ) (l : Layout) (i j : ℕ) (r : Result (Option Part) Refusal) → r ≡ words_by (answer_of f l (ask_words i j [])) → (t : List ℕ)
    → words_of t r ≡ answer_of f l (ask_words i j t)
words_lent f l i j r e t =
    ap (words_of t) e ∙ each_asked (λ a. words_of t (words_by a) ≡ lend t a) f l (ask_words i j []) refl refl ((λ p n. refl), refl) ∙ sym (lend_is t f l i j)
