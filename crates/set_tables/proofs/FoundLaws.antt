-- The label tables of all variables of a list, found.
use mathlib.Core.Path.{◌≡◌, refl, sym, ap, ◌∙◌}
use Prim.Native.Nat.{ℕ, ◌+◌, ◌≤◌, ◌<◌}
use native.Mathlib.Omega.{arith}
use mathlib.Core.List.{List, []}
use mathlib.Core.Logic.{inl}
use mathlib.Core.Bool.{Bool, true, false}
use lib.ListN.{length, get_or}
use lib.Dec.{eqb}
use borrow.Author.Tests.{le-leb, eqb-true, eqb-false, ne_eqb}
use Rattle.std.specs.Prelude.{None, Some, Result, Ok}
use Rattle.refusal.specs.declared.Refusal.{Refusal}
use Rattle.format.specs.Number.{order_by}
use Rattle.format.specs.Edition.{n_value_label_names, n_value_labels}
use Rattle.format.specs.Dta.{Layout}
use Rattle.questions.specs.Readings.{Try, none, got, bind, text_in}
use Rattle.questions.specs.Ask.{Answer, refused, part, labels, unlabelled, or_refused, slice, shown, start_of, end_of, field_place, among, answer_of, ask_set, ask_table}
use Rattle.editions.specs.Editions.{numbers_of}
use Rattle.reading.specs.declared.Opened.{Opened}
use Rattle.reading.specs.Reads.{length_in, opened_by, edition_in}
use Rattle.reading.proofs.AnswerLaws.{answer_out, answer_shut, answer_open}
use Rattle.answers.specs.Answers.{part_by}
use Rattle.walks.specs.Answers.{set_by, lenless}
use Rattle.walks.specs.Walks.{block_labels}
use Rattle.walks.proofs.BlockLaws.{starts, come_plain}
use Rattle.walks.proofs.TextLaws.{TextGot, text_none, text_got}
use Rattle.label_words.specs.Words.{set_said}
use Rattle.label_words.proofs.WordLaws.{set_none, set_empty, set_walk}
use Rattle.set_names.specs.Names.{name_of, name_at, in_order}
use Rattle.set_tables.specs.Tables.{table_of, number_of, Alike, Started, Passed, can_find, Found}
use Rattle.set_tables.proofs.SameLaws.{slice_long}

-- ---- where edition or order are not read, no table is

module _ (f : List ℕ) (l : Layout) (S : None ≡ opened_by (edition_in l.release l.order)) (v t : List ℕ) (T : Started f l v t) where
  pub found_shut : Found f l v t (Some (Ok tt))
  found_shut = record { each = λ k i. go k i (among (get_or v k 0) l.variables) refl }
    where
      known : (k : ℕ) → k < length v → (c : ℕ) → answer_of f l (ask_set (get_or v k 0)) ≡ refused c → answer_of f l (ask_table (get_or v k 0)) ≡ refused c
          → table_of (Ok tt) (number_of (part_by (refused c))) ≡ lenless (set_by (refused c)) → table_of (Ok tt) (get_or t k 0) ≡ lenless (set_by (answer_of f l (ask_table (get_or v k 0))))
      known k i c a b e = rw (T.each k i, a, b) e

      go : (k : ℕ) → k < length v → (b : Bool) → among (get_or v k 0) l.variables ≡ b → table_of (Ok tt) (get_or t k 0) ≡ lenless (set_by (answer_of f l (ask_table (get_or v k 0))))
      go k i true m = known k i 17 (answer_shut f l (ask_set (get_or v k 0)) m S) (answer_shut f l (ask_table (get_or v k 0)) m S) refl
      go k i false m = known k i 16 (answer_out f l (ask_set (get_or v k 0)) m) (answer_out f l (ask_table (get_or v k 0)) m) refl

-- ---- the label-set name of a variable, and its label table

-- refused, without a name, or with one: then the table is that of the first block of the name
pub data Kind (f : List ℕ) (l : Layout) (q : Opened) (i : ℕ) : Type 0 where
  none_such : answer_of f l (ask_set i) ≡ refused 16 → answer_of f l (ask_table i) ≡ refused 16 → Kind f l q i
  not_read : answer_of f l (ask_set i) ≡ refused 17 → answer_of f l (ask_table i) ≡ refused 17 → Kind f l q i
  no_name : (p : ℕ) → answer_of f l (ask_set i) ≡ part p 0 → answer_of f l (ask_table i) ≡ labels unlabelled → Kind f l q i
  named : (p n : ℕ) → (n ≡ 0 → ⊥) → p + n ≤ length f → answer_of f l (ask_set i) ≡ part p n
      → answer_of f l (ask_table i) ≡ block_labels q.e.tagged q.e.name_width (order_by q.msf) f (slice f p n) (end_of q.e.tagged l 11 n_value_labels) (start_of q.e.tagged l 11 n_value_labels)
      → Kind f l q i

module _ (f : List ℕ) (l : Layout) (q : Opened) (Q : Some q ≡ opened_by (edition_in l.release l.order)) where
  abbrev w : ℕ
  w = q.e.name_width

  -- where the name stands
  abbrev at : ℕ → ℕ
  at i = field_place q.e.tagged l 6 n_value_label_names w i

  kind_in : (i : ℕ) → among i l.variables ≡ true → Kind f l q i
  unfolding set_said
  kind_in i m = go (length_in w f (at i)) refl
    where
      text : (r : Try (List ℕ)) → text_in w f (at i) ≡ r → answer_of f l (ask_set i) ≡ or_refused (bind r λ t. got (part (at i) (length t)))
      text r k = answer_open f l (ask_set i) m q Q ∙ ap (λ (r : Try (List ℕ)). or_refused (bind r λ t. got (part (at i) (length t)))) k

      read : (n : ℕ) (b : Bool) → eqb n 0 ≡ b → length_in w f (at i) ≡ got n → TextGot w f (at i) n → Kind f l q i
      read n true b k g =
          no_name (at i) (text _ g.is ∙ ap (part (at i)) (sym g.long ∙ eqb-true n 0 b))
          (answer_open f l (ask_table i) m q Q ∙ set_empty (numbers_of q.e) (order_by q.msf) f l i n k (eqb-true n 0 b))
      read n false b k g =
          named (at i) n (eqb-false n 0 b) g.inside (text _ g.is ∙ ap (part (at i)) (sym g.long))
          (answer_open f l (ask_table i) m q Q ∙ set_walk (numbers_of q.e) (order_by q.msf) f l i n k (eqb-false n 0 b) _ _ _ refl refl refl)

      go : (r : Try ℕ) → length_in w f (at i) ≡ r → Kind f l q i
      go none k = not_read (text none (text_none w f (at i) k)) (answer_open f l (ask_table i) m q Q ∙ set_none (numbers_of q.e) (order_by q.msf) f l i k)
      go (got n) k = read n (eqb n 0) refl k (text_got w f (at i) n k)

  pub kind_of : (i : ℕ) → Kind f l q i
  kind_of i = go (among i l.variables) refl
    where
      go : (b : Bool) → among i l.variables ≡ b → Kind f l q i
      go true m = kind_in i m
      go false m = none_such (answer_out f l (ask_set i) m) (answer_out f l (ask_table i) m)

  -- ---- its number is 0 where it has a name

  some_name : (i : ℕ) → number_of (part_by (answer_of f l (ask_set i))) ≡ 0 → name_of f l i ≡ [] → ⊥
  unfolding name_of
  some_name i z e = go (kind_of i)
    where
      go : Kind f l q i → ⊥
      go (none_such a b) = let k : ◌≡◌ {A = ℕ} 1 0 = sym (ap (λ (x : Answer). number_of (part_by x)) a) ∙ z in omega arith
      go (not_read a b) = let k : ◌≡◌ {A = ℕ} 2 0 = sym (ap (λ (x : Answer). number_of (part_by x)) a) ∙ z in omega arith
      go (no_name p a b) = let k : ◌≡◌ {A = ℕ} 3 0 = sym (ap (λ (x : Answer). number_of (part_by x)) a) ∙ z in omega arith
      go (named p n d h a b) = d (sym (slice_long f p n h) ∙ ap length (sym (ap (shown f) a) ∙ e))

  zero_number : (i : ℕ) → (name_of f l i ≡ [] → ⊥) → number_of (part_by (answer_of f l (ask_set i))) ≡ 0
  unfolding name_of
  zero_number i d = go (kind_of i)
    where
      go : Kind f l q i → number_of (part_by (answer_of f l (ask_set i))) ≡ 0
      go (none_such a b) = absurd (d (ap (shown f) a))
      go (not_read a b) = absurd (d (ap (shown f) a))
      go (no_name p a b) = absurd (d (ap (shown f) a))
      go (named p n k h a b) = ap (λ (x : Answer). number_of (part_by x)) a ∙ rw (ne_eqb n 0 k)

  module _ (v t : List ℕ) (S : Started f l v t) where
    pub started_alike : Alike f l v t
    started_alike =
        record {
          each = λ k m a b e z. S.each m b ∙ zero_number (get_or v m 0) (λ d. some_name (get_or v k 0) (sym (S.each k a) ∙ z) (e ∙ d));
        }

    -- ---- what is found

    pub found_passed : (z p : ℕ) → z ≡ end_of q.e.tagged l 11 n_value_labels → p ≡ start_of q.e.tagged l 11 n_value_labels
        → (u : List ℕ) (r : Result (Unit {0}) Refusal) → Passed q.e.tagged q.e.name_width (order_by q.msf) f l v z p t u r → Found f l v u (Some r)
    unfolding name_of
    found_passed z p Z P u r D = record { each = λ k i. go k i (kind_of (get_or v k 0)) }
      where
        -- one that was known before
        known : (k : ℕ) → k < length v → (n : ℕ) (a b : Answer) → answer_of f l (ask_set (get_or v k 0)) ≡ a → number_of (part_by a) ≡ n → (n ≡ 0 → ⊥)
            → answer_of f l (ask_table (get_or v k 0)) ≡ b → table_of r n ≡ lenless (set_by b) → table_of r (get_or u k 0) ≡ lenless (set_by (answer_of f l (ask_table (get_or v k 0))))
        known k i n a b A N d B e =
            let s : get_or t k 0 ≡ n = S.each k i ∙ ap (λ (x : Answer). number_of (part_by x)) A ∙ N in
            ap (table_of r) (D.others k i (λ y. d (sym s ∙ y)) ∙ s) ∙ e ∙ sym (ap (λ (x : Answer). lenless (set_by x)) B)

        go : (k : ℕ) → k < length v → Kind f l q (get_or v k 0) → table_of r (get_or u k 0) ≡ lenless (set_by (answer_of f l (ask_table (get_or v k 0))))
        go k i (none_such a b) = known k i 1 _ _ a refl (λ y. omega arith) b refl
        go k i (not_read a b) = known k i 2 _ _ a refl (λ y. omega arith) b refl
        go k i (no_name y a b) = known k i 3 _ _ a refl (λ y. omega arith) b refl
        go k i (named y n d h a b) =
            let s : get_or t k 0 ≡ 0 = S.each k i ∙ ap (λ (x : Answer). number_of (part_by x)) a ∙ rw (ne_eqb n 0 d) in
            D.found k i s
            ∙ ap (λ (x : List ℕ). lenless (set_by (block_labels q.e.tagged q.e.name_width (order_by q.msf) f x z p))) (ap (shown f) a)
            ∙ ap (λ (x : ℕ). lenless (set_by (block_labels q.e.tagged q.e.name_width (order_by q.msf) f (slice f y n) x p))) Z
            ∙ ap (λ (x : ℕ). lenless (set_by (block_labels q.e.tagged q.e.name_width (order_by q.msf) f (slice f y n) (end_of q.e.tagged l 11 n_value_labels) x))) P
            ∙ sym (ap (λ (x : Answer). lenless (set_by x)) b)

    -- a part without a block
    pub found_over : (z : ℕ) → z ≡ end_of q.e.tagged l 11 n_value_labels → z ≤ start_of q.e.tagged l 11 n_value_labels → Found f l v t (Some (Ok tt))
    found_over z Z h =
        found_passed z (start_of q.e.tagged l 11 n_value_labels) Z refl t (Ok tt)
        (record {
          found = λ k i e.
              (let s = name_at f l v k in
              let p = start_of q.e.tagged l 11 n_value_labels in
              ap (table_of (Ok tt)) e ∙ ap lenless (come_plain q.e.tagged q.e.name_width (order_by q.msf) f s z p p (starts q.e.tagged q.e.name_width (order_by q.msf) f s z p) h));
          others = λ k i e. refl;
          number = inl refl;
        })

-- ---- they can be found at once

pub finds : (f : List ℕ) (l : Layout) (v : List ℕ) → length v ≤ 32768 → (r : Bool) → r ≡ in_order f l v → r ≡ true → true ≡ can_find f l v
finds f l v h r e t = rw (le-leb (length v) 32768 h, sym e) (sym t)
