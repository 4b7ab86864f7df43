-- Label words by where they stand, up to their end.
use mathlib.Core.Path.{◌≡◌, refl, sym}
use Prim.Native.Nat.{ℕ, ◌+◌, ◌-◌, ◌*◌, ◌≤◌, ◌<◌}
use mathlib.Core.List.{List, []}
use mathlib.Core.Bool.{Bool, true, false}
use lib.ListN.{length}
use lib.Dec.{leb, ltb}
use lib.IntN.{ℤ}
use borrow.Author.Tests.{leb-false, lt-ltb, le-ltb}
use Rattle.format.specs.Number.{Order}
use Rattle.format.specs.Grammar.{text_at}
use Rattle.format.specs.Search.{Slot, found, missing, lost, search_at}
use Rattle.questions.specs.Readings.{Try, none, got, number_in, text_in}
use Rattle.questions.specs.Ask.{Answer, refused, count, mark, typed, part, column, labels, cell, plain, long, or_refused, entry_in, slot_in}
use Rattle.reading.specs.Reads.{length_in}
use Rattle.reading.proofs.ReadLaws.{text_past}
use Rattle.walks.specs.declared.LabelSet.{LabelSet}
use Rattle.refusal.specs.declared.Refusal.{Refusal}
use Rattle.refusal.specs.declared.Refusal.TheVariants.{NotReadable}
use Rattle.refusal.specs.Refusals.{retold}
use Rattle.answers.specs.declared.Part.{Part}
use Rattle.std.specs.Prelude.{Option, Some, None, Result, Ok, Err}
use Rattle.walks.specs.Answers.{words_told, words_by}
use Rattle.walks.specs.Walks.{table_words, set_says, entry_place, slot_place_at, slot_place, table_place, set_place, ended_told, ended_by, all_told}
use Rattle.walks.proofs.TextLaws.{text_none}

-- ---- what code finds

module _ (f : List ℕ) where
  pub ended_plain : Ok None ≡ ended_by f None
  unfolding ended_told
  ended_plain = refl

  module _ (p m : ℕ) where
    pub ended_none : length_in m f p ≡ none → Err NotReadable ≡ ended_by f (Some (record { at = p; len = m }))
    unfolding ended_told
    ended_none k = rw (text_none m f p k)

    -- the text there, of n bytes
    module _ (n : ℕ) (t : text_in m f p ≡ got (text_at m f p)) (e : n ≡ length (text_at m f p)) where
      pub ended_endless : m ≤ n → Err NotReadable ≡ ended_by f (Some (record { at = p; len = m }))
      unfolding ended_told
      ended_endless b = rw (t, sym e, le-ltb n m b)

      pub ended_got : n < m → Ok (Some (record { at = p; len = n })) ≡ ended_by f (Some (record { at = p; len = m }))
      unfolding ended_told
      ended_got b = rw (t, sym e, lt-ltb n m b)

-- the same, where a refusal is told as t says
module _ {E : Type 0} (t : Refusal → E) (f : List ℕ) where
  pub told_plain : ◌≡◌ {A = Result (Option Part) E} (Ok None) (ended_told t f None)
  unfolding ended_told
  told_plain = refl

  module _ (p m : ℕ) where
    pub told_none : length_in m f p ≡ none → ◌≡◌ {A = Result (Option Part) E} (Err (t NotReadable)) (ended_told t f (Some (record { at = p; len = m })))
    unfolding ended_told
    told_none k = rw (text_none m f p k)

    module _ (n : ℕ) (r : text_in m f p ≡ got (text_at m f p)) (e : n ≡ length (text_at m f p)) where
      pub told_endless : m ≤ n → ◌≡◌ {A = Result (Option Part) E} (Err (t NotReadable)) (ended_told t f (Some (record { at = p; len = m })))
      unfolding ended_told
      told_endless b = rw (r, sym e, le-ltb n m b)

      pub told_got : n < m → ◌≡◌ {A = Result (Option Part) E} (Ok (Some (record { at = p; len = n }))) (ended_told t f (Some (record { at = p; len = m })))
      unfolding ended_told
      told_got b = rw (r, sym e, lt-ltb n m b)

pub words_retold : {E : Type 0} (t : Refusal → E) (a : Answer) → retold t (words_by a) ≡ words_told t a
words_retold t (refused c) = refl
words_retold t (count n) = refl
words_retold t (mark b) = refl
words_retold t (typed k) = refl
words_retold t (part p n) = refl
words_retold t (column k p n) = refl
words_retold t (labels s) = refl
words_retold t (cell s) = refl
words_retold t (plain x) = refl
words_retold t (long k p n) = refl

-- ---- the words are what stands at their place, up to its end

entry_ended : {E : Type 0} (t : Refusal → E) (o : Order) (f : List ℕ) (p n x m : ℕ) → words_told t (or_refused (entry_in o f p n x m)) ≡ all_told t f (words_told t (entry_place o f p n x m))
unfolding entry_place ended_told
entry_ended t o f p n x m = go (number_in o 4 f (p + 8 + m * 4)) refl
  where
    go : (r : Try ℕ) → number_in o 4 f (p + 8 + m * 4) ≡ r → words_told t (or_refused (entry_in o f p n x m)) ≡ all_told t f (words_told t (entry_place o f p n x m))
    go none e = rw e
    go (got y) e = by (ltb y x) refl (leb at (length f)) refl
      where
        at : ℕ
        at = p + 8 + n * 4 + n * 4 + y

        by : (b : Bool) → ltb y x ≡ b → (d : Bool) → leb (p + 8 + n * 4 + n * 4 + y) (length f) ≡ d
            → words_told t (or_refused (entry_in o f p n x m)) ≡ all_told t f (words_told t (entry_place o f p n x m))
        by false b d k = rw (e, b)
        by true b true k = rw (e, b, k)
        by true b false k = rw (e, b, k, text_past (x - y) f (p + 8 + n * 4 + n * 4 + y) (leb-false (p + 8 + n * 4 + n * 4 + y) (length f) k))

slot_ended : {E : Type 0} (t : Refusal → E) (o : Order) (f : List ℕ) (p n x : ℕ) (s : Slot) → words_told t (or_refused (slot_in o f [] p n x s)) ≡ all_told t f (words_told t (slot_place_at o f p n x s))
unfolding ended_told
slot_ended t o f p n x (found m) = entry_ended t o f p n x m
slot_ended t o f p n x missing = refl
slot_ended t o f p n x lost = refl

table_ended : {E : Type 0} (t : Refusal → E) (o : Order) (f : List ℕ) (p : ℕ) (q : ℤ) → words_told t (table_words o f p q) ≡ all_told t f (words_told t (table_place o f p q))
unfolding table_words table_place slot_place ended_told
table_ended t o f p q = go (number_in o 4 f p) refl (number_in o 4 f (p + 4)) refl
  where
    go : (r : Try ℕ) → number_in o 4 f p ≡ r → (s : Try ℕ) → number_in o 4 f (p + 4) ≡ s → words_told t (table_words o f p q) ≡ all_told t f (words_told t (table_place o f p q))
    go none e s d = rw e
    go (got n) e none d = rw (e, d)
    go (got n) e (got x) d = rw (e, d) (slot_ended t o f p n x (search_at o f (p + 8 + n * 4) (length f) n q).slot)

pub set_ended : {E : Type 0} (t : Refusal → E) (o : Order) (f : List ℕ) (s : Option LabelSet) (q : ℤ) → words_told t (set_says o f s q) ≡ all_told t f (words_told t (set_place o f s q))
unfolding ended_told
set_ended t o f None q = refl
set_ended t o f (Some s) q = table_ended t o f s.at q
