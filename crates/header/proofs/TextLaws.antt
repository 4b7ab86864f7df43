-- A tagged header from the label on.
use Prim.Native.Nat.{ℕ}
use mathlib.Core.List.{List}
use mathlib.Core.Bool.{true}
use Rattle.std.specs.Prelude.{Result, Ok, Err}
use Rattle.refusal.specs.declared.Refusal.{Refusal}
use Rattle.format.specs.Number.{Order}
use Rattle.format.specs.Grammar.{Sect, seq, tag, between}
use Rattle.format.specs.Edition.{opening, closing, n_label, n_timestamp, n_header}
use Rattle.format.specs.Header.{stamp_length, counted}
use Rattle.section.specs.Judged.{Judged}
use Rattle.section.proofs.SeqLaws.{seq_refused, seq_on}
use Rattle.header.specs.declared.Rule.TheVariants.{Most}
use Rattle.header.specs.Rules.{holds, new_texts}

module _ (o : Order) (w m : ℕ) (f : List ℕ) (p : ℕ) where
  abbrev label : Sect (List ℕ)
  label = between (opening true n_label) (closing true n_label) (counted o w (holds (Most m)))

  abbrev stamp : Sect (List ℕ)
  stamp = between (opening true n_timestamp) (closing true n_timestamp) (counted o 1 stamp_length)

  abbrev end : Sect (Unit {0})
  end = tag (closing true n_header) 4

  by_parts : {r : Result ℕ Refusal} → Judged (seq label λ l. seq stamp λ s. end) f p r → Judged (new_texts o w m) f p r
  unfolding new_texts
  by_parts j = j

  pub label_refused : {e : Refusal} → Judged label f p (Err e) → Judged (new_texts o w m) f p (Err e)
  label_refused {e} j = by_parts (seq_refused label (λ l. seq stamp λ s. end) f p e j)

  module _ {a : ℕ} (j : Judged label f p (Ok a)) where
    pub stamp_refused : {e : Refusal} → Judged stamp f a (Err e) → Judged (new_texts o w m) f p (Err e)
    stamp_refused {e} k = by_parts (seq_on label (λ l. seq stamp λ s. end) f p a j (Err e) (seq_refused stamp (λ s. end) f a e k))

    pub texts_end : {b : ℕ} → Judged stamp f a (Ok b) → {r : Result ℕ Refusal} → Judged end f b r → Judged (new_texts o w m) f p r
    texts_end {b} k {r} e = by_parts (seq_on label (λ l. seq stamp λ s. end) f p a j r (seq_on stamp (λ s. end) f a b k r e))
