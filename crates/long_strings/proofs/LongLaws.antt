-- The long string of a cell.
use mathlib.Core.Path.{◌≡◌, refl, sym, ap, ◌∙◌}
use Prim.Native.Nat.{ℕ, ◌≤◌, ◌<◌}
use mathlib.Core.List.{List}
use mathlib.Core.Bool.{Bool, true, false, cond, ◌&&◌}
use lib.ListN.{length}
use lib.Dec.{eqb}
use Rattle.format.specs.Number.{Order}
use Rattle.format.specs.Edition.{Edition, n_strls}
use Rattle.format.specs.Cells.{Says, reference}
use Rattle.cell.specs.declared.Cell.{Cell}
use Rattle.cell.specs.declared.Cell.TheVariants as Variants
use Rattle.cell.specs.Cells.{says}
use Rattle.std.specs.Prelude.{Result, Ok}
use Rattle.refusal.specs.declared.Refusal.{Refusal}
use Rattle.format.specs.Dta.{Layout}
use Rattle.questions.specs.Readings.{got}
use Rattle.questions.specs.Ask.{Answer, refused, long, or_refused, long_by, start_of, end_of}
use Rattle.walks.specs.declared.Long.{Long}
use Rattle.walks.specs.Answers as Walks
use Rattle.walks.specs.Walks.{records_from}
use Rattle.walks.proofs.RecordLaws.{from_past, from_out}
use Rattle.long_strings.specs.Longs.{long_said}

pub long_alone : (a b : Answer) (r : Result Long Refusal) → r ≡ Walks.long_by b → b ≡ a → r ≡ Walks.long_by a
long_alone a b r e h = e ∙ ap Walks.long_by h

module _ (e : Edition) (o : Order) (f : List ℕ) (l : Layout) where
  module _ (v x : ℕ) where
    pub long_empty : (eqb v 0 && eqb x 0) ≡ true → long 0 0 0 ≡ long_said e o f l (reference v x)
    unfolding long_said
    long_empty h = rw h

    module _ (h : (eqb v 0 && eqb x 0) ≡ false) (p z : ℕ) (P : p ≡ start_of e.tagged l 10 n_strls) (Z : z ≡ end_of e.tagged l 10 n_strls) where
      pub long_walk : long_said e o f l (reference v x) ≡ or_refused (records_from e.record_width o f v x z p)
      unfolding long_said records_from
      long_walk =
          ap (λ (b : Bool). or_refused (cond b (got (long 0 0 0)) (records_from e.record_width o f v x (end_of e.tagged l 10 n_strls) (start_of e.tagged l 10 n_strls)))) h
          ∙ ap (λ (y : ℕ). or_refused (records_from e.record_width o f v x (end_of e.tagged l 10 n_strls) y)) (sym P)
          ∙ ap (λ (y : ℕ). or_refused (records_from e.record_width o f v x y p)) (sym Z)

      pub long_past : z ≤ p → refused 17 ≡ long_said e o f l (reference v x)
      long_past b = sym (long_walk ∙ ap or_refused (from_past e.record_width o f v x z p b))

      pub long_out : length f < p → refused 17 ≡ long_said e o f l (reference v x)
      long_out b = sym (long_walk ∙ ap or_refused (from_out e.record_width o f v x z p b))

-- what the other cells mean
module _ (e : Edition) (o : Order) (f : List ℕ) (l : Layout) where
  pub long_none : (c : Cell) → ((v x : ℕ) → c ≡ Variants.Reference v x → ⊥) → Ok (record { kind = 0; at = 0; len = 0 }) ≡ Walks.long_by (long_said e o f l (says c))
  unfolding long_said
  long_none (Variants.Whole n) h = refl
  long_none (Variants.Single x) h = refl
  long_none (Variants.Double x) h = refl
  long_none (Variants.Letter k) h = refl
  long_none Variants.Between h = refl
  long_none Variants.Outside h = refl
  long_none (Variants.Text p n) h = refl
  long_none (Variants.Reference v x) h = absurd (h v x refl)

-- ---- after the cell

pub long_said_lem : (e : Edition) (o : Order) (f : List ℕ) (l : Layout) (s : Says) → or_refused (long_by e o f l s) ≡ long_said e o f l s
unfolding long_said
long_said_lem e o f l s = refl
