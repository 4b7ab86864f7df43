-- An accepted file with its own layout, and a file that differs from it in dead bytes only.
use mathlib.Core.Path.{◌≡◌, sym, ap, ◌∙◌, subst}
use Prim.Native.Nat.{ℕ, ◌<◌}
use native.Mathlib.Omega.{arith}
use mathlib.Core.List.{List}
use mathlib.Core.Bool.{true, false}
use lib.ListN.{length, get_or}
use Rattle.format.specs.Slot.{Fits, Bytes}
use Rattle.format.specs.Edition.{Release, edition}
use Rattle.format.specs.Labels.{LabelBlock}
use Rattle.format.specs.Cells.{signed_by}
use Rattle.format.specs.Search.{found}
use Rattle.format.specs.Dta.{Layout, layout_by, layout_of, file, verdict, contents, dataset_of, dead_in, release_of, order_of, edition_of}
use Rattle.format.proofs.SlotLaws.{fits_live}
use Rattle.format.proofs.FileLaws.{number_small, sound, itself, layout_is}
use Rattle.format.proofs.PartLaws.{SectionsRight, sections_of, SectionsFit, sections_fit}
use Rattle.questions.specs.Readings.{got}
use Rattle.questions.specs.Ask.{Question, Answer, shown, in_range, or_refused, answer_of}
use Rattle.questions.specs.Fact.{slot_fact, fact_in, fact_of, bytes_of}
use Rattle.questions.proofs.WordLaws.{blocks_right}
use Rattle.questions.proofs.FoundLaws.{blocks_found}
use Rattle.questions.proofs.FactLaws.{own_is, bytes_are, some_fact}
use Rattle.questions.proofs.SomeLaws.{Some, Answered, some_got, some_answered}

small : (r : Release) → (edition r).number < 1000
small r = omega (arith, number_small r)

module _ (f : List ℕ) (u : Bytes f) (h : verdict f ≡ 0) where
  -- its layout is that of its dataset
  abbrev layout : Layout
  layout = layout_by (edition_of f) (order_of f) (contents f)

  layout_own : layout_of f ≡ layout
  layout_own = layout_is (release_of f) (order_of f) f (contents f) (itself f h)

  right : SectionsRight (edition_of f) (order_of f) (dataset_of f) (contents f).1
  right = sections_of (edition_of f) (order_of f) (dataset_of f) (contents f).1 (sound f u h).right

  -- any file that fits what f says, by f's layout
  module _ (g : List ℕ) (m : Fits g 0 ((file (edition_of f) (order_of f)).slots (contents f))) where
    fit : SectionsFit (edition_of f) (order_of f) (dataset_of f) (contents f).1 g
    fit = sections_fit (edition_of f) (order_of f) (dataset_of f) (contents f).1 g (number_small (release_of f)) m

    answers : (q : Question) → answer_of g (layout_of f) q ≡ fact_of (edition_of f) (order_of f) (contents f) q
    answers q = ap (λ (l : Layout). answer_of g l q) layout_own ∙ own_is (release_of f) (order_of f) g (dataset_of f) (contents f).1 (small (release_of f)) right fit q

    shows : (q : Question) → shown g (answer_of g (layout_of f) q) ≡ bytes_of (edition_of f) (order_of f) (contents f) q
    shows q =
        ap (λ (l : Layout). shown g (answer_of g l q)) layout_own
        ∙ bytes_are (release_of f) (order_of f) g (dataset_of f) (contents f).1 (small (release_of f)) right fit q

  pub own_answer : (q : Question) → answer_of f (layout_of f) q ≡ fact_of (edition_of f) (order_of f) (contents f) q
  own_answer = answers f (sound f u h).fits

  pub own_bytes : (q : Question) → shown f (answer_of f (layout_of f) q) ≡ bytes_of (edition_of f) (order_of f) (contents f) q
  own_bytes = shows f (sound f u h).fits

  -- a question in range
  module _ (q : Question) (b : in_range (layout_of f) q ≡ true) where
    in_own : in_range layout q ≡ true
    in_own = subst (λ (l : Layout). in_range l q ≡ true) layout_own b

    some : Some (fact_in (edition_of f) (order_of f) (contents f) q)
    some = some_fact (edition_of f) (order_of f) f (dataset_of f) (contents f).1 (small (release_of f)) right (fit f (sound f u h).fits) q in_own

    fact_own : answer_of f (layout_of f) q ≡ or_refused (fact_in (edition_of f) (order_of f) (contents f) q)
    unfolding fact_of
    fact_own = own_answer q ∙ rw in_own

    pub own_fact : fact_in (edition_of f) (order_of f) (contents f) q ≡ got (answer_of f (layout_of f) q)
    own_fact = some_got (fact_in (edition_of f) (order_of f) (contents f) q) some ∙ ap (λ (a : Answer). got a) (sym fact_own)

    pub own_answered : Answered (answer_of f (layout_of f) q)
    own_answered = subst Answered (sym fact_own) (some_answered (fact_in (edition_of f) (order_of f) (contents f) q) some)

  -- each value of its label tables finds its own slot
  pub label_found : (z : LabelBlock) (i : ℕ) → i < length (dataset_of f).label_blocks → (m : ℕ) → m < length (get_or (dataset_of f).label_blocks i z).entries.offsets
      → slot_fact (signed_by 2147483648 (get_or (get_or (dataset_of f).label_blocks i z).entries.values m 0)) (get_or (dataset_of f).label_blocks i z).entries ≡ found m
  label_found z i b m c =
      blocks_found (edition_of f).tagged (order_of f) (edition_of f).name_width z (dataset_of f).label_blocks
      (blocks_right (edition_of f) (order_of f) (dataset_of f).label_blocks right.block_list) i b m c

  -- a file that agrees with f but for dead bytes
  module _ (g : List ℕ) (l : length g ≡ length f) (e : (i : ℕ) → i < length f → dead_in f i ≡ false → get_or g i 0 ≡ get_or f i 0) where
    fits_too : Fits g 0 ((file (edition_of f) (order_of f)).slots (contents f))
    unfolding dead_in
    fits_too = fits_live f g ((file (edition_of f) (order_of f)).slots (contents f)) (sound f u h).fits l e

    pub same_answer : (q : Question) → answer_of g (layout_of f) q ≡ answer_of f (layout_of f) q
    same_answer q = answers g fits_too q ∙ sym (own_answer q)

    pub same_shown : (q : Question) → shown g (answer_of g (layout_of f) q) ≡ shown f (answer_of f (layout_of f) q)
    same_shown q = shows g fits_too q ∙ sym (own_bytes q)
