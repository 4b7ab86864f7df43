-- The sort place of a variable.
use mathlib.Core.Path.{◌≡◌, ◌∙◌}
use Prim.Native.Nat.{ℕ, suc, ◌+◌, ◌-◌, ◌≤◌, ◌<◌}
use native.Mathlib.Omega.{arith}
use native.Mathlib.Nat.{sub-zero}
use native.Mathlib.Numerals.{add-one}
use mathlib.Core.List.{List}
use mathlib.Core.Bool.{cond}
use lib.ListN.{length}
use lib.Dec.{eqb}
use borrow.Author.Tests.{eq-eqb, ne_eqb}
use Rattle.format.specs.Number.{Order}
use Rattle.questions.specs.Readings.{Try, none, got, bind, number_in}
use Rattle.questions.specs.Ask.{Answer, count, sort_in}
use Rattle.std.specs.Prelude.{Some, None}
use Rattle.reading.specs.Reads.{read_by, place_in}
use Rattle.reading.proofs.ReadLaws.{read_got, read_none, number_nowhere, number_there}

-- a number as an answer
abbrev pub number_told : Try ℕ → Try Answer
number_told x = bind x λ n. got (count n)

-- the list starts past the end of the file
pub sort_past : (o : Order) (f : List ℕ) (i k p : ℕ) → None ≡ read_by (place_in f p) → sort_in o f i (suc k) 0 p ≡ none
sort_past o f i k p A = rw (number_nowhere f p A o 2)

module _ (o : Order) (f : List ℕ) (i k start : ℕ) where
  -- what is sought is sought from entry x, at p, on
  pub record Sorting (x p : ℕ) : Type 0 where
    pub inside : p ≤ length f
    pub few : x ≤ p
    pub upto : x ≤ suc k
    pub same : sort_in o f i (suc k) 0 start ≡ sort_in o f i (suc k - x) x p

  pub sort_starts : start ≤ length f → Sorting 0 start
  sort_starts h = record { inside = h; few = omega arith; upto = omega arith; same = rw (sub-zero (suc k)) }

  module _ {x p : ℕ} (s : Sorting x p) where
    pub sort_ends : k < x → sort_in o f i (suc k) 0 start ≡ got 0
    sort_ends h = let e : suc k - x ≡ 0 = omega (arith, s.upto) in s.same ∙ rw e

    module _ (h : x ≤ k) where
      left : suc k - x ≡ suc (k - x)
      left = omega arith

      pub sort_cut : None ≡ read_by (number_in o 2 f p) → sort_in o f i (suc k) 0 start ≡ none
      sort_cut e = s.same ∙ rw (left, read_none (number_in o 2 f p) e)

      module _ (v : ℕ) (e : Some v ≡ read_by (number_in o 2 f p)) where
        pub sort_room : p + 2 ≤ length f
        sort_room = number_there o 2 f p v e

        entry : sort_in o f i (suc k) 0 start ≡ cond (eqb v 0) (got 0) (cond (eqb v i) (got (suc x)) (sort_in o f i (k - x) (suc x) (p + 2)))
        entry = s.same ∙ rw (left, read_got v (number_in o 2 f p) e)

        pub sort_zero : v ≡ 0 → sort_in o f i (suc k) 0 start ≡ got 0
        sort_zero z = entry ∙ rw z

        module _ (z : v ≡ 0 → ⊥) where
          pub sort_found : v ≡ i → sort_in o f i (suc k) 0 start ≡ got (x + 1)
          sort_found y = entry ∙ rw (ne_eqb v 0 z, eq-eqb v i y, add-one x)

          pub sort_turns : (v ≡ i → ⊥) → Sorting (x + 1) (p + 2)
          sort_turns y =
              let r = sort_room in
              let q : suc k - (x + 1) ≡ k - x = omega arith in
              record {
                inside = r;
                few = omega (arith, s.few);
                upto = omega arith;
                same = entry ∙ rw (ne_eqb v 0 z, ne_eqb v i y, q, add-one x);
              }
