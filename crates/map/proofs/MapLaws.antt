-- Laws of the map.
use mathlib.Core.Path.{◌≡◌, refl, sym, ap, ◌∙◌}
use Prim.Native.Nat.{ℕ, zero, suc, ◌+◌, ◌-◌, ◌*◌, ◌≤◌, ◌<◌}
use native.Mathlib.Nat.{sub-zero}
use native.Mathlib.Numerals.{add-one}
use native.Mathlib.Omega.{arith}
use mathlib.Core.List.{List, [], ◌∷◌}
use mathlib.Core.Bool.{Bool, true, false, cond}
use lib.ListN.{length, get_or, drop, drop_of_length-le}
use lib.Seq.{drop-cons}
use borrow.Author.Tests.{eq-eqb, ne_eqb}
use Rattle.format.specs.Number.{Order, num}
use Rattle.format.specs.Grammar.{Sect, next, number, within, times, read_times, judge_times, between, tag}
use Rattle.format.specs.Edition.{map_count, opening, closing, n_map}
use Rattle.format.specs.Variables.{file_map}
use Rattle.format.specs.Dta.{same_list}
use Rattle.format.proofs.StepLaws.{times_next, between_read}
use Rattle.map.specs.Maps.{MapJudged, positions_at}
use Rattle.std.specs.Prelude.{Result, Ok, Err}
use Rattle.refusal.specs.declared.Refusal.{Refusal}
use Rattle.section.specs.Judged.{Judged}
use Rattle.section.specs.Parts.{Opened}
use Rattle.section.proofs.PartLaws.{open_refused, close_judged, part_by}

-- positions are never refused
numbers_judge : (o : Order) (n : ℕ) (f : List ℕ) (p : ℕ) → 0 ≡ judge_times (number o 8) n f p
numbers_judge o zero f p = refl
numbers_judge o (suc n) f p = numbers_judge o n f (p + 8)

module _ (t : Bool) (f : List ℕ) (p : ℕ) where
  abbrev l : List ℕ
  l = cond t (opening true n_map) []

  abbrev r : List ℕ
  r = cond t (closing true n_map) []

  abbrev pub positions : Order → Sect (List ℕ)
  positions o = times (number o 8) (map_count t)

  told : (o : Order) (s : Result ℕ Refusal) → Judged (between l r (within (map_count t * 8) (positions o))) f p s → Judged (file_map t o) f p s
  unfolding file_map
  told o s j = part_by t n_map _ f p s j

  pub map_refused : (e : Refusal) → Opened l (map_count t * 8) f p (Err e) → MapJudged t f p (Err e)
  map_refused e h o = told o (Err e) (open_refused l r (map_count t * 8) (positions o) f p e h)

  module _ {a : ℕ} (h : Opened l (map_count t * 8) f p (Ok a)) where
    pub map_closed : (s : Result ℕ Refusal) → Judged (tag r 4) f (a + map_count t * 8) s → MapJudged t f p s
    map_closed s k o =
        told o s
        (close_judged l r (map_count t * 8) (positions o) f p h (a + map_count t * 8) s (numbers_judge o (map_count t) f a)
        (sym (times_next (number o 8) 8 (λ x. refl) (map_count t) f a)) k)

-- ---- the positions from q on and the places from i on, n of each

module _ (o : Order) (f d : List ℕ) where
  abbrev pub same_from : ℕ → ℕ → Bool
  same_from i q = same_list (read_times (number o 8) (length d - i) f q) (drop i d)

  pub same_all : (q : ℕ) → length d ≡ 14 → same_from 0 q ≡ same_list (positions_at o f q) d
  unfolding positions_at
  same_all q h = ap (λ (n : ℕ). same_list (read_times (number o 8) n f q) d) (sub-zero (length d) ∙ h)

  -- no more
  pub same_none : (i q : ℕ) → length d ≤ i → true ≡ same_from i q
  same_none i q h = let e : length d - i ≡ 0 = omega arith in rw (e, drop_of_length-le d h)

  module _ (i q : ℕ) (b : i < length d) where
    left : length d - i ≡ suc (length d - (i + 1))
    left = omega arith

    rest : drop i d ≡ get_or d i 0 ∷ drop (i + 1) d
    rest = drop-cons d i 0 b ∙ ap (λ (k : ℕ). get_or d i 0 ∷ drop k d) (sym (add-one i))

    -- they differ; or they are the same, and the rest decides
    pub same_stop : (num o 8 f q ≡ get_or d i 0 → ⊥) → false ≡ same_from i q
    same_stop n = rw (left, rest, ne_eqb (num o 8 f q) (get_or d i 0) n)

    pub same_turn : num o 8 f q ≡ get_or d i 0 → same_from (i + 1) (q + 8) ≡ same_from i q
    same_turn e = rw (left, rest, eq-eqb (num o 8 f q) (get_or d i 0) e)

-- ---- the whole map

module _ (f : List ℕ) (p : ℕ) (o : Order) (t : Bool) where
  -- a tagged edition's map has its positions after its opening tag
  pub map_inside : t ≡ true → next (file_map t o) f p ≤ length f → p + 5 + 112 ≤ length f
  unfolding file_map between tag
  map_inside e h = let g = rw e at h in omega arith

  tagged_read : (file_map true o).read f p ≡ positions_at o f (p + 5)
  unfolding file_map positions_at
  tagged_read = between_read (opening true n_map) (closing true n_map) (within 112 (times (number o 8) 14)) f p

  pub map_tagged : t ≡ true → (d : List ℕ) (r : Bool) → r ≡ same_list (positions_at o f (p + 5)) d → r ≡ same_list ((file_map t o).read f p) (cond t d [])
  map_tagged e d r h = rw (e, tagged_read) h

  -- an untagged edition has none
  pub map_untagged : t ≡ false → (d : List ℕ) → true ≡ same_list ((file_map t o).read f p) (cond t d [])
  unfolding file_map between
  map_untagged e d = rw e
