-- Laws for code that goes through a file section by section: what the first refusal is, where a section ends, where the parts stand.
use mathlib.Core.Path.{◌≡◌, refl, sym, ap, ◌∙◌}
use Prim.Native.Nat.{ℕ, zero, suc, ◌+◌, ◌*◌, ◌≤◌, ◌<◌}
use native.Mathlib.Nat.{add-zero, zero-mul, suc-mul}
use native.Mathlib.Omega.{arith}
use mathlib.Core.List.{List, [], ◌∷◌}
use mathlib.Core.Bool.{Bool, true, false, cond}
use lib.ListN.{length, get_or, take, drop}
use Rattle.format.specs.Number.{Order}
use Rattle.format.specs.Grammar.{Sect, also, unless, need, next, within, number, ruled, seq, told, times, read_times, sizes, tag, between, done}
use Rattle.format.specs.Edition.{Edition, map_count, opening, closing, n_map}
use Rattle.format.specs.Header.{header}
use Rattle.format.specs.Variables.{file_map, types, names, sort_list, formats, set_names, var_labels}
use Rattle.format.specs.Expansion.{expansions}
use Rattle.format.specs.Data.{observations, strls}
use Rattle.format.specs.Dta.{Dataset, Extras, Parts, gather, sums, part_sizes, positions, from_strls, from_data, from_expansions, from_var_labels, from_set_names, from_formats, from_sort_list, from_names, from_types, from_map, sections}
use Rattle.format.proofs.Good.{also_left, need_room}

-- ---- from one section to the next: v is the answer of the sections from p on

module _ {A B : Type 0} (S : Sect A) (T : A → Sect B) (f : List ℕ) {v p : ℕ} (here : v ≡ (seq S T).judge f p) where
  -- S refuses: that is the answer
  pub stop : (c : ℕ) → c ≡ S.judge f p → (c ≡ 0 → ⊥) → v ≡ c
  stop zero e n = absurd (n refl)
  stop (suc c) e n = here ∙ rw (sym e)

  -- S is right and ends at q: the answer is that of what follows there
  pub on : (q : ℕ) → 0 ≡ S.judge f p → q ≡ next S f p → v ≡ (T (S.read f p)).judge f q
  on q e z = here ∙ rw (sym e, z)

-- a section with a rule: what refuses it
module _ {A : Type 0} (S : Sect A) (t : A → Bool) (c : ℕ) (f : List ℕ) (p : ℕ) where
  pub ruled_on : S.judge f p ≡ 0 → (ruled S t c).judge f p ≡ unless (t (S.read f p)) c
  ruled_on e = rw e

-- ---- sections of a fixed number of bytes

module _ {A : Type 0} (n : ℕ) (S : Sect A) (f : List ℕ) (p : ℕ) where
  -- with bytes missing it is 3; with all there it is the section's own answer; and where it is right, they are all there
  pub within_short : need n f p ≡ 3 → (within n S).judge f p ≡ 3
  within_short e = rw e

  pub within_on : need n f p ≡ 0 → (within n S).judge f p ≡ S.judge f p
  within_on e = rw e

  pub within_room : (within n S).judge f p ≡ 0 → p + n ≤ length f
  within_room e = need_room n f p (also_left (need n f p) (S.judge f p) e)

-- where n sections of one width end
module _ {A : Type 0} (S : Sect A) (w : ℕ) (wide : (a : A) → S.size a ≡ w) where
  pub times_next : (n : ℕ) (f : List ℕ) (p : ℕ) → next (times S n) f p ≡ p + n * w
  times_next zero f p = rw zero-mul
  times_next (suc n) f p =
      let h : next S f p + sizes S (read_times S n f (next S f p)) ≡ next S f p + n * w = times_next n f (next S f p) in
      rw suc-mul (omega (arith, h, wide (S.read f p)))

-- ---- a section between tags

module _ {A : Type 0} (l r : List ℕ) (S : Sect A) (f : List ℕ) (p : ℕ) where
  pub between_judge : (between l r S).judge f p
      ≡ also ((tag l 4).judge f p) (also (S.judge f (p + length l)) ((tag r 4).judge f (next S f (p + length l))))
  unfolding between tag
  between_judge = refl

  pub between_read : (between l r S).read f p ≡ S.read f (p + length l)
  unfolding between tag
  between_read = refl

  pub between_next : next (between l r S) f p ≡ next S f (p + length l) + length r
  unfolding between tag
  between_next = omega arith

-- ---- the positions that a walk over the sections meets

-- the map's bytes, as read
map_next : (t : Bool) (o : Order) (f : List ℕ) (p : ℕ) → next (file_map t o) f p ≡ p + (length (opening t n_map) + (map_count t * 8 + length (closing t n_map)))
unfolding file_map
map_next t o f p =
    between_next (opening t n_map) (closing t n_map) (within (map_count t * 8) (times (number o 8) (map_count t))) f p
    ∙ ap (λ (q : ℕ). q + length (closing t n_map)) (times_next (number o 8) 8 (λ a. refl) (map_count t) f (p + length (opening t n_map)))
    ∙ omega arith

-- where the parts of a file stand that a walk over it met at p1, p2, .., each where the section before ended
pub record Met (e : Edition) (o : Order) (f : List ℕ) (v : Parts) (p1 p2 p3 p4 p5 p6 p7 p8 p9 p10 p11 : ℕ) : Type 0 where
  pub header_ends : p1 ≡ next (header e o) f 0
  pub map_ends : p2 ≡ next (file_map e.tagged o) f p1
  pub types_end : p3 ≡ next (types e.tagged o v.0.0) f p2
  pub names_end : p4 ≡ next (names e.tagged e.name_width v.0.0) f p3
  pub sort_ends : p5 ≡ next (sort_list e.tagged o v.0.0) f p4
  pub formats_end : p6 ≡ next (formats e.tagged e.format_width v.0.0) f p5
  pub sets_end : p7 ≡ next (set_names e.tagged e.name_width v.0.0) f p6
  pub labels_end : p8 ≡ next (var_labels e.tagged e.var_label_width v.0.0) f p7
  pub expansions_end : p9 ≡ next (expansions e.tagged o) f p8
  pub data_ends : p10 ≡ next (observations e.tagged o e.v_width e.o_width v.1.1.0 v.0.1.0) f p9
  pub strls_end : p11 ≡ next (strls e.tagged o e.record_width v.1.1.1.1.1.1.1.1.1.0) f p10

module _ (e : Edition) (o : Order) (end : Sect (Unit {0})) (f : List ℕ) where
  -- what the sections say
  abbrev said : Parts
  said = (sections e o end).read f 0

  -- the positions start with what the header and the map take
  walk_places : positions e o (gather said) ≡ 0 ∷ next (header e o) f 0 ∷ sums (next (file_map e.tagged o) f (next (header e o) f 0)) (drop 2 (part_sizes e o (gather said)))
  unfolding sections part_sizes
  walk_places =
      ap (λ (q : ℕ). 0 ∷ next (header e o) f 0 ∷ sums q (drop 2 (part_sizes e o (gather said)))) (sym (map_next e.tagged o f (next (header e o) f 0)))

  -- the first twelve positions are those that the walk met
  pub places_met : (p1 p2 p3 p4 p5 p6 p7 p8 p9 p10 p11 : ℕ) → Met e o f said p1 p2 p3 p4 p5 p6 p7 p8 p9 p10 p11
      → take 12 (positions e o (gather said)) ≡ 0 ∷ p1 ∷ p2 ∷ p3 ∷ p4 ∷ p5 ∷ p6 ∷ p7 ∷ p8 ∷ p9 ∷ p10 ∷ p11 ∷ []
  unfolding sections from_map from_types from_names from_sort_list from_formats from_set_names from_var_labels from_expansions from_data from_strls part_sizes
  places_met p1 p2 p3 p4 p5 p6 p7 p8 p9 p10 p11 m =
      rw (m.strls_end, m.data_ends, m.expansions_end, m.labels_end, m.sets_end, m.formats_end, m.sort_ends, m.names_end, m.types_end, m.map_ends, m.header_ends)
      (ap (λ (l : List ℕ). take 12 l) walk_places)
