-- What is written, section after section.
use mathlib.Core.Path.{◌≡◌, refl, sym, ap, ◌∙◌, subst}
use Prim.Native.Nat.{ℕ, ◌+◌, ◌-◌, ◌*◌, ◌≤◌}
use native.Mathlib.Omega.{arith}
use mathlib.Core.List.{List, [], ◌++◌, append_assoc}
use mathlib.Core.Bool.{Bool, true, false, cond}
use lib.ListN.{length, take, drop}
use Rattle.format.specs.Slot.{fill}
use Rattle.format.specs.Number.{Order}
use Rattle.format.specs.Grammar.{tag}
use Rattle.format.specs.Edition.{Edition, opening, closing, blocks_end, n_characteristics, n_map, map_count}
use Rattle.format.specs.Header.{Head, header}
use Rattle.format.specs.Variables.{file_map}
use Rattle.format.specs.Expansion.{expansions}
use Rattle.format.specs.Dta.{Dataset, head_of, map_of, positions, dataset_of, written, part_sizes}
use Rattle.format.proofs.WriteLaws.{written_parts, fill_length}
use Rattle.format.proofs.HeaderLaws.{header_good}
use Rattle.format.proofs.SlotLaws.{length_fill}
use Rattle.format.proofs.PartLaws.{map_length}
use Rattle.sources.specs.declared.Source.{Source}
use Rattle.sources.specs.Sources.{Sourced}
use Rattle.sources.specs.Parts.{head_to, map_to, types_to, names_to, sort_to, formats_to, sets_to, labels_to, extras_to, rows_to, longs_to, blocks_to}
use Rattle.write_lists.specs.Lists.{first_lists, later_lists}

extras_by : (t : Bool) (o : Order) → opening t n_characteristics ++ (blocks_end t ++ closing t n_characteristics) ≡ fill ((expansions t o).slots [])
unfolding expansions tag
extras_by true o = refl
extras_by false o = refl

map_bytes : (t : Bool) → length (opening t n_map) + (map_count t * 8 + length (closing t n_map)) ≡ cond t 123 0
map_bytes true = refl
map_bytes false = refl

module _ (e : Edition) (o : Order) (d : Dataset) where
  abbrev pub first_part : List ℕ
  first_part = head_to e o d ++ (map_to e o d ++ first_lists e o d)

  abbrev pub second_part : List ℕ
  second_part = later_lists e o d ++ (extras_to e o d ++ rows_to e o d)

  abbrev pub third_part : List ℕ
  third_part = longs_to e o d ++ blocks_to e o d

  -- all of them are what is written
  pub written_is : first_part ++ (second_part ++ third_part) ≡ written e o d
  unfolding head_to map_to types_to names_to sort_to formats_to sets_to labels_to extras_to rows_to longs_to blocks_to
  written_is = simp append_assoc (sym (written_parts e o d))

  -- no expansion blocks, no characteristics
  pub extras_is : opening e.tagged n_characteristics ++ (blocks_end e.tagged ++ closing e.tagged n_characteristics) ≡ extras_to e o d
  unfolding extras_to
  extras_is = extras_by e.tagged o

  -- the map
  pub map_is : (p : List ℕ) → p ≡ positions e o (d, []) → fill ((file_map e.tagged o).slots (cond e.tagged p [])) ≡ map_to e o d
  unfolding map_to
  map_is p h = ap (λ (x : List ℕ). fill ((file_map e.tagged o).slots (cond e.tagged x []))) h

  -- .. and its length
  pub map_long : length (map_to e o d) ≡ cond e.tagged 123 0
  unfolding map_to
  map_long = length_fill ((file_map e.tagged o).slots (map_of e o (d, []))) ∙ map_length e o (d, []) ∙ map_bytes e.tagged

  pub fourteen : (p : List ℕ) → p ≡ positions e o (d, []) → length p ≡ 14
  unfolding part_sizes
  fourteen p h = ap length h

-- the n bytes from p on, as code takes them
cut : (f : List ℕ) (p n : ℕ) → take (p + n - p) (drop p f) ≡ take n (drop p f)
cut f p n = let e : p + n - p ≡ n = omega arith in ap (λ (k : ℕ). take k (drop p f)) e

-- the header
module _ (f : List ℕ) (s : Source) (S : Sourced f s) (e : Edition) (o : Order) where
  abbrev label : List ℕ
  label = take (s.lat + s.llen - s.lat) (drop s.lat f)

  abbrev stamp : List ℕ
  stamp = take (s.sat + s.slen - s.sat) (drop s.sat f)

  pub label_is : label ≡ (dataset_of f).label
  label_is = cut f s.lat s.llen ∙ S.label.is

  pub stamp_is : stamp ≡ (dataset_of f).stamp
  stamp_is = cut f s.sat s.slen ∙ S.stamp.is

  head_of_lem : (s.k, (s.n, (label, stamp))) ≡ head_of (dataset_of f)
  head_of_lem = λ i. (S.variables i, (S.observations i, (label_is i, stamp_is i)))

  pub head_is : fill ((header e o).slots (s.k, (s.n, (label, stamp)))) ≡ head_to e o (dataset_of f)
  unfolding head_to
  head_is = ap (λ (h : Head). fill ((header e o).slots h)) head_of_lem

  pub head_room : e.number ≤ 255 → (n : ℕ) → length (head_to e o (dataset_of f)) ≤ n
      → (header e o).size (s.k, (s.n, (label, stamp))) ≤ n
  unfolding head_to
  head_room b n h =
      subst (λ (x : Head). (header e o).size x ≤ n) (sym head_of_lem)
      (omega (arith, fill_length (header e o) (header_good e o (omega arith)) (head_of (dataset_of f))))
