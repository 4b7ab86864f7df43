-- The parts of a file: their sizes and positions, and a file's rules and slots section by section.
use mathlib.Core.Path.{◌≡◌, refl, sym, ap, ◌∙◌}
use Prim.Native.Nat.{ℕ, zero, suc, ◌+◌, ◌*◌, ◌<◌}
use native.Mathlib.Omega.{arith}
use mathlib.Core.List.{List, [], ◌∷◌, ◌++◌}
use mathlib.Core.Bool.{Bool, true, false, cond}
use lib.ListN.{length, get_or}
use Rattle.format.specs.Slot.{Slot, Fits, Bytes}
use Rattle.format.specs.Number.{Order}
use Rattle.format.specs.Grammar.{Sect, number, sizes, tag, between, done}
use Rattle.format.specs.Edition.{Edition, map_count, opening, closing, n_map}
use Rattle.format.specs.Header.{header}
use Rattle.format.specs.Variables.{file_map, types, names, sort_list, formats, set_names, var_labels}
use Rattle.format.specs.Expansion.{expansions}
use Rattle.format.specs.Data.{observations, strls}
use Rattle.format.specs.Labels.{blocks}
use Rattle.format.specs.Dta.{Dataset, Extras, head_of, spread, sums, part_sizes, positions, map_of, from_strls, from_data, from_expansions, from_var_labels, from_set_names, from_formats, from_sort_list, from_names, from_types, from_map, sections, file_to, file, release_of, edition_of, order_of, verdict, contents, Layout, layout_of}
use Rattle.format.proofs.SlotLaws.{fits_left, fits_right, fits_after}
use Rattle.format.proofs.Good.{Good}
use Rattle.format.proofs.HeaderLaws.{header_good}
use Rattle.format.proofs.VariableLaws.{map_good, types_good, names_good, sort_good, fields_good}
use Rattle.format.proofs.ExpansionLaws.{expansions_good}
use Rattle.format.proofs.DataLaws.{data_good, strls_good}
use Rattle.format.proofs.FileLaws.{Said, sound, itself, layout_is, read_good, list_same}

-- ---- sizes and positions

-- the sum of a list
abbrev pub total : List ℕ → ℕ
total [] = 0
total (x ∷ l) = x + total l

-- the map's bytes
map_size_by : (t : Bool) (e : Edition) (o : Order) (w : Dataset × Extras) → sizes (number o 8) (cond t (positions e o w) []) ≡ map_count t * 8
unfolding part_sizes
map_size_by true e o w = refl
map_size_by false e o w = refl

pub map_size_lem : (e : Edition) (o : Order) (w : Dataset × Extras) → sizes (number o 8) (map_of e o w) ≡ map_count e.tagged * 8
map_size_lem e o w = map_size_by e.tagged e o w

-- a file's size is the sum of its parts' sizes
pub size_total : (e : Edition) (o : Order) (w : Dataset × Extras) → (file e o).size w ≡ total (part_sizes e o w)
unfolding file_to sections from_map from_types from_names from_sort_list from_formats from_set_names from_var_labels from_expansions from_data from_strls part_sizes file_map blocks between tag
size_total e o w = omega (arith, map_size_lem e o w)

last_place : (e : Edition) (o : Order) (w : Dataset × Extras) → get_or (positions e o w) 13 0 ≡ total (part_sizes e o w)
unfolding part_sizes
last_place e o w = omega arith

-- the last position is the file's length
pub layout_ends : (f : List ℕ) → Bytes f → verdict f ≡ 0 → get_or (layout_of f).places 13 0 ≡ length f
layout_ends f u h =
    ap (λ (l : Layout). get_or l.places 13 0) (layout_is (release_of f) (order_of f) f (contents f) (itself f h))
    ∙ last_place (edition_of f) (order_of f) (contents f) ∙ sym (size_total (edition_of f) (order_of f) (contents f))
    ∙ sym ((read_good (release_of f) (order_of f)).sized (contents f)) ∙ (sound f u h).whole

-- a file has thirteen parts
pub thirteen : (e : Edition) (o : Order) (w : Dataset × Extras) → length (part_sizes e o w) ≡ 13
unfolding part_sizes
thirteen e o w = refl

-- where part j of a file stands, counted from 0
abbrev pub place : Edition → Order → Dataset × Extras → ℕ → ℕ
place e o w j = get_or (positions e o w) j 0

-- .. in an accepted file
pub place_is : (f : List ℕ) → verdict f ≡ 0 → (j : ℕ) → get_or (layout_of f).places j 0 ≡ place (edition_of f) (order_of f) (contents f) j
place_is f h j = ap (λ (l : Layout). get_or l.places j 0) (layout_is (release_of f) (order_of f) f (contents f) (itself f h))

-- ---- section by section

-- what a file may say, section by section; the map is what it must be
pub record SectionsRight (e : Edition) (o : Order) (d : Dataset) (x : Extras) : Type 0 where
  pub head : (header e o).Right (head_of d)
  pub map : (file_map e.tagged o).Right (map_of e o (d, x))
  pub type_list : (types e.tagged o d.k).Right d.var_types
  pub name_list : (names e.tagged e.name_width d.k).Right d.var_names
  pub sort : (sort_list e.tagged o d.k).Right d.sorted
  pub format_list : (formats e.tagged e.format_width d.k).Right d.display_formats
  pub set_list : (set_names e.tagged e.name_width d.k).Right d.label_sets
  pub label_list : (var_labels e.tagged e.var_label_width d.k).Right d.variable_labels
  pub extras : (expansions e.tagged o).Right x
  pub rows : (observations e.tagged o e.v_width e.o_width d.var_types d.n).Right d.cells
  pub longs : (strls e.tagged o e.record_width d.cells).Right d.long_strings
  pub block_list : (blocks e.tagged o e.name_width (done 13)).Right d.label_blocks

pub sections_of : (e : Edition) (o : Order) (d : Dataset) (x : Extras) → (file e o).Right (d, x) → SectionsRight e o d x
unfolding file_to sections from_map from_types from_names from_sort_list from_formats from_set_names from_var_labels from_expansions from_data from_strls
sections_of e o d x r =
    let a = r.0.1.1 in
    let b = a.1.1.1.1.1.1 in
    record {
      head = r.0.0;
      map = r.0.1.0;
      type_list = a.0;
      name_list = a.1.0;
      sort = a.1.1.0;
      format_list = a.1.1.1.0;
      set_list = a.1.1.1.1.0;
      label_list = a.1.1.1.1.1.0;
      extras = b.0;
      rows = b.1.0;
      longs = b.1.1.0;
      block_list = b.1.1.1;
    }

pub of_sections : (e : Edition) (o : Order) (d : Dataset) (x : Extras) → SectionsRight e o d x → (file e o).Right (d, x)
unfolding file_to sections from_map from_types from_names from_sort_list from_formats from_set_names from_var_labels from_expansions from_data from_strls
of_sections e o d x r = (
  (r.head, (r.map, (r.type_list, (r.name_list, (r.sort, (r.format_list, (r.set_list, (r.label_list, (r.extras, (r.rows, (r.longs, r.block_list))))))))))),
  list_same (map_of e o (d, x)),
)

-- each section's slots stand at its position
pub record SectionsFit (e : Edition) (o : Order) (d : Dataset) (x : Extras) (f : List ℕ) : Type 0 where
  pub head : Fits f 0 ((header e o).slots (head_of d))
  pub map : Fits f (place e o (d, x) 1) ((file_map e.tagged o).slots (map_of e o (d, x)))
  pub type_list : Fits f (place e o (d, x) 2) ((types e.tagged o d.k).slots d.var_types)
  pub name_list : Fits f (place e o (d, x) 3) ((names e.tagged e.name_width d.k).slots d.var_names)
  pub sort : Fits f (place e o (d, x) 4) ((sort_list e.tagged o d.k).slots d.sorted)
  pub format_list : Fits f (place e o (d, x) 5) ((formats e.tagged e.format_width d.k).slots d.display_formats)
  pub set_list : Fits f (place e o (d, x) 6) ((set_names e.tagged e.name_width d.k).slots d.label_sets)
  pub label_list : Fits f (place e o (d, x) 7) ((var_labels e.tagged e.var_label_width d.k).slots d.variable_labels)
  pub extras : Fits f (place e o (d, x) 8) ((expansions e.tagged o).slots x)
  pub rows : Fits f (place e o (d, x) 9) ((observations e.tagged o e.v_width e.o_width d.var_types d.n).slots d.cells)
  pub longs : Fits f (place e o (d, x) 10) ((strls e.tagged o e.record_width d.cells).slots d.long_strings)
  pub block_list : Fits f (place e o (d, x) 11) ((blocks e.tagged o e.name_width (done 13)).slots d.label_blocks)

-- the map's slots
pub map_length : (e : Edition) (o : Order) (w : Dataset × Extras)
    → length ((file_map e.tagged o).slots (map_of e o w)) ≡ length (opening e.tagged n_map) + (map_count e.tagged * 8 + length (closing e.tagged n_map))
unfolding file_map between tag
map_length e o w =
    (map_good e.tagged o).sized (map_of e o w)
    ∙ ap (λ (n : ℕ). length (opening e.tagged n_map) + (n + length (closing e.tagged n_map))) (map_size_lem e o w)

pub sections_fit : (e : Edition) (o : Order) (d : Dataset) (x : Extras) (f : List ℕ) → e.number < 256 → Fits f 0 ((file e o).slots (d, x)) → SectionsFit e o d x f
unfolding file_to sections from_map from_types from_names from_sort_list from_formats from_set_names from_var_labels from_expansions from_data from_strls part_sizes
sections_fit e o d x f z m =
    let t = e.tagged in
    let v = spread e o (d, x) in
    let k = d.k in
    let end = done 13 in
    let a0 = (header e o).slots (head_of d) in
    let m1 = fits_after f 0 _ a0 ((from_map e o end k d.n).slots v.1) ((header_good e o z).sized (head_of d)) m in
    let a1 = (file_map t o).slots (map_of e o (d, x)) in
    let m2 = fits_after f _ _ a1 ((from_types e o end k d.n).slots v.1.1) (map_length e o (d, x)) m1 in
    let a2 = (types t o k).slots d.var_types in
    let m3 = fits_after f _ _ a2 ((from_names e o end k d.n d.var_types).slots v.1.1.1) ((types_good t o k).sized d.var_types) m2 in
    let a3 = (names t e.name_width k).slots d.var_names in
    let m4 = fits_after f _ _ a3 ((from_sort_list e o end k d.n d.var_types).slots v.1.1.1.1) ((names_good t e.name_width k).sized d.var_names) m3 in
    let a4 = (sort_list t o k).slots d.sorted in
    let m5 = fits_after f _ _ a4 ((from_formats e o end k d.n d.var_types).slots v.1.1.1.1.1) ((sort_good t o k).sized d.sorted) m4 in
    let a5 = (formats t e.format_width k).slots d.display_formats in
    let m6 = fits_after f _ _ a5 ((from_set_names e o end k d.n d.var_types).slots v.1.1.1.1.1.1) ((fields_good t _ e.format_width k refl).sized d.display_formats) m5 in
    let a6 = (set_names t e.name_width k).slots d.label_sets in
    let m7 = fits_after f _ _ a6 ((from_var_labels e o end k d.n d.var_types).slots v.1.1.1.1.1.1.1) ((fields_good t _ e.name_width k refl).sized d.label_sets) m6 in
    let a7 = (var_labels t e.var_label_width k).slots d.variable_labels in
    let m8 = fits_after f _ _ a7 ((from_expansions e o end d.n d.var_types).slots v.1.1.1.1.1.1.1.1) ((fields_good t _ e.var_label_width k refl).sized d.variable_labels) m7 in
    let a8 = (expansions t o).slots x in
    let m9 = fits_after f _ _ a8 ((from_data e o end d.n d.var_types).slots v.1.1.1.1.1.1.1.1.1) ((expansions_good t o).sized x) m8 in
    let a9 = (observations t o e.v_width e.o_width d.var_types d.n).slots d.cells in
    let m10 = fits_after f _ _ a9 ((from_strls e o end d.cells).slots v.1.1.1.1.1.1.1.1.1.1) ((data_good o e.v_width e.o_width t d.var_types d.n).sized d.cells) m9 in
    let a10 = (strls t o e.record_width d.cells).slots d.long_strings in
    let a11 = (blocks t o e.name_width end).slots d.label_blocks in
    let m11 = fits_after f _ _ a10 a11 ((strls_good t o e.record_width d.cells).sized d.long_strings) m10 in
    record {
      head = fits_left f 0 a0 _ m;
      map = fits_left f _ a1 _ m1;
      type_list = fits_left f _ a2 _ m2;
      name_list = fits_left f _ a3 _ m3;
      sort = fits_left f _ a4 _ m4;
      format_list = fits_left f _ a5 _ m5;
      set_list = fits_left f _ a6 _ m6;
      label_list = fits_left f _ a7 _ m7;
      extras = fits_left f _ a8 _ m8;
      rows = fits_left f _ a9 _ m9;
      longs = fits_left f _ a10 _ m10;
      block_list = m11;
    }
