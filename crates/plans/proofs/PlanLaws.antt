-- Positions and sizes.
use mathlib.Core.Path.{◌≡◌, refl, sym, ap, ◌∙◌}
use Prim.Native.Nat.{ℕ, suc, ◌+◌, ◌*◌, ◌≤◌}
use native.Mathlib.Nat.{mul-le-mul_left, mul-le-mul_right, suc-mul, zero-mul}
use native.Mathlib.Numerals.{add-one}
use native.Mathlib.Omega.{arith}
use mathlib.Core.List.{List, [], ◌∷◌}
use mathlib.Core.Bool.{Bool, true, false, cond}
use lib.ListN.{length}
use Rattle.format.specs.Slot.{Bytes}
use Rattle.format.specs.Number.{Order}
use Rattle.format.specs.Grammar.{Sect, sizes, AllRight, text, row, row_size, RowRight, row_width, tag, between}
use Rattle.format.specs.Edition.{Edition, code_width, map_count, opening, closing, n_map, n_variable_types, n_varnames, n_sortlist, n_formats, n_value_label_names, n_variable_labels, n_data, n_strls, n_value_labels, n_stata_dta}
use Rattle.format.specs.Variables.{VarType, text_type, strl_type, byte_type, int_type, long_type, float_type, double_type, type_code, types, name, names, sort_list, fields}
use Rattle.format.specs.Expansion.{expansions}
use Rattle.format.specs.Data.{Cell, cell, cell_width, observations, long_record, strls}
use Rattle.format.specs.Labels.{block}
use Rattle.format.specs.Dta.{Dataset, dataset_of, edition_of, order_of, contents, verdict, positions, sums, part_sizes}
use Rattle.format.proofs.PartLaws.{SectionsRight}
use Rattle.editions.specs.Editions.{numbers_of}
use Rattle.editions.specs.declared.Edition as Code
use Rattle.sources.proofs.SourceLaws.{right}
use Rattle.plans.specs.declared.Sizes.{Sizes}
use Rattle.plans.specs.Plans.{Sized, sizes_by}

pub product_small : (k w a b : ℕ) → k ≤ a → w ≤ b → k * w ≤ a * b
product_small k w a b p q = omega (arith, mul-le-mul_right w p, mul-le-mul_left a q)

-- ---- the thirteen sizes

-- a part between the tags of the name n
part_size : (t : Bool) (n : List ℕ) (x : ℕ) → length (opening t n) + (x + length (closing t n)) ≡ cond t (length (opening true n) + length (closing true n)) 0 + x
part_size true n x = omega arith
part_size false n x = omega arith

map_size_lem : (t : Bool) → length (opening t n_map) + (map_count t * 8 + length (closing t n_map)) ≡ cond t 123 0 + 0
map_size_lem true = refl
map_size_lem false = refl

extras_size : (t : Bool) (o : Order) → (expansions t o).size [] ≡ cond t 30 0 + 5
unfolding expansions tag
extras_size true o = refl
extras_size false o = refl

end_size : (t : Bool) → length (closing t n_stata_dta) ≡ cond t 12 0 + 0
end_size true = refl
end_size false = refl

module _ {A : Type 0} (S : Sect A) (x : ℕ) (wide : (a : A) → S.size a ≡ x) where
  sizes_flat : (l : List A) → sizes S l ≡ length l * x
  sizes_flat [] = sym (zero-mul x)
  sizes_flat (a ∷ l) = rw suc-mul (omega (arith, wide a, sizes_flat l))

  -- a list of k
  list_size : (t : Bool) (n : List ℕ) (k : ℕ) (l : List A) → length l ≡ k
      → length (opening t n) + (sizes S l + length (closing t n)) ≡ cond t (length (opening true n) + length (closing true n)) 0 + k * x
  list_size t n k l e = part_size t n (sizes S l) ∙ ap (λ (y : ℕ). cond t (length (opening true n) + length (closing true n)) 0 + y) (sizes_flat l ∙ ap (λ (y : ℕ). y * x) e)

-- a row is as wide in any form
module _ (o z : Order) (vw ow v w : ℕ) where
  cell_width_lem : (t : VarType) (c : Cell) → (cell z v w t).size c ≡ cell_width v w t
  cell_width_lem (text_type x) c = refl
  cell_width_lem strl_type c = refl
  cell_width_lem byte_type c = refl
  cell_width_lem int_type c = refl
  cell_width_lem long_type c = refl
  cell_width_lem float_type c = refl
  cell_width_lem double_type c = refl

  row_size_lem : (k : List VarType) (l : List Cell) → RowRight (cell o vw ow) k l → row_size (cell z v w) k l ≡ row_width (cell_width v w) k
  row_size_lem [] [] r = refl
  row_size_lem [] (c ∷ l) r = absurd r
  row_size_lem (t ∷ k) [] r = absurd r
  row_size_lem (t ∷ k) (c ∷ l) r = omega (arith, cell_width_lem t c, row_size_lem k l r.1)

  rows_size : (k : List VarType) (d : List (List Cell)) → AllRight (row (cell o vw ow) k) d → sizes (row (cell z v w) k) d ≡ length d * row_width (cell_width v w) k
  rows_size k [] r = sym (zero-mul (row_width (cell_width v w) k))
  rows_size k (l ∷ d) r = rw suc-mul (omega (arith, row_size_lem k l r.0, rows_size k d r.1))

module _ (f : List ℕ) (u : Bytes f) (h : verdict f ≡ 0) (to : Code.Edition) (z : Sizes) (G : Sized f to z) (o : Order) where
  abbrev d : Dataset
  d = dataset_of f

  abbrev E : Edition
  E = numbers_of to

  R : SectionsRight (edition_of f) (order_of f) d (contents f).1
  R = right f u h

  types_long : (types to.tagged o d.k).size d.var_types ≡ cond to.tagged 33 0 + d.k * code_width to.tagged
  unfolding types type_code between tag
  types_long = list_size (type_code to.tagged o) (code_width to.tagged) (λ a. refl) to.tagged n_variable_types d.k d.var_types R.type_list.1.0.0

  names_long : (names to.tagged to.name_width d.k).size d.var_names ≡ cond to.tagged 21 0 + d.k * to.name_width
  unfolding names name between tag
  names_long = list_size (name to.name_width) to.name_width (λ a. refl) to.tagged n_varnames d.k d.var_names R.name_list.1.0.0

  fields_long : (n : List ℕ) (w x : ℕ) (l : List (List ℕ)) → (fields (edition_of f).tagged n w d.k).Right l
      → (fields to.tagged n x d.k).size l ≡ cond to.tagged (length (opening true n) + length (closing true n)) 0 + d.k * x
  unfolding fields between tag
  fields_long n w x l r = list_size (text x 7) x (λ a. refl) to.tagged n d.k l r.1.0.0

  sort_long : (sort_list to.tagged o d.k).size d.sorted ≡ cond to.tagged 21 0 + suc d.k * 2
  unfolding sort_list between tag
  sort_long = part_size to.tagged n_sortlist (suc d.k * 2)

  rows_long : (observations to.tagged o to.v_width to.o_width d.var_types d.n).size d.cells ≡ cond to.tagged 13 0 + z.rows
  unfolding observations between tag
  rows_long =
      part_size to.tagged n_data (sizes (row (cell o to.v_width to.o_width) d.var_types) d.cells)
      ∙ ap (λ (x : ℕ). cond to.tagged 13 0 + x)
      (rows_size (order_of f) o (edition_of f).v_width (edition_of f).o_width to.v_width to.o_width d.var_types d.cells R.rows.1.0.1
      ∙ ap (λ (x : ℕ). x * row_width (cell_width to.v_width to.o_width) d.var_types) R.rows.1.0.0 ∙ sym G.rows)

  longs_long : (strls to.tagged o to.record_width d.cells).size d.long_strings ≡ cond to.tagged 15 0 + z.longs
  unfolding strls tag
  longs_long =
      ap (λ (x : ℕ). length (opening to.tagged n_strls) + (sizes (long_record to.tagged o to.record_width) d.long_strings + x)) (zero_in (length (closing to.tagged n_strls)))
      ∙ part_size to.tagged n_strls (sizes (long_record to.tagged o to.record_width) d.long_strings) ∙ ap (λ (x : ℕ). cond to.tagged 15 0 + x) (sym (G.longs o))
    where
      zero_in : (x : ℕ) → 0 + x ≡ x
      zero_in x = omega arith

  blocks_long : length (opening to.tagged n_value_labels) + (sizes (block to.tagged o to.name_width) d.label_blocks + length (closing to.tagged n_value_labels))
      ≡ cond to.tagged 29 0 + z.blocks
  blocks_long = part_size to.tagged n_value_labels (sizes (block to.tagged o to.name_width) d.label_blocks) ∙ ap (λ (x : ℕ). cond to.tagged 29 0 + x) (sym (G.blocks o))

  -- all thirteen
  sizes_are : sizes_by to d.k z ≡ part_sizes E o (d, [])
  unfolding sizes_by part_sizes
  sizes_are = λ i.
      G.head o i
      ∷ sym (map_size_lem to.tagged) i
      ∷ sym types_long i
      ∷ sym names_long i
      ∷ sym sort_long i
      ∷ sym (fields_long n_formats (edition_of f).format_width to.format_width d.display_formats R.format_list) i
      ∷ sym (fields_long n_value_label_names (edition_of f).name_width to.name_width d.label_sets R.set_list) i
      ∷ sym (fields_long n_variable_labels (edition_of f).var_label_width to.var_label_width d.variable_labels R.label_list) i
      ∷ sym (extras_size to.tagged o) i
      ∷ sym rows_long i
      ∷ sym longs_long i
      ∷ sym blocks_long i
      ∷ sym (end_size to.tagged) i
      ∷ []

  -- so the sums of the code's sizes are the positions
  pub places_are : (k : ℕ) (p : List ℕ) → k ≡ d.k → p ≡ sums 0 (sizes_by to k z) → p ≡ positions E o (d, [])
  places_are k p e q = q ∙ ap (λ (x : ℕ). sums 0 (sizes_by to x z)) e ∙ ap (sums 0) sizes_are

-- ---- the sums, as code adds them

pub next_there : (b : Bool) (p t n : ℕ) → b ≡ true → p + (t + n) ≡ p + (cond b t 0 + n)
next_there b p t n h = rw h

pub next_bare : (b : Bool) (p t n : ℕ) → b ≡ false → p + n ≡ p + (cond b t 0 + n)
next_bare b p t n h = rw h (omega arith)

module _ (e : Code.Edition) (k : ℕ) (z : Sizes) (b1 b2 b3 b4 b5 p2 p3 p4 p5 p6 p7 p8 p9 p10 p11 p12 p13 : ℕ) where
  abbrev t : Bool
  t = e.tagged

  pub sums_are : b1 ≡ k * code_width t → b2 ≡ k * e.name_width → b3 ≡ (k + 1) * 2 → b4 ≡ k * e.format_width → b5 ≡ k * e.var_label_width
      → p2 ≡ z.head + (cond t 123 0 + 0) → p3 ≡ p2 + (cond t 33 0 + b1) → p4 ≡ p3 + (cond t 21 0 + b2) → p5 ≡ p4 + (cond t 21 0 + b3)
      → p6 ≡ p5 + (cond t 19 0 + b4) → p7 ≡ p6 + (cond t 39 0 + b2) → p8 ≡ p7 + (cond t 35 0 + b5) → p9 ≡ p8 + (cond t 30 0 + 5)
      → p10 ≡ p9 + (cond t 13 0 + z.rows) → p11 ≡ p10 + (cond t 15 0 + z.longs) → p12 ≡ p11 + (cond t 29 0 + z.blocks) → p13 ≡ p12 + (cond t 12 0 + 0)
      → 0 ∷ z.head ∷ p2 ∷ p3 ∷ p4 ∷ p5 ∷ p6 ∷ p7 ∷ p8 ∷ p9 ∷ p10 ∷ p11 ∷ p12 ∷ p13 ∷ [] ≡ sums 0 (sizes_by e k z)
  unfolding sizes_by
  sums_are c1 c2 c3 c4 c5 e2 e3 e4 e5 e6 e7 e8 e9 e10 e11 e12 e13 =
      let h : z.head ≡ 0 + z.head = omega arith in
      let c : b3 ≡ suc k * 2 = c3 ∙ ap (λ (x : ℕ). x * 2) (add-one k) in
      let f2 : p2 ≡ 0 + z.head + (cond t 123 0 + 0) = omega (arith, e2) in
      let f3 : p3 ≡ 0 + z.head + (cond t 123 0 + 0) + (cond t 33 0 + k * code_width t) = omega (arith, e3, f2, c1) in
      let f4 = e4 ∙ (λ i. f3 i + (cond t 21 0 + c2 i)) in
      let f5 = e5 ∙ (λ i. f4 i + (cond t 21 0 + c i)) in
      let f6 = e6 ∙ (λ i. f5 i + (cond t 19 0 + c4 i)) in
      let f7 = e7 ∙ (λ i. f6 i + (cond t 39 0 + c2 i)) in
      let f8 = e8 ∙ (λ i. f7 i + (cond t 35 0 + c5 i)) in
      let f9 = e9 ∙ (λ i. f8 i + (cond t 30 0 + 5)) in
      let f10 = e10 ∙ (λ i. f9 i + (cond t 13 0 + z.rows)) in
      let f11 = e11 ∙ (λ i. f10 i + (cond t 15 0 + z.longs)) in
      let f12 = e12 ∙ (λ i. f11 i + (cond t 29 0 + z.blocks)) in
      let f13 = e13 ∙ (λ i. f12 i + (cond t 12 0 + 0)) in
      λ i. 0 ∷ h i ∷ f2 i ∷ f3 i ∷ f4 i ∷ f5 i ∷ f6 i ∷ f7 i ∷ f8 i ∷ f9 i ∷ f10 i ∷ f11 i ∷ f12 i ∷ f13 i ∷ []
