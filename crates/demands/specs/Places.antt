-- Where the parts of a file start, while it is checked: e and o are its edition and its byte order. A part starts where the one before it ends,
-- and what it is depends on what the parts before it say: K, N, the types, the cells.
use Rattle.std.specs.Prelude.{◌≡◌, ℕ, ◌≤◌, List, true, length}
use Rattle.format.specs.Number.{Order}
use Rattle.format.specs.Grammar.{Sect, next}
use Rattle.format.specs.Edition.{Edition}
use Rattle.format.specs.Header.{header}
use Rattle.format.specs.Variables.{VarType, file_map, types, names, sort_list, formats, set_names, var_labels}
use Rattle.format.specs.Expansion.{expansions}
use Rattle.format.specs.Data.{Cell, observations, strls}
use Rattle.format.specs.Dta.{known, length_max}

-- the section S of f at p is right: nothing in it is refused
abbrev pub Met : {A : Type 0} → Sect A → List ℕ → ℕ → Type 0
Met S f p = S.judge f p ≡ 0

module _ (e : Edition) (o : Order) (f : List ℕ) where
  -- ---- where each part starts

  -- K and N
  unfoldable pub k_in : ℕ
  k_in = ((header e o).read f 0).0

  unfoldable pub n_in : ℕ
  n_in = ((header e o).read f 0).1.0

  unfoldable pub map_at : ℕ
  map_at = next (header e o) f 0

  unfoldable pub types_at : ℕ
  types_at = next (file_map e.tagged o) f map_at

  -- the types
  unfoldable pub types_in : List VarType
  types_in = (types e.tagged o k_in).read f types_at

  unfoldable pub names_at : ℕ
  names_at = next (types e.tagged o k_in) f types_at

  unfoldable pub sort_at : ℕ
  sort_at = next (names e.tagged e.name_width k_in) f names_at

  unfoldable pub formats_at : ℕ
  formats_at = next (sort_list e.tagged o k_in) f sort_at

  unfoldable pub set_names_at : ℕ
  set_names_at = next (formats e.tagged e.format_width k_in) f formats_at

  unfoldable pub var_labels_at : ℕ
  var_labels_at = next (set_names e.tagged e.name_width k_in) f set_names_at

  unfoldable pub expansions_at : ℕ
  expansions_at = next (var_labels e.tagged e.var_label_width k_in) f var_labels_at

  unfoldable pub data_at : ℕ
  data_at = next (expansions e.tagged o) f expansions_at

  -- the cells
  unfoldable pub cells_in : List (List Cell)
  cells_in = (observations e.tagged o e.v_width e.o_width types_in n_in).read f data_at

  unfoldable pub strls_at : ℕ
  strls_at = next (observations e.tagged o e.v_width e.o_width types_in n_in) f data_at

  unfoldable pub blocks_at : ℕ
  blocks_at = next (strls e.tagged o e.record_width cells_in) f strls_at

  -- ---- the parts before each are right

  -- the file keeps to the length bound, and begins as one of the editions does
  abbrev pub BeforeHeader : Type 0
  BeforeHeader = (length f ≤ length_max) × (known f ≡ true)

  abbrev pub BeforeMap : Type 0
  BeforeMap = BeforeHeader × Met (header e o) f 0

  abbrev pub BeforeTypes : Type 0
  BeforeTypes = BeforeMap × Met (file_map e.tagged o) f map_at

  abbrev pub BeforeNames : Type 0
  BeforeNames = BeforeTypes × Met (types e.tagged o k_in) f types_at

  abbrev pub BeforeSort : Type 0
  BeforeSort = BeforeNames × Met (names e.tagged e.name_width k_in) f names_at

  abbrev pub BeforeFormats : Type 0
  BeforeFormats = BeforeSort × Met (sort_list e.tagged o k_in) f sort_at

  abbrev pub BeforeSetNames : Type 0
  BeforeSetNames = BeforeFormats × Met (formats e.tagged e.format_width k_in) f formats_at

  abbrev pub BeforeVarLabels : Type 0
  BeforeVarLabels = BeforeSetNames × Met (set_names e.tagged e.name_width k_in) f set_names_at

  abbrev pub BeforeExpansions : Type 0
  BeforeExpansions = BeforeVarLabels × Met (var_labels e.tagged e.var_label_width k_in) f var_labels_at

  abbrev pub BeforeData : Type 0
  BeforeData = BeforeExpansions × Met (expansions e.tagged o) f expansions_at

  abbrev pub BeforeStrls : Type 0
  BeforeStrls = BeforeData × Met (observations e.tagged o e.v_width e.o_width types_in n_in) f data_at

  abbrev pub BeforeBlocks : Type 0
  BeforeBlocks = BeforeStrls × Met (strls e.tagged o e.record_width cells_in) f strls_at
