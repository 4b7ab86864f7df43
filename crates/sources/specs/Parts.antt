-- What is written for each part of a dataset, tags included.
use Rattle.std.specs.Prelude.{ℕ, List, []}
use Rattle.format.specs.Slot.{fill}
use Rattle.format.specs.Number.{Order}
use Rattle.format.specs.Grammar.{done}
use Rattle.format.specs.Edition.{Edition}
use Rattle.format.specs.Header.{header}
use Rattle.format.specs.Variables.{file_map, types, names, sort_list, formats, set_names, var_labels}
use Rattle.format.specs.Expansion.{expansions}
use Rattle.format.specs.Data.{observations, strls}
use Rattle.format.specs.Labels.{blocks}
use Rattle.format.specs.Dta.{Dataset, head_of, map_of}

module _ (e : Edition) (o : Order) (d : Dataset) where
  -- header
  unfoldable pub head_to : List ℕ
  head_to = fill ((header e o).slots (head_of d))

  -- map: none in an untagged edition
  unfoldable pub map_to : List ℕ
  map_to = fill ((file_map e.tagged o).slots (map_of e o (d, [])))

  -- types
  unfoldable pub types_to : List ℕ
  types_to = fill ((types e.tagged o d.k).slots d.var_types)

  -- names
  unfoldable pub names_to : List ℕ
  names_to = fill ((names e.tagged e.name_width d.k).slots d.var_names)

  -- sort list
  unfoldable pub sort_to : List ℕ
  sort_to = fill ((sort_list e.tagged o d.k).slots d.sorted)

  -- display formats
  unfoldable pub formats_to : List ℕ
  formats_to = fill ((formats e.tagged e.format_width d.k).slots d.display_formats)

  -- label-set names
  unfoldable pub sets_to : List ℕ
  sets_to = fill ((set_names e.tagged e.name_width d.k).slots d.label_sets)

  -- variable labels
  unfoldable pub labels_to : List ℕ
  labels_to = fill ((var_labels e.tagged e.var_label_width d.k).slots d.variable_labels)

  -- no expansion blocks, no characteristics
  unfoldable pub extras_to : List ℕ
  extras_to = fill ((expansions e.tagged o).slots [])

  -- data
  unfoldable pub rows_to : List ℕ
  rows_to = fill ((observations e.tagged o e.v_width e.o_width d.var_types d.n).slots d.cells)

  -- long strings
  unfoldable pub longs_to : List ℕ
  longs_to = fill ((strls e.tagged o e.record_width d.cells).slots d.long_strings)

  -- label blocks, and the end of the file
  unfoldable pub blocks_to : List ℕ
  blocks_to = fill ((blocks e.tagged o e.name_width (done 13)).slots d.label_blocks)
