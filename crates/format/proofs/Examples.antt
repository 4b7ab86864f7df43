-- Examples, computed from the definitions: those of document 01 that are marked P, and small files and sections at the edges of the rules
-- with the number that each gets.
use mathlib.Core.Path.{◌≡◌, refl}
use Prim.Native.Nat.{ℕ, zero, suc, ◌+◌, ◌-◌}
use Prim.Native.String.{String}
use mathlib.Core.List.{List, [], ◌∷◌, ◌++◌}
use mathlib.Core.Bool.{true, false}
use lib.ListN.{length, get_or, replicate, set}
use lib.Dec.{leb}
use lib.IntN.{pos}
use lib.Ieee.{binary32, of_bits}
use Rattle.format.specs.Slot.{fill}
use Rattle.format.specs.Number.{msf, lsf}
use Rattle.format.specs.Grammar.{Sect, unless, tag, between, done}
use Rattle.format.specs.Edition.{r114, r117, edition, ascii}
use Rattle.format.specs.Header.{old_stamp, old_header, counted, new_facts, new_header}
use Rattle.format.specs.Variables.{VarType, byte_type, float_type, double_type, int_type, file_map, type_code, types, name, names, sort_list, fields}
use Rattle.format.specs.Expansion.{expansion_head, expansion_body, expansion, expansions}
use Rattle.format.specs.Data.{Cell, bits, link, observations, LongString, linked, long_head, long_record, strls}
use Rattle.format.specs.Cells.{Says, whole, single, letter, outside, says_at, Key, nothing, seeks, key_real, key_of}
use Rattle.format.specs.Cells as Cells
use Rattle.format.specs.Labels.{table_head, table_body, table, block_head, block, blocks}
use Rattle.format.specs.Dta.{Dataset, Layout, part_sizes, from_strls, from_data, from_expansions, from_var_labels, from_set_names, from_formats, from_sort_list, from_names, from_types, from_map, sections, file_to, verdict, contents, dataset_of, layout_of, written}

-- ---- the examples of document 01

-- an example: a cell of a type, by its bytes, MSF, and what it says; what it seeks in a label table; a label table, MSF, and the number that
-- judging it gives; an accepted file and its layout
pub data Example : Type 0 where
  cell_says : VarType → List ℕ → Says → Example
  cell_seeks : VarType → List ℕ → Key → Example
  table_judged : List ℕ → ℕ → Example
  file_laid_out : List ℕ → Layout → Example

-- the example holds
abbrev pub Holds : Example → Type 0
Holds (cell_says t c s) = says_at msf 4 4 t c 0 ≡ s
Holds (cell_seeks t c k) = key_of (says_at msf 4 4 t c 0) ≡ k
Holds (table_judged t n) = (table msf (length t)).judge t 0 ≡ n
Holds (file_laid_out f l) = (verdict f ≡ 0) × (layout_of f ≡ l)

-- each of them holds
abbrev pub AllHold : List Example → Type 0
AllHold [] = Unit
AllHold (x ∷ l) = (Holds x) × (AllHold l)

-- 003's table of 31 bytes for yes and no, with its two values
abbrev pub yes_no : ℕ → ℕ → List ℕ
yes_no a b =
    (0 ∷ 0 ∷ 0 ∷ 2 ∷ 0 ∷ 0 ∷ 0 ∷ 7 ∷ 0 ∷ 0 ∷ 0 ∷ 0 ∷ 0 ∷ 0 ∷ 0 ∷ 4 ∷ 0 ∷ 0 ∷ 0 ∷ a ∷ 0 ∷ 0 ∷ 0 ∷ b ∷ [])
    ++ ascii "yes" ++ (0 ∷ []) ++ ascii "no" ++ (0 ∷ [])

-- a position below 65,536 in the map, MSF
abbrev pub at : ℕ → ℕ → List ℕ
at a b = 0 ∷ 0 ∷ 0 ∷ 0 ∷ 0 ∷ 0 ∷ a ∷ b ∷ []

-- P14: 117, MSF, float and int, N = 1, 17-byte stamp, names myfloat and myint, all else empty
unfoldable pub p14 : List ℕ
p14 =
    ascii "<stata_dta><header><release>117</release><byteorder>MSF</byteorder><K>" ++ (0 ∷ 2 ∷ [])
    ++ ascii "</K><N>" ++ (0 ∷ 0 ∷ 0 ∷ 1 ∷ [])
    ++ ascii "</N><label>" ++ (0 ∷ [])
    ++ ascii "</label><timestamp>" ++ (17 ∷ []) ++ ascii "10 Jul 2013 14:23"
    ++ ascii "</timestamp></header><map>"
    ++ at 0 0 ++ at 0 153 ++ at 1 20 ++ at 1 57 ++ at 1 144 ++ at 1 171 ++ at 2 32
    ++ at 2 137 ++ at 3 78 ++ at 3 113 ++ at 3 132 ++ at 3 147 ++ at 3 176 ++ at 3 188
    ++ ascii "</map><variable_types>" ++ (255 ∷ 247 ∷ 255 ∷ 249 ∷ [])
    ++ ascii "</variable_types><varnames>myfloat" ++ replicate 26 0 ++ ascii "myint" ++ replicate 28 0
    ++ ascii "</varnames><sortlist>" ++ replicate 6 0
    ++ ascii "</sortlist><formats>" ++ replicate 98 0
    ++ ascii "</formats><value_label_names>" ++ replicate 66 0
    ++ ascii "</value_label_names><variable_labels>" ++ replicate 162 0
    ++ ascii "</variable_labels><characteristics></characteristics><data>" ++ replicate 6 0
    ++ ascii "</data><strls></strls><value_labels></value_labels></stata_dta>"

-- the table of the examples, P1 to P14
pub documented : List Example
documented =
    cell_says byte_type (0x64 ∷ []) (whole (pos 100))
    ∷ cell_says byte_type (0x65 ∷ []) (letter 0)
    ∷ cell_says byte_type (0x80 ∷ []) outside
    ∷ cell_says float_type (0x7e ∷ 0xff ∷ 0xff ∷ 0xff ∷ []) (single (of_bits binary32 0x7effffff))
    ∷ cell_says float_type (0x7f ∷ 0x00 ∷ 0xd0 ∷ 0x00 ∷ []) (letter 26)
    ∷ cell_says float_type (0x7f ∷ 0x00 ∷ 0x08 ∷ 0x01 ∷ []) Cells.between
    ∷ cell_says double_type (0x7f ∷ 0xe0 ∷ 0x01 ∷ 0 ∷ 0 ∷ 0 ∷ 0 ∷ 0 ∷ []) (letter 1)
    ∷ cell_seeks double_type (0x40 ∷ 0x22 ∷ 0 ∷ 0 ∷ 0 ∷ 0 ∷ 0 ∷ 0 ∷ []) (seeks (pos 9))
    ∷ cell_seeks double_type (0x40 ∷ 0x23 ∷ 0x66 ∷ 0x66 ∷ 0x66 ∷ 0x66 ∷ 0x66 ∷ 0x66 ∷ []) nothing
    ∷ cell_seeks double_type (0x41 ∷ 0xdf ∷ 0xff ∷ 0xff ∷ 0xf9 ∷ 0x80 ∷ 0 ∷ 0 ∷ []) nothing
    ∷ cell_seeks double_type (0x80 ∷ 0 ∷ 0 ∷ 0 ∷ 0 ∷ 0 ∷ 0 ∷ 0 ∷ []) (seeks (pos 0))
    ∷ table_judged (yes_no 1 2) 0
    ∷ table_judged (yes_no 2 1) 12
    ∷ file_laid_out p14
    (record { release = 117; order = 1; variables = 2; rows = 1; places = 0 ∷ 153 ∷ 276 ∷ 313 ∷ 400 ∷ 427 ∷ 544 ∷ 649 ∷ 846 ∷ 881 ∷ 900 ∷ 915 ∷ 944 ∷ 956 ∷ [] })
    ∷ []

-- 7. The examples hold (P1 to P14).
pub examples : AllHold documented
unfolding documented p14 key_real of_bits verdict layout_of contents file_to sections from_map from_types from_names from_sort_list from_formats from_set_names from_var_labels from_expansions from_data from_strls part_sizes new_facts new_header counted file_map type_code types name names sort_list fields expansions observations linked strls table_head table_body table blocks tag between
examples = (refl, (refl, (refl, (refl, (refl, (refl, (refl, (refl, (refl, (refl, (refl, (refl, (refl, ((refl, refl), tt))))))))))))))

-- ---- what P14 says, and that it is written as it was

p14_says : dataset_of p14
    ≡ record {
      k = 2;
      n = 1;
      label = [];
      stamp = ascii "10 Jul 2013 14:23";
      var_types = float_type ∷ int_type ∷ [];
      var_names = ascii "myfloat" ∷ ascii "myint" ∷ [];
      sorted = [];
      display_formats = [] ∷ [] ∷ [];
      label_sets = [] ∷ [] ∷ [];
      variable_labels = [] ∷ [] ∷ [];
      cells = (bits 0 ∷ bits 0 ∷ []) ∷ [];
      long_strings = [];
      label_blocks = [];
    }
unfolding p14 contents file_to sections from_map from_types from_names from_sort_list from_formats from_set_names from_var_labels from_expansions from_data from_strls part_sizes new_facts new_header counted file_map type_code types name names sort_list fields expansions observations strls blocks tag between
p14_says = refl

p14_written : written (edition r117) msf (dataset_of p14) ≡ p14
unfolding p14 written contents file_to sections from_map from_types from_names from_sort_list from_formats from_set_names from_var_labels from_expansions from_data from_strls part_sizes new_facts new_header counted file_map type_code types name names sort_list fields expansions observations strls blocks tag between
p14_written = refl

-- an old header, 109 bytes, is written with its unused byte 1 and its other dead bytes 0
old_written : fill ((old_header 114 msf 4 80).slots (0, (0, ([], [])))) ≡ 114 ∷ 1 ∷ 1 ∷ 1 ∷ replicate 105 0
unfolding old_header old_stamp
old_written = refl
