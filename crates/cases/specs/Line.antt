-- The line that the definitions of format compute for a file. Written by tools/cases.py.
use Rattle.std.specs.Prelude.{◌≡◌, ℕ, zero, suc, ◌-◌, ◌/◌, ◌%◌, List, [], ◌∷◌, cond, get_or, eqb}
use Rattle.format.specs.Dta.{Layout, from_strls, from_data, from_expansions, from_var_labels, from_set_names, from_formats, from_sort_list, from_names, from_types, from_map, sections, part_sizes, file_to, verdict, contents, layout_of}
use Rattle.format.specs.Grammar.{tag, between}
use Rattle.format.specs.Header.{old_stamp, old_header, counted, new_facts, new_header}
use Rattle.format.specs.Variables.{file_map, type_code, types, name, names, sort_list, fields}
use Rattle.format.specs.Expansion.{expansion_head, expansion_body, expansion, expansions}
use Rattle.format.specs.Data.{observations, linked, long_head, long_record, strls}
use Rattle.format.specs.Labels.{table_head, table_body, table, block_head, block, blocks}

-- what is said of a file: its refusal number; or edition, byte order, K, N and length
pub data Line : Type 0 where
  refused : ℕ → Line
  accepted : ℕ → ℕ → ℕ → ℕ → ℕ → Line

-- the byte orders: most or least significant byte first
abbrev pub MSF : ℕ
MSF = 1

abbrev pub LSF : ℕ
LSF = 2

-- the line of an accepted file with the layout
abbrev pub line_by : Layout → Line
line_by l = accepted l.release l.order l.variables l.rows (get_or l.places 13 0)

-- the line of a file
unfoldable pub line : List ℕ → Line
unfolding tag between old_stamp old_header counted new_facts new_header file_map type_code types name names sort_list fields expansion_head expansion_body expansion expansions observations linked long_head long_record strls table_head table_body table block_head block blocks from_strls from_data from_expansions from_var_labels from_set_names from_formats from_sort_list from_names from_types from_map sections part_sizes file_to verdict contents layout_of
line f = let a = line_by (layout_of f) in let r = refused (verdict f) in cond (eqb (verdict f) 0) a r

-- the w bytes of a number, most significant first, and then l
unfoldable pub digits : ℕ → ℕ → List ℕ → List ℕ
digits zero x l = l
digits (suc w) x l = digits w (x / 256) (x % 256 ∷ l)

-- n bytes: a number for each 32, and one for the rest
unfoldable pub bytes : ℕ → List ℕ → List ℕ
unfolding digits
bytes n [] = []
bytes n (x ∷ []) = digits n x []
bytes n (x ∷ y ∷ l) = digits 32 x (bytes (n - 32) (y ∷ l))

-- a case: a file's bytes, and its line
abbrev pub Case : Type 0
Case = List ℕ × Line

-- the lines that are computed, and those that are stated
unfoldable pub computed : List Case → List Line
computed [] = []
computed (c ∷ t) = line c.0 ∷ computed t

unfoldable pub stated : List Case → List Line
stated [] = []
stated (c ∷ t) = c.1 ∷ stated t

-- they are the same
unfoldable pub Agree : List Case → Type 0
unfolding line bytes computed stated
Agree t = computed t ≡ stated t
