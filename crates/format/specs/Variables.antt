-- The map, and the lists with an entry for each variable: types, names, sort list, display formats, label-set names, variable labels.
-- In all sections `t` tells whether the edition is tagged, `o` is the byte order and `k` is K.
use Rattle.std.specs.Prelude.{ℕ, zero, suc, ◌+◌, ◌*◌, List, [], ◌∷◌, Bool, true, false, cond, not, ◌&&◌, length, eqb, leb, ltb}
use Rattle.format.specs.Number.{Order}
use Rattle.format.specs.Grammar.{Sect, within, number, text, ruled, times, coded, ended, member, between}
use Rattle.format.specs.Edition.{code_width, text_max, map_count, opening, closing, n_map, n_variable_types, n_varnames, n_sortlist, n_formats, n_value_label_names, n_variable_labels}

-- ---- map

-- the positions as they stand in the file: fourteen numbers of 8 bytes, none in an untagged edition
unfoldable pub file_map : Bool → Order → Sect (List ℕ)
file_map t o = between (opening t n_map) (closing t n_map) (within (map_count t * 8) (times (number o 8) (map_count t)))

-- ---- types

-- the type of a variable: text of a fixed width, strL (long strings), or one of five numeric types
pub data VarType : Type 0 where
  text_type : ℕ → VarType
  strl_type byte_type int_type long_type float_type double_type : VarType

-- the code of a type, in a tagged and in an untagged edition
abbrev pub code_of : Bool → VarType → ℕ
code_of t (text_type w) = w
code_of t strl_type = 32768
code_of true byte_type = 65530
code_of true int_type = 65529
code_of true long_type = 65528
code_of true float_type = 65527
code_of true double_type = 65526
code_of false byte_type = 251
code_of false int_type = 252
code_of false long_type = 253
code_of false float_type = 254
code_of false double_type = 255

-- the type of a code: a numeric type, strL, else a text of that width
abbrev pub type_by : Bool → ℕ → VarType
type_by t c =
    cond (eqb c (code_of t byte_type)) byte_type
    (cond (eqb c (code_of t int_type)) int_type
    (cond (eqb c (code_of t long_type)) long_type
    (cond (eqb c (code_of t float_type)) float_type
    (cond (eqb c (code_of t double_type)) double_type
    (cond (eqb c (code_of t strl_type)) strl_type
    (text_type c))))))

-- the edition has the type: texts from 1 byte to its longest, strL where it is tagged, all five numeric types
abbrev pub has_type : Bool → VarType → Bool
has_type t (text_type w) = leb 1 w && leb w (text_max t)
has_type t strl_type = t
has_type t byte_type = true
has_type t int_type = true
has_type t long_type = true
has_type t float_type = true
has_type t double_type = true

-- a type, by its code, which must be known
unfoldable pub type_code : Bool → Order → Sect VarType
type_code t o = ruled (coded (type_by t) (code_of t) (number o (code_width t))) (has_type t) 6

-- the types
unfoldable pub types : Bool → Order → ℕ → Sect (List VarType)
types t o k = between (opening t n_variable_types) (closing t n_variable_types) (within (k * code_width t) (times (type_code t o) k))

-- ---- names

-- the text is not empty
abbrev pub nonempty : List ℕ → Bool
nonempty t = ltb 0 (length t)

-- a name in w bytes: a text field that is not empty
unfoldable pub name : ℕ → Sect (List ℕ)
name w = ruled (text w 7) nonempty 7

-- the variable names, each in w bytes
unfoldable pub names : Bool → ℕ → ℕ → Sect (List (List ℕ))
names t w k = between (opening t n_varnames) (closing t n_varnames) (within (k * w) (times (name w) k))

-- ---- sort list

-- numbers at most k, none of them among those before it, nor in `seen`
abbrev pub fresh : ℕ → List ℕ → List ℕ → Bool
fresh k seen [] = true
fresh k seen (x ∷ l) = leb x k && (not (member x seen) && fresh k (x ∷ seen) l)

-- the sort list: distinct variable numbers up to the first zero entry, in K + 1 entries of 2 bytes
unfoldable pub sort_list : Bool → Order → ℕ → Sect (List ℕ)
sort_list t o k = between (opening t n_sortlist) (closing t n_sortlist) (within (suc k * 2) (ruled (ended o 2 (suc k) 8) (fresh k []) 8))

-- ---- display formats, label-set names, variable labels

-- k text fields of w bytes between the tags of the name n
unfoldable pub fields : Bool → List ℕ → ℕ → ℕ → Sect (List (List ℕ))
fields t n w k = between (opening t n) (closing t n) (within (k * w) (times (text w 7) k))

-- the display formats
abbrev pub formats : Bool → ℕ → ℕ → Sect (List (List ℕ))
formats t w k = fields t n_formats w k

-- the label-set names, which may be empty
abbrev pub set_names : Bool → ℕ → ℕ → Sect (List (List ℕ))
set_names t w k = fields t n_value_label_names w k

-- the variable labels
abbrev pub var_labels : Bool → ℕ → ℕ → Sect (List (List ℕ))
var_labels t w k = fields t n_variable_labels w k
