-- Editions: the numbers that tell their layouts apart, and their tags.
use Rattle.std.specs.Prelude.{ℕ, zero, suc, ◌+◌, ◌*◌, ◌/◌, ◌%◌, ◌≤◌, List, [], ◌∷◌, ◌++◌, Bool, true, false, cond, ◌||◌, eqb}
use Prim.Native.String.{String}
use Prim.Native.String as Texts
use Prim.Native.Char.{code}
use Rattle.format.specs.Number.{Order, msf, lsf}

-- what an edition's layout depends on
pub record Edition : Type 0 where
  -- its number
  pub number : ℕ
  -- whether its parts stand between tags (117 on)
  pub tagged : Bool
  -- bytes of N
  pub n_width : ℕ
  -- longest dataset label; bytes of its length in a tagged edition
  pub label_max : ℕ
  pub label_length : ℕ
  -- bytes of a variable name, of a label-set name, of the name of a label block
  pub name_width : ℕ
  -- bytes of a display format
  pub format_width : ℕ
  -- bytes of a variable label
  pub var_label_width : ℕ
  -- bytes of v and of o in a strL cell, and of o in a strL record
  pub v_width : ℕ
  pub o_width : ℕ
  pub record_width : ℕ

-- the editions that are read
pub data Release : Type 0 where
  r113 r114 r115 r117 r118 : Release

-- the numbers of each
abbrev pub edition : Release → Edition
edition r113 =
    record { number = 113; tagged = false; n_width = 4; label_max = 80; label_length = 1; name_width = 33; format_width = 12; var_label_width = 81; v_width = 4; o_width = 4; record_width = 4 }
edition r114 =
    record { number = 114; tagged = false; n_width = 4; label_max = 80; label_length = 1; name_width = 33; format_width = 49; var_label_width = 81; v_width = 4; o_width = 4; record_width = 4 }
edition r115 =
    record { number = 115; tagged = false; n_width = 4; label_max = 80; label_length = 1; name_width = 33; format_width = 49; var_label_width = 81; v_width = 4; o_width = 4; record_width = 4 }
edition r117 =
    record { number = 117; tagged = true; n_width = 4; label_max = 80; label_length = 1; name_width = 33; format_width = 49; var_label_width = 81; v_width = 4; o_width = 4; record_width = 4 }
edition r118 =
    record { number = 118; tagged = true; n_width = 8; label_max = 320; label_length = 2; name_width = 129; format_width = 57; var_label_width = 321; v_width = 2; o_width = 6; record_width = 8 }

-- the list of them: what a file begins as, what a layout names and what is offered are sought here, from its first to its last
abbrev pub releases : List Release
releases = r113 ∷ r114 ∷ r115 ∷ r117 ∷ r118 ∷ []

-- one of the list passes a test
abbrev pub some : (Release → Bool) → List Release → Bool
some p [] = false
some p (r ∷ l) = p r || some p l

-- the first that passes it; 118 where none does
abbrev pub first : (Release → Bool) → List Release → Release
first p [] = r118
first p (r ∷ l) = cond (p r) r (first p l)

-- n is the number of an edition that is read
abbrev pub is_release : ℕ → Bool
is_release n = some (λ r. eqb n (edition r).number) releases

-- the edition of the number n; 118 where it is none
abbrev pub release_by : ℕ → Release
release_by n = first (λ r. eqb n (edition r).number) releases

-- no text field of z is narrower than that of e
pub record AsWide (e z : Edition) : Type 0 where
  pub label : e.label_max ≤ z.label_max
  pub names : e.name_width ≤ z.name_width
  pub formats : e.format_width ≤ z.format_width
  pub labels : e.var_label_width ≤ z.var_label_width

-- ---- what follows from whether an edition is tagged

-- bytes of a type code
abbrev pub code_width : Bool → ℕ
code_width true = 2
code_width false = 1

-- longest fixed-width text
abbrev pub text_max : Bool → ℕ
text_max true = 2045
text_max false = 244

-- bytes of an expansion block's type; a characteristic has none
abbrev pub kind_width : Bool → ℕ
kind_width true = 0
kind_width false = 1

-- how many positions the map has; an untagged edition has no map
abbrev pub map_count : Bool → ℕ
map_count true = 14
map_count false = 0

-- what ends the expansion blocks: type 0 with length 0; nothing ends the characteristics but their closing tag
abbrev pub blocks_end : Bool → List ℕ
blocks_end true = []
blocks_end false = 0 ∷ 0 ∷ 0 ∷ 0 ∷ 0 ∷ []

-- the bytes of a text in ASCII
abbrev pub ascii : String → List ℕ
ascii Texts.[] = []
ascii (Texts.◌∷◌ c s) = code c ∷ ascii s

-- the tag <name>; no bytes in an untagged edition
abbrev pub opening : Bool → List ℕ → List ℕ
opening true n = ascii "<" ++ n ++ ascii ">"
opening false n = []

-- the tag </name>; no bytes in an untagged edition
abbrev pub closing : Bool → List ℕ → List ℕ
closing true n = ascii "</" ++ n ++ ascii ">"
closing false n = []

-- ---- the names in the tags

abbrev pub n_stata_dta : List ℕ
n_stata_dta = ascii "stata_dta"

abbrev pub n_header : List ℕ
n_header = ascii "header"

abbrev pub n_release : List ℕ
n_release = ascii "release"

abbrev pub n_byteorder : List ℕ
n_byteorder = ascii "byteorder"

abbrev pub n_k : List ℕ
n_k = ascii "K"

abbrev pub n_n : List ℕ
n_n = ascii "N"

abbrev pub n_label : List ℕ
n_label = ascii "label"

abbrev pub n_timestamp : List ℕ
n_timestamp = ascii "timestamp"

abbrev pub n_map : List ℕ
n_map = ascii "map"

abbrev pub n_variable_types : List ℕ
n_variable_types = ascii "variable_types"

abbrev pub n_varnames : List ℕ
n_varnames = ascii "varnames"

abbrev pub n_sortlist : List ℕ
n_sortlist = ascii "sortlist"

abbrev pub n_formats : List ℕ
n_formats = ascii "formats"

abbrev pub n_value_label_names : List ℕ
n_value_label_names = ascii "value_label_names"

abbrev pub n_variable_labels : List ℕ
n_variable_labels = ascii "variable_labels"

abbrev pub n_characteristics : List ℕ
n_characteristics = ascii "characteristics"

abbrev pub n_ch : List ℕ
n_ch = ascii "ch"

abbrev pub n_data : List ℕ
n_data = ascii "data"

abbrev pub n_strls : List ℕ
n_strls = ascii "strls"

abbrev pub n_value_labels : List ℕ
n_value_labels = ascii "value_labels"

abbrev pub n_lbl : List ℕ
n_lbl = ascii "lbl"

-- GSO, which starts a strL record
abbrev pub t_gso : List ℕ
t_gso = ascii "GSO"

-- the three decimal digits of an edition's number
abbrev pub digits : ℕ → List ℕ
digits n = (48 + n / 100) ∷ (48 + n / 10 % 10) ∷ (48 + n % 10) ∷ []

-- <stata_dta><header><release>NNN</release>
abbrev pub tagged_start : ℕ → List ℕ
tagged_start n = opening true n_stata_dta ++ opening true n_header ++ opening true n_release ++ digits n ++ closing true n_release

-- how a file begins, by the edition's number: with those tags, or with the number as a byte
abbrev pub start_by : Bool → ℕ → List ℕ
start_by true n = tagged_start n
start_by false n = n ∷ []

-- how a file of the edition begins
abbrev pub start : Edition → List ℕ
start e = start_by e.tagged e.number

-- the byte order in an untagged edition: 1, most significant byte first; 2, least
abbrev pub order_mark : Order → ℕ
order_mark msf = 1
order_mark lsf = 2

-- the byte order in a tagged edition: MSF, LSF
abbrev pub order_text : Order → List ℕ
order_text msf = ascii "MSF"
order_text lsf = ascii "LSF"
