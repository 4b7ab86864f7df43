-- A .dta file: its sections in order, its dataset, its layout, what is written.
use Rattle.std.specs.Prelude.{◌≡◌, ℕ, zero, suc, ◌+◌, ◌*◌, List, [], ◌∷◌, ◌++◌, Bool, true, false, cond, ◌&&◌, ◌||◌, length, get_or, replicate, eqb, leb, ltb}
use Rattle.format.specs.Slot.{Slot, fill, dead}
use Rattle.format.specs.Number.{Order, msf, order_by}
use Rattle.format.specs.Grammar.{Sect, also, unless, ruled, seq, told, done, sizes, each_size, same_at}
use Rattle.format.specs.Edition.{Edition, Release, edition, releases, some, first, start, order_mark, order_text, map_count, opening, closing, n_map, n_value_labels, n_stata_dta}
use Rattle.format.specs.Header.{Head, header}
use Rattle.format.specs.Variables.{file_map, VarType, has_type, types, names, sort_list, formats, set_names, var_labels}
use Rattle.format.specs.Expansion.{Expansion, expansions}
use Rattle.format.specs.Data.{Cell, observations, LongString, strls}
use Rattle.format.specs.Labels.{LabelBlock, block, blocks}

-- what a file says (document 01, "Three editions, one dataset"; it is the same in all five)
pub record Dataset : Type 0 where
  -- K, the number of variables, and N, the number of observations
  pub k : ℕ
  pub n : ℕ
  -- dataset label and stamp
  pub label : List ℕ
  pub stamp : List ℕ
  -- of each variable: type and name
  pub var_types : List VarType
  pub var_names : List (List ℕ)
  -- the sort list: variable numbers
  pub sorted : List ℕ
  -- of each variable: display format, label-set name, variable label
  pub display_formats : List (List ℕ)
  pub label_sets : List (List ℕ)
  pub variable_labels : List (List ℕ)
  -- of each observation: its cells
  pub cells : List (List Cell)
  -- long strings and label blocks, in file order
  pub long_strings : List LongString
  pub label_blocks : List LabelBlock

-- what is in a file and not in its dataset: expansion blocks or characteristics
abbrev pub Extras : Type 0
Extras = List Expansion

-- ---- the sections in file order

-- what they say, from each section on: long strings and label blocks; data; expansions; variable labels; label-set names; display
-- formats; sort list; names; types; map; header
abbrev pub StrlsOn : Type 0
StrlsOn = List LongString × List LabelBlock

abbrev pub DataOn : Type 0
DataOn = List (List Cell) × StrlsOn

abbrev pub ExpansionsOn : Type 0
ExpansionsOn = Extras × DataOn

abbrev pub VarLabelsOn : Type 0
VarLabelsOn = List (List ℕ) × ExpansionsOn

abbrev pub SetNamesOn : Type 0
SetNamesOn = List (List ℕ) × VarLabelsOn

abbrev pub FormatsOn : Type 0
FormatsOn = List (List ℕ) × SetNamesOn

abbrev pub SortListOn : Type 0
SortListOn = List ℕ × FormatsOn

abbrev pub NamesOn : Type 0
NamesOn = List (List ℕ) × SortListOn

abbrev pub TypesOn : Type 0
TypesOn = List VarType × NamesOn

abbrev pub MapOn : Type 0
MapOn = List ℕ × TypesOn

abbrev pub Parts : Type 0
Parts = Head × MapOn

-- the rest of a file from each section on, with `end` after the last: k is K, n is N, t are the types, d is the data
module _ (e : Edition) (o : Order) (end : Sect (Unit {0})) where
  unfoldable pub from_strls : List (List Cell) → Sect StrlsOn
  from_strls d = seq (strls e.tagged o e.record_width d) λ l. blocks e.tagged o e.name_width end

  unfoldable pub from_data : ℕ → List VarType → Sect DataOn
  from_data n t = seq (observations e.tagged o e.v_width e.o_width t n) from_strls

  unfoldable pub from_expansions : ℕ → List VarType → Sect ExpansionsOn
  from_expansions n t = seq (expansions e.tagged o) λ x. from_data n t

  unfoldable pub from_var_labels : ℕ → ℕ → List VarType → Sect VarLabelsOn
  from_var_labels k n t = seq (var_labels e.tagged e.var_label_width k) λ l. from_expansions n t

  unfoldable pub from_set_names : ℕ → ℕ → List VarType → Sect SetNamesOn
  from_set_names k n t = seq (set_names e.tagged e.name_width k) λ v. from_var_labels k n t

  unfoldable pub from_formats : ℕ → ℕ → List VarType → Sect FormatsOn
  from_formats k n t = seq (formats e.tagged e.format_width k) λ d. from_set_names k n t

  unfoldable pub from_sort_list : ℕ → ℕ → List VarType → Sect SortListOn
  from_sort_list k n t = seq (sort_list e.tagged o k) λ s. from_formats k n t

  unfoldable pub from_names : ℕ → ℕ → List VarType → Sect NamesOn
  from_names k n t = seq (names e.tagged e.name_width k) λ m. from_sort_list k n t

  unfoldable pub from_types : ℕ → ℕ → Sect TypesOn
  from_types k n = seq (types e.tagged o k) (from_names k n)

  unfoldable pub from_map : ℕ → ℕ → Sect MapOn
  from_map k n = seq (file_map e.tagged o) λ m. from_types k n

  -- all sections
  unfoldable pub sections : Sect Parts
  sections = seq (header e o) λ h. from_map h.0 h.1.0

-- what the sections say, as a dataset and extras
abbrev pub gather : Parts → Dataset × Extras
gather v =
    let a = v.1.1 in
    let b = a.1.1.1.1.1.1 in (
      record {
        k = v.0.0;
        n = v.0.1.0;
        label = v.0.1.1.0;
        stamp = v.0.1.1.1;
        var_types = a.0;
        var_names = a.1.0;
        sorted = a.1.1.0;
        display_formats = a.1.1.1.0;
        label_sets = a.1.1.1.1.0;
        variable_labels = a.1.1.1.1.1.0;
        cells = b.1.0;
        long_strings = b.1.1.0;
        label_blocks = b.1.1.1;
      },
      b.0,
    )

-- what the header says of a dataset
abbrev pub head_of : Dataset → Head
head_of d = (d.k, (d.n, (d.label, d.stamp)))

-- ---- positions

-- p, p + the first number, p + the first two, ..
abbrev pub sums : ℕ → List ℕ → List ℕ
sums p [] = p ∷ []
sums p (x ∷ l) = p ∷ sums (p + x) l

-- the sizes of the thirteen parts, tags included: header, map, types, names, sort list, formats, label-set names, variable labels,
-- expansions, data, long strings, label blocks, </stata_dta>
unfoldable pub part_sizes : Edition → Order → Dataset × Extras → List ℕ
part_sizes e o w =
    let d = w.0 in
    let t = e.tagged in
    (header e o).size (head_of d)
    ∷ (length (opening t n_map) + (map_count t * 8 + length (closing t n_map)))
    ∷ (types t o d.k).size d.var_types
    ∷ (names t e.name_width d.k).size d.var_names
    ∷ (sort_list t o d.k).size d.sorted
    ∷ (formats t e.format_width d.k).size d.display_formats
    ∷ (set_names t e.name_width d.k).size d.label_sets
    ∷ (var_labels t e.var_label_width d.k).size d.variable_labels
    ∷ (expansions t o).size w.1
    ∷ (observations t o e.v_width e.o_width d.var_types d.n).size d.cells
    ∷ (strls t o e.record_width d.cells).size d.long_strings
    ∷ (length (opening t n_value_labels) + (sizes (block t o e.name_width) d.label_blocks + length (closing t n_value_labels)))
    ∷ length (closing t n_stata_dta)
    ∷ []

-- the fourteen positions: where each part starts, and the file's length. In an untagged edition they are the same places, with
-- tags of no bytes
abbrev pub positions : Edition → Order → Dataset × Extras → List ℕ
positions e o w = sums 0 (part_sizes e o w)

-- what the map must say
abbrev pub map_of : Edition → Order → Dataset × Extras → List ℕ
map_of e o w = cond e.tagged (positions e o w) []

-- what the sections say of a dataset and extras; the map is what it must be
abbrev pub spread : Edition → Order → Dataset × Extras → Parts
spread e o w =
    let d = w.0 in
    (head_of d, (map_of e o w, (d.var_types, (d.var_names, (d.sorted, (d.display_formats, (d.label_sets, (d.variable_labels, (w.1, (d.cells, (d.long_strings, d.label_blocks)))))))))))

-- the two lists are equal
abbrev pub same_list : List ℕ → List ℕ → Bool
same_list [] [] = true
same_list [] (y ∷ m) = false
same_list (x ∷ l) [] = false
same_list (x ∷ l) (y ∷ m) = eqb x y && same_list l m

-- number 10's rule: the map in the file says the fourteen positions
abbrev pub map_rule : Edition → Order → Parts → Bool
map_rule e o v = same_list v.1.0 (map_of e o (gather v))

-- ---- the file

-- the sections up to `end`; the map is judged last
unfoldable pub file_to : Edition → Order → Sect (Unit {0}) → Sect (Dataset × Extras)
file_to e o end = told gather (spread e o) (ruled (sections e o end) (map_rule e o) 10)

-- a whole file: nothing follows
abbrev pub file : Edition → Order → Sect (Dataset × Extras)
file e o = file_to e o (done 13)

-- the file begins as the edition does
abbrev pub begins : Release → List ℕ → Bool
begins r f = same_at (start (edition r)) f 0

-- number 2's rule: the file begins as one of the editions does
abbrev pub known : List ℕ → Bool
known f = some (λ r. begins r f) releases

-- the edition of a known file
abbrev pub release_of : List ℕ → Release
release_of f = first (λ r. begins r f) releases

-- its numbers
abbrev pub edition_of : List ℕ → Edition
edition_of f = edition (release_of f)

-- whether its byte order is MSF: by the three bytes after <byteorder>, or by byte 1
abbrev pub is_msf : Bool → List ℕ → Bool
is_msf true f = same_at (order_text msf) f 52
is_msf false f = eqb (get_or f 1 0) (order_mark msf)

-- its byte order, LSF where it isn't MSF; the header judges whether it is
abbrev pub order_of : List ℕ → Order
order_of f = order_by (is_msf (edition_of f).tagged f)

-- ---- what is answered about a file

-- the greatest file length
abbrev pub length_max : ℕ
length_max = 2147483647

-- the refusal number of a file; 0: it is accepted
unfoldable pub verdict : List ℕ → ℕ
verdict f =
    let r = (let s = (file (edition_of f) (order_of f)).judge f 0 in also (unless (known f) 2) s) in
    also (unless (leb (length f) length_max) 1) r

-- what an accepted file says: its dataset and extras
unfoldable pub contents : List ℕ → Dataset × Extras
contents f = (file (edition_of f) (order_of f)).read f 0

-- the dataset of an accepted file
abbrev pub dataset_of : List ℕ → Dataset
dataset_of f = (contents f).0

-- a layout: edition, byte order (1: MSF, 2: LSF), K, N, the fourteen positions
pub record Layout : Type 0 where
  pub release : ℕ
  pub order : ℕ
  pub variables : ℕ
  pub rows : ℕ
  pub places : List ℕ

-- all zeros
abbrev pub no_layout : Layout
no_layout = record { release = 0; order = 0; variables = 0; rows = 0; places = replicate 14 0 }

-- the layout of a file that says this
abbrev pub layout_by : Edition → Order → Dataset × Extras → Layout
layout_by e o w = record { release = e.number; order = order_mark o; variables = w.0.k; rows = w.0.n; places = positions e o w }

-- the layout of an accepted file; all zeros with a refusal
unfoldable pub layout_of : List ℕ → Layout
layout_of f = let l = layout_by (edition_of f) (order_of f) (contents f) in cond (eqb (verdict f) 0) l no_layout

-- place i of an accepted file is dead, as the grammar marks it (document 01's own list is in Dead.antt)
unfoldable pub dead_in : List ℕ → ℕ → Bool
dead_in f i = dead ((file (edition_of f) (order_of f)).slots (contents f)) i

-- ---- beginnings of a file

-- the lengths at which a beginning of an accepted file is a file: only the whole in a tagged edition; else where the label blocks
-- start, which is the data's end, and the end of each label block
unfoldable pub cuts : List ℕ → List ℕ
cuts f =
    cond (edition_of f).tagged (length f ∷ [])
    (sums (get_or (layout_of f).places 11 0) (each_size (block (edition_of f).tagged (order_of f) (edition_of f).name_width) (dataset_of f).label_blocks))

-- ---- writing

-- what a writer makes of a dataset: no expansion blocks and no characteristics; the unused header byte 1, every other dead byte 0
unfoldable pub written : Edition → Order → Dataset → List ℕ
written e o d = fill ((file e o).slots (d, []))

-- each text is shorter than w
abbrev pub all_shorter : ℕ → List (List ℕ) → Bool
all_shorter w [] = true
all_shorter w (t ∷ l) = ltb (length t) w && all_shorter w l

-- the edition has each type
abbrev pub all_types : Bool → List VarType → Bool
all_types t [] = true
all_types t (x ∷ l) = has_type t x && all_types t l

-- the names of the label blocks
abbrev pub block_names : List LabelBlock → List (List ℕ)
block_names [] = []
block_names (b ∷ l) = b.set_name ∷ block_names l

-- the edition can hold the dataset (else number 15): it has the types, its fields hold the texts, and the result keeps to the length
-- bound
unfoldable pub holds : Edition → Order → Dataset → Bool
holds e o d =
    all_types e.tagged d.var_types
    && (leb (length d.label) e.label_max
    && (all_shorter e.name_width d.var_names
    && (all_shorter e.format_width d.display_formats
    && (all_shorter e.name_width d.label_sets
    && (all_shorter e.var_label_width d.variable_labels
    && (all_shorter e.name_width (block_names d.label_blocks)
    && leb ((file e o).size (d, [])) length_max))))))
