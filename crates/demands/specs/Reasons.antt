-- Why a file is refused (document 01, "The numbers a call may answer"): for each number, what stands in the file where it is due. The parts before
-- are right, what the number's own rule needs is there, and the rule is broken.
use Rattle.std.specs.Prelude.{◌≡◌, ℕ, suc, ◌+◌, ◌*◌, ◌≤◌, ◌<◌, List, [], ◌∷◌, ◌⊎◌, Bool, true, false, length, get_or}
use Rattle.format.specs.Number.{Order, num}
use Rattle.format.specs.Grammar.{Sect, next, number, read_times, same_at, ended_at}
use Rattle.format.specs.Edition.{Edition, code_width, map_count, opening, closing, n_map, n_variable_types, n_varnames, n_sortlist, n_formats, n_value_label_names, n_variable_labels, n_strls, n_value_labels, n_lbl, n_stata_dta}
use Rattle.format.specs.Variables.{type_by, has_type, name, fresh}
use Rattle.format.specs.Expansion.{Expansion, expansion_next, expansion}
use Rattle.format.specs.Data.{LongString, linked, long_next, long_record}
use Rattle.format.specs.Labels.{ascending, LabelBlock, block, block_next}
use Rattle.demands.specs.Places.{Met, k_in, map_at, types_at, names_at, sort_at, formats_at, set_names_at, var_labels_at, expansions_at, data_at, cells_in, strls_at, blocks_at, BeforeTypes, BeforeNames, BeforeSort, BeforeFormats, BeforeSetNames, BeforeVarLabels, BeforeExpansions, BeforeStrls, BeforeBlocks}

-- the opening tag l stands at p, and n bytes follow it
pub record Opened (l : List ℕ) (n : ℕ) (f : List ℕ) (p : ℕ) : Type 0 where
  pub tag : same_at l f p ≡ true
  pub room : p + length l + n ≤ length f

-- the tag l stands at p
pub record Stands (l : List ℕ) (f : List ℕ) (p : ℕ) : Type 0 where
  pub same : same_at l f p ≡ true
  pub room : p + length l ≤ length f

-- sections E, each of them next (`more`) and right, stand one after another from p to q, and say a list
module _ {A : Type 0} (more : List ℕ → ℕ → Bool) (E : Sect A) (f : List ℕ) where
  pub data Passed : ℕ → List A → ℕ → Type 0 where
    none : {p : ℕ} → Passed p [] p
    one : {p q : ℕ} {l : List A} → more f p ≡ true → Met E f p → Passed (next E f p) l q → Passed p (E.read f p ∷ l) q

-- the text field of w bytes at p has no zero
abbrev pub Unended : ℕ → List ℕ → ℕ → Type 0
Unended w f p = (j : ℕ) → j < w → get_or f (p + j) 0 ≡ 0 → ⊥

-- it has none, or it is empty: its first byte is zero
abbrev pub NoName : ℕ → List ℕ → ℕ → Type 0
NoName w f p = Unended w f p ⊎ (get_or f p 0 ≡ 0)

-- one of k fields of w bytes after the opening tag l is wrong
pub record FieldBroken (wrong : ℕ → List ℕ → ℕ → Type 0) (l : List ℕ) (w k : ℕ) (f : List ℕ) (p : ℕ) : Type 0 where
  pub opened : Opened l (k * w) f p
  pub variable : ℕ
  pub inside : variable < k
  pub broken : wrong w f (p + length l + variable * w)

-- of a label table at p: how many entries it has, and its text length
abbrev pub entry_count : Order → List ℕ → ℕ → ℕ
entry_count o f p = num o 4 f p

abbrev pub text_length : Order → List ℕ → ℕ → ℕ
text_length o f p = num o 4 f (p + 4)

-- the label table of w bytes at p keeps to its rule: n, the text length, n offsets, n values, the text
pub record TableRight (o : Order) (w : ℕ) (f : List ℕ) (p : ℕ) : Type 0 where
  pub sizes : w ≡ 8 + (8 * entry_count o f p + text_length o f p)
  pub few : entry_count o f p ≤ 65536
  pub short : text_length o f p ≤ 5308416
  -- the values are strictly ascending as signed
  pub ascends : ascending (read_times (number o 4) (entry_count o f p) f (p + 8 + entry_count o f p * 4)) ≡ true
  -- each offset has a zero at or after it inside the text
  pub ended : (i : ℕ) → i < entry_count o f p
      → (z : ℕ) × (num o 4 f (p + 8 + i * 4) ≤ z) × (z < text_length o f p) × (get_or f (p + 8 + entry_count o f p * 4 + entry_count o f p * 4 + z) 0 ≡ 0)

module _ (e : Edition) (o : Order) (f : List ℕ) where
  -- ---- 6: type code unknown

  -- the type code of variable i, counted from 0
  abbrev pub code_at : ℕ → ℕ
  code_at i = num o (code_width e.tagged) f (types_at e o f + length (opening e.tagged n_variable_types) + i * code_width e.tagged)

  -- the code of one of the K variables is none of the edition's
  pub record TypeUnknown : Type 0 where
    pub before : BeforeTypes e o f
    pub opened : Opened (opening e.tagged n_variable_types) (k_in e o f * code_width e.tagged) f (types_at e o f)
    pub variable : ℕ
    pub inside : variable < k_in e o f
    pub unknown : has_type e.tagged (type_by e.tagged (code_at variable)) ≡ false

  -- ---- 8: sort list breaks its rule

  -- the sort entries before the first zero, of K + 1
  abbrev pub entries_in : List ℕ
  entries_in = ended_at o 2 (suc (k_in e o f)) f (sort_at e o f + length (opening e.tagged n_sortlist))

  -- none of the K + 1 entries is zero; or those before the first zero are not distinct numbers up to K
  pub record SortBroken : Type 0 where
    pub before : BeforeSort e o f
    pub opened : Opened (opening e.tagged n_sortlist) (suc (k_in e o f) * 2) f (sort_at e o f)
    pub broken : (length entries_in ≡ suc (k_in e o f)) ⊎ (fresh (k_in e o f) [] entries_in ≡ false)

  -- ---- 9: expansion type 0 with a length

  -- in 113, 114 and 115: after blocks that are right, five bytes are there, type 0 and a length that is not 0
  pub record LengthOfNone : Type 0 where
    pub before : BeforeExpansions e o f
    pub untagged : e.tagged ≡ false
    pub blocks : List Expansion
    pub at : ℕ
    pub passed : Passed (expansion_next false) (expansion false o) f (expansions_at e o f) blocks at
    pub room : at + 5 ≤ length f
    pub kind : get_or f at 0 ≡ 0
    pub long : num o 4 f (at + 1) ≡ 0 → ⊥

  -- ---- 11: a strL reference or record breaks its rule

  -- after the last record: the cells and the records don't keep to their rule (`linked`)
  pub record LinkBroken : Type 0 where
    pub before : BeforeStrls e o f
    pub opened : Stands (opening e.tagged n_strls) f (strls_at e o f)
    pub records : List LongString
    pub at : ℕ
    pub passed : Passed (long_next e.tagged) (long_record e.tagged o e.record_width) f (strls_at e o f + length (opening e.tagged n_strls)) records at
    pub last : long_next e.tagged f at ≡ false
    pub broken : linked (cells_in e o f) records ≡ false

  -- ---- label blocks

  -- the label blocks up to p are right, and so is what comes before them
  pub record BlocksTo (p : ℕ) : Type 0 where
    pub before : BeforeBlocks e o f
    pub opened : Stands (opening e.tagged n_value_labels) f (blocks_at e o f)
    pub label_blocks : List LabelBlock
    pub passed : Passed (block_next e.tagged) (block e.tagged o e.name_width) f (blocks_at e o f + length (opening e.tagged n_value_labels)) label_blocks p

  -- where the name of the block at p starts, after the table length; where its table starts, after three padding bytes
  abbrev pub block_name : ℕ → ℕ
  block_name p = p + length (opening e.tagged n_lbl) + 4

  abbrev pub block_table : ℕ → ℕ
  block_table p = p + length (opening e.tagged n_lbl) + (4 + (e.name_width + 3))

  -- its table length
  abbrev pub table_length : ℕ → ℕ
  table_length p = num o 4 f (p + length (opening e.tagged n_lbl))

  -- ---- 7: text field after the header unended, or a name empty

  pub data TextBroken : Type 0 where
    in_names : BeforeNames e o f → FieldBroken NoName (opening e.tagged n_varnames) e.name_width (k_in e o f) f (names_at e o f) → TextBroken
    in_formats : BeforeFormats e o f → FieldBroken Unended (opening e.tagged n_formats) e.format_width (k_in e o f) f (formats_at e o f) → TextBroken
    in_set_names : BeforeSetNames e o f → FieldBroken Unended (opening e.tagged n_value_label_names) e.name_width (k_in e o f) f (set_names_at e o f) → TextBroken
    in_var_labels : BeforeVarLabels e o f → FieldBroken Unended (opening e.tagged n_variable_labels) e.var_label_width (k_in e o f) f (var_labels_at e o f) → TextBroken
    -- the name of the first label block that is not right, whose bytes before its table are there
    in_block : (p : ℕ) → BlocksTo p → block_next e.tagged f p ≡ true → Opened (opening e.tagged n_lbl) (4 + (e.name_width + 3)) f p → NoName e.name_width f (block_name p) → TextBroken

  -- ---- 12: label table breaks its rule

  -- the first block that is not right has all bytes before its table, a right name and all bytes of its table, which breaks its rule
  pub record TableBroken : Type 0 where
    pub at : ℕ
    pub reached : BlocksTo at
    pub more : block_next e.tagged f at ≡ true
    pub opened : Opened (opening e.tagged n_lbl) (4 + (e.name_width + 3)) f at
    pub named : Met (name e.name_width) f (block_name at)
    pub room : block_table at + table_length at ≤ length f
    pub broken : TableRight o (table_length at) f (block_table at) → ⊥

  -- ---- all parts, and what comes last

  -- all parts are right, </stata_dta> too; in 113, 114 and 115 the tags have no bytes
  pub record AllParts : Type 0 where
    -- where the label blocks end: no other is next
    pub at : ℕ
    pub reached : BlocksTo at
    pub last : block_next e.tagged f at ≡ false
    pub closed : Stands (closing e.tagged n_value_labels) f at
    pub ended : Stands (closing e.tagged n_stata_dta) f (at + length (closing e.tagged n_value_labels))

  -- where </stata_dta> starts, and where it ends
  abbrev pub end_at : AllParts → ℕ
  end_at x = x.at + length (closing e.tagged n_value_labels)

  abbrev pub past_end : AllParts → ℕ
  past_end x = end_at x + length (closing e.tagged n_stata_dta)

  -- ---- 13: bytes after </stata_dta>

  pub record BytesLeft : Type 0 where
    pub parts : AllParts
    pub left : past_end parts < length f

  -- ---- 10: a map position is wrong

  -- the fourteen positions: where each part starts, and the file's length
  abbrev pub positions_in : AllParts → List ℕ
  positions_in x =
      0 ∷ map_at e o f ∷ types_at e o f ∷ names_at e o f ∷ sort_at e o f ∷ formats_at e o f ∷ set_names_at e o f ∷ var_labels_at e o f
      ∷ expansions_at e o f ∷ data_at e o f ∷ strls_at e o f ∷ blocks_at e o f ∷ end_at x ∷ length f ∷ []

  -- position i of the map, counted from 0, as it stands in the file
  abbrev pub map_says : ℕ → ℕ
  map_says i = num o 8 f (map_at e o f + length (opening e.tagged n_map) + i * 8)

  -- the file ends with its parts, and one of its positions differs; 113, 114 and 115 have none
  pub record MapWrong : Type 0 where
    pub parts : AllParts
    pub whole : past_end parts ≡ length f
    pub item : ℕ
    pub inside : item < map_count e.tagged
    pub wrong : map_says item ≡ get_or (positions_in parts) item 0 → ⊥
