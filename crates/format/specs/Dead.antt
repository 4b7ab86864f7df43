-- The dead bytes of an accepted file: document 01's list, line by line, over the places and the bytes of the file. The grammar marks
-- its dead slots on its own; that both are the same places is a theorem (`dead_places`), so neither has to be trusted alone.
use Rattle.std.specs.Prelude.{◌≡◌, ℕ, zero, suc, ◌+◌, ◌*◌, ◌≤◌, ◌<◌, ◌⊎◌, List, [], ◌∷◌, Bool, true, false, length, get_or, take}
use Rattle.format.specs.Number.{Order, num}
use Rattle.format.specs.Grammar.{Sect, member, row_width}
use Rattle.format.specs.Edition.{Edition, kind_width, opening, n_varnames, n_sortlist, n_formats, n_value_label_names, n_variable_labels, n_characteristics, n_ch, n_data, n_value_labels, n_lbl}
use Rattle.format.specs.Variables.{VarType, text_type, byte_type}
use Rattle.format.specs.Expansion.{Expansion, expansion}
use Rattle.format.specs.Data.{cell_width}
use Rattle.format.specs.Labels.{LabelBlock, block}
use Rattle.format.specs.Dta.{Dataset, edition_of, order_of, contents, dataset_of, Layout, layout_of}

-- place i is one of the n places from p on
abbrev pub Among : ℕ → ℕ → ℕ → Type 0
Among p n i = (p ≤ i) × (i < p + n)

-- place i is in the w bytes at p, after their first zero: one of them before i is zero
abbrev pub AfterZero : List ℕ → ℕ → ℕ → ℕ → Type 0
AfterZero f p w i = (z : ℕ) × (p ≤ z) × (z < i) × (i < p + w) × (get_or f z 0 ≡ 0)

-- after the first zero of one of k text fields of w bytes, the first at p
abbrev pub InFields : List ℕ → ℕ → ℕ → ℕ → ℕ → Type 0
InFields f p w k i = (v : ℕ) × (v < k) × (AfterZero f (p + v * w) w i)

-- in one of n entries of 2 bytes, the first at p, after the first that is zero: an entry before it is zero
abbrev pub InSortList : Order → List ℕ → ℕ → ℕ → ℕ → Type 0
InSortList o f p n i = (a : ℕ) × (b : ℕ) × (a < b) × (b < n) × (num o 2 f (p + a * 2) ≡ 0) × (Among (p + b * 2) 2 i)

-- after the first zero of a text cell in a row at p, the types being t; vw and ow are the widths of v and o in a strL cell
abbrev pub InRow : ℕ → ℕ → List ℕ → List VarType → ℕ → ℕ → Type 0
InRow vw ow f t p i =
    (v : ℕ) × (w : ℕ) × (v < length t) × (get_or t v byte_type ≡ text_type w) × (AfterZero f (p + row_width (cell_width vw ow) (take v t)) w i)

-- after the first zero of a text cell in one of n rows, the first at p
abbrev pub InCells : ℕ → ℕ → List ℕ → List VarType → ℕ → ℕ → ℕ → Type 0
InCells vw ow f t p n i = (j : ℕ) × (j < n) × (InRow vw ow f t (p + j * row_width (cell_width vw ow) t) i)

-- Q holds of one of the sections S that say the list, and of the place where it stands; the first stands at p
abbrev pub SomeAt : {A : Type 0} → Sect A → (A → ℕ → Type 0) → ℕ → List A → Type 0
SomeAt S Q p [] = ⊥
SomeAt S Q p (a ∷ l) = (Q a p) ⊎ (SomeAt S Q (p + S.size a) l)

-- in the contents of the expansion block or characteristic at p
abbrev pub InExpansion : Bool → ℕ → Expansion → ℕ → Type 0
InExpansion t i x p = Among (p + length (opening t n_ch) + (kind_width t + 4)) x.1 i

-- where the name of a label block at p stands: after <lbl> and the table length
abbrev pub name_at : Bool → ℕ → ℕ
name_at t p = p + length (opening t n_lbl) + 4

-- where the text of a label block at p stands: after the name, the padding, n, the text length, and offsets and values
abbrev pub texts_at : Edition → LabelBlock → ℕ → ℕ
texts_at e b p = name_at e.tagged p + (e.name_width + (3 + (8 + 8 * length b.entries.offsets)))

-- place i is in the text or the terminator of an entry, the text area standing at q: it is at or after where the entry starts, and no
-- byte between is zero
abbrev pub Covered : List ℕ → ℕ → List ℕ → ℕ → Type 0
Covered f q offs i = (x : ℕ) × (member x offs ≡ true) × (q + x ≤ i) × ((z : ℕ) → q + x ≤ z → z < i → get_or f z 0 ≡ 0 → ⊥)

-- in the label block at p: after the first zero of its name, in its padding, or in its text in no entry's text or terminator
pub data InBlock (e : Edition) (f : List ℕ) (i : ℕ) (b : LabelBlock) (p : ℕ) : Type 0 where
  block_name : AfterZero f (name_at e.tagged p) e.name_width i → InBlock e f i b p
  padding : Among (name_at e.tagged p + e.name_width) 3 i → InBlock e f i b p
  label_text : Among (texts_at e b p) (length b.entries.texts) i → (Covered f (texts_at e b p) b.entries.offsets i → ⊥) → InBlock e f i b p

-- where the content of part j of the file starts, counted from 0: after its opening tag
abbrev pub content_at : List ℕ → ℕ → List ℕ → ℕ
content_at f j n = get_or (layout_of f).places j 0 + length (opening (edition_of f).tagged n)

-- where an old stamp stands: after the edition, the byte order, the file type, the unused byte, K, N and the label (place 91)
abbrev pub stamp_at : Edition → ℕ
stamp_at e = 6 + e.n_width + suc e.label_max

-- place i of the accepted file f is dead
pub data DeadPlace (f : List ℕ) (i : ℕ) : Type 0 where
  -- the unused header byte
  unused : (edition_of f).tagged ≡ false → i ≡ 3 → DeadPlace f i
  -- after the first zero of an old header label, 81 bytes at place 10
  old_label : (edition_of f).tagged ≡ false → AfterZero f (6 + (edition_of f).n_width) (suc (edition_of f).label_max) i → DeadPlace f i
  -- bytes 1 to 16 of an old stamp whose byte 0 is zero
  old_stamp : (edition_of f).tagged ≡ false → get_or f (stamp_at (edition_of f)) 0 ≡ 0 → Among (suc (stamp_at (edition_of f))) 16 i → DeadPlace f i
  -- after the first zero of a variable name
  var_name : InFields f (content_at f 3 n_varnames) (edition_of f).name_width (dataset_of f).k i → DeadPlace f i
  -- a sort entry after the first zero
  sort_entry : InSortList (order_of f) f (content_at f 4 n_sortlist) (suc (dataset_of f).k) i → DeadPlace f i
  -- after the first zero of a display format
  display_format : InFields f (content_at f 5 n_formats) (edition_of f).format_width (dataset_of f).k i → DeadPlace f i
  -- after the first zero of a label-set name
  label_set : InFields f (content_at f 6 n_value_label_names) (edition_of f).name_width (dataset_of f).k i → DeadPlace f i
  -- after the first zero of a variable label
  variable_label : InFields f (content_at f 7 n_variable_labels) (edition_of f).var_label_width (dataset_of f).k i → DeadPlace f i
  -- the contents of an expansion block or characteristic
  expansion_contents : SomeAt (expansion (edition_of f).tagged (order_of f)) (InExpansion (edition_of f).tagged i) (content_at f 8 n_characteristics) (contents f).1
      → DeadPlace f i
  -- after the first zero of a fixed-width text cell
  text_cell : InCells (edition_of f).v_width (edition_of f).o_width f (dataset_of f).var_types (content_at f 9 n_data) (dataset_of f).n i → DeadPlace f i
  -- in a label block
  label_block : SomeAt (block (edition_of f).tagged (order_of f) (edition_of f).name_width) (InBlock (edition_of f) f i) (content_at f 11 n_value_labels) (dataset_of f).label_blocks
      → DeadPlace f i
