-- The label blocks: names of label sets, each with a table of values and their texts.
use Rattle.std.specs.Prelude.{ℕ, zero, suc, ◌+◌, ◌-◌, ◌*◌, List, [], ◌∷◌, Bool, true, false, cond, ◌&&◌, length, eqb, leb, ltb}
use Rattle.format.specs.Number.{Order}
use Rattle.format.specs.Grammar.{Sect, within, idle, number, ruled, seq, times, walk, told, area, tag, same_at}
use Rattle.format.specs.Edition.{opening, closing, n_value_labels, n_lbl, n_stata_dta}
use Rattle.format.specs.Variables.{name}

-- a label table: the offset of each entry's text; the entries' values, as 32 bits; the bytes of the texts, zero at the dead places
pub record Table : Type 0 where
  pub offsets : List ℕ
  pub values : List ℕ
  pub texts : List ℕ

-- where 32 bits stand among the signed numbers, counted from the lowest
abbrev pub signed : ℕ → ℕ
signed x = cond (ltb x 2147483648) (x + 2147483648) (x - 2147483648)

-- strictly ascending as signed
abbrev pub ascending : List ℕ → Bool
ascending [] = true
ascending (x ∷ []) = true
ascending (x ∷ y ∷ l) = ltb (signed x) (signed y) && ascending (y ∷ l)

-- n entries and m text bytes in a table of w bytes: at most 65,536 and 5,308,416, and they make up the w bytes
abbrev pub table_sizes : ℕ → ℕ × ℕ → Bool
table_sizes w h = eqb w (8 + (8 * h.0 + h.1)) && (leb h.0 65536 && leb h.1 5308416)

-- n and the text length
unfoldable pub table_head : Order → ℕ → Sect (ℕ × ℕ)
table_head o w = within 8 (ruled (seq (number o 4) λ n. number o 4) (table_sizes w) 12)

-- n offsets, n values, strictly ascending, and the text of m bytes, in which each offset has a zero at or after it
unfoldable pub table_body : Order → ℕ × ℕ → Sect (List ℕ × (List ℕ × List ℕ))
table_body o h =
    within (h.0 * 4 + (h.0 * 4 + h.1))
    (seq (times (number o 4) h.0) λ a. seq (ruled (times (number o 4) h.0) ascending 12) λ v. area a h.1 12)

-- what the sections of a table say
abbrev pub TableParts : Type 0
TableParts = Unit {0} × ((ℕ × ℕ) × (List ℕ × (List ℕ × List ℕ)))

-- the table of its parts
abbrev pub table_by : TableParts → Table
table_by v = record { offsets = v.1.1.0; values = v.1.1.1.0; texts = v.1.1.1.1 }

-- the parts of a table
abbrev pub table_of : Table → TableParts
table_of t = (tt, ((length t.offsets, length t.texts), (t.offsets, (t.values, t.texts))))

-- a table of w bytes: 3 for all of them, then 12; n, text length, offsets, values, text. Once w bytes are there, none of its parts
-- lacks bytes
unfoldable pub table : Order → ℕ → Sect Table
table o w =
    told table_by table_of
    (within w (seq (ruled (idle 0 0) (λ u. leb 8 w) 12) λ u. seq (table_head o w) (table_body o)))

-- the bytes of a table
abbrev pub table_size : Table → ℕ
table_size t = 8 + (8 * length t.offsets + length t.texts)

-- a label block: the name of its label set, and its table
pub record LabelBlock : Type 0 where
  pub set_name : List ℕ
  pub entries : Table

-- table length, name in w bytes, 3 padding bytes, which are dead: 3 for all of them, then 7
unfoldable pub block_head : Order → ℕ → Sect (ℕ × (List ℕ × Unit {0}))
block_head o w = within (4 + (w + 3)) (seq (number o 4) λ n. seq (name w) λ t. idle 3 0)

-- what the sections of a block say
abbrev pub BlockParts : Type 0
BlockParts = Unit {0} × ((ℕ × (List ℕ × Unit {0})) × (Table × Unit {0}))

-- the block of its parts
abbrev pub block_by : BlockParts → LabelBlock
block_by v = record { set_name = v.1.0.1.0; entries = v.1.1.0 }

-- the parts of a block; the table length is what it must be
abbrev pub block_of : LabelBlock → BlockParts
block_of b = (tt, ((table_size b.entries, (b.set_name, tt)), (b.entries, tt)))

-- a label block
unfoldable pub block : Bool → Order → ℕ → Sect LabelBlock
block t o w =
    told block_by block_of
    (seq (tag (opening t n_lbl) 4) λ a. seq (block_head o w) λ h. seq (table o h.0) λ b. tag (closing t n_lbl) 4)

-- whether one is next: <lbl>; in an untagged edition, any byte
abbrev pub block_next : Bool → List ℕ → ℕ → Bool
block_next true f p = same_at (opening true n_lbl) f p
block_next false f p = ltb p (length f)

-- the label blocks, up to the closing tags; then `end`
unfoldable pub blocks : Bool → Order → ℕ → Sect (Unit {0}) → Sect (List LabelBlock)
blocks t o w end =
    told (λ v. v.1.0) (λ l. (tt, (l, (tt, (tt, tt)))))
    (seq (tag (opening t n_value_labels) 4) λ a.
    walk (block_next t) (block t o w) λ l. seq (tag (closing t n_value_labels) 4) λ b. seq (tag (closing t n_stata_dta) 4) λ c. end)
