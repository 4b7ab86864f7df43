-- Sections and files at the edges of the rules, each with the number that it gets, computed from the definitions.
use mathlib.Core.Path.{◌≡◌, refl}
use Prim.Native.Nat.{ℕ, zero, suc, ◌+◌, ◌-◌}
use Prim.Native.String.{String}
use mathlib.Core.List.{List, [], ◌∷◌, ◌++◌}
use mathlib.Core.Bool.{Bool, true, false, cond}
use lib.ListN.{length, replicate, set, take}
use lib.Dec.{eqb, leb}
use Rattle.format.specs.Slot.{Slot, dead}
use Rattle.format.specs.Number.{msf, lsf}
use Rattle.format.specs.Grammar.{Sect, unless, text_slots, ended_slots, area, tag, between, done}
use Rattle.format.specs.Edition.{Edition, r113, r117, r118, edition, ascii}
use Rattle.format.specs.Header.{old_stamp, old_header, counted, new_facts, new_header, stamp_length}
use Rattle.format.specs.Variables.{text_type, strl_type, double_type, file_map, type_code, types, name, names, sort_list, fields}
use Rattle.format.specs.Expansion.{expansion_head, expansion_body, expansion, expansions}
use Rattle.format.specs.Data.{Cell, bits, link, observations, LongString, linked, long_head, long_record, strls}
use Rattle.format.specs.Labels.{table_sizes, table_head, table_body, table, block_head, block, blocks}
use Rattle.format.specs.Dta.{part_sizes, from_strls, from_data, from_expansions, from_var_labels, from_set_names, from_formats, from_sort_list, from_names, from_types, from_map, sections, file_to, verdict, all_shorter, all_types}
use Rattle.format.proofs.Examples.{yes_no, at}

-- a row: what it is, the number that it gets, the number that it must get
abbrev Row : Type 0
Row = String × ℕ × ℕ

-- the rows that get another number than they must
abbrev wrong : List Row → List String
wrong [] = []
wrong (r ∷ l) = cond (eqb r.1 r.2) (wrong l) (r.0 ∷ wrong l)

-- ---- header

-- an old header: byte order, file type, K, N, empty label, empty stamp
abbrev old : ℕ → ℕ → ℕ → ℕ → List ℕ
old o t k n = 114 ∷ o ∷ t ∷ 7 ∷ 0 ∷ k ∷ 0 ∷ 0 ∷ 0 ∷ n ∷ replicate 99 0

headers : List Row
headers =
    ("old header", (old_header 114 msf 4 80).judge (old 1 1 2 3) 0, 0)
    ∷ ("109 bytes before number 5", (old_header 114 msf 4 80).judge (114 ∷ 9 ∷ 9 ∷ []) 0, 3)
    ∷ ("byte order 3", (old_header 114 lsf 4 80).judge (old 3 1 2 3) 0, 5)
    ∷ ("file type 2", (old_header 114 msf 4 80).judge (old 1 2 2 3) 0, 5)
    ∷ ("K = 0 with N = 0", (old_header 114 msf 4 80).judge (old 1 1 0 0) 0, 0)
    ∷ ("K = 0 with N = 1", (old_header 114 msf 4 80).judge (old 1 1 0 1) 0, 5)
    ∷ ("label without a zero", (old_header 114 msf 4 80).judge (114 ∷ 1 ∷ 1 ∷ 7 ∷ replicate 6 0 ++ replicate 81 65 ++ replicate 18 0) 0, 5)
    ∷ ("stamp of 3 bytes", old_stamp.judge (65 ∷ 65 ∷ 65 ∷ replicate 15 0) 0, 5)
    ∷ ("stamp of 18 bytes", old_stamp.judge (replicate 18 65) 0, 5)
    ∷ ("empty stamp with dead bytes", old_stamp.judge (0 ∷ replicate 16 65 ++ 0 ∷ []) 0, 0)
    ∷ ("117 label: no length", (counted msf 1 (λ x. leb x 80)).judge [] 0, 3)
    ∷ ("117 label: length 81 before its bytes", (counted msf 1 (λ x. leb x 80)).judge (81 ∷ []) 0, 5)
    ∷ ("117 label: a byte short", (counted msf 1 (λ x. leb x 80)).judge (2 ∷ 0 ∷ []) 0, 3)
    ∷ ("117 label: a zero inside", (counted msf 1 (λ x. leb x 80)).judge (2 ∷ 65 ∷ 0 ∷ []) 0, 5)
    ∷ ("117: K's rule before </K>", (new_facts msf 4 1 80).judge (ascii "<K>" ++ (255 ∷ 255 ∷ []) ++ ascii "</X>") 0, 5)
    ∷ ("a cut tag that differs", (tag (ascii "<map>") 4).judge (ascii "<mxp") 0, 3)
    ∷ ("118: a high byte of N", (new_facts msf 8 2 320).judge (ascii "<K>" ++ (0 ∷ 1 ∷ []) ++ ascii "</K><N>" ++ (1 ∷ replicate 7 0)) 0, 5)
    ∷ ("118: 7 bytes of N", (new_facts msf 8 2 320).judge (ascii "<K>" ++ (0 ∷ 1 ∷ []) ++ ascii "</K><N>" ++ replicate 7 0) 0, 3)
    ∷ ("118 label: 1 byte of its length", (counted lsf 2 (λ x. leb x 320)).judge (0 ∷ []) 0, 3)
    ∷ ("118 label: length 320, no bytes", (counted lsf 2 (λ x. leb x 320)).judge (64 ∷ 1 ∷ []) 0, 3)
    ∷ ("118 label: length 321 before its bytes", (counted lsf 2 (λ x. leb x 320)).judge (65 ∷ 1 ∷ []) 0, 5)
    ∷ ("118 label: 81 bytes", (counted msf 2 (λ x. leb x 320)).judge (0 ∷ 81 ∷ replicate 81 65) 0, 0)
    ∷ ("118 label: a zero inside", (counted msf 2 (λ x. leb x 320)).judge (0 ∷ 2 ∷ 65 ∷ 0 ∷ []) 0, 5)
    ∷ ("117 stamp: 16 bytes", (counted msf 1 stamp_length).judge (16 ∷ replicate 16 65) 0, 5)
    ∷ []

headers_agree : wrong headers ≡ []
unfolding headers old_header old_stamp counted new_facts between tag
headers_agree = refl

-- ---- variables

variables : List Row
variables =
    ("types: 3 before 6", (types false msf 2).judge (0 ∷ []) 0, 3)
    ∷ ("type 0", (types false msf 2).judge (251 ∷ 0 ∷ []) 0, 6)
    ∷ ("type 245", (types false msf 1).judge (245 ∷ []) 0, 6)
    ∷ ("117: str2045", (type_code true msf).judge (7 ∷ 253 ∷ []) 0, 0)
    ∷ ("117: str2046", (type_code true msf).judge (7 ∷ 254 ∷ []) 0, 6)
    ∷ ("117: strL", (type_code true lsf).judge (0 ∷ 128 ∷ []) 0, 0)
    ∷ ("name without a zero", (name 3).judge (65 ∷ 65 ∷ 65 ∷ []) 0, 7)
    ∷ ("empty name", (name 3).judge (0 ∷ 65 ∷ 65 ∷ []) 0, 7)
    ∷ ("sort list with dead entries", (sort_list false msf 2).judge (0 ∷ 0 ∷ 0 ∷ 9 ∷ 0 ∷ 9 ∷ []) 0, 0)
    ∷ ("full sort list", (sort_list false msf 2).judge (0 ∷ 2 ∷ 0 ∷ 1 ∷ 0 ∷ 0 ∷ []) 0, 0)
    ∷ ("sort list with a variable twice", (sort_list false msf 2).judge (0 ∷ 2 ∷ 0 ∷ 2 ∷ 0 ∷ 0 ∷ []) 0, 8)
    ∷ ("sort list with variable 3 of 2", (sort_list false msf 2).judge (0 ∷ 3 ∷ 0 ∷ 0 ∷ 0 ∷ 0 ∷ []) 0, 8)
    ∷ ("sort list without a zero", (sort_list false msf 2).judge (0 ∷ 2 ∷ 0 ∷ 1 ∷ 0 ∷ 2 ∷ []) 0, 8)
    ∷ []

variables_agree : wrong variables ≡ []
unfolding variables types type_code name sort_list between tag
variables_agree = refl

-- ---- expansion blocks and characteristics

expanded : List Row
expanded =
    ("no blocks", (expansions false msf).judge (replicate 5 0) 0, 0)
    ∷ ("at the end of the file", (expansions false msf).judge [] 0, 3)
    ∷ ("type 0 with a length, before its contents", (expansions false msf).judge (0 ∷ 0 ∷ 0 ∷ 0 ∷ 9 ∷ []) 0, 9)
    ∷ ("type 5 with length 0 is skipped", (expansions false msf).judge (5 ∷ replicate 9 0) 0, 0)
    ∷ ("contents short", (expansions false msf).judge (1 ∷ 0 ∷ 0 ∷ 0 ∷ 9 ∷ replicate 8 0) 0, 3)
    ∷ ("</characteristics> inside", (expansions true msf).judge (ascii "<characteristics><ch>" ++ (0 ∷ 0 ∷ 0 ∷ 18 ∷ []) ++ ascii "</characteristics></ch></characteristics>") 0, 0)
    ∷ ("<ch> not next", (expansions true msf).judge (ascii "<characteristics><cx></characteristics>") 0, 4)
    ∷ ("<ch> cut", (expansions true msf).judge (ascii "<characteristics><ch") 0, 3)
    ∷ []

expanded_agree : wrong expanded ≡ []
unfolding expanded expansions expansion expansion_head expansion_body tag
expanded_agree = refl

-- ---- long strings

-- the record of cell (v, o), of a kind, with these contents
abbrev gso : ℕ → ℕ → ℕ → List ℕ → LongString
gso v o k c = record { v = v; o = o; kind = k; contents = c }

-- cell (1, 1) and cell (1, 2) name themselves
abbrev two : List (List Cell)
two = (link 1 1 ∷ []) ∷ (link 1 2 ∷ []) ∷ []

-- number 11's rule
abbrev eleven : List (List Cell) → List LongString → ℕ
eleven d l = unless (linked d l) 11

long_strings : List Row
long_strings =
    ("two records", eleven two (gso 1 1 130 (65 ∷ 0 ∷ []) ∷ gso 1 2 129 [] ∷ []), 0)
    ∷ ("empty texts", eleven ((link 0 0 ∷ []) ∷ []) [], 0)
    ∷ ("a second cell that refers to the first", eleven ((link 1 1 ∷ []) ∷ (link 1 1 ∷ []) ∷ []) (gso 1 1 129 [] ∷ []), 0)
    ∷ ("a forward reference", eleven ((link 1 2 ∷ []) ∷ (link 1 2 ∷ []) ∷ []) (gso 1 2 129 [] ∷ []), 11)
    ∷ ("a forward reference in a row", eleven ((link 2 1 ∷ link 2 1 ∷ []) ∷ []) (gso 2 1 129 [] ∷ []), 11)
    ∷ ("a cell that doesn't name itself", eleven ((link 0 0 ∷ []) ∷ (link 1 1 ∷ []) ∷ []) [], 11)
    ∷ ("a variable that isn't strL", eleven ((bits 1 ∷ link 1 1 ∷ []) ∷ []) [], 11)
    ∷ ("a record missing", eleven two (gso 1 1 129 [] ∷ []), 11)
    ∷ ("a record twice", eleven two (gso 1 1 129 [] ∷ gso 1 1 129 [] ∷ gso 1 2 129 [] ∷ []), 11)
    ∷ ("records out of order", eleven two (gso 1 2 129 [] ∷ gso 1 1 129 [] ∷ []), 11)
    ∷ ("a record unasked for", eleven ((link 0 0 ∷ []) ∷ []) (gso 1 1 129 [] ∷ []), 11)
    ∷ ("kind 128", eleven ((link 1 1 ∷ []) ∷ []) (gso 1 1 128 (65 ∷ 0 ∷ []) ∷ []), 11)
    ∷ ("kind 130 of length 1", eleven ((link 1 1 ∷ []) ∷ []) (gso 1 1 130 (0 ∷ []) ∷ []), 11)
    ∷ ("kind 130 with an inner zero", eleven ((link 1 1 ∷ []) ∷ []) (gso 1 1 130 (65 ∷ 0 ∷ 65 ∷ 0 ∷ []) ∷ []), 11)
    ∷ ("kind 130 without its zero", eleven ((link 1 1 ∷ []) ∷ []) (gso 1 1 130 (65 ∷ 66 ∷ []) ∷ []), 11)
    ∷ ("11 before </strls>", (strls true msf 4 ((link 1 1 ∷ []) ∷ [])).judge (ascii "<strls></strlx>") 0, 11)
    ∷ ("11 before a missing </strls>", (strls true msf 4 ((link 1 1 ∷ []) ∷ [])).judge (ascii "<strls>GS") 0, 11)
    ∷ ("118: a record with 8 bytes of o", (strls true lsf 8 ((link 1 1 ∷ []) ∷ [])).judge (ascii "<strls>GSO" ++ (1 ∷ 0 ∷ 0 ∷ 0 ∷ 1 ∷ replicate 7 0) ++ (129 ∷ replicate 4 0) ++ ascii "</strls>") 0, 0)
    ∷ ("118: a high byte of o in a record", (strls true lsf 8 ((link 1 1 ∷ []) ∷ [])).judge (ascii "<strls>GSO" ++ (1 ∷ 0 ∷ 0 ∷ 0 ∷ 1 ∷ replicate 6 0) ++ (1 ∷ 129 ∷ replicate 4 0) ++ ascii "</strls>") 0, 11)
    ∷ ("118: a record's head a byte short", (strls true lsf 8 ((link 1 1 ∷ []) ∷ [])).judge (ascii "<strls>GSO" ++ replicate 16 0) 0, 3)
    ∷ ("118: a cell with v in 2 bytes, o in 6", (strls true msf 8 ((observations true msf 2 6 (strl_type ∷ []) 1).read (ascii "<data>" ++ (0 ∷ 1 ∷ 0 ∷ 0 ∷ 0 ∷ 0 ∷ 0 ∷ 1 ∷ [])) 0)).judge (ascii "<strls></strls>") 0, 11)
    ∷ ("118: v and o zero", (strls true msf 8 ((observations true msf 2 6 (strl_type ∷ []) 1).read (ascii "<data>" ++ replicate 8 0) 0)).judge (ascii "<strls></strls>") 0, 0)
    ∷ ("</strls> differs", (strls true msf 4 []).judge (ascii "<strls></strlx>") 0, 4)
    ∷ []

long_strings_agree : wrong long_strings ≡ []
unfolding long_strings linked strls long_record long_head observations between tag
long_strings_agree = refl

-- ---- label blocks

-- a table of one entry at this offset in the text
abbrev one : ℕ → List ℕ → List ℕ
one x t = (0 ∷ 0 ∷ 0 ∷ 1 ∷ 0 ∷ 0 ∷ 0 ∷ length t ∷ 0 ∷ 0 ∷ 0 ∷ x ∷ 0 ∷ 0 ∷ 0 ∷ 9 ∷ []) ++ t

-- two entries with values a and b, both at offset 1 of the text "ab" and its zero
abbrev values : List ℕ → List ℕ → List ℕ
values a b = (0 ∷ 0 ∷ 0 ∷ 2 ∷ 0 ∷ 0 ∷ 0 ∷ 3 ∷ 0 ∷ 0 ∷ 0 ∷ 1 ∷ 0 ∷ 0 ∷ 0 ∷ 1 ∷ []) ++ a ++ b ++ (97 ∷ 98 ∷ 0 ∷ [])

-- a table as long as it is
abbrev judged : List ℕ → ℕ
judged t = (table msf (length t)).judge t 0

-- the head of a block: table length, name of 33 bytes, padding
abbrev head : ℕ → List ℕ → List ℕ
head n t = (0 ∷ 0 ∷ 0 ∷ n ∷ []) ++ t ++ replicate (33 - length t) 0 ++ (7 ∷ 7 ∷ 7 ∷ [])

labels : List Row
labels =
    ("table length 7", judged (replicate 7 0), 12)
    ∷ ("table length 8", judged (replicate 8 0), 0)
    ∷ ("table short", (table msf 8).judge (replicate 7 0) 0, 3)
    ∷ ("table length wrong", judged (yes_no 1 2 ++ 0 ∷ []), 12)
    ∷ ("an offset into the middle of a text", judged (one 2 (ascii "yes" ++ 0 ∷ [])), 0)
    ∷ ("an offset at the last zero", judged (one 3 (ascii "yes" ++ 0 ∷ [])), 0)
    ∷ ("an offset after the last zero", judged (one 4 (ascii "yes" ++ 0 ∷ 65 ∷ [])), 12)
    ∷ ("an offset at the text's length", judged (one 4 (ascii "yes" ++ 0 ∷ [])), 12)
    ∷ ("no zero in the text", judged (one 0 (ascii "yes")), 12)
    ∷ ("values -1, 1", judged (values (255 ∷ 255 ∷ 255 ∷ 255 ∷ []) (0 ∷ 0 ∷ 0 ∷ 1 ∷ [])), 0)
    ∷ ("values 1, -1", judged (values (0 ∷ 0 ∷ 0 ∷ 1 ∷ []) (255 ∷ 255 ∷ 255 ∷ 255 ∷ [])), 12)
    ∷ ("values 1, 1", judged (values (0 ∷ 0 ∷ 0 ∷ 1 ∷ []) (0 ∷ 0 ∷ 0 ∷ 1 ∷ [])), 12)
    ∷ ("block head short", (block false msf 33).judge (replicate 39 0) 0, 3)
    ∷ ("name before a short table", (block false msf 33).judge (head 31 []) 0, 7)
    ∷ ("table short after a name", (block false msf 33).judge (head 31 (ascii "yesno")) 0, 3)
    ∷ ("name before a wrong table", (block false msf 33).judge (head 31 [] ++ yes_no 2 1) 0, 7)
    ∷ ("a block", (block false msf 33).judge (head 31 (ascii "yesno") ++ yes_no 1 2) 0, 0)
    ∷ ("12 before </lbl>", (block true msf 33).judge (ascii "<lbl>" ++ head 31 (ascii "yesno") ++ yes_no 2 1 ++ ascii "</lbx>") 0, 12)
    ∷ ("</lbl> differs", (block true msf 33).judge (ascii "<lbl>" ++ head 31 (ascii "yesno") ++ yes_no 1 2 ++ ascii "</lbx>") 0, 4)
    ∷ ("65,536 entries", unless (table_sizes 524296 (65536, 0)) 12, 0)
    ∷ ("65,537 entries", unless (table_sizes 524304 (65537, 0)) 12, 12)
    ∷ ("5,308,416 text bytes", unless (table_sizes 5308424 (0, 5308416)) 12, 0)
    ∷ ("5,308,417 text bytes", unless (table_sizes 5308425 (0, 5308417)) 12, 12)
    ∷ ("118: block head short", (block true msf 129).judge (ascii "<lbl>" ++ replicate 135 0) 0, 3)
    ∷ ("118: a name of 33 bytes", (block true msf 129).judge (ascii "<lbl>" ++ (0 ∷ 0 ∷ 0 ∷ 8 ∷ []) ++ replicate 33 65 ++ replicate 107 0 ++ ascii "</lbl>") 0, 0)
    ∷ ("<lbl> not next", (blocks true msf 33 (done 13)).judge (ascii "<value_labels><lbx></value_labels>") 0, 4)
    ∷ []

labels_agree : wrong labels ≡ []
unfolding labels table table_head table_body block block_head blocks name tag
labels_agree = refl

-- ---- dead bytes

-- 1 if the place is dead, 0 if not
abbrev mark : List Slot → ℕ → ℕ
mark P i = cond (dead P i) 1 0

-- a text of 1 byte
abbrev a : List ℕ
a = 65 ∷ []

dead_bytes : List Row
dead_bytes =
    ("the unused header byte", mark ((old_header 114 msf 4 80).slots (0, (0, ([], [])))) 3, 1)
    ∷ ("the file type", mark ((old_header 114 msf 4 80).slots (0, (0, ([], [])))) 2, 0)
    ∷ ("the zero of an old label", mark ((old_header 114 msf 4 80).slots (0, (0, (a, [])))) 11, 0)
    ∷ ("after the zero of an old label", mark ((old_header 114 msf 4 80).slots (0, (0, (a, [])))) 12, 1)
    ∷ ("byte 0 of an empty stamp", mark (old_stamp.slots []) 0, 0)
    ∷ ("byte 16 of an empty stamp", mark (old_stamp.slots []) 16, 1)
    ∷ ("byte 17 of an empty stamp", mark (old_stamp.slots []) 17, 0)
    ∷ ("byte 16 of a stamp", mark (old_stamp.slots (replicate 17 65)) 16, 0)
    ∷ ("a text's zero", mark (text_slots 4 a) 1, 0)
    ∷ ("after a text's zero", mark (text_slots 4 a) 2, 1)
    ∷ ("the last byte of a full text", mark (text_slots 1 a) 0, 0)
    ∷ ("the zero entry of a sort list", mark (ended_slots msf 2 3 (2 ∷ [])) 3, 0)
    ∷ ("after the zero entry of a sort list", mark (ended_slots msf 2 3 (2 ∷ [])) 4, 1)
    ∷ ("the length of an expansion block", mark ((expansion false msf).slots (1, 2)) 4, 0)
    ∷ ("the contents of an expansion block", mark ((expansion false msf).slots (1, 2)) 6, 1)
    ∷ ("the contents of a characteristic", mark ((expansion true msf).slots (0, 2)) 9, 1)
    ∷ ("</ch>", mark ((expansion true msf).slots (0, 2)) 10, 0)
    ∷ ("the padding of a label block", mark ((block_head msf 33).slots (8, (a, tt))) 39, 1)
    ∷ ("the table length of a label block", mark ((block_head msf 33).slots (8, (a, tt))) 3, 0)
    ∷ ("a text between two labels", mark ((area (0 ∷ 3 ∷ []) 5 12).slots (0 ∷ 0 ∷ 0 ∷ 65 ∷ 0 ∷ [])) 1, 1)
    ∷ ("a label's zero", mark ((area (0 ∷ 3 ∷ []) 5 12).slots (0 ∷ 0 ∷ 0 ∷ 65 ∷ 0 ∷ [])) 0, 0)
    ∷ []

dead_bytes_agree : wrong dead_bytes ≡ []
unfolding dead_bytes old_header old_stamp expansion expansion_head expansion_body block_head name tag
dead_bytes_agree = refl

-- ---- what a target edition holds

-- number 15 unless the test holds
abbrev fifteen : Bool → ℕ
fifteen t = unless t 15

targets : List Row
targets =
    ("strL to an untagged edition", fifteen (all_types false (strl_type ∷ [])), 15)
    ∷ ("str245 to an untagged edition", fifteen (all_types false (text_type 245 ∷ [])), 15)
    ∷ ("str244 and a double to an untagged edition", fifteen (all_types false (text_type 244 ∷ double_type ∷ [])), 0)
    ∷ ("str2045 and strL to a tagged edition", fifteen (all_types true (text_type 2045 ∷ strl_type ∷ [])), 0)
    ∷ ("a display format of 11 bytes to 113", fifteen (all_shorter (edition r113).format_width (replicate 11 65 ∷ [])), 0)
    ∷ ("a display format of 12 bytes to 113", fifteen (all_shorter (edition r113).format_width (replicate 12 65 ∷ [])), 15)
    ∷ ("a name of 32 bytes to 117", fifteen (all_shorter (edition r117).name_width (replicate 32 65 ∷ [])), 0)
    ∷ ("a name of 33 bytes to 117", fifteen (all_shorter (edition r117).name_width (replicate 33 65 ∷ [])), 15)
    ∷ ("a name of 128 bytes to 118", fifteen (all_shorter (edition r118).name_width (replicate 128 65 ∷ [])), 0)
    ∷ ("a display format of 56 bytes to 117", fifteen (all_shorter (edition r117).format_width (replicate 56 65 ∷ [])), 15)
    ∷ ("a variable label of 320 bytes to 118", fifteen (all_shorter (edition r118).var_label_width (replicate 320 65 ∷ [])), 0)
    ∷ ("a dataset label of 81 bytes to 117", fifteen (leb 81 (edition r117).label_max), 15)
    ∷ []

targets_agree : wrong targets ≡ []
unfolding targets
targets_agree = refl

-- ---- files

-- a file of no variables, of a tagged edition with this last digit, N in n bytes, the label's length in l, and this map
abbrev none : ℕ → ℕ → ℕ → List ℕ → List ℕ
none c n l m =
    ascii "<stata_dta><header><release>11" ++ (c ∷ []) ++ ascii "</release><byteorder>MSF</byteorder><K>" ++ (0 ∷ 0 ∷ [])
    ++ ascii "</K><N>" ++ replicate n 0
    ++ ascii "</N><label>" ++ replicate l 0
    ++ ascii "</label><timestamp>" ++ (0 ∷ [])
    ++ ascii "</timestamp></header><map>" ++ m
    ++ ascii "</map><variable_types></variable_types><varnames></varnames><sortlist>" ++ (0 ∷ 0 ∷ [])
    ++ ascii "</sortlist><formats></formats><value_label_names></value_label_names><variable_labels></variable_labels>"
    ++ ascii "<characteristics></characteristics><data></data><strls></strls><value_labels></value_labels></stata_dta>"

-- of 117
unfoldable least : List ℕ
least =
    none 55 4 1
    (at 0 0 ++ at 0 136 ++ at 1 3 ++ at 1 36 ++ at 1 57 ++ at 1 80 ++ at 1 99
    ++ at 1 138 ++ at 1 173 ++ at 1 208 ++ at 1 221 ++ at 1 236 ++ at 2 9 ++ at 2 21)

-- of 118
unfoldable least118 : List ℕ
least118 =
    none 56 8 2
    (at 0 0 ++ at 0 141 ++ at 1 8 ++ at 1 41 ++ at 1 62 ++ at 1 85 ++ at 1 104
    ++ at 1 143 ++ at 1 178 ++ at 1 213 ++ at 1 226 ++ at 1 241 ++ at 2 14 ++ at 2 26)

files : List Row
files =
    ("empty file", verdict [], 2)
    ∷ ("the byte 114", verdict (114 ∷ []), 3)
    ∷ ("the byte 115", verdict (115 ∷ []), 3)
    ∷ ("the byte 116", verdict (116 ∷ []), 2)
    ∷ ("the byte 118", verdict (118 ∷ []), 2)
    ∷ ("no variables", verdict least, 0)
    ∷ ("without </stata_dta>", verdict (take 521 least), 3)
    ∷ ("a byte after </stata_dta>", verdict (least ++ 0 ∷ []), 13)
    ∷ ("a wrong position", verdict (set least 148 1), 10)
    ∷ ("13 before 10", verdict (set least 148 1 ++ 0 ∷ []), 13)
    ∷ ("118: no variables", verdict least118, 0)
    ∷ ("118 with 117's widths", verdict (set least 30 56), 5)
    ∷ ("117 with 118's widths", verdict (set least118 30 55), 4)
    ∷ ("118: a wrong position", verdict (set least118 153 1), 10)
    ∷ ("119", verdict (set least118 30 57), 2)
    ∷ ("116 as a tagged edition", verdict (set least 30 54), 2)
    ∷ []

files_agree : wrong files ≡ []
unfolding files least least118 verdict file_to sections from_map from_types from_names from_sort_list from_formats from_set_names from_var_labels from_expansions from_data from_strls part_sizes old_header old_stamp new_facts new_header counted file_map type_code types name names sort_list fields expansions observations linked strls blocks tag between
files_agree = refl
