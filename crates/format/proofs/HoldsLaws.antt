-- Number 15: of an accepted file's dataset, an edition whose fields are as wide as those of the file's own lacks nothing but types, and 118 lacks
-- nothing; each within the length bound.
use mathlib.Core.Path.{◌≡◌, refl, ◌∙◌}
use Prim.Native.Nat.{ℕ, ◌≤◌, ◌<◌}
use native.Mathlib.Omega.{arith}
use mathlib.Core.List.{List, [], ◌∷◌}
use mathlib.Core.Bool.{Bool, true, false, ◌&&◌}
use lib.ListN.{length}
use lib.Dec.{leb}
use borrow.Author.Tests.{leb-true, le-leb, lt-ltb}
use Rattle.format.specs.Slot.{Bytes}
use Rattle.format.specs.Number.{Order}
use Rattle.format.specs.Grammar.{Sect, text, AllRight, tag, between, done}
use Rattle.format.specs.Edition.{Edition, Release, r118, edition, AsWide, text_max}
use Rattle.format.specs.Header.{Head, old_header, counted, new_facts, new_header, header_by}
use Rattle.format.specs.Variables.{VarType, text_type, strl_type, byte_type, int_type, long_type, float_type, double_type, has_type, type_code, types, name, names, fields}
use Rattle.format.specs.Labels.{LabelBlock, block_head, block, blocks}
use Rattle.format.specs.Dta.{Dataset, Extras, head_of, file, release_of, edition_of, order_of, length_max, verdict, contents, dataset_of, all_shorter, all_types, block_names, holds}
use Rattle.format.proofs.Good.{and_left, and_right}
use Rattle.format.proofs.EditionLaws.{Widths, widths}
use Rattle.format.proofs.FileLaws.{sound}
use Rattle.format.proofs.PartLaws.{SectionsRight, sections_of}

-- ---- what right sections hold

label_short : (t : Bool) (e : Edition) (o : Order) (h : Head) → (header_by t e o).Right h → length h.1.1.0 ≤ e.label_max
unfolding old_header new_header new_facts counted between tag
label_short true e o h r = leb-true (length h.1.1.0) e.label_max r.1.1.1.1.0.1.0.0.1
label_short false e o h r = omega (arith, r.1.1.1.1.1.1.0.0)

-- the types of a section are the edition's
all_types_lem : (t : Bool) (o : Order) (l : List VarType) → AllRight (type_code t o) l → all_types t l ≡ true
unfolding type_code
all_types_lem t o [] r = refl
all_types_lem t o (x ∷ l) r = rw r.0.1 (all_types_lem t o l r.1)

types_have : (t : Bool) (o : Order) (k : ℕ) (l : List VarType) → (types t o k).Right l → all_types t l ≡ true
unfolding types between tag
types_have t o k l r = all_types_lem t o l r.1.0.1

-- texts are short if each that is right is
texts_short : (S : Sect (List ℕ)) (z : ℕ) → ((t : List ℕ) → S.Right t → length t < z) → (l : List (List ℕ)) → AllRight S l → all_shorter z l ≡ true
texts_short S z f [] r = refl
texts_short S z f (t ∷ l) r = rw (lt-ltb (length t) z (f t r.0)) (texts_short S z f l r.1)

names_short : (t : Bool) (w z k : ℕ) (l : List (List ℕ)) → w ≤ z → (names t w k).Right l → all_shorter z l ≡ true
unfolding names name between tag
names_short t w z k l b r = texts_short (name w) z (λ x y. omega (arith, y.0.0)) l r.1.0.1

fields_short : (t : Bool) (n : List ℕ) (w z k : ℕ) (l : List (List ℕ)) → w ≤ z → (fields t n w k).Right l → all_shorter z l ≡ true
unfolding fields between tag
fields_short t n w z k l b r = texts_short (text w 7) z (λ x y. omega (arith, y.0)) l r.1.0.1

all_blocks_short : (t : Bool) (o : Order) (w z : ℕ) (l : List LabelBlock) → w ≤ z → AllRight (block t o w) l → all_shorter z (block_names l) ≡ true
unfolding block block_head name
all_blocks_short t o w z [] b r = refl
all_blocks_short t o w z (x ∷ l) b r = rw (lt-ltb (length x.set_name) z (omega (arith, r.0.1.0.1.0.0.0))) (all_blocks_short t o w z l b r.1)

blocks_short : (t : Bool) (o : Order) (w z : ℕ) (l : List LabelBlock) → w ≤ z → (blocks t o w (done 13)).Right l → all_shorter z (block_names l) ≡ true
unfolding blocks
blocks_short t o w z l b r = all_blocks_short t o w z l b r.1.0

-- ---- what `holds` asks

-- of what an edition says, another whose fields are as wide can fail to hold types and the length only
holds_by : (e z : Edition) (o q : Order) (d : Dataset) (x : Extras) → (file e o).Right (d, x) → AsWide e z
    → holds z q d ≡ (all_types z.tagged d.var_types && leb ((file z q).size (d, [])) length_max)
unfolding holds
holds_by e z o q d x r w =
    let s = sections_of e o d x r in
    let l = le-leb (length d.label) z.label_max (omega (arith, label_short e.tagged e o (head_of d) s.head, w.label)) in
    let n = names_short e.tagged e.name_width z.name_width d.k d.var_names w.names s.name_list in
    let m = fields_short e.tagged _ e.format_width z.format_width d.k d.display_formats w.formats s.format_list in
    let v = fields_short e.tagged _ e.name_width z.name_width d.k d.label_sets w.names s.set_list in
    let y = fields_short e.tagged _ e.var_label_width z.var_label_width d.k d.variable_labels w.labels s.label_list in
    rw (l, n, m, v, y, blocks_short e.tagged o e.name_width z.name_width d.label_blocks w.names s.block_list)

-- `holds` asks no more than it must: a dataset that a file of the edition and byte order can say, within the length bound, is held
pub holds_only : (e : Edition) (o : Order) (d : Dataset) (x : Extras) → (file e o).Right (d, x) → (file e o).size (d, []) ≤ length_max → holds e o d ≡ true
holds_only e o d x r b =
    holds_by e e o o d x r (record { label = omega arith; names = omega arith; formats = omega arith; labels = omega arith })
    ∙ rw (types_have e.tagged o d.k d.var_types (sections_of e o d x r).type_list) (le-leb ((file e o).size (d, [])) length_max b)

-- ---- the editions

-- a tagged edition has all types
wide_text : (t : Bool) (w : ℕ) → w ≤ text_max t → w ≤ 2045
wide_text true w b = b
wide_text false w b = omega arith

wide_type : (t : Bool) (x : VarType) → has_type t x ≡ true → has_type true x ≡ true
wide_type t (text_type w) h =
    rw (and_left (leb 1 w) (leb w (text_max t)) h)
    (le-leb w 2045 (wide_text t w (leb-true w (text_max t) (and_right (leb 1 w) (leb w (text_max t)) h))))
wide_type t strl_type h = refl
wide_type t byte_type h = refl
wide_type t int_type h = refl
wide_type t long_type h = refl
wide_type t float_type h = refl
wide_type t double_type h = refl

wide_types : (t : Bool) (l : List VarType) → all_types t l ≡ true → all_types true l ≡ true
wide_types t [] h = refl
wide_types t (x ∷ l) h =
    rw (wide_type t x (and_left (has_type t x) (all_types t l) h)) (wide_types t l (and_right (has_type t x) (all_types t l) h))

module _ (f : List ℕ) (u : Bytes f) (a : verdict f ≡ 0) (o : Order) where
  R : (file (edition_of f) (order_of f)).Right (dataset_of f, (contents f).1)
  R = (sound f u a).right

  types_all : all_types true (dataset_of f).var_types ≡ true
  types_all =
      wide_types (edition_of f).tagged (dataset_of f).var_types
      (types_have (edition_of f).tagged (order_of f) (dataset_of f).k (dataset_of f).var_types (sections_of (edition_of f) (order_of f) (dataset_of f) (contents f).1 R).type_list)

  -- an edition whose fields are as wide as those of the file's own: only types and length can fail
  pub holds_wide : (r : Release) → AsWide (edition_of f) (edition r) → holds (edition r) o (dataset_of f)
      ≡ (all_types (edition r).tagged (dataset_of f).var_types && leb ((file (edition r) o).size (dataset_of f, [])) length_max)
  holds_wide r w = holds_by (edition_of f) (edition r) (order_of f) o (dataset_of f) (contents f).1 R w

  -- 118 has the widest fields and all types: only the length can fail
  pub holds_118 : holds (edition r118) o (dataset_of f) ≡ leb ((file (edition r118) o).size (dataset_of f, [])) length_max
  holds_118 =
      let s = widths (release_of f) in
      holds_wide r118 (record { label = s.label_most; names = s.name_most; formats = s.format_most; labels = s.var_label_most }) ∙ rw types_all
