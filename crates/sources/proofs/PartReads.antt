-- What code reads of an accepted file by its `Source` is its dataset.
use mathlib.Core.Path.{◌≡◌, sym, subst}
use Prim.Native.Nat.{ℕ, suc, ◌+◌, ◌*◌, ◌≤◌}
use native.Mathlib.Omega.{arith}
use mathlib.Core.List.{List, []}
use mathlib.Core.Bool.{Bool, true, ◌&&◌}
use lib.ListN.{length}
use lib.Dec.{leb}
use Rattle.format.specs.Slot.{Bytes}
use Rattle.format.specs.Number.{Order, order_by}
use Rattle.format.specs.Grammar.{text, read_times, ended_at, row, row_width}
use Rattle.format.specs.Edition.{Edition, n_variable_types, n_varnames, n_sortlist, n_formats, n_value_label_names, n_variable_labels, n_data, n_strls, n_value_labels}
use Rattle.format.specs.Variables.{type_code}
use Rattle.format.specs.Data.{cell, cell_width, long_record}
use Rattle.format.specs.Labels.{block}
use Rattle.format.specs.Dta.{Dataset, verdict, edition_of, order_of, dataset_of, holds, all_types, all_shorter, block_names, file, length_max}
use Rattle.format.proofs.Good.{and_left, and_right}
use borrow.Author.Tests.{leb-true}
use Rattle.format.specs.Dead.{content_at}
use Rattle.data.specs.Places.{Typed}
use Rattle.writing.specs.Writes.{Stand}
use Rattle.editions.specs.Editions.{numbers_of}
use Rattle.editions.specs.declared.Edition as Code
use Rattle.sources.specs.declared.Source.{Source}
use Rattle.sources.specs.Sources.{Opened, Sourced, Holding}
use Rattle.sources.proofs.SourceLaws.{k_small, n_small, types_read, types_typed, Texts, names_read, formats_read, sets_read, labels_read, sort_read, sort_inside, rows_read, rows_inside, longs_stand, blocks_stand}

-- k text fields of w bytes at p are read as l
pub record TextsAt (f : List ℕ) (p k w : ℕ) (l : List (List ℕ)) : Type 0 where
  pub reads : read_times (text w 7) k f p ≡ l
  pub inside : p + k * w ≤ length f

module _ (f : List ℕ) (u : Bytes f) (e : Code.Edition) (m : Bool) (op : Opened f e m) (s : Source) (S : Sourced f s) where
  abbrev d : Dataset
  d = dataset_of f

  h : verdict f ≡ 0
  h = op.accepted

  -- from the definitions' edition, order, K and place to the code's
  to_code : (P : Edition → Order → ℕ → ℕ → Type 0) (k p : ℕ) → s.k ≡ k → (q : ℕ) → q ≡ p → P (edition_of f) (order_of f) k p → P (numbers_of e) (order_by m) s.k q
  to_code P k p a q b x =
      subst (λ (E : Edition). P E (order_by m) s.k q) (sym op.edition)
      (subst (λ (O : Order). P (edition_of f) O s.k q) (sym op.order) (subst (λ (K : ℕ). P (edition_of f) (order_of f) K q) (sym a) (subst (λ (r : ℕ). P (edition_of f) (order_of f) k r) (sym b) x)))

  pub few : s.k ≤ 32767
  few = omega (arith, S.variables, k_small f u h)

  pub types_of : read_times (type_code e.tagged (order_by m)) s.k f s.types ≡ d.var_types
  types_of = to_code (λ E O k p. read_times (type_code E.tagged O) k f p ≡ d.var_types) d.k (content_at f 2 n_variable_types) S.variables s.types S.types (types_read f u h)

  pub typed_of : Typed e.tagged (order_by m) f s.types s.k
  typed_of = to_code (λ E O k p. Typed E.tagged O f p k) d.k (content_at f 2 n_variable_types) S.variables s.types S.types (types_typed f u h)

  texts : {p k w : ℕ} {l : List (List ℕ)} → Texts f u h p k w l → TextsAt f p k w l
  texts t = record { reads = t.reads; inside = t.inside }

  pub names_of : TextsAt f s.names s.k e.name_width d.var_names
  names_of = to_code (λ E O k p. TextsAt f p k E.name_width d.var_names) d.k (content_at f 3 n_varnames) S.variables s.names S.names (texts (names_read f u h))

  pub formats_of : TextsAt f s.formats s.k e.format_width d.display_formats
  formats_of = to_code (λ E O k p. TextsAt f p k E.format_width d.display_formats) d.k (content_at f 5 n_formats) S.variables s.formats S.formats (texts (formats_read f u h))

  pub sets_of : TextsAt f s.sets s.k e.name_width d.label_sets
  sets_of = to_code (λ E O k p. TextsAt f p k E.name_width d.label_sets) d.k (content_at f 6 n_value_label_names) S.variables s.sets S.sets (texts (sets_read f u h))

  pub labels_of : TextsAt f s.labels s.k e.var_label_width d.variable_labels
  labels_of = to_code (λ E O k p. TextsAt f p k E.var_label_width d.variable_labels) d.k (content_at f 7 n_variable_labels) S.variables s.labels S.labels (texts (labels_read f u h))

  pub sort_of : ended_at (order_by m) 2 (suc s.k) f s.sort ≡ d.sorted
  sort_of = to_code (λ E O k p. ended_at O 2 (suc k) f p ≡ d.sorted) d.k (content_at f 4 n_sortlist) S.variables s.sort S.sort (sort_read f u h)

  pub sort_room : s.sort + suc s.k * 2 ≤ length f
  sort_room = to_code (λ E O k p. p + suc k * 2 ≤ length f) d.k (content_at f 4 n_sortlist) S.variables s.sort S.sort (sort_inside f u h)

  pub rows_few : s.n ≤ 2147483647
  rows_few = omega (arith, S.observations, n_small f u h)

  pub rows_of : read_times (row (cell (order_by m) e.v_width e.o_width) d.var_types) d.n f s.rows ≡ d.cells
  rows_of = to_code (λ E O k p. read_times (row (cell O E.v_width E.o_width) d.var_types) d.n f p ≡ d.cells) d.k (content_at f 9 n_data) S.variables s.rows S.rows (rows_read f u h)

  pub rows_room : s.rows + d.n * row_width (cell_width e.v_width e.o_width) d.var_types ≤ length f
  rows_room = to_code (λ E O k p. p + d.n * row_width (cell_width E.v_width E.o_width) d.var_types ≤ length f) d.k (content_at f 9 n_data) S.variables s.rows S.rows (rows_inside f u h)

  pub longs_of_lem : Stand (long_record e.tagged (order_by m) e.record_width) f s.longs s.longsend d.long_strings
  longs_of_lem = to_code (λ E O k p. Stand (long_record E.tagged O E.record_width) f p s.longsend d.long_strings) d.k (content_at f 10 n_strls) S.variables s.longs S.longs (longs_stand f u h s.longsend S.longs_end)

  pub blocks_of : Stand (block e.tagged (order_by m) e.name_width) f s.blocks s.blocksend d.label_blocks
  blocks_of = to_code (λ E O k p. Stand (block E.tagged O E.name_width) f p s.blocksend d.label_blocks) d.k (content_at f 11 n_value_labels) S.variables s.blocks S.blocks (blocks_stand f u h s.blocksend S.blocks_end)

-- ---- what a target that holds the dataset holds

module _ (f : List ℕ) (to : Code.Edition) (o : Order) (H : Holding f to o) where
  abbrev t : Dataset
  t = dataset_of f

  pub record Held : Type 0 where
    pub types : all_types to.tagged t.var_types ≡ true
    pub label : length t.label ≤ to.label_max
    pub names : all_shorter to.name_width t.var_names ≡ true
    pub formats : all_shorter to.format_width t.display_formats ≡ true
    pub sets : all_shorter to.name_width t.label_sets ≡ true
    pub labels : all_shorter to.var_label_width t.variable_labels ≡ true
    pub blocks : all_shorter to.name_width (block_names t.label_blocks) ≡ true

  pub held_parts : Held
  unfolding holds
  held_parts =
      let k = leb ((file (numbers_of to) o).size (t, [])) length_max in
      let y = all_shorter to.name_width (block_names t.label_blocks) in
      let x = all_shorter to.var_label_width t.variable_labels in
      let w = all_shorter to.name_width t.label_sets in
      let v = all_shorter to.format_width t.display_formats in
      let q = all_shorter to.name_width t.var_names in
      let p = leb (length t.label) to.label_max in
      let a = H.held in
      let b = and_right (all_types to.tagged t.var_types) (p && (q && (v && (w && (x && (y && k)))))) a in
      let c = and_right p (q && (v && (w && (x && (y && k))))) b in
      let g = and_right q (v && (w && (x && (y && k)))) c in
      let h = and_right v (w && (x && (y && k))) g in
      let i = and_right w (x && (y && k)) h in
      let j = and_right x (y && k) i in
      record {
        types = and_left (all_types to.tagged t.var_types) (p && (q && (v && (w && (x && (y && k)))))) a;
        label = leb-true (length t.label) to.label_max (and_left p (q && (v && (w && (x && (y && k))))) b);
        names = and_left q (v && (w && (x && (y && k)))) c;
        formats = and_left v (w && (x && (y && k))) g;
        sets = and_left w (x && (y && k)) h;
        labels = and_left x (y && k) i;
        blocks = and_left y k j;
      }
