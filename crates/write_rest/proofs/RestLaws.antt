-- Long strings and label blocks: what the writers put is what is written for them.
use mathlib.Core.Path.{◌≡◌, refl, sym, ap, ◌∙◌, subst}
use Prim.Native.Nat.{ℕ, suc, ◌+◌, ◌*◌, ◌≤◌}
use native.Mathlib.Omega.{arith}
use mathlib.Core.List.{List, [], ◌∷◌, ◌++◌, map, append-nil}
use mathlib.Core.Bool.{Bool, true, false, cond}
use lib.ListN.{length}
use Rattle.format.specs.Slot.{Slot, byte, fill, Bytes}
use Rattle.format.specs.Number.{Order, order_by}
use Rattle.format.specs.Grammar.{Sect, within, times, read_times, row, row_width, all_slots, sizes, tag, done}
use Rattle.format.specs.Edition.{Edition, opening, closing, n_data, n_strls, n_value_labels, n_stata_dta}
use Rattle.format.specs.Data.{Cell, cell, cell_width, observations, long_record, strls}
use Rattle.format.specs.Labels.{LabelBlock, block, blocks}
use Rattle.format.specs.Dta.{Dataset, dataset_of, release_of}
use Rattle.format.proofs.SlotLaws.{length_fill}
use Rattle.format.proofs.Good.{all_sized}
use Rattle.format.proofs.DataLaws.{record_good}
use Rattle.format.proofs.LabelLaws.{block_good}
use Rattle.format.proofs.WriteLaws.{fill_append, fill_bytes}
use Rattle.section.proofs.TagLaws.{opening_by, closing_by}
use Rattle.editions.specs.Editions.{numbers_of}
use Rattle.editions.specs.declared.Edition as Code
use Rattle.writing.specs.Writes.{Puts, Stand, Room, PutsAll}
use Rattle.sources.specs.declared.Source.{Source}
use Rattle.sources.specs.Sources.{Opened, Sourced, Known, Holding}
use Rattle.sources.specs.Parts.{rows_to, longs_to, blocks_to}
use Rattle.editions.proofs.WidthLaws.{code_widths}
use Rattle.sources.proofs.PartReads.{rows_of, rows_room, rows_few, types_of, typed_of, longs_of_lem, blocks_of, held_parts}
use Rattle.write_parts.specs.Enclosed.{enclosed}
use Rattle.write_strls.proofs.RoomLaws.{sizes_same}
use Rattle.write_strls.specs.Records.{RecordsPut}
use Rattle.data.proofs.PlaceLaws.{width_is}
use Rattle.write_labels.specs.Blocks.{BlocksRoom}
use Rattle.write_data.specs.declared.Source as Data
use Rattle.write_data.specs.Rows as Rows
use Rattle.write_data.specs.Rows.{forms, Eights, rows_bytes, row_span}
use Rattle.write_data.specs.declared.Forms.{Forms}
use Rattle.write_data.proofs.PutLaws.{times_length}
use Rattle.write_data.proofs.RowLaws.{row_from, row_to, row_wide, row_long}
use Rattle.write_lists.proofs.ListLaws.{enclosed_is}

-- a tag, other slots, a tag
three_filled : (l : List ℕ) (g : List Slot) (r : List ℕ) → fill (map byte l ++ (g ++ map byte r)) ≡ l ++ (fill g ++ r)
three_filled l g r =
    fill_append (map byte l) (g ++ map byte r)
    ∙ (λ i. fill_bytes l i ++ fill_append g (map byte r) i)
    ∙ ap (λ (x : List ℕ). l ++ (fill g ++ x)) (fill_bytes r)

map_append : (l m : List ℕ) → map byte (l ++ m) ≡ map byte l ++ map byte m
map_append [] m = refl
map_append (x ∷ l) m = ap (λ (k : List Slot). byte x ∷ k) (map_append l m)

-- two tags at the end
two_tags : (l m : List ℕ) → map byte l ++ (map byte m ++ []) ≡ map byte (l ++ m)
two_tags l m = ap (λ (k : List Slot). map byte l ++ k) (append-nil (map byte m)) ∙ sym (map_append l m)

closings_by : (t : Bool) → cond t (closing true n_value_labels ++ closing true n_stata_dta) [] ≡ closing t n_value_labels ++ closing t n_stata_dta
closings_by true = refl
closings_by false = refl

module _ (e : Edition) (o : Order) (d : Dataset) where
  abbrev pub longs_in : List ℕ
  longs_in = fill (all_slots (long_record e.tagged o e.record_width) d.long_strings)

  pub longs_eq : longs_to e o d ≡ enclosed e.tagged (opening true n_strls) (closing true n_strls) longs_in
  unfolding longs_to strls tag
  longs_eq =
      three_filled (opening e.tagged n_strls) (all_slots (long_record e.tagged o e.record_width) d.long_strings) (closing e.tagged n_strls)
      ∙ (λ i. sym (opening_by e.tagged n_strls) i ++ (longs_in ++ sym (closing_by e.tagged n_strls) i))

  abbrev pub blocks_in : List ℕ
  blocks_in = fill (all_slots (block e.tagged o e.name_width) d.label_blocks)

  pub blocks_eq : blocks_to e o d ≡ enclosed e.tagged (opening true n_value_labels) (closing true n_value_labels ++ closing true n_stata_dta) blocks_in
  unfolding blocks_to blocks tag
  blocks_eq =
      ap (λ (x : List Slot). fill (map byte (opening e.tagged n_value_labels) ++ (all_slots (block e.tagged o e.name_width) d.label_blocks ++ x)))
      (two_tags (closing e.tagged n_value_labels) (closing e.tagged n_stata_dta))
      ∙ three_filled (opening e.tagged n_value_labels) (all_slots (block e.tagged o e.name_width) d.label_blocks) (closing e.tagged n_value_labels ++ closing e.tagged n_stata_dta)
      ∙ (λ i. sym (opening_by e.tagged n_value_labels) i ++ (blocks_in ++ sym (closings_by e.tagged) i))

module _ (f : List ℕ) (u : Bytes f) (e : Code.Edition) (m : Bool) (op : Opened f e m) (s : Source) (S : Sourced f s) (to : Code.Edition) (z : Bool) where
  abbrev E : Edition
  E = numbers_of to

  abbrev t : Dataset
  t = dataset_of f

  -- the rows' source, and how they are written
  abbrev pub rows_source : Data.Source
  rows_source =
      record { p = s.rows; n = s.n; types = s.types; k = s.k; tagged = e.tagged; msf = m; vwidth = e.v_width; owidth = e.o_width }

  abbrev pub rows_in : List ℕ
  rows_in = rows_bytes f rows_source (forms rows_source z to.v_width to.o_width)

  pub rows_eq : rows_to E (order_by z) t ≡ enclosed to.tagged (opening true n_data) (closing true n_data) rows_in
  unfolding rows_to rows_bytes observations
  rows_eq =
      sym (enclosed_is to.tagged n_data (within (t.n * row_width (cell_width to.v_width to.o_width) t.var_types) (times (row (cell (order_by z) to.v_width to.o_width) t.var_types) t.n)) t.cells)
      ∙ ap (λ (l : List (List Cell)). enclosed to.tagged (opening true n_data) (closing true n_data) (fill (all_slots (row (cell (order_by z) to.v_width to.o_width) t.var_types) l))) (sym (rows_of f u e m op s S))
      ∙ (λ i. enclosed to.tagged (opening true n_data) (closing true n_data)
      (fill (all_slots (row (cell (order_by z) to.v_width to.o_width) (sym (types_of f u e m op s S) i))
      (read_times (row (cell (order_by m) e.v_width e.o_width) (sym (types_of f u e m op s S) i)) (sym S.observations i) f s.rows))))

  eight : e.v_width + e.o_width ≡ 8
  eight = let w = code_widths e (release_of f) op.edition in omega (arith, w.eight)

  span : row_span f rows_source ≡ row_width (cell_width e.v_width e.o_width) t.var_types
  span =
      sym (width_is e.tagged (order_by m) f s.types e.v_width e.o_width eight s.k (typed_of f u e m op s S).right)
      ∙ ap (row_width (cell_width e.v_width e.o_width)) (types_of f u e m op s S)

  row_bytes : t.n * row_width (cell_width e.v_width e.o_width) t.var_types ≡ s.n * row_span f rows_source
  row_bytes = λ i. sym S.observations i * sym span i

  pub rows_sourced : Rows.Sourced f rows_source
  rows_sourced =
      record {
        typed = typed_of f u e m op s S;
        inside = subst (λ (x : ℕ). s.rows + x ≤ length f) row_bytes (rows_room f u e m op s S);
        few = rows_few f u e m op s S;
        eight = eight;
      }

  module _ (H : Known to) where
    pub to_eight : to.v_width + to.o_width ≡ 8
    to_eight = let w = code_widths to H.release H.is in omega (arith, w.eight)

    abbrev row_forms : Forms
    row_forms = forms rows_source z to.v_width to.o_width

    eights : Eights row_forms
    eights = record { before = eight; after = to_eight }

    pub rows_long : length rows_in ≡ s.n * row_span f rows_source
    unfolding rows_bytes
    rows_long =
        times_length (row_from f rows_source row_forms rows_sourced eights) (row_to f rows_source row_forms rows_sourced eights) (row_span f rows_source) f (row_wide f rows_source row_forms rows_sourced eights)
        (row_long f rows_source row_forms rows_sourced eights) s.n s.rows

  -- there is room for the long strings, and they are put
  pub longs_room : (n : ℕ) → length (longs_in E (order_by z) t) ≤ n
      → Room (long_record e.tagged (order_by m) e.record_width) (long_record e.tagged (order_by z) to.record_width) f s.longs s.longsend n
  longs_room n h =
      record {
        list = t.long_strings;
        stand = longs_of_lem f u e m op s S;
        room =
            omega (
              arith,
              sizes_same e.tagged to.tagged (order_by z) (order_by z) to.record_width t.long_strings,
              length_fill (all_slots (long_record to.tagged (order_by z) to.record_width) t.long_strings),
              all_sized (long_record to.tagged (order_by z) to.record_width) (record_good to.tagged (order_by z) to.record_width) t.long_strings,
            );
      }

  pub longs_put : {d w : List ℕ} {r : ℕ}
      → RecordsPut e.tagged (order_by m) e.record_width (order_by z) to.record_width f s.longs s.longsend d w r → Puts (longs_in E (order_by z) t) d w r
  longs_put h = (h.all to.tagged).all t.long_strings (longs_of_lem f u e m op s S)

  -- .. and the label blocks
  pub blocks_room : Holding f to (order_by z) → (n : ℕ) → length (blocks_in E (order_by z) t) ≤ n
      → BlocksRoom e.tagged (order_by m) e.name_width to.tagged (order_by z) to.name_width f s.blocks s.blocksend n
  blocks_room H n h =
      record {
        list = t.label_blocks;
        stand = blocks_of f u e m op s S;
        named = (held_parts f to (order_by z) H).blocks;
        room =
            omega (
              arith,
              length_fill (all_slots (block to.tagged (order_by z) to.name_width) t.label_blocks),
              all_sized (block to.tagged (order_by z) to.name_width) (block_good to.tagged (order_by z) to.name_width) t.label_blocks,
            );
      }

  pub blocks_put : {d w : List ℕ} {r : ℕ}
      → PutsAll (block e.tagged (order_by m) e.name_width) (block to.tagged (order_by z) to.name_width) f s.blocks s.blocksend d w r
      → Puts (blocks_in E (order_by z) t) d w r
  blocks_put h = h.all t.label_blocks (blocks_of f u e m op s S)
