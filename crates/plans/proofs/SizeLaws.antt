-- The sizes that code counts are the dataset's.
use mathlib.Core.Path.{◌≡◌, sym, ap, ◌∙◌}
use Prim.Native.Nat.{ℕ, ◌+◌, ◌*◌, ◌≤◌}
use native.Mathlib.Omega.{arith}
use mathlib.Core.List.{List, [], ◌∷◌}
use mathlib.Core.Bool.{Bool, true, false}
use lib.ListN.{length}
use Rattle.format.specs.Slot.{Bytes}
use Rattle.format.specs.Number.{Order, msf, lsf, order_by}
use Rattle.format.specs.Grammar.{all_slots, sizes, AllRight, row_width, tag, between}
use Rattle.format.specs.Edition.{Edition, code_width}
use Rattle.format.specs.Header.{Head, old_stamp, old_header, counted, new_facts, new_header, header_by, header}
use Rattle.format.specs.Data.{cell_width, long_record}
use Rattle.format.specs.Labels.{LabelBlock, block}
use Rattle.format.specs.Dta.{Dataset, head_of, dataset_of, release_of}
use Rattle.format.proofs.FileLaws.{sound}
use Rattle.format.proofs.SlotLaws.{fits_bound}
use Rattle.format.proofs.Good.{all_sized}
use Rattle.format.proofs.LabelLaws.{block_good}
use Rattle.data.specs.Places.{off_at}
use Rattle.data.proofs.PlaceLaws.{width_is}
use Rattle.editions.specs.Editions.{numbers_of}
use Rattle.editions.specs.declared.Edition as Code
use Rattle.writing.specs.Writes.{Room}
use Rattle.write_header.specs.Parts.{HeaderSize}
use Rattle.write_strls.specs.Records.{RecordsSize}
use Rattle.write_strls.proofs.RoomLaws.{sizes_twice, stand_inside}
use Rattle.write_labels.specs.Blocks.{BlocksSize}
use Rattle.write_labels.proofs.BlockLaws.{frame, block_size, block_even}
use Rattle.sources.specs.declared.Source.{Source}
use Rattle.sources.specs.Sources.{Opened, Sourced, Known}
use Rattle.sources.proofs.SourceLaws.{label_small, stamp_small}
use Rattle.format.proofs.EditionLaws.{Widths}
use Rattle.editions.proofs.WidthLaws.{code_widths}
use Rattle.sources.proofs.PartReads.{types_of, typed_of, rows_room, longs_of_lem, blocks_of}

-- a header is short
head_bound : (t : Bool) (e : Edition) (o : Order) (h : Head) → length h.1.1.0 ≤ 320 → length h.1.1.1 ≤ 17 → e.n_width ≤ 8 → e.label_length ≤ 8 → e.label_max ≤ 320
    → (header_by t e o).size h ≤ 65536
unfolding old_header new_header new_facts old_stamp counted between tag
head_bound true e msf h a b c d l = omega arith
head_bound true e lsf h a b c d l = omega arith
head_bound false e o h a b c d l = omega arith

-- blocks are at most four times as long in another form
module _ (t u : Bool) (o z : Order) (w v : ℕ) (b : v ≤ 129) (c : 33 ≤ w) where
  frames : frame u v ≤ 4 * frame t w
  frames = go t u
    where
      go : (x y : Bool) → frame y v ≤ 4 * frame x w
      go true true = omega arith
      go true false = omega arith
      go false true = omega arith
      go false false = omega arith

  blocks_four : (l : List LabelBlock) → AllRight (block t o w) l → sizes (block u z v) l ≤ 4 * sizes (block t o w) l
  blocks_four [] r = omega arith
  blocks_four (x ∷ l) r =
      omega (arith, block_size u z v x (block_even t o w x r.0), block_size t o w x (block_even t o w x r.0), frames, blocks_four l r.1)

module _ (f : List ℕ) (u : Bytes f) (e : Code.Edition) (m : Bool) (op : Opened f e m) (s : Source) (S : Sourced f s) (to : Code.Edition) (K : Known to) where
  abbrev d : Dataset
  d = dataset_of f

  W : Widths (numbers_of e)
  W = code_widths e (release_of f) op.edition

  X : Widths (numbers_of to)
  X = code_widths to K.release K.is

  pub file_short : length f ≤ 2147483647
  file_short = (sound f u op.accepted).short

  -- label and stamp
  pub label_short : s.llen ≤ 320
  label_short = omega (arith, S.label.long, label_small f u op.accepted, ap (λ (x : Edition). x.label_max) op.edition, W.label_most)

  pub stamp_17 : s.slen ≤ 17
  stamp_17 = omega (arith, S.stamp.long, stamp_small f u op.accepted)

  module _ (r : ℕ) (h : HeaderSize to s.llen s.slen r) where
    pub head_size : (o : Order) → r ≡ (header (numbers_of to) o).size (head_of d)
    head_size o = h.is o d.k d.n d.label d.stamp (sym S.label.long) (sym S.stamp.long)

    pub head_small : r ≤ 65536
    head_small =
        omega (
          arith,
          head_size msf,
          head_bound to.tagged (numbers_of to) msf (head_of d) (omega (arith, label_short, S.label.long)) (omega (arith, stamp_17, S.stamp.long)) (omega (arith, X.n_most)) (omega (arith, X.length_most)) (omega (arith, X.label_most)),
        )

  -- rows
  module _ (r : ℕ) (h : r ≡ off_at e.tagged (order_by m) f s.types s.k) where
    wide : (v w : ℕ) → v + w ≡ 8 → r ≡ row_width (cell_width v w) d.var_types
    wide v w q =
        h ∙ sym (width_is e.tagged (order_by m) f s.types v w q s.k (typed_of f u e m op s S).right) ∙ ap (row_width (cell_width v w)) (types_of f u e m op s S)

    pub rows_size : s.n * r ≡ d.n * row_width (cell_width to.v_width to.o_width) d.var_types
    rows_size = λ i. S.observations i * wide to.v_width to.o_width (omega (arith, X.eight)) i

    pub rows_small : s.n * r ≤ 2147483647
    rows_small =
        let q : s.n * r ≡ d.n * row_width (cell_width e.v_width e.o_width) d.var_types = λ i. S.observations i * wide e.v_width e.o_width (omega (arith, W.eight)) i in
        omega (arith, q, rows_room f u e m op s S, file_short)

  -- long strings
  longs_narrow : to.record_width ≤ 12
  longs_narrow = omega (arith, X.record_most)

  pub longs_room : Room (long_record e.tagged (order_by m) e.record_width) (long_record e.tagged (order_by m) to.record_width) f s.longs s.longsend 18446744073709551615
  longs_room =
      record {
        list = d.long_strings;
        stand = longs_of_lem f u e m op s S;
        room = omega (arith, file_short, sizes_twice e.tagged e.tagged (order_by m) (order_by m) e.record_width to.record_width longs_narrow d.long_strings, stand_inside e.tagged (order_by m) e.record_width f s.longs s.longsend d.long_strings (longs_of_lem f u e m op s S));
      }

  pub longs_widths : (e.record_width ≤ 8) × (to.record_width ≤ 8)
  longs_widths = (omega (arith, W.record_most), omega (arith, X.record_most))

  module _ (r : ℕ) (h : RecordsSize e.tagged (order_by m) e.record_width to.record_width f s.longs s.longsend r) where
    pub longs_size : (o : Order) → r ≡ sizes (long_record to.tagged o to.record_width) d.long_strings
    longs_size o = (h.all to.tagged o).all d.long_strings (longs_of_lem f u e m op s S)

    pub longs_small : r ≤ 4294967294
    longs_small =
        omega (
          arith,
          longs_size msf,
          file_short,
          stand_inside e.tagged (order_by m) e.record_width f s.longs s.longsend d.long_strings (longs_of_lem f u e m op s S),
          sizes_twice e.tagged to.tagged (order_by m) msf e.record_width to.record_width longs_narrow d.long_strings,
        )

  -- label blocks
  blocks_inside : s.blocks + sizes (block e.tagged (order_by m) e.name_width) d.label_blocks ≤ length f
  blocks_inside =
      omega (arith, fits_bound f s.blocks (all_slots (block e.tagged (order_by m) e.name_width) d.label_blocks) (blocks_of f u e m op s S).fits, all_sized (block e.tagged (order_by m) e.name_width) (block_good e.tagged (order_by m) e.name_width) d.label_blocks)

  pub blocks_room : Room (block e.tagged (order_by m) e.name_width) (block e.tagged (order_by m) e.name_width) f s.blocks s.blocksend (length f)
  blocks_room = record { list = d.label_blocks; stand = blocks_of f u e m op s S; room = omega (arith, blocks_inside) }

  pub blocks_widths : (e.name_width ≤ 255) × (to.name_width ≤ 255)
  blocks_widths = (omega (arith, W.name_most), omega (arith, X.name_most))

  module _ (r : ℕ) (h : BlocksSize e.tagged (order_by m) e.name_width to.tagged to.name_width f s.blocks s.blocksend r) where
    pub blocks_size_lem : (o : Order) → r ≡ sizes (block to.tagged o to.name_width) d.label_blocks
    blocks_size_lem o = (h.in_order o).all d.label_blocks (blocks_of f u e m op s S)

    pub blocks_small : r ≤ 8589934588
    blocks_small =
        omega (
          arith,
          blocks_size_lem msf,
          file_short,
          blocks_inside,
          blocks_four e.tagged to.tagged (order_by m) msf e.name_width to.name_width (omega (arith, X.name_most)) (omega (arith, W.name_least)) d.label_blocks (blocks_of f u e m op s S).right,
        )

pub code_small : (t : Bool) → code_width t ≤ 2
code_small true = omega arith
code_small false = omega arith
