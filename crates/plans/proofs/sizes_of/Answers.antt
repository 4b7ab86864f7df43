use native.Mathlib.Omega.{arith}
use Rattle.format.specs.Slot.{Bytes}
use Rattle.editions.proofs.WidthLaws.{code_widths}
use Rattle.sources.proofs.PartReads.{typed_of}
use Rattle.plans.proofs.SizeLaws.{file_short, label_short, stamp_17, head_size, head_small, rows_size, rows_small, longs_room, longs_widths, longs_size, longs_small, blocks_room, blocks_widths, blocks_size_lem, blocks_small}
use Rattle.plans.proofs.sizes_of.Goals as goal

pub header_size-requires : goal.header_size-requires
header_size-requires c =
    let a = c.args in
    let f = a.f.now in
    let u : Bytes f = (λ i. omega (arith, c.shared_slice_known-1.given i)) in
    let e = a.s.edition in
    let m = a.s.msf in
    let s = a.s in
    let op = c.requires.0.opened in
    let S = c.requires.0 in
    let to = a.to in
    let K = c.requires.1 in
    let X = code_widths to K.release K.is in
    (omega (arith, X.n_most), omega (arith, X.length_most), omega (arith, X.label_most), omega (arith, label_short f u e m op s S to K), stamp_17 f u e m op s S to K)

pub row_width-requires : goal.row_width-requires
row_width-requires c =
    let a = c.args in
    let f = a.f.now in
    let u : Bytes f = (λ i. omega (arith, c.shared_slice_known-1.given i)) in
    let e = a.s.edition in
    let m = a.s.msf in
    let s = a.s in
    let op = c.requires.0.opened in
    let S = c.requires.0 in
    typed_of f u e m op s S

pub records_size-requires : goal.records_size-requires
records_size-requires c =
    let a = c.args in
    let f = a.f.now in
    let u : Bytes f = (λ i. omega (arith, c.shared_slice_known-1.given i)) in
    let e = a.s.edition in
    let m = a.s.msf in
    let s = a.s in
    let op = c.requires.0.opened in
    let S = c.requires.0 in
    let to = a.to in
    let K = c.requires.1 in
    (longs_room f u e m op s S to K, (longs_widths f u e m op s S to K).0, (longs_widths f u e m op s S to K).1)

pub blocks_size-requires : goal.blocks_size-requires
blocks_size-requires c =
    let a = c.args in
    let f = a.f.now in
    let u : Bytes f = (λ i. omega (arith, c.shared_slice_known-1.given i)) in
    let e = a.s.edition in
    let m = a.s.msf in
    let s = a.s in
    let op = c.requires.0.opened in
    let S = c.requires.0 in
    let to = a.to in
    let K = c.requires.1 in
    (blocks_room f u e m op s S to K, file_short f u e m op s S to K, (blocks_widths f u e m op s S to K).0, (blocks_widths f u e m op s S to K).1)

pub overflow_mul-result : goal.overflow_mul-result
overflow_mul-result c =
    let a = c.args in
    let f = a.f.now in
    let u : Bytes f = (λ i. omega (arith, c.shared_slice_known-1.given i)) in
    let e = a.s.edition in
    let m = a.s.msf in
    let s = a.s in
    let op = c.requires.0.opened in
    let S = c.requires.0 in
    let to = a.to in
    let K = c.requires.1 in
    record { fits = omega (arith, rows_small f u e m op s S to K c.row_width.result c.row_width.ensures) }

pub returns : goal.returns
returns c =
    let a = c.args in
    let f = a.f.now in
    let u : Bytes f = (λ i. omega (arith, c.shared_slice_known-1.given i)) in
    let e = a.s.edition in
    let m = a.s.msf in
    let s = a.s in
    let op = c.requires.0.opened in
    let S = c.requires.0 in
    let to = a.to in
    let K = c.requires.1 in
    let H = c.header_size.ensures in
    let D = c.row_width.ensures in
    let L = c.records_size.ensures in
    let B = c.blocks_size.ensures in (
      record {
        head = head_size f u e m op s S to K _ H;
        rows = rows_size f u e m op s S to K _ D;
        longs = longs_size f u e m op s S to K _ L;
        blocks = blocks_size_lem f u e m op s S to K _ B;
      },
      record {
        head = head_small f u e m op s S to K _ H;
        rows = rows_small f u e m op s S to K _ D;
        longs = longs_small f u e m op s S to K _ L;
        blocks = blocks_small f u e m op s S to K _ B;
      },
    )
