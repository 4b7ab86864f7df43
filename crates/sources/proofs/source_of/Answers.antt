use mathlib.Core.Path.{ap}
use native.Mathlib.Omega.{arith}
use lib.Dec.{eqb}
use Rattle.format.specs.Slot.{Bytes}
use Rattle.answers.specs.declared.Part.{Part}
use Rattle.format.specs.Edition.{n_variable_types, n_varnames, n_sortlist, n_formats, n_value_label_names, n_variable_labels, n_data, n_strls, n_value_labels}
use Rattle.sources.proofs.HeadParts.{place_small, longs_tag, blocks_tag, label_answer, label_told, label_part_lem, stamp_answer, stamp_told, stamp_part, started, ended, end_room, opened_own, k_own, n_own}
use Rattle.sources.proofs.source_of.Goals as goal

pub start-requires : goal.start-requires
start-requires c = (place_small c.args.f.now (λ i. omega (arith, c.shared_slice_known-1.given i)) c.args.l c.requires 2, omega arith)

pub start-requires-2 : goal.start-requires-2
start-requires-2 c = (place_small c.args.f.now (λ i. omega (arith, c.shared_slice_known-1.given i)) c.args.l c.requires 3, omega arith)

pub start-requires-3 : goal.start-requires-3
start-requires-3 c = (place_small c.args.f.now (λ i. omega (arith, c.shared_slice_known-1.given i)) c.args.l c.requires 4, omega arith)

pub start-requires-4 : goal.start-requires-4
start-requires-4 c = (place_small c.args.f.now (λ i. omega (arith, c.shared_slice_known-1.given i)) c.args.l c.requires 5, omega arith)

pub start-requires-5 : goal.start-requires-5
start-requires-5 c = (place_small c.args.f.now (λ i. omega (arith, c.shared_slice_known-1.given i)) c.args.l c.requires 6, omega arith)

pub start-requires-6 : goal.start-requires-6
start-requires-6 c = (place_small c.args.f.now (λ i. omega (arith, c.shared_slice_known-1.given i)) c.args.l c.requires 7, omega arith)

pub start-requires-7 : goal.start-requires-7
start-requires-7 c = (place_small c.args.f.now (λ i. omega (arith, c.shared_slice_known-1.given i)) c.args.l c.requires 9, omega arith)

pub start-requires-8 : goal.start-requires-8
start-requires-8 c = (place_small c.args.f.now (λ i. omega (arith, c.shared_slice_known-1.given i)) c.args.l c.requires 10, omega arith)

pub end-requires : goal.end-requires
end-requires c =
    let u : Bytes c.args.f.now = (λ i. omega (arith, c.shared_slice_known-1.given i)) in
    (place_small c.args.f.now u c.args.l c.requires 11, end_room c.args.f.now u c.args.l c.requires _ _ (opened_own c.args.f.now c.args.l c.requires _ c.numbers_of-edition.ensures) 11 n_strls (longs_tag c.args.f.now u c.args.l c.requires))

pub start-requires-9 : goal.start-requires-9
start-requires-9 c = (place_small c.args.f.now (λ i. omega (arith, c.shared_slice_known-1.given i)) c.args.l c.requires 11, omega arith)

pub end-requires-2 : goal.end-requires-2
end-requires-2 c =
    let u : Bytes c.args.f.now = (λ i. omega (arith, c.shared_slice_known-1.given i)) in
    (place_small c.args.f.now u c.args.l c.requires 12, end_room c.args.f.now u c.args.l c.requires _ _ (opened_own c.args.f.now c.args.l c.requires _ c.numbers_of-edition.ensures) 12 n_value_labels (blocks_tag c.args.f.now u c.args.l c.requires))

pub unwrap-a-requires : goal.unwrap-a-requires
unwrap-a-requires c = rw (label_answer c.args.f.now (λ i. omega (arith, c.shared_slice_known-1.given i)) c.args.l c.requires c.label.ensures)

pub unwrap-b-requires : goal.unwrap-b-requires
unwrap-b-requires c = rw (stamp_answer c.args.f.now (λ i. omega (arith, c.shared_slice_known-1.given i)) c.args.l c.requires c.stamp.ensures)

pub returns : goal.returns
returns c =
    let f = c.args.f.now in
    let u : Bytes f = (λ i. omega (arith, c.shared_slice_known-1.given i)) in
    let l = c.args.l in
    let own = c.requires in
    let e = c.numbers_of-edition.result in
    let m = eqb l.order 1 in
    let op = opened_own f l own e c.numbers_of-edition.ensures in
    record {
      opened = op;
      variables = k_own f l own;
      observations = n_own f l own;
      types = started f u l own e m op 2 n_variable_types _ c.start.ensures;
      names = started f u l own e m op 3 n_varnames _ c.start-2.ensures;
      sort = started f u l own e m op 4 n_sortlist _ c.start-3.ensures;
      formats = started f u l own e m op 5 n_formats _ c.start-4.ensures;
      sets = started f u l own e m op 6 n_value_label_names _ c.start-5.ensures;
      labels = started f u l own e m op 7 n_variable_labels _ c.start-6.ensures;
      rows = started f u l own e m op 9 n_data _ c.start-7.ensures;
      longs = started f u l own e m op 10 n_strls _ c.start-8.ensures;
      longs_end = ended f u l own e m op 11 n_strls _ c.end.ensures;
      blocks = started f u l own e m op 11 n_value_labels _ c.start-9.ensures;
      blocks_end = ended f u l own e m op 12 n_value_labels _ c.end-2.ensures;
      label_placed = ap (λ (x : Part). x.at) (label_told f u l own c.label.ensures c.unwrap-a.ensures);
      label = label_part_lem f u l own c.label.ensures c.unwrap-a.ensures;
      stamp_placed = ap (λ (x : Part). x.at) (stamp_told f u l own c.stamp.ensures c.unwrap-b.ensures);
      stamp = stamp_part f u l own c.stamp.ensures c.unwrap-b.ensures;
    }
