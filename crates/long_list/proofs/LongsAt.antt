-- The long strings of a file that is opened.
use mathlib.Core.Path.{◌≡◌}
use Prim.Native.Nat.{ℕ, ◌≤◌}
use native.Mathlib.Omega.{arith}
use mathlib.Core.List.{List}
use Rattle.format.specs.Slot.{Bytes}
use Rattle.format.specs.Number.{order_by}
use Rattle.format.specs.Data.{long_record}
use Rattle.format.specs.Dta.{verdict, release_of, dataset_of}
use Rattle.writing.specs.Writes.{Stand}
use Rattle.editions.proofs.WidthLaws.{code_widths}
use Rattle.sources.proofs.PartReads.{longs_of_lem}
use Rattle.sources.specs.declared.Source.{Source}
use Rattle.sources.specs.Sources.{Sourced}
use Rattle.long_list.specs.Longs.{longs_from, longs_of}

-- they stand where s says
pub record LongsAt (f : List ℕ) (s : Source) : Type 0 where
  pub accepted : verdict f ≡ 0
  pub narrow : s.edition.record_width ≤ 8
  pub stand : Stand (long_record s.edition.tagged (order_by s.msf) s.edition.record_width) f s.longs s.longsend (dataset_of f).long_strings
  pub told : longs_from s.edition.record_width s.longs (dataset_of f).long_strings ≡ longs_of f

pub longs_at : {f : List ℕ} {s : Source} → Bytes f → Sourced f s → LongsAt f s
unfolding longs_of
longs_at {f} {s} u S =
    let o = S.opened in
    record {
      accepted = o.accepted;
      narrow = omega (arith, (code_widths s.edition (release_of f) o.edition).record_most);
      stand = longs_of_lem f u s.edition s.msf o s S;
      told = λ i. longs_from (o.edition i).record_width (S.longs i) (dataset_of f).long_strings;
    }
