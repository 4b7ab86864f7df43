-- The label sets of a file that is opened.
use mathlib.Core.Path.{◌≡◌}
use Prim.Native.Nat.{ℕ}
use mathlib.Core.List.{List}
use Rattle.format.specs.Slot.{Bytes}
use Rattle.format.specs.Number.{order_by}
use Rattle.format.specs.Labels.{block}
use Rattle.format.specs.Dta.{verdict, dataset_of}
use Rattle.writing.specs.Writes.{Stand}
use Rattle.sources.proofs.PartReads.{blocks_of}
use Rattle.sources.specs.declared.Source.{Source}
use Rattle.sources.specs.Sources.{Sourced}
use Rattle.set_list.specs.Sets.{sets_from, sets_of}

-- their blocks stand where s says
pub record SetsAt (f : List ℕ) (s : Source) : Type 0 where
  pub accepted : verdict f ≡ 0
  pub stand : Stand (block s.edition.tagged (order_by s.msf) s.edition.name_width) f s.blocks s.blocksend (dataset_of f).label_blocks
  pub told : sets_from s.edition.tagged (order_by s.msf) s.edition.name_width s.blocks (dataset_of f).label_blocks ≡ sets_of f

pub sets_at : {f : List ℕ} {s : Source} → Bytes f → Sourced f s → SetsAt f s
unfolding sets_of
sets_at {f} {s} u S =
    let o = S.opened in
    record {
      accepted = o.accepted;
      stand = blocks_of f u s.edition s.msf o s S;
      told = λ i. sets_from (o.edition i).tagged (o.order i) (o.edition i).name_width (S.blocks i) (dataset_of f).label_blocks;
    }
