-- The theorems about .dta files of editions 113, 114, 115, 117 and 118, on one page. What is meant by each word stands in specs/: `verdict`,
-- `contents`, `dataset_of`, `layout_of`, `written`, `holds`, `cuts` and `dead_in` in Dta.antt, `DeadPlace` in Dead.antt, `Fits` and
-- `Bytes` in Slot.antt. A file is any list of bytes.
use mathlib.Core.Path.{◌≡◌, ap, ◌∙◌, sym}
use Prim.Native.Nat.{ℕ, ◌≤◌, ◌<◌}
use mathlib.Core.List.{List, []}
use mathlib.Core.Bool.{true, false}
use lib.ListN.{length, get_or, take}
use Rattle.format.specs.Slot.{Fits, Bytes}
use Rattle.format.specs.Number.{Order}
use Rattle.format.specs.Grammar.{Sect, member}
use Rattle.format.specs.Edition.{Edition, Release, edition}
use Rattle.format.specs.Dta.{Dataset, Extras, file, release_of, edition_of, order_of, length_max, verdict, contents, dataset_of, layout_of, dead_in, cuts, written, holds}
use Rattle.format.specs.Dead.{DeadPlace}
use Rattle.format.proofs.FileLaws as FileLaws
use Rattle.format.proofs.HeldLaws as HeldLaws
use Rattle.format.proofs.CutLaws as CutLaws
use Rattle.format.proofs.DeadLaws as DeadLaws
use Rattle.format.proofs.DeadSlots.{Iff}

-- 1. Sound: an accepted file keeps to the length bound, what it says obeys the rules, and the file is what the grammar makes of it, byte
-- for byte but for the dead ones.
pub record Sound (f : List ℕ) : Type 0 where
  pub short : length f ≤ length_max
  pub right : (file (edition_of f) (order_of f)).Right (contents f)
  pub fits : Fits f 0 ((file (edition_of f) (order_of f)).slots (contents f))
  pub whole : length ((file (edition_of f) (order_of f)).slots (contents f)) ≡ length f

pub sound : (f : List ℕ) → Bytes f → verdict f ≡ 0 → Sound f
sound f bytes accepted =
    let s = FileLaws.sound f bytes accepted in
    record { short = s.short; right = s.right; fits = s.fits; whole = s.whole }

-- 2. Complete: a file that is what the grammar of an edition and byte order makes of a dataset and extras that obey the rules is
-- accepted, and it has that edition, byte order, dataset and extras.
pub record Complete (r : Release) (o : Order) (f : List ℕ) (d : Dataset) (x : Extras) : Type 0 where
  pub accepted : verdict f ≡ 0
  pub release : release_of f ≡ r
  pub order : order_of f ≡ o
  pub dataset : dataset_of f ≡ d
  pub extras : (contents f).1 ≡ x

pub complete : (r : Release) (o : Order) (f : List ℕ) (d : Dataset) (x : Extras) → length f ≤ length_max → (file (edition r) o).Right (d, x)
    → Fits f 0 ((file (edition r) o).slots (d, x)) → length ((file (edition r) o).slots (d, x)) ≡ length f → Complete r o f d x
complete r o f d x short right fits whole =
    let a = FileLaws.complete r o f (d, x) short right fits whole in
    record {
      accepted = a.accepted;
      release = a.release;
      order = a.order;
      dataset = ap (λ (w : Dataset × Extras). w.0) a.says;
      extras = ap (λ (w : Dataset × Extras). w.1) a.says;
    }

-- 3. Round trip: the dataset of an accepted file, written in any edition that holds it and in either byte order, is a file of bytes of
-- that edition and byte order, is accepted and reads back as the same dataset.
pub record RoundTrip (r : Release) (o : Order) (d : Dataset) : Type 0 where
  pub bytes : Bytes (written (edition r) o d)
  pub accepted : verdict (written (edition r) o d) ≡ 0
  pub release : release_of (written (edition r) o d) ≡ r
  pub order : order_of (written (edition r) o d) ≡ o
  pub dataset : dataset_of (written (edition r) o d) ≡ d

pub round_trip : (f : List ℕ) (r : Release) (o : Order) → Bytes f → verdict f ≡ 0 → holds (edition r) o (dataset_of f) ≡ true → RoundTrip r o (dataset_of f)
round_trip f r o bytes accepted held =
    let a = HeldLaws.round_trip f r o bytes accepted held in
    record {
      bytes = HeldLaws.round_trip_bytes f r o bytes accepted held;
      accepted = a.accepted;
      release = a.release;
      order = a.order;
      dataset = ap (λ (w : Dataset × Extras). w.0) a.says;
    }

-- 4. Dead bytes: a file as long as an accepted one, with the same byte at every place that is not dead in the accepted one, is accepted,
-- with the same layout and the same dataset.
pub record SameButDead (f g : List ℕ) : Type 0 where
  pub accepted : verdict g ≡ 0
  pub layout : layout_of g ≡ layout_of f
  pub dataset : dataset_of g ≡ dataset_of f

pub dead_bytes : (f g : List ℕ) → Bytes f → verdict f ≡ 0 → length g ≡ length f
    → ((i : ℕ) → i < length f → dead_in f i ≡ false → get_or g i 0 ≡ get_or f i 0) → SameButDead f g
dead_bytes f g bytes accepted long same =
    let a = FileLaws.same_but_dead f g bytes accepted long same in
    record {
      accepted = a.accepted;
      layout = FileLaws.same_layout f g bytes accepted long same;
      dataset = ap (λ (w : Dataset × Extras). w.0) a.says;
    }

-- 5. Cut files: a beginning of an accepted file is accepted exactly if it ends at a cut. In 117 and 118 only the whole file does; in 113, 114
-- and 115 the data's end and the end of each label block do.
pub cut_files : (f : List ℕ) → Bytes f → verdict f ≡ 0 → (n : ℕ) → n ≤ length f → Iff (verdict (take n f) ≡ 0) (member n (cuts f) ≡ true)
cut_files = CutLaws.cut_file

-- 6. Dead places: those that the grammar marks are those of document 01's list.
pub dead_places : (f : List ℕ) (i : ℕ) → Bytes f → verdict f ≡ 0 → Iff (dead_in f i ≡ true) (DeadPlace f i)
dead_places = DeadLaws.marked_dead
