-- An accepted file, as a writer takes it: its edition and byte order, K, N, and where the contents of its parts stand.
use Rattle.std.specs.Prelude.{◌≡◌, ℕ, ◌+◌, ◌-◌, ◌≤◌, List, Bool, true, length, get_or, take, drop, Result, IfOk}
use Rattle.format.specs.Number.{Order, order_by}
use Rattle.format.specs.Edition.{Release, edition, closing, n_variable_types, n_varnames, n_sortlist, n_formats, n_value_label_names, n_variable_labels, n_data, n_strls, n_value_labels}
use Rattle.format.specs.Dta.{verdict, edition_of, order_of, dataset_of, layout_of, holds}
use Rattle.format.specs.Dead.{content_at}
use Rattle.questions.specs.Fact.{label_place, stamp_place}
use Rattle.reading.specs.Reads.{is_msf}
use Rattle.editions.specs.Editions.{numbers_of, edition_by}
use Rattle.editions.specs.declared.Edition.{Edition}
use Rattle.checking.specs.declared.Layout.{Layout}
use Rattle.checking.specs.Checks.{layout_by}
use Rattle.refusal.specs.declared.Refusal.{Refusal}
use Rattle.refusal.specs.Refusals.{code_of}
use Rattle.sources.specs.declared.Source.{Source}

-- f is accepted, and l is its layout
pub record Own (f : List ℕ) (l : Layout) : Type 0 where
  pub accepted : verdict f ≡ 0
  pub layout : layout_by l ≡ layout_of f

-- the n bytes at p of f are the text t
pub record PartOf (f : List ℕ) (p n : ℕ) (t : List ℕ) : Type 0 where
  pub is : take n (drop p f) ≡ t
  pub long : n ≡ length t
  pub inside : p + n ≤ length f

-- f is accepted, e and msf are its edition's numbers and its byte order
pub record Opened (f : List ℕ) (e : Edition) (msf : Bool) : Type 0 where
  pub accepted : verdict f ≡ 0
  pub edition : numbers_of e ≡ edition_of f
  pub order : order_by msf ≡ order_of f

-- s says edition and byte order of the accepted file f, K and N, where the contents of its parts start, where long strings and label blocks end, and where label and stamp stand
pub record Sourced (f : List ℕ) (s : Source) : Type 0 where
  pub opened : Opened f s.edition s.msf
  pub variables : s.k ≡ (dataset_of f).k
  pub observations : s.n ≡ (dataset_of f).n
  pub types : s.types ≡ content_at f 2 n_variable_types
  pub names : s.names ≡ content_at f 3 n_varnames
  pub sort : s.sort ≡ content_at f 4 n_sortlist
  pub formats : s.formats ≡ content_at f 5 n_formats
  pub sets : s.sets ≡ content_at f 6 n_value_label_names
  pub labels : s.labels ≡ content_at f 7 n_variable_labels
  pub rows : s.rows ≡ content_at f 9 n_data
  pub longs : s.longs ≡ content_at f 10 n_strls
  pub longs_end : s.longsend + length (closing (edition_of f).tagged n_strls) ≡ get_or (layout_of f).places 11 0
  pub blocks : s.blocks ≡ content_at f 11 n_value_labels
  pub blocks_end : s.blocksend + length (closing (edition_of f).tagged n_value_labels) ≡ get_or (layout_of f).places 12 0
  pub label_placed : s.lat ≡ label_place (edition_of f).tagged (edition_of f)
  pub label : PartOf f s.lat s.llen (dataset_of f).label
  pub stamp_placed : s.sat ≡ stamp_place (edition_of f).tagged (edition_of f) (dataset_of f)
  pub stamp : PartOf f s.sat s.slen (dataset_of f).stamp

-- r is the answer for the file f: its refusal, or what it has to say
pub record Opens (f : List ℕ) (r : Result Source Refusal) : Type 0 where
  pub code : code_of r ≡ verdict f
  pub parts : IfOk r (Sourced f)

-- what s is then, as one struct
abbrev pub source_of : List ℕ → Source
source_of f =
    record {
      edition = edition_by (edition_of f);
      msf = is_msf (order_of f);
      k = (dataset_of f).k;
      n = (dataset_of f).n;
      types = content_at f 2 n_variable_types;
      names = content_at f 3 n_varnames;
      sort = content_at f 4 n_sortlist;
      formats = content_at f 5 n_formats;
      sets = content_at f 6 n_value_label_names;
      labels = content_at f 7 n_variable_labels;
      rows = content_at f 9 n_data;
      longs = content_at f 10 n_strls;
      longsend = get_or (layout_of f).places 11 0 - length (closing (edition_of f).tagged n_strls);
      blocks = content_at f 11 n_value_labels;
      blocksend = get_or (layout_of f).places 12 0 - length (closing (edition_of f).tagged n_value_labels);
      lat = label_place (edition_of f).tagged (edition_of f);
      llen = length (dataset_of f).label;
      sat = stamp_place (edition_of f).tagged (edition_of f) (dataset_of f);
      slen = length (dataset_of f).stamp;
    }

-- to has the numbers of an edition that is read
pub record Known (to : Edition) : Type 0 where
  pub release : Release
  pub is : numbers_of to ≡ edition release

-- .. which can hold the dataset of f in the byte order o
pub record Holding (f : List ℕ) (to : Edition) (o : Order) : Type 0 where
  pub known : Known to
  pub held : holds (numbers_of to) o (dataset_of f) ≡ true
