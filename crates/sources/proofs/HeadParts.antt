-- Where the dataset label and the stamp of an accepted file stand, by the answers to the questions for them; and the places of its layout.
use mathlib.Core.Path.{◌≡◌, refl, sym, ap, ◌∙◌, subst}
use Prim.Native.Nat.{ℕ, zero, suc, ◌+◌, ◌-◌, ◌≤◌}
use native.Mathlib.Nat.{zero-add}
use native.Mathlib.Omega.{arith}
use Rattle.std.specs.Prelude.{Result, Ok}
use lib.Dec.{eqb}
use mathlib.Core.List.{List, [], ◌∷◌}
use mathlib.Core.Bool.{Bool, true, false, cond}
use lib.ListN.{length, get_or}
use Rattle.format.specs.Slot.{Bytes}
use Rattle.format.specs.Number.{Order, msf, lsf, order_by}
use Rattle.format.specs.Grammar.{tag, between}
use Rattle.format.specs.Edition.{Edition, edition, release_by, order_mark, opening, closing, n_strls, n_value_labels}
use Rattle.format.specs.Header.{old_stamp, old_header, counted, new_facts, new_header, header_by, header}
use Rattle.format.specs.Dta as Format
use Rattle.format.specs.Dta.{Dataset, head_of, verdict, edition_of, order_of, release_of, contents, dataset_of, layout_of, sums, part_sizes}
use Rattle.format.proofs.Good.{good_bound}
use Rattle.format.proofs.HeaderLaws.{header_good}
use Rattle.format.proofs.EditionLaws.{number_back}
use Rattle.format.proofs.FileLaws.{number_small, sound, read_good, layout_is, itself}
use Rattle.format.proofs.PartLaws.{total, size_total, place_is}
use Rattle.format.specs.Dead.{content_at}
use Rattle.checking.specs.declared.Layout.{Layout}
use Rattle.checking.specs.Checks.{Checks, layout_by}
use Rattle.questions.specs.Ask.{Question, slice, shown, answer_of, ask_label, ask_stamp}
use Rattle.questions.specs.Fact.{label_place, stamp_place, fact_of, bytes_of}
use Rattle.questions.proofs.Theorems.{own_answer, own_bytes}
use Rattle.answers.specs.declared.Part.{Part}
use Rattle.refusal.specs.declared.Refusal.{Refusal}
use Rattle.answers.specs.Answers.{part_by}
use Rattle.editions.specs.Editions.{numbers_of, edition_by}
use Rattle.editions.specs.declared.Edition as Code
use Rattle.reading.specs.Reads.{is_msf}
use Rattle.sources.specs.declared.Source.{Source}
use Rattle.sources.specs.Sources.{Own, Opened, PartOf, Sourced, source_of}
use Rattle.sources.proofs.SourceLaws.{right, fit, place_11, place_12, longs_size}

-- no position is past the sum of the sizes
sums_below : (p : ℕ) (l : List ℕ) (j : ℕ) → get_or (sums p l) j 0 ≤ p + total l
sums_below p [] zero = omega arith
sums_below p [] (suc j) = omega arith
sums_below p (x ∷ l) zero = omega arith
sums_below p (x ∷ l) (suc j) = omega (arith, sums_below (p + x) l j)

-- both stand in the header
label_in : (t : Bool) (e : Edition) (o : Order) (d : Dataset) → (header_by t e o).Right (head_of d) → label_place t e + length d.label ≤ (header_by t e o).size (head_of d)
unfolding old_header new_header new_facts old_stamp counted between tag
label_in true e msf d r = omega arith
label_in true e lsf d r = omega arith
label_in false e o d r = omega (arith, r.1.1.1.1.1.1.0.0)

stamp_in : (t : Bool) (e : Edition) (o : Order) (d : Dataset) → (header_by t e o).Right (head_of d) → stamp_place t e d + length d.stamp ≤ (header_by t e o).size (head_of d)
unfolding old_header new_header new_facts old_stamp counted between tag
stamp_in true e msf d r = omega arith
stamp_in true e lsf d r = omega arith
stamp_in false e o d r = omega (arith, r.1.1.1.1.1.1.1.0.0.0)

module _ (f : List ℕ) (u : Bytes f) (l : Layout) (own : Own f l) where
  head_inside : (header (edition_of f) (order_of f)).size (head_of (dataset_of f)) ≤ length f
  head_inside = rw zero-add at (good_bound _ (header_good (edition_of f) (order_of f) (number_small (release_of f))) f 0 (head_of (dataset_of f)) (fit f u own.accepted).head)

  by_own : (q : Question) → answer_of f (layout_by l) q ≡ fact_of (edition_of f) (order_of f) (contents f) q
  by_own q = ap (λ (x : Format.Layout). answer_of f x q) own.layout ∙ own_answer f u own.accepted q

  part_of : {a : Part} {p : ℕ} {t : List ℕ} → a ≡ record { at = p; len = length t } → slice f p (length t) ≡ t → p + length t ≤ length f → PartOf f a.at a.len t
  part_of {a} {p} {t} w b c =
      let x : a.at ≡ p = ap (λ (y : Part). y.at) w in
      let y : a.len ≡ length t = ap (λ (y : Part). y.len) w in
      record { is = rw (x, y) b; long = y; inside = omega (arith, x, y) }

  same_part : {r : Result Part Refusal} {a b : Part} → r ≡ Ok a → r ≡ Ok b → a ≡ b
  same_part e h = cc

  -- the label's part
  pub label_answer : {r : Result Part Refusal} → r ≡ part_by (answer_of f (layout_by l) ask_label) → r ≡ Ok (record { at = label_place (edition_of f).tagged (edition_of f); len = length (dataset_of f).label })
  unfolding fact_of
  label_answer h = h ∙ ap part_by (by_own ask_label)

  pub label_told : {r : Result Part Refusal} {a : Part} → r ≡ part_by (answer_of f (layout_by l) ask_label) → r ≡ Ok a → a ≡ record { at = label_place (edition_of f).tagged (edition_of f); len = length (dataset_of f).label }
  label_told h e = same_part e (label_answer h)

  pub label_part_lem : {r : Result Part Refusal} {a : Part} → r ≡ part_by (answer_of f (layout_by l) ask_label) → r ≡ Ok a → PartOf f a.at a.len (dataset_of f).label
  unfolding fact_of bytes_of
  label_part_lem h e =
      let t = (edition_of f).tagged in
      part_of (label_told h e)
      (sym (ap (shown f) (own_answer f u own.accepted ask_label)) ∙ own_bytes f u own.accepted ask_label)
      (omega (arith, label_in t (edition_of f) (order_of f) (dataset_of f) (right f u own.accepted).head, head_inside))

  -- the stamp's
  pub stamp_answer : {r : Result Part Refusal} → r ≡ part_by (answer_of f (layout_by l) ask_stamp) → r ≡ Ok (record { at = stamp_place (edition_of f).tagged (edition_of f) (dataset_of f); len = length (dataset_of f).stamp })
  unfolding fact_of
  stamp_answer h = h ∙ ap part_by (by_own ask_stamp)

  pub stamp_told : {r : Result Part Refusal} {a : Part} → r ≡ part_by (answer_of f (layout_by l) ask_stamp) → r ≡ Ok a → a ≡ record { at = stamp_place (edition_of f).tagged (edition_of f) (dataset_of f); len = length (dataset_of f).stamp }
  stamp_told h e = same_part e (stamp_answer h)

  pub stamp_part : {r : Result Part Refusal} {a : Part} → r ≡ part_by (answer_of f (layout_by l) ask_stamp) → r ≡ Ok a → PartOf f a.at a.len (dataset_of f).stamp
  unfolding fact_of bytes_of
  stamp_part h e =
      let t = (edition_of f).tagged in
      part_of (stamp_told h e)
      (sym (ap (shown f) (own_answer f u own.accepted ask_stamp)) ∙ own_bytes f u own.accepted ask_stamp)
      (omega (arith, stamp_in t (edition_of f) (order_of f) (dataset_of f) (right f u own.accepted).head, head_inside))

  -- the layout's places are small
  pub place_own : (j : ℕ) → get_or l.places j 0 ≡ get_or (layout_of f).places j 0
  place_own j = ap (λ (x : Format.Layout). get_or x.places j 0) own.layout

  -- .. and within the file
  pub place_small : (j : ℕ) → get_or l.places j 0 ≤ 2147483647
  place_small j =
      let e = edition_of f in
      let o = order_of f in
      omega (
        arith,
        place_own j,
        place_is f own.accepted j,
        sums_below 0 (part_sizes e o (contents f)) j,
        size_total e o (contents f),
        (read_good (release_of f) o).sized (contents f),
        (sound f u own.accepted).whole,
        (sound f u own.accepted).short,
      )

  -- the closing tags stand before the places that follow them
  pub longs_tag : length (closing (edition_of f).tagged n_strls) ≤ get_or l.places 11 0
  longs_tag = omega (arith, place_own 11, place_is f own.accepted 11, place_11 f u own.accepted, longs_size f u own.accepted)

  pub blocks_tag : length (closing (edition_of f).tagged n_value_labels) ≤ get_or l.places 12 0
  blocks_tag = omega (arith, place_own 12, place_is f own.accepted 12, place_12 f u own.accepted)

opening_length : (t : Bool) (n : List ℕ) → cond t (length (opening true n)) 0 ≡ length (opening t n)
opening_length true n = refl
opening_length false n = refl

closing_length : (t : Bool) (n : List ℕ) → cond t (length (closing true n)) 0 ≡ length (closing t n)
closing_length true n = refl
closing_length false n = refl

module _ (f : List ℕ) (u : Bytes f) (l : Layout) (own : Own f l) (e : Code.Edition) (m : Bool) (op : Opened f e m) where
  tagged_is : e.tagged ≡ (edition_of f).tagged
  tagged_is = ap (λ (x : Edition). x.tagged) op.edition

  -- where a part's content starts and ends
  pub started : (j : ℕ) (n : List ℕ) (r : ℕ) → r ≡ get_or l.places j 0 + cond e.tagged (length (opening true n)) 0 → r ≡ content_at f j n
  started j n r h =
      h ∙ (λ i. place_own f u l own j i + cond (tagged_is i) (length (opening true n)) 0)
      ∙ ap (λ (x : ℕ). get_or (layout_of f).places j 0 + x) (opening_length (edition_of f).tagged n)

  pub ended : (j : ℕ) (n : List ℕ) (r : ℕ) → r + cond e.tagged (length (closing true n)) 0 ≡ get_or l.places j 0
      → r + length (closing (edition_of f).tagged n) ≡ get_or (layout_of f).places j 0
  ended j n r h =
      ap (λ (x : ℕ). r + x) (sym (closing_length (edition_of f).tagged n)) ∙ (λ i. r + cond (sym tagged_is i) (length (closing true n)) 0) ∙ h ∙ place_own f u l own j

  pub end_room : (j : ℕ) (n : List ℕ) → length (closing (edition_of f).tagged n) ≤ get_or l.places j 0 → cond e.tagged (length (closing true n)) 0 ≤ get_or l.places j 0
  end_room j n h = subst (λ (x : ℕ). x ≤ get_or l.places j 0) (sym (closing_length (edition_of f).tagged n) ∙ (λ i. cond (sym tagged_is i) (length (closing true n)) 0)) h

-- what an accepted file's layout says
module _ (f : List ℕ) (l : Layout) (own : Own f l) where
  layout_is_own : layout_by l ≡ Format.layout_by (edition_of f) (order_of f) (contents f)
  layout_is_own = own.layout ∙ layout_is (release_of f) (order_of f) f (contents f) (itself f own.accepted)

  order_back : (o : Order) → order_by (eqb (order_mark o) 1) ≡ o
  order_back msf = refl
  order_back lsf = refl

  pub opened_own : (e : Code.Edition) → numbers_of e ≡ edition (release_by l.edition) → Opened f e (eqb l.order 1)
  opened_own e h =
      record {
        accepted = own.accepted;
        edition = h ∙ ap (λ (x : Format.Layout). edition (release_by x.release)) layout_is_own ∙ ap edition (number_back (release_of f));
        order = ap (λ (x : Format.Layout). order_by (eqb x.order 1)) layout_is_own ∙ order_back (order_of f);
      }

  pub k_own : l.k ≡ (dataset_of f).k
  k_own = ap (λ (x : Format.Layout). x.variables) layout_is_own

  pub n_own : l.n ≡ (dataset_of f).n
  n_own = ap (λ (x : Format.Layout). x.rows) layout_is_own

pub own_of : {f : List ℕ} {l : Layout} → Checks f (Ok l) → Own f l
own_of C = record { accepted = sym C.code; layout = C.layout }

msf_back : (b : Bool) → b ≡ is_msf (order_by b)
msf_back true = refl
msf_back false = refl

msf_is : {b : Bool} {o : Order} → order_by b ≡ o → b ≡ is_msf o
msf_is {b} h = msf_back b ∙ ap is_msf h

-- the struct is decided
pub sourced_is : (f : List ℕ) (s : Source) → Sourced f s → s ≡ source_of f
sourced_is f s h =
    let x : s.longsend ≡ get_or (layout_of f).places 11 0 - length (closing (edition_of f).tagged n_strls) = omega (arith, h.longs_end) in
    let y : s.blocksend ≡ get_or (layout_of f).places 12 0 - length (closing (edition_of f).tagged n_value_labels) = omega (arith, h.blocks_end) in
    λ i. record {
      edition = edition_by (h.opened.edition i);
      msf = msf_is h.opened.order i;
      k = h.variables i;
      n = h.observations i;
      types = h.types i;
      names = h.names i;
      sort = h.sort i;
      formats = h.formats i;
      sets = h.sets i;
      labels = h.labels i;
      rows = h.rows i;
      longs = h.longs i;
      longsend = x i;
      blocks = h.blocks i;
      blocksend = y i;
      lat = h.label_placed i;
      llen = h.label.long i;
      sat = h.stamp_placed i;
      slen = h.stamp.long i;
    }
