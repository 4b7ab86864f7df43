-- A whole file is good; and from that the theorems about accepted files.
use mathlib.Core.Path.{◌≡◌, refl, sym, ap, ◌∙◌, subst}
use Prim.Native.Nat.{ℕ, zero, suc, ◌+◌, ◌-◌, ◌*◌, ◌^◌, ◌≤◌, ◌<◌}
use native.Mathlib.Nat.{add-zero, zero-add}
use native.Mathlib.Omega.{arith}
use mathlib.Core.List.{List, [], ◌∷◌, ◌++◌, map}
use mathlib.Core.Bool.{Bool, true, false, cond, not, ◌&&◌, ◌||◌, true≢false}
use lib.ListN.{length, get_or, drop}
use lib.Dec.{eqb, leb, ltb}
use borrow.Author.Tests.{eqb-true, eq-eqb, leb-true, le-leb}
use Rattle.format.specs.Slot.{Slot, byte, spare, Fits, Bytes, fill, dead}
use Rattle.format.specs.Number.{Order, msf, lsf, order_by}
use Rattle.format.specs.Grammar.{Sect, also, unless, ruled, seq, told, done, idle, tag, between, same_at}
use Rattle.format.specs.Edition.{Edition, Release, edition, releases, tagged_start, start_by, start, order_mark, order_text, opening, closing, n_byteorder}
use Rattle.format.specs.Header.{Head, old_header, new_facts, new_header, header_by, header}
use Rattle.format.specs.Variables.{VarType}
use Rattle.format.specs.Data.{Cell}
use Rattle.format.specs.Dta.{Dataset, Extras, Parts, gather, head_of, spread, positions, map_of, same_list, map_rule, from_strls, from_data, from_expansions, from_var_labels, from_set_names, from_formats, from_sort_list, from_names, from_types, from_map, sections, file_to, file, begins, known, release_of, edition_of, is_msf, order_of, length_max, verdict, contents, dataset_of, Layout, no_layout, layout_by, layout_of, dead_in, written}
use Rattle.format.proofs.SlotLaws.{fits_left, fits_right, fits_fill, fits_live, length_fill, small_fill}
use Rattle.format.proofs.Good.{Good, Complete, Sound, and_left, and_right, fits_same, also_left, also_right, also_both, unless_true, unless_holds, done_good, idle_good, ruled_good, told_good, seq_good}
use Rattle.format.proofs.EditionLaws.{Widths, widths, every, each, sole, number_same}
use Rattle.format.proofs.HeaderLaws.{header_good}
use Rattle.format.proofs.VariableLaws.{map_good, types_good, names_good, sort_good, fields_good}
use Rattle.format.proofs.ExpansionLaws.{expansions_good}
use Rattle.format.proofs.DataLaws.{data_good, strls_good}
use Rattle.format.proofs.LabelLaws.{blocks_good}

same_list_lem : (l m : List ℕ) → same_list l m ≡ true → l ≡ m
same_list_lem [] [] h = refl
same_list_lem [] (y ∷ m) h = absurd (true≢false (sym h))
same_list_lem (x ∷ l) [] h = absurd (true≢false (sym h))
same_list_lem (x ∷ l) (y ∷ m) h =
    let a = eqb-true x y (and_left (eqb x y) (same_list l m) h) in
    let b = same_list_lem l m (and_right (eqb x y) (same_list l m) h) in
    λ i. a i ∷ b i

pub list_same : (l : List ℕ) → same_list l l ≡ true
list_same [] = refl
list_same (x ∷ l) = rw (eq-eqb x x refl) (list_same l)

-- ---- a file is good, up to an end that takes no bytes

module _ (e : Edition) (o : Order) (small : e.number < 256) (R : ℕ → ℕ → Type 0) (end : Sect (Unit {0})) (G : Good 0 R end)
    (none : (u : Unit {0}) → end.size u ≡ 0) (closed : e.tagged ≡ false → (a b : ℕ) → R a b → a ≡ b) where
  strls_on : (d : List (List Cell)) → Good 0 R (from_strls e o end d)
  unfolding from_strls
  strls_on d = seq_good _ _ (strls_good e.tagged o e.record_width d) λ l. blocks_good R end G none e.tagged o e.name_width closed

  data_on : (n : ℕ) (t : List VarType) → Good 0 R (from_data e o end n t)
  unfolding from_data
  data_on n t = seq_good _ _ (data_good o e.v_width e.o_width e.tagged t n) strls_on

  expansions_on : (n : ℕ) (t : List VarType) → Good 0 R (from_expansions e o end n t)
  unfolding from_expansions
  expansions_on n t = seq_good _ _ (expansions_good e.tagged o) λ x. data_on n t

  labels_on : (k n : ℕ) (t : List VarType) → Good 0 R (from_var_labels e o end k n t)
  unfolding from_var_labels
  labels_on k n t = seq_good _ _ (fields_good e.tagged _ e.var_label_width k refl) λ l. expansions_on n t

  sets_on : (k n : ℕ) (t : List VarType) → Good 0 R (from_set_names e o end k n t)
  unfolding from_set_names
  sets_on k n t = seq_good _ _ (fields_good e.tagged _ e.name_width k refl) λ v. labels_on k n t

  formats_on : (k n : ℕ) (t : List VarType) → Good 0 R (from_formats e o end k n t)
  unfolding from_formats
  formats_on k n t = seq_good _ _ (fields_good e.tagged _ e.format_width k refl) λ d. sets_on k n t

  sort_on : (k n : ℕ) (t : List VarType) → Good 0 R (from_sort_list e o end k n t)
  unfolding from_sort_list
  sort_on k n t = seq_good _ _ (sort_good e.tagged o k) λ s. formats_on k n t

  names_on : (k n : ℕ) (t : List VarType) → Good 0 R (from_names e o end k n t)
  unfolding from_names
  names_on k n t = seq_good _ _ (names_good e.tagged e.name_width k) λ m. sort_on k n t

  types_on : (k n : ℕ) → Good 0 R (from_types e o end k n)
  unfolding from_types
  types_on k n = seq_good _ _ (types_good e.tagged o k) (names_on k n)

  map_on : (k n : ℕ) → Good 0 R (from_map e o end k n)
  unfolding from_map
  map_on k n = seq_good _ _ (map_good e.tagged o) λ m. types_on k n

  sections_good : Good 0 R (sections e o end)
  unfolding sections
  sections_good = seq_good _ _ (header_good e o small) λ h. map_on h.0 h.1.0

  pub file_to_good : Good 0 R (file_to e o end)
  unfolding file_to
  file_to_good =
      told_good _ (ruled_good _ sections_good (map_rule e o) _ (omega arith)) gather (spread e o) (λ w. refl)
      (λ v r. (λ i. (v.0, (sym (same_list_lem v.1.0 (map_of e o (gather v)) r.1) i, v.1.1))))

pub file_good : (e : Edition) (o : Order) → e.number < 256 → Good 0 ◌≡◌ (file e o)
file_good e o z = file_to_good e o z ◌≡◌ (done 13) (done_good 13 (omega arith)) (λ u. refl) (λ q a b h. h)

-- a tagged file is good without its end too
pub open_good : (e : Edition) (o : Order) → e.number < 256 → e.tagged ≡ true → Good 0 ◌≤◌ (file_to e o (idle 0 0))
open_good e o z t = file_to_good e o z ◌≤◌ (idle 0 0) (idle_good 0 0 (omega arith)) (λ u. refl) (λ q. absurd (true≢false (sym t ∙ q)))

pub number_small : (r : Release) → (edition r).number < 256
number_small r = (widths r).number_most

-- a file of one of the editions is good
pub read_good : (r : Release) (o : Order) → Good 0 ◌≡◌ (file (edition r) o)
read_good r o = file_good (edition r) o (number_small r)

-- ---- a file's first bytes say its edition and its order

pub header_first : (e : Edition) (o : Order) (end : Sect (Unit {0})) (f : List ℕ) (w : Dataset × Extras) → Fits f 0 ((file_to e o end).slots w) → Fits f 0 ((header e o).slots (head_of w.0))
unfolding file_to sections
header_first e o end f w m = fits_left f 0 ((header e o).slots (head_of w.0)) _ m

-- a tag, then another between two more
tags_first : (f : List ℕ) (x l y r : List ℕ) (P : List Slot) → Fits f 0 (map byte x ++ ((map byte l ++ (map byte y ++ map byte r)) ++ P))
    → (same_at x f 0 ≡ true) × (same_at y f (0 + length (map byte x) + length (map byte l)) ≡ true)
tags_first f x l y r P m =
    let p = 0 + length (map byte x) in
    let q = p + length (map byte l) in
    let b = fits_left f p (map byte l ++ (map byte y ++ map byte r)) P (fits_right f 0 (map byte x) _ m) in (
      fits_same x f 0 (fits_left f 0 (map byte x) _ m),
      fits_same y f q (fits_left f q (map byte y) (map byte r) (fits_right f p (map byte l) (map byte y ++ map byte r) b)),
    )

new_start : (d : ℕ) (o : Order) (n v l : ℕ) (f : List ℕ) (h : Head) → Fits f 0 ((new_header d o n v l).slots h)
    → (same_at (tagged_start d) f 0 ≡ true) × (same_at (order_text o) f (0 + length (map byte (tagged_start d)) + length (map byte (opening true n_byteorder))) ≡ true)
unfolding new_header between tag
new_start d o n v l f h m = tags_first f (tagged_start d) (opening true n_byteorder) (order_text o) (closing true n_byteorder) ((new_facts o n v l).slots h) m

old_start : (d : ℕ) (o : Order) (n l : ℕ) (f : List ℕ) (h : Head) → Fits f 0 ((old_header d o n l).slots h) → (get_or f 0 0 ≡ d) × (get_or f 1 0 ≡ order_mark o)
unfolding old_header
old_start d o n l f h m = (m.0, m.1.0)

pub record Marked (r : Release) (o : Order) (f : List ℕ) : Type 0 where
  pub is_known : known f ≡ true
  pub release : release_of f ≡ r
  pub order : order_of f ≡ o

order_old : (o : Order) (f : List ℕ) → get_or f 1 0 ≡ order_mark o → order_by (eqb (get_or f 1 0) 1) ≡ o
order_old msf f h = rw h
order_old lsf f h = rw h

first_of : (x : ℕ) (l : List ℕ) (f : List ℕ) (p : ℕ) → same_at (x ∷ l) f p ≡ true → get_or f p 0 ≡ x
first_of x l f p h = eqb-true (get_or f p 0) x (and_left (eqb (get_or f p 0) x) (same_at l f (suc p)) h)

order_new : (o : Order) (f : List ℕ) → same_at (order_text o) f 52 ≡ true → order_by (same_at (order_text msf) f 52) ≡ o
order_new msf f h = rw h
order_new lsf f h = rw (first_of 76 (83 ∷ 70 ∷ []) f 52 h)

-- by a header: how the file begins, and its byte order
header_start : (t : Bool) (e : Edition) (o : Order) (f : List ℕ) (h : Head) → Fits f 0 ((header_by t e o).slots h)
    → (same_at (start_by t e.number) f 0 ≡ true) × (order_by (is_msf t f) ≡ o)
header_start true e o f h m = let s = new_start e.number o e.n_width e.label_length e.label_max f h m in (s.0, order_new o f s.1)
header_start false e o f h m =
    let s = old_start e.number o e.n_width e.label_max f h m in (rw (eq-eqb (get_or f 0 0) e.number s.0), order_old o f s.1)

-- two lists differ at a place that both have
abbrev differ : List ℕ → List ℕ → Bool
differ [] m = false
differ (x ∷ l) [] = false
differ (x ∷ l) (y ∷ m) = not (eqb y x) || differ l m

-- .. so where one stands, the other does not
other : (l m f : List ℕ) (p : ℕ) → differ l m ≡ true → same_at m f p ≡ true → same_at l f p ≡ false
other [] m f p d h = absurd (true≢false (sym d))
other (x ∷ l) [] f p d h = absurd (true≢false (sym d))
other (x ∷ l) (y ∷ m) f p d h =
    rw (first_of y m f p h) (go (eqb y x) d (other l m f (suc p)))
  where
    go : (t : Bool) → (not t || differ l m) ≡ true → (differ l m ≡ true → same_at m f (suc p) ≡ true → same_at l f (suc p) ≡ false) → (t && same_at l f (suc p)) ≡ false
    go true q ih = ih q (and_right (eqb (get_or f p 0) y) (same_at m f (suc p)) h)
    go false q ih = refl

-- no edition begins as another does
apart : (s r : Release) → (eqb (edition s).number (edition r).number || differ (start (edition s)) (start (edition r))) ≡ true
apart s r = each (λ x. eqb (edition s).number (edition x).number || differ (start (edition s)) (start (edition x))) (each (λ y. every (λ x. eqb (edition y).number (edition x).number || differ (start (edition y)) (start (edition x))) releases) refl s) r

pub begun : (r : Release) (f : List ℕ) → begins r f ≡ true → (known f ≡ true) × (release_of f ≡ r)
begun r f h = sole (λ s. begins s f) r h λ s k. go s k (eqb (edition s).number (edition r).number) refl (apart s r)
  where
    go : (s : Release) → begins s f ≡ true → (b : Bool) → eqb (edition s).number (edition r).number ≡ b → (b || differ (start (edition s)) (start (edition r))) ≡ true → s ≡ r
    go s k true q d = number_same s r (eqb-true (edition s).number (edition r).number q)
    go s k false q d = absurd (true≢false (sym k ∙ other (start (edition s)) (start (edition r)) f 0 d h))

pub marked : (r : Release) (o : Order) (f : List ℕ) (h : Head) → Fits f 0 ((header (edition r) o).slots h) → Marked r o f
marked r o f h m =
    let s = header_start (edition r).tagged (edition r) o f h m in
    let b = begun r f s.0 in
    record { is_known = b.0; release = b.1; order = ap (λ (x : Release). order_by (is_msf (edition x).tagged f)) b.1 ∙ s.1 }

-- ---- theorems

pub record Accepted (r : Release) (o : Order) (f : List ℕ) (w : Dataset × Extras) : Type 0 where
  pub accepted : verdict f ≡ 0
  pub release : release_of f ≡ r
  pub order : order_of f ≡ o
  pub says : contents f ≡ w

-- complete: a file that fits the slots of what it may say is accepted, and says it
pub complete : (r : Release) (o : Order) (f : List ℕ) (w : Dataset × Extras) → length f ≤ length_max → (file (edition r) o).Right w
    → Fits f 0 ((file (edition r) o).slots w) → length ((file (edition r) o).slots w) ≡ length f → Accepted r o f w
unfolding verdict contents
complete r o f w b t m l =
    let k = (read_good r o).complete f 0 w t m (zero-add ((file (edition r) o).size w) ∙ sym ((read_good r o).sized w) ∙ l) in
    let i = marked r o f (head_of w.0) (header_first (edition r) o (done 13) f w m) in
    let j : (file (edition_of f) (order_of f)).judge f 0 ≡ 0 =
    ap (λ (x : Release). (file (edition x) (order_of f)).judge f 0) i.release ∙ ap (λ (y : Order). (file (edition r) y).judge f 0) i.order ∙ k.accepted in
    record {
      accepted = also_both (unless (leb (length f) length_max) 1) _ (unless_holds (leb (length f) length_max) 1 (le-leb (length f) length_max b))
          (also_both (unless (known f) 2) ((file (edition_of f) (order_of f)).judge f 0) (unless_holds (known f) 2 i.is_known) j);
      release = i.release;
      order = i.order;
      says = ap (λ (x : Release). (file (edition x) (order_of f)).read f 0) i.release ∙ ap (λ (y : Order). (file (edition r) y).read f 0) i.order ∙ k.read_back;
    }

pub record Said (f : List ℕ) : Type 0 where
  pub short : length f ≤ length_max
  pub right : (file (edition_of f) (order_of f)).Right (contents f)
  pub fits : Fits f 0 ((file (edition_of f) (order_of f)).slots (contents f))
  pub whole : length ((file (edition_of f) (order_of f)).slots (contents f)) ≡ length f

-- sound: an accepted file fits the slots of what it says, and may say it
pub sound : (f : List ℕ) → Bytes f → verdict f ≡ 0 → Said f
unfolding verdict contents
sound f u h =
    let s = also (unless (known f) 2) ((file (edition_of f) (order_of f)).judge f 0) in
    let k = (read_good (release_of f) (order_of f)).sound f 0 u (omega arith)
    (also_right (unless (known f) 2) ((file (edition_of f) (order_of f)).judge f 0) (also_right (unless (leb (length f) length_max) 1) s h)) in
    record {
      short = leb-true (length f) length_max (unless_true (leb (length f) length_max) 1 (omega arith) (also_left (unless (leb (length f) length_max) 1) s h));
      right = k.right;
      fits = k.fits;
      whole = (read_good (release_of f) (order_of f)).sized (contents f) ∙ sym (zero-add ((file (edition_of f) (order_of f)).size (contents f))) ∙ k.ends;
    }

-- an accepted file's layout is that of what it says
pub layout_is : (r : Release) (o : Order) (f : List ℕ) (w : Dataset × Extras) → Accepted r o f w → layout_of f ≡ layout_by (edition r) o w
unfolding layout_of
layout_is r o f w a =
    rw a.accepted
    (ap (λ (x : Release). layout_by (edition x) (order_of f) (contents f)) a.release
    ∙ ap (λ (y : Order). layout_by (edition r) y (contents f)) a.order
    ∙ ap (λ (v : Dataset × Extras). layout_by (edition r) o v) a.says)

pub itself : (f : List ℕ) → verdict f ≡ 0 → Accepted (release_of f) (order_of f) f (contents f)
itself f h = record { accepted = h; release = refl; order = refl; says = refl }

-- demand 3: a file that agrees with an accepted one but for dead bytes is accepted, and says the same
pub same_but_dead : (f g : List ℕ) → Bytes f → verdict f ≡ 0 → length g ≡ length f
    → ((i : ℕ) → i < length f → dead_in f i ≡ false → get_or g i 0 ≡ get_or f i 0) → Accepted (release_of f) (order_of f) g (contents f)
unfolding dead_in
same_but_dead f g u h l e =
    let s = sound f u h in
    complete (release_of f) (order_of f) g (contents f) (rw l s.short) s.right
    (fits_live f g ((file (edition_of f) (order_of f)).slots (contents f)) s.fits l e) (s.whole ∙ sym l)

-- .. with the same layout
pub same_layout : (f g : List ℕ) → Bytes f → verdict f ≡ 0 → length g ≡ length f
    → ((i : ℕ) → i < length f → dead_in f i ≡ false → get_or g i 0 ≡ get_or f i 0) → layout_of g ≡ layout_of f
same_layout f g u h l e =
    layout_is (release_of f) (order_of f) g (contents f) (same_but_dead f g u h l e)
    ∙ sym (layout_is (release_of f) (order_of f) f (contents f) (itself f h))

-- what is written of a dataset is accepted, and says that dataset
pub read_back_lem : (r : Release) (o : Order) (d : Dataset) → (file (edition r) o).Right (d, []) → length (written (edition r) o d) ≤ length_max
    → Accepted r o (written (edition r) o d) (d, [])
unfolding written
read_back_lem r o d t b =
    complete r o (written (edition r) o d) (d, []) b t (fits_fill ((file (edition r) o).slots (d, []))) (sym (length_fill ((file (edition r) o).slots (d, []))))

-- how many bytes are written
pub written_length : (r : Release) (o : Order) (d : Dataset) → length (written (edition r) o d) ≡ (file (edition r) o).size (d, [])
unfolding written
written_length r o d = length_fill ((file (edition r) o).slots (d, [])) ∙ (read_good r o).sized (d, [])

-- what is written of a right dataset is bytes
pub written_bytes : (r : Release) (o : Order) (d : Dataset) → (file (edition r) o).Right (d, []) → Bytes (written (edition r) o d)
unfolding written
written_bytes r o d t = small_fill ((file (edition r) o).slots (d, [])) ((read_good r o).small (d, []) t)
