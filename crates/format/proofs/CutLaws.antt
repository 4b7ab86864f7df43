-- Beginnings of accepted files: none of a tagged file is accepted; one of an untagged file is, exactly if it ends at a cut.
use mathlib.Core.Path.{◌≡◌, refl, sym, ap, ◌∙◌, subst}
use Prim.Native.Nat.{ℕ, zero, suc, ◌+◌, ◌*◌, ◌≤◌, ◌<◌}
use native.Mathlib.Nat.{add-zero, zero-add, add_assoc}
use native.Mathlib.Omega.{arith}
use mathlib.Core.List.{List, [], ◌∷◌, ◌++◌, map, append-nil, append_assoc}
use mathlib.Core.Logic.{◌⊎◌, inl, inr}
use mathlib.Core.Bool.{Bool, true, false, cond, ◌||◌, true≢false}
use lib.ListN.{length, get_or, take, length-map, length-append, get_or-eq_default}
use lib.Seq.{get_or-take, length-take-le, take-length}
use lib.Dec.{eqb, ltb}
use borrow.Author.Tests.{ltb-true, ltb-false, eqb-true, eqb-false, eq-eqb}
use Rattle.format.specs.Slot.{Slot, byte, Fits, Bytes}
use Rattle.format.specs.Number.{Order}
use Rattle.format.specs.Grammar.{Sect, seq, done, idle, tag, between, sizes, each_size, all_slots, AllRight, member}
use Rattle.format.specs.Edition.{Edition, Release, edition, opening, closing, n_value_labels, n_stata_dta}
use Rattle.format.specs.Header.{Head, header}
use Rattle.format.specs.Variables.{file_map, VarType, types, names, sort_list, formats, set_names, var_labels}
use Rattle.format.specs.Expansion.{Expansion, expansions}
use Rattle.format.specs.Data.{Cell, LongString, observations, strls}
use Rattle.format.specs.Labels.{LabelBlock, block, blocks}
use Rattle.format.specs.Dta.{Dataset, Extras, Parts, gather, head_of, spread, sums, part_sizes, positions, map_of, from_strls, from_data, from_expansions, from_var_labels, from_set_names, from_formats, from_sort_list, from_names, from_types, from_map, sections, file_to, file, release_of, edition_of, order_of, length_max, verdict, contents, dataset_of, layout_of, cuts}
use Rattle.format.proofs.SlotLaws.{fits_start, fits_bound, fits_at, fits_of, fits_left, fits_right, fits_append}
use Rattle.format.proofs.Good.{Good, good_bound, good_right, good_append, all_sized, seq_good}
use Rattle.format.proofs.AreaLaws.{or_cases, or_right}
use Rattle.format.proofs.HeaderLaws.{header_good}
use Rattle.format.proofs.VariableLaws.{map_good, types_good, names_good, sort_good, fields_good}
use Rattle.format.proofs.ExpansionLaws.{expansions_good}
use Rattle.format.proofs.DataLaws.{data_good, strls_good}
use Rattle.format.proofs.LabelLaws.{block_good, block_some}
use Rattle.format.proofs.FileLaws.{Accepted, Said, Marked, complete, sound, read_good, open_good, number_small, header_first, marked, list_same}
use Rattle.format.proofs.PartLaws.{map_size_lem, place, place_is, SectionsRight, sections_of, of_sections}
use Rattle.format.proofs.DeadSlots.{Iff}

-- ---- slots that stand in a file and in its beginnings

fits_longer : (n : ℕ) (f : List ℕ) (P : List Slot) → n ≤ length f → Fits (take n f) 0 P → Fits f 0 P
fits_longer n f P b m =
    let l = fits_bound (take n f) 0 P m in
    fits_of f 0 P (omega (arith, l, length-take-le n f b))
    λ i c. rw zero-add (rw (zero-add, get_or-take n f i 0 (omega (arith, l, length-take-le n f b))) at (fits_at (take n f) 0 P m i c))

fits_shorter : (n : ℕ) (f : List ℕ) (P : List Slot) → n ≤ length f → length P ≤ n → Fits f 0 P → Fits (take n f) 0 P
fits_shorter n f P b k m =
    fits_of (take n f) 0 P (omega (arith, length-take-le n f b))
    λ i c. rw (zero-add, get_or-take n f i 0 (omega arith)) (rw zero-add at (fits_at f 0 P m i c))

bytes_take : (n : ℕ) (f : List ℕ) → n ≤ length f → Bytes f → Bytes (take n f)
bytes_take n f b u i = go (ltb i n) refl
  where
    go : (t : Bool) → ltb i n ≡ t → get_or (take n f) i 0 < 256
    go true e = rw (get_or-take n f i 0 (ltb-true i n e)) (u i)
    go false e = rw (get_or-eq_default (take n f) 0 {n = i} (rw (length-take-le n f b) (ltb-false i n e))) (omega arith)

-- an accepted beginning: its edition and order are the file's, and it stands in the file
record Beginning (f : List ℕ) (n : ℕ) : Type 0 where
  right : (file (edition_of f) (order_of f)).Right (contents (take n f))
  fits : Fits f 0 ((file (edition_of f) (order_of f)).slots (contents (take n f)))
  whole : (file (edition_of f) (order_of f)).size (contents (take n f)) ≡ n

beginning : (f : List ℕ) (n : ℕ) → Bytes (take n f) → n ≤ length f → verdict (take n f) ≡ 0 → Beginning f n
beginning f n u b h =
    let g = take n f in
    let s = sound g u h in
    let m = fits_longer n f ((file (edition_of g) (order_of g)).slots (contents g)) b s.fits in
    let k = marked (release_of g) (order_of g) f (head_of (contents g).0) (header_first (edition_of g) (order_of g) (done 13) f (contents g) m) in
    let z : (file (edition_of g) (order_of g)).size (contents g) ≡ n = sym ((read_good (release_of g) (order_of g)).sized (contents g)) ∙ s.whole ∙ length-take-le n f b in
    record {
      right = subst (λ (y : Order). (file (edition_of f) y).Right (contents g)) (sym k.order)
          (subst (λ (x : Release). (file (edition x) (order_of g)).Right (contents g)) (sym k.release) s.right);
      fits = subst (λ (y : Order). Fits f 0 ((file (edition_of f) y).slots (contents g))) (sym k.order)
          (subst (λ (x : Release). Fits f 0 ((file (edition x) (order_of g)).slots (contents g))) (sym k.release) m);
      whole = subst (λ (y : Order). (file (edition_of f) y).size (contents g) ≡ n) (sym k.order)
          (subst (λ (x : Release). (file (edition x) (order_of g)).size (contents g) ≡ n) (sym k.release) z);
    }

-- ---- tagged editions

-- what stands at the start of a tagged file is what is read from it
read_open : (e : Edition) (o : Order) (f : List ℕ) (w : Dataset × Extras) → e.number < 256 → e.tagged ≡ true → (file e o).Right w → Fits f 0 ((file e o).slots w)
    → (file e o).read f 0 ≡ w
unfolding file_to sections from_map from_types from_names from_sort_list from_formats from_set_names from_var_labels from_expansions from_data from_strls blocks
read_open e o f w z t r m =
    ((open_good e o z t).complete f 0 w r m (good_bound (file_to e o (idle 0 0)) (open_good e o z t) f 0 w m)).read_back

-- no proper beginning of an accepted tagged file is accepted
no_beginning : (f : List ℕ) (n : ℕ) → Bytes f → verdict f ≡ 0 → (edition_of f).tagged ≡ true → n < length f → verdict (take n f) ≡ 0 → ⊥
unfolding contents
no_beginning f n u h t b k =
    let s = sound f u h in
    let g = beginning f n (bytes_take n f (omega arith) u) (omega arith) k in
    let q = read_open (edition_of f) (order_of f) f (contents (take n f)) (number_small (release_of f)) t g.right g.fits in
    let z : (file (edition_of f) (order_of f)).size (contents f) ≡ n = ap (λ (w : Dataset × Extras). (file (edition_of f) (order_of f)).size w) q ∙ g.whole in
    omega (arith, s.whole, (read_good (release_of f) (order_of f)).sized (contents f))

-- ---- a list of sections of a file, and its beginnings

module _ {A : Type 0} (S : Sect A) (G : Good 0 ◌≤◌ S) (some : (a : A) → 0 < S.size a) where
  -- blocks that stand where the file's blocks stand end at one of their ends
  before : (l k : List A) (f : List ℕ) (p : ℕ) → AllRight S l → AllRight S k → Fits f p (all_slots S l)
      → Fits f p (all_slots S k) → p + sizes S l ≡ length f → member (p + sizes S k) (sums p (each_size S l)) ≡ true
  before [] [] f p r y m n z = rw (add-zero, eq-eqb p p refl)
  before (a ∷ l) [] f p r y m n z = rw (add-zero, eq-eqb p p refl)
  before [] (b ∷ k) f p r y m n z =
      absurd (omega (arith, good_bound S G f p b (fits_left f p (S.slots b) (all_slots S k) n), some b))
  before (a ∷ l) (b ∷ k) f p r y m n z =
      let ma = fits_left f p (S.slots a) (all_slots S l) m in
      let mb = fits_left f p (S.slots b) (all_slots S k) n in
      let same : b ≡ a = sym (G.complete f p b y.0 mb (good_bound S G f p b mb)).read_back ∙ (G.complete f p a r.0 ma (good_bound S G f p a ma)).read_back in
      let q : S.size b ≡ S.size a = ap (λ (x : A). S.size x) same in
      let n2 : Fits f (p + S.size a) (all_slots S k) =
      subst (λ (x : ℕ). Fits f (p + x) (all_slots S k)) q (good_right S G f p b (all_slots S k) n) in
      let i = before l k f (p + S.size a) r.1 y.1 (good_right S G f p a (all_slots S l) m) n2 (omega arith) in
      let e : p + S.size a + sizes S k ≡ p + (S.size b + sizes S k) = omega arith in
      or_right (eqb (p + (S.size b + sizes S k)) p) _
      (subst (λ (x : ℕ). member x (sums (p + S.size a) (each_size S l)) ≡ true) e i)

  -- the blocks before a cut
  at_cut : (l : List A) (f : List ℕ) (p n : ℕ) → AllRight S l → Fits f p (all_slots S l) → member n (sums p (each_size S l)) ≡ true
      → (k : List A) × (AllRight S k) × (Fits f p (all_slots S k)) × (p + sizes S k ≡ n)
  at_cut [] f p n r m h = go (or_cases (eqb n p) false h)
    where
      go : (eqb n p ≡ true) ⊎ (false ≡ true) → (k : List A) × (AllRight S k) × (Fits f p (all_slots S k)) × (p + sizes S k ≡ n)
      go (inl q) = ([], tt, m, add-zero p ∙ sym (eqb-true n p q))
      go (inr q) = absurd (true≢false (sym q))
  at_cut (a ∷ l) f p n r m h =
      go (or_cases (eqb n p) (member n (sums (p + S.size a) (each_size S l))) h)
      (at_cut l f (p + S.size a) n r.1 (good_right S G f p a (all_slots S l) m))
    where
      go : (eqb n p ≡ true) ⊎ (member n (sums (p + S.size a) (each_size S l)) ≡ true)
          → (member n (sums (p + S.size a) (each_size S l)) ≡ true
          → (k : List A) × (AllRight S k) × (Fits f (p + S.size a) (all_slots S k)) × (p + S.size a + sizes S k ≡ n))
          → (k : List A) × (AllRight S k) × (Fits f p (all_slots S k)) × (p + sizes S k ≡ n)
      go (inl q) ih = ([], tt, fits_start f p (all_slots S (a ∷ l)) m, add-zero p ∙ sym (eqb-true n p q))
      go (inr q) ih =
          let i = ih q in (
            a ∷ i.0,
            (r.0, i.1),
            good_append S G f p a (all_slots S i.0) (fits_left f p (S.slots a) (all_slots S l) m) i.2,
            sym (add_assoc p (S.size a) (sizes S i.0)) ∙ i.3,
          )

-- ---- untagged editions

-- what stands before the label blocks
abbrev Front : Type 0
Front =
    Head × (List ℕ × (List VarType × (List (List ℕ) × (List ℕ × (List (List ℕ) × (List (List ℕ) × (List (List ℕ) × (Extras × (List (List Cell) × List LongString)))))))))

-- the sections before the label blocks
unfoldable front : Edition → Order → Sect Front
front e o =
    seq (header e o) λ h.
    seq (file_map e.tagged o) λ m.
    seq (types e.tagged o h.0) λ t.
    seq (names e.tagged e.name_width h.0) λ n.
    seq (sort_list e.tagged o h.0) λ s.
    seq (formats e.tagged e.format_width h.0) λ f.
    seq (set_names e.tagged e.name_width h.0) λ v.
    seq (var_labels e.tagged e.var_label_width h.0) λ l.
    seq (expansions e.tagged o) λ x.
    seq (observations e.tagged o e.v_width e.o_width t h.1.0) λ d.
    strls e.tagged o e.record_width d

front_good : (e : Edition) (o : Order) → e.number < 256 → Good 0 ◌≤◌ (front e o)
unfolding front
front_good e o z =
    seq_good _ _ (header_good e o z) λ h.
    seq_good _ _ (map_good e.tagged o) λ m.
    seq_good _ _ (types_good e.tagged o h.0) λ t.
    seq_good _ _ (names_good e.tagged e.name_width h.0) λ n.
    seq_good _ _ (sort_good e.tagged o h.0) λ s.
    seq_good _ _ (fields_good e.tagged _ e.format_width h.0 refl) λ f.
    seq_good _ _ (fields_good e.tagged _ e.name_width h.0 refl) λ v.
    seq_good _ _ (fields_good e.tagged _ e.var_label_width h.0 refl) λ l.
    seq_good _ _ (expansions_good e.tagged o) λ x.
    seq_good _ _ (data_good o e.v_width e.o_width e.tagged t h.1.0) λ d.
    strls_good e.tagged o e.record_width d

-- what they say of a dataset and extras, if the map says m
abbrev front_by : List ℕ → Dataset × Extras → Front
front_by m w =
    let d = w.0 in
    (head_of d, (m, (d.var_types, (d.var_names, (d.sorted, (d.display_formats, (d.label_sets, (d.variable_labels, (w.1, (d.cells, d.long_strings))))))))))

abbrev front_of : Edition → Order → Dataset × Extras → Front
front_of e o w = front_by (map_of e o w) w

-- a file's slots are those of its front and its blocks
slots_split : (e : Edition) (o : Order) (w : Dataset × Extras)
    → (file e o).slots w ≡ (front e o).slots (front_of e o w) ++ (blocks e.tagged o e.name_width (done 13)).slots w.0.label_blocks
unfolding file_to sections from_map from_types from_names from_sort_list from_formats from_set_names from_var_labels from_expansions from_data from_strls front
slots_split e o w = sym (simp append_assoc)

-- the blocks of an untagged file are all that follows its front
blocks_alone : (t : Bool) (o : Order) (w : ℕ) (l : List LabelBlock) → t ≡ false → (blocks t o w (done 13)).slots l ≡ all_slots (block t o w) l
unfolding blocks tag
blocks_alone true o w l q = absurd (true≢false q)
blocks_alone false o w l q = append-nil (all_slots (block false o w) l)

-- where they start
front_size : (e : Edition) (o : Order) (w : Dataset × Extras) → (front e o).size (front_of e o w) ≡ place e o w 11
unfolding front file_map between tag part_sizes
front_size e o w = omega (arith, map_size_lem e o w)

front_right : (e : Edition) (o : Order) (w : Dataset × Extras) → (file e o).Right w
    → ((front e o).Right (front_of e o w)) × (AllRight (block e.tagged o e.name_width) w.0.label_blocks)
unfolding front blocks
front_right e o w r =
    let s = sections_of e o w.0 w.1 r in (
      (s.head, (s.map, (s.type_list, (s.name_list, (s.sort, (s.format_list, (s.set_list, (s.label_list, (s.extras, (s.rows, s.longs)))))))))),
      s.block_list.1.0,
    )

both_right : (e : Edition) (o : Order) (w : Dataset × Extras) → (front e o).Right (front_of e o w) → AllRight (block e.tagged o e.name_width) w.0.label_blocks → (file e o).Right w
unfolding front blocks tag
both_right e o w a b =
    let c = a.1.1 in
    let d = c.1.1.1.1.1.1 in
    of_sections e o w.0 w.1
    (record {
      head = a.0;
      map = a.1.0;
      type_list = c.0;
      name_list = c.1.0;
      sort = c.1.1.0;
      format_list = c.1.1.1.0;
      set_list = c.1.1.1.1.0;
      label_list = c.1.1.1.1.1.0;
      extras = d.0;
      rows = d.1.0;
      longs = d.1.1;
      block_list = (tt, (b, (tt, (tt, tt))));
    })

-- the dataset with other label blocks
abbrev with_blocks : Dataset × Extras → List LabelBlock → Dataset × Extras
with_blocks w l =
    let d = w.0 in (
      record {
        k = d.k;
        n = d.n;
        label = d.label;
        stamp = d.stamp;
        var_types = d.var_types;
        var_names = d.var_names;
        sorted = d.sorted;
        display_formats = d.display_formats;
        label_sets = d.label_sets;
        variable_labels = d.variable_labels;
        cells = d.cells;
        long_strings = d.long_strings;
        label_blocks = l;
      },
      w.1,
    )

no_map : (t : Bool) (x y : List ℕ) → t ≡ false → cond t x [] ≡ cond t y []
no_map true x y q = absurd (true≢false q)
no_map false x y q = refl

module _ (e : Edition) (o : Order) (z : e.number < 256) (q : e.tagged ≡ false) where
  -- in an untagged edition the front does not depend on the blocks
  same_front : (w : Dataset × Extras) (l : List LabelBlock) → front_of e o (with_blocks w l) ≡ front_of e o w
  same_front w l = ap (λ (m : List ℕ). front_by m w) (no_map e.tagged (positions e o (with_blocks w l)) (positions e o w) q)

  whole_slots : (w : Dataset × Extras) → (file e o).slots w ≡ (front e o).slots (front_of e o w) ++ all_slots (block e.tagged o e.name_width) w.0.label_blocks
  whole_slots w =
      slots_split e o w ∙ ap (λ (P : List Slot). (front e o).slots (front_of e o w) ++ P) (blocks_alone e.tagged o e.name_width w.0.label_blocks q)

  whole_length : (w : Dataset × Extras) → length ((file e o).slots w) ≡ (front e o).size (front_of e o w) + sizes (block e.tagged o e.name_width) w.0.label_blocks
  whole_length w =
      ap length (whole_slots w)
      ∙ length-append ((front e o).slots (front_of e o w)) (all_slots (block e.tagged o e.name_width) w.0.label_blocks)
      ∙ rw ((front_good e o z).sized (front_of e o w), all_sized (block e.tagged o e.name_width) (block_good e.tagged o e.name_width) w.0.label_blocks)

  -- a fitting file's front and blocks fit, and back
  parts_fit : (f : List ℕ) (w : Dataset × Extras) → Fits f 0 ((file e o).slots w)
      → (Fits f 0 ((front e o).slots (front_of e o w)))
      × (Fits f (0 + (front e o).size (front_of e o w)) (all_slots (block e.tagged o e.name_width) w.0.label_blocks))
  parts_fit f w m =
      let n = subst (λ (P : List Slot). Fits f 0 P) (whole_slots w) m in
      let B = all_slots (block e.tagged o e.name_width) w.0.label_blocks in
      (fits_left f 0 ((front e o).slots (front_of e o w)) B n, good_right (front e o) (front_good e o z) f 0 (front_of e o w) B n)

  parts_back : (f : List ℕ) (w : Dataset × Extras) → Fits f 0 ((front e o).slots (front_of e o w))
      → Fits f (0 + (front e o).size (front_of e o w)) (all_slots (block e.tagged o e.name_width) w.0.label_blocks) → Fits f 0 ((file e o).slots w)
  parts_back f w a b =
      subst (λ (P : List Slot). Fits f 0 P) (sym (whole_slots w))
      (good_append (front e o) (front_good e o z) f 0 (front_of e o w) (all_slots (block e.tagged o e.name_width) w.0.label_blocks) a b)

  -- two fitting files' fronts are the same
  one_front : (f : List ℕ) (w x : Dataset × Extras) → (file e o).Right w → (file e o).Right x → Fits f 0 ((file e o).slots w) → Fits f 0 ((file e o).slots x)
      → front_of e o x ≡ front_of e o w
  one_front f w x r s m n =
      let G = front_good e o z in
      let a = (parts_fit f w m).0 in
      let b = (parts_fit f x n).0 in
      sym (G.complete f 0 (front_of e o x) (front_right e o x s).0 b (good_bound (front e o) G f 0 (front_of e o x) b)).read_back
      ∙ (G.complete f 0 (front_of e o w) (front_right e o w r).0 a (good_bound (front e o) G f 0 (front_of e o w) a)).read_back

module _ (f : List ℕ) (u : Bytes f) (h : verdict f ≡ 0) (q : (edition_of f).tagged ≡ false) where
  cuts_are : cuts f
      ≡ sums (0 + (front (edition_of f) (order_of f)).size (front_of (edition_of f) (order_of f) (contents f)))
      (each_size (block (edition_of f).tagged (order_of f) (edition_of f).name_width) (dataset_of f).label_blocks)
  unfolding cuts
  cuts_are =
      let e = edition_of f in
      let o = order_of f in
      let y : get_or (layout_of f).places 11 0 ≡ 0 + (front e o).size (front_of e o (contents f)) =
      place_is f h 11 ∙ sym (front_size e o (contents f)) ∙ sym (zero-add ((front e o).size (front_of e o (contents f)))) in
      pick e.tagged _ _ q ∙ ap (λ (x : ℕ). sums x (each_size (block e.tagged o e.name_width) (dataset_of f).label_blocks)) y
    where
      pick : (t : Bool) (x y : List ℕ) → t ≡ false → cond t x y ≡ y
      pick true x y n = absurd (true≢false n)
      pick false x y n = refl

  -- an accepted beginning ends at a cut
  cut_ends : (n : ℕ) → n ≤ length f → verdict (take n f) ≡ 0 → member n (cuts f) ≡ true
  cut_ends n b k =
      let e = edition_of f in
      let o = order_of f in
      let z = number_small (release_of f) in
      let w = contents f in
      let x = contents (take n f) in
      let S = block e.tagged o e.name_width in
      let G = block_good e.tagged o e.name_width in
      let s = sound f u h in
      let g = beginning f n (bytes_take n f b u) b k in
      let p = 0 + (front e o).size (front_of e o w) in
      let y : (front e o).size (front_of e o x) ≡ (front e o).size (front_of e o w) = ap (λ (v : Front). (front e o).size v) (one_front e o z q f w x s.right g.right s.fits g.fits) in
      let bx : Fits f p (all_slots S x.0.label_blocks) = subst (λ (i : ℕ). Fits f (0 + i) (all_slots S x.0.label_blocks)) y (parts_fit e o z q f x g.fits).1 in
      let m = before S G (block_some e.tagged o e.name_width) w.0.label_blocks x.0.label_blocks f p (front_right e o w s.right).1 (front_right e o x g.right).1
      (parts_fit e o z q f w s.fits).1 bx (omega (arith, s.whole, whole_length e o z q w)) in
      let j : p + sizes S x.0.label_blocks ≡ n = omega (arith, whole_length e o z q x, (read_good (release_of f) o).sized x, g.whole) in
      subst (λ (c : List ℕ). member n c ≡ true) (sym cuts_are) (subst (λ (i : ℕ). member i (sums p (each_size S w.0.label_blocks)) ≡ true) j m)

  -- a beginning that ends at a cut is accepted
  cut_accepted : (n : ℕ) → n ≤ length f → member n (cuts f) ≡ true → verdict (take n f) ≡ 0
  cut_accepted n b k =
      let e = edition_of f in
      let o = order_of f in
      let z = number_small (release_of f) in
      let w = contents f in
      let S = block e.tagged o e.name_width in
      let s = sound f u h in
      let p = 0 + (front e o).size (front_of e o w) in
      let r = front_right e o w s.right in
      let m = parts_fit e o z q f w s.fits in
      let c = at_cut S (block_good e.tagged o e.name_width) (block_some e.tagged o e.name_width) w.0.label_blocks f p n r.1 m.1 (subst (λ (l : List ℕ). member n l ≡ true) cuts_are k) in
      let x = with_blocks w c.0 in
      let same = sym (same_front e o z q w c.0) in
      let a : (file e o).Right x = both_right e o x (subst (λ (v : Front). (front e o).Right v) same r.0) c.1 in
      let fits : Fits f 0 ((file e o).slots x) =
      parts_back e o z q f x (subst (λ (v : Front). Fits f 0 ((front e o).slots v)) same m.0) (subst (λ (v : Front). Fits f (0 + (front e o).size v) (all_slots S c.0)) same c.2) in
      let y : (front e o).size (front_of e o w) ≡ (front e o).size (front_of e o x) = ap (λ (v : Front). (front e o).size v) same in
      let l : length ((file e o).slots x) ≡ n = omega (arith, whole_length e o z q x, c.3) in
      (complete (release_of f) o (take n f) x (omega (arith, length-take-le n f b, s.short)) a (fits_shorter n f ((file e o).slots x) b (omega arith) fits) (l ∙ sym (length-take-le n f b))).accepted

module _ (f : List ℕ) (u : Bytes f) (h : verdict f ≡ 0) (q : (edition_of f).tagged ≡ true) where
  only_whole : cuts f ≡ length f ∷ []
  unfolding cuts
  only_whole = pick (edition_of f).tagged _ _ q
    where
      pick : (t : Bool) (x y : List ℕ) → t ≡ true → cond t x y ≡ x
      pick true x y n = refl
      pick false x y n = absurd (true≢false (sym n))

  whole_only : (n : ℕ) → n ≤ length f → Iff (verdict (take n f) ≡ 0) (member n (length f ∷ []) ≡ true)
  whole_only n b = record { to = λ k. to k (eqb n (length f)) refl; from = λ m. from (or_cases (eqb n (length f)) false m) }
    where
      to : verdict (take n f) ≡ 0 → (t : Bool) → eqb n (length f) ≡ t → member n (length f ∷ []) ≡ true
      to k true e = rw e
      to k false e = absurd (no_beginning f n u h q (omega (arith, eqb-false n (length f) e)) k)

      from : (eqb n (length f) ≡ true) ⊎ (false ≡ true) → verdict (take n f) ≡ 0
      from (inl e) = ap verdict (ap (λ (i : ℕ). take i f) (eqb-true n (length f) e) ∙ take-length f) ∙ h
      from (inr e) = absurd (true≢false (sym e))

-- a beginning of an accepted file is accepted exactly if it ends at a cut
pub cut_file : (f : List ℕ) → Bytes f → verdict f ≡ 0 → (n : ℕ) → n ≤ length f → Iff (verdict (take n f) ≡ 0) (member n (cuts f) ≡ true)
cut_file f u h n b = go (edition_of f).tagged refl
  where
    go : (t : Bool) → (edition_of f).tagged ≡ t → Iff (verdict (take n f) ≡ 0) (member n (cuts f) ≡ true)
    go true q = subst (λ (l : List ℕ). Iff (verdict (take n f) ≡ 0) (member n l ≡ true)) (sym (only_whole f u h q)) (whole_only f u h q n b)
    go false q = record { to = cut_ends f u h q n b; from = cut_accepted f u h q n b }
