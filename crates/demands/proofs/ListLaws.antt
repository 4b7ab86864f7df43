-- The lists of long strings, of label sets and of the sort order: their numbers, and what these name, in an accepted file and in one that differs
-- from it in dead bytes only.
use mathlib.Core.Path.{◌≡◌, refl, sym, ap, ◌∙◌, subst}
use Prim.Native.Nat.{ℕ, zero, suc, ◌+◌, ◌*◌, ◌≤◌, ◌<◌}
use native.Mathlib.Nat.{zero-add}
use native.Mathlib.Omega.{arith}
use mathlib.Core.List.{List, [], ◌∷◌, ◌++◌, map, append_assoc}
use mathlib.Core.Bool.{Bool, true, false, cond}
use lib.ListN.{length, get_or, drop}
use lib.Dec.{eqb, leb}
use borrow.Author.Tests.{eq-eqb, ne_eqb, leb-true, leb-false, le-leb, lt-leb}
use Rattle.format.specs.Slot.{Fits, Bytes}
use Rattle.format.specs.Number.{Order}
use Rattle.format.specs.Grammar.{Sect, all_slots, AllRight, also, unless}
use Rattle.format.specs.Edition.{Edition, edition, opening, n_lbl, n_strls, n_value_labels}
use Rattle.format.specs.Data.{LongString, long_record}
use Rattle.format.specs.Labels.{Table, table_size, LabelBlock, block}
use Rattle.format.specs.Dta.{file, verdict, release_of, edition_of, order_of, contents, dataset_of, dead_in}
use Rattle.format.specs.Dead.{content_at}
use Rattle.format.proofs.SlotLaws.{fits_left, fits_live}
use Rattle.format.proofs.Good.{good_right}
use Rattle.format.proofs.DataLaws.{record_good}
use Rattle.format.proofs.LabelLaws.{block_good}
use Rattle.format.proofs.FileLaws.{number_small, Accepted, sound, same_but_dead, same_layout}
use Rattle.format.proofs.PartLaws.{place, place_is, SectionsFit, sections_fit}
use Rattle.questions.specs.Ask.{slice, record_head}
use Rattle.questions.specs.Fact.{label_at}
use Rattle.questions.proofs.ReadLaws.{text_part_lem}
use Rattle.questions.proofs.LongLaws.{longs_right, longs_fit}
use Rattle.questions.proofs.WordLaws.{blocks_right, blocks_fit}
use Rattle.questions.proofs.TableLaws.{table_facts, labelled}
use Rattle.write_strls.proofs.RecordLaws.{record_size_lem, record_facts}
use Rattle.write_labels.proofs.BlockLaws.{block_read}
use Rattle.sources.proofs.SourceLaws.{right}
use Rattle.std.specs.Prelude.{Result}
use Rattle.long_list.specs.declared.Untold.{Untold}
use Rattle.long_list.specs.Lists.{list_code, told_code, told_count, Lists}
use Rattle.demands.proofs.RefusalLaws.{same_told}
use Rattle.long_list.specs.Longs.{longs_from, longs_of}
use Rattle.set_list.specs.Sets.{entries_to, entry_numbers, sets_from, sets_of, name_place, table_place}
use Rattle.sort_order.specs.Sorted.{sorted_of}
use Rattle.demands.specs.Demands.{longs_shown, threes_shown, sets_shown, labels_to, block_texts, ListGiven, ListsGiven, SameNumbers, SameList}
use Rattle.demands.proofs.VerdictLaws.{verdict_number}
use Rattle.demands.proofs.RewriteLaws.{code_by, code_judged, code_14, code_0}

-- ---- the answer: the number of a list is that of a rewrite whose target holds the dataset

list_number : (v : ℕ) (t : Bool) → v ≤ 13 → code_by v true t ≤ 14
list_number zero true b = omega arith
list_number zero false b = omega arith
list_number (suc v) t b = omega arith

module _ (f t d w : List ℕ) (r : Result ℕ Untold) (L : Lists f t d w r) where
  -- there is room
  abbrev fits : Bool
  fits = leb (length t) (length d)

  code_with : (v : ℕ) (b : Bool) → verdict f ≡ v → fits ≡ b → told_code r ≡ code_by v true b
  code_with v b p q = L.code ∙ (λ i. code_by (p i) true (q i))

  pub list_given : ListGiven f t d w r
  list_given =
      let v = verdict_number f in
      let c : told_code r ≡ code_by (verdict f) true fits = L.code in
      record {
        number = rw c (list_number (verdict f) fits v);
        judged = λ n. c ∙ code_judged (verdict f) true fits n;
        no_room = (
          λ q. (let x = code_14 (verdict f) true fits v (sym c ∙ q) in (x.0, omega (arith, leb-false (length t) (length d) x.2))),
          λ x. code_with 0 false x.0 (lt-leb (length t) (length d) (omega (arith, x.1))),
        );
        room = (
          λ q. (let x = code_0 (verdict f) true fits (sym c ∙ q) in (x.0, leb-true (length t) (length d) x.2)),
          λ x. code_with 0 true x.0 (le-leb (length t) (length d) x.1),
        );
        untouched = λ n. L.out ∙ rw (ne_eqb (list_code f t (length d)) 0 (λ q. n (L.code ∙ q)));
        done = λ q. L.out ∙ rw (eq-eqb (list_code f t (length d)) 0 (sym L.code ∙ q));
        count = λ z. L.count ∙ rw (eq-eqb (verdict f) 0 z);
        no_count = λ n. L.count ∙ rw (ne_eqb (verdict f) 0 n);
      }

-- ---- the same for files of one verdict and one list

module _ {f g t u : List ℕ} (v : verdict g ≡ verdict f) (e : u ≡ t) where
  same_lists : (d x w : List ℕ) (a b : Result ℕ Untold) → Lists f t d x a → Lists g u d w b → (b ≡ a) × (w ≡ x)
  same_lists d x w a b A B =
      let some : list_code g u (length d) ≡ 14 → 0 < told_count b = λ q.
      (let n = code_14 (verdict g) true (leb (length u) (length d)) (verdict_number g) q in
      let k : told_count b ≡ length u = B.count ∙ rw (eq-eqb (verdict g) 0 n.0) in
      omega (arith, leb-false (length u) (length d) n.2, k)) in
      let by : list_code g u (length d) ≡ list_code f t (length d) = λ i. also (v i) (unless (leb (length (e i)) (length d)) 14) in
      let code = B.code ∙ by ∙ sym A.code in
      let count = B.count ∙ (λ i. cond (eqb (v i) 0) (length (e i)) 0) ∙ sym A.count in (
        same_told b a code count (λ q. some (sym B.code ∙ q)),
        B.out ∙ (λ i. cond (eqb (by i) 0) (e i ++ drop (length (e i)) d) d) ∙ sym A.out,
      )

-- ---- long strings that stand one after another

module _ (t : Bool) (o : Order) (w : ℕ) (g : List ℕ) where
  abbrev one : Sect LongString
  one = long_record t o w

  records_shown : (p : ℕ) (l : List LongString) → AllRight one l → Fits g p (all_slots one l) → longs_shown g (longs_from w p l) ≡ map (λ (r : LongString). r.contents) l
  records_shown p [] r m = refl
  records_shown p (a ∷ l) r m =
      let F = record_facts o w g p t a r.0 (fits_left g p (one.slots a) (all_slots one l) m) in
      let x : p + record_head w ≡ p + (12 + w) = omega arith in
      let y : p + one.size a ≡ p + record_head w + length a.contents = omega (arith, record_size_lem t o w a) in
      let n = good_right one (record_good t o w) g p a (all_slots one l) m in
      let h = ap (λ (z : ℕ). slice g z (length a.contents)) x ∙ F.bytes in
      let k = records_shown (p + record_head w + length a.contents) l r.1 (subst (λ (z : ℕ). Fits g z (all_slots one l)) y n) in
      λ i. h i ∷ k i

-- ---- label blocks that stand one after another

module _ (t : Bool) (o : Order) (w : ℕ) (g : List ℕ) where
  abbrev set : Sect LabelBlock
  set = block t o w

  -- the first n entries of a table whose text stands at q, with k to come after them
  entries_shown : (u : Table) (q n k : ℕ) (l : List ℕ) → ((m : ℕ) → m < n → slice g (q + get_or u.offsets m 0) (length (label_at u m)) ≡ label_at u m)
      → threes_shown g (n + k) (entries_to u q n ++ l) ≡ labels_to u n ++ threes_shown g k l
  entries_shown u q zero k l h = ap (λ (z : ℕ). threes_shown g z l) (zero-add k)
  entries_shown u q (suc n) k l h =
      let e : suc n + k ≡ n + suc k = omega arith in
      let one = entry_numbers u q n in
      ap (λ (z : ℕ). threes_shown g z ((entries_to u q n ++ one) ++ l)) e
      ∙ ap (threes_shown g (n + suc k)) (append_assoc (entries_to u q n) one l)
      ∙ entries_shown u q n (suc k) (one ++ l) (λ m b. h m (omega arith))
      ∙ ap (λ (x : List ℕ). labels_to u n ++ (x ∷ threes_shown g k l)) (h n (omega arith))
      ∙ sym (append_assoc (labels_to u n) (label_at u n ∷ []) (threes_shown g k l))

  blocks_shown : (p : ℕ) (l : List LabelBlock) → AllRight set l → Fits g p (all_slots set l) → sets_shown g (sets_from t o w p l) ≡ block_texts l
  blocks_shown p [] r m = refl
  blocks_shown p (b ∷ l) r m =
      let R = block_read t o w g p b (record { right = r.0; fits = fits_left g p (set.slots b) (all_slots set l) m }) (length (opening t n_lbl)) refl in
      let u = b.entries in
      let n = length u.offsets in
      let T = R.tabled n (length u.texts) refl refl in
      let q = table_place t w p in
      let F = table_facts o (table_size u) g q u T.right T.fits in
      let rest = sets_from t o w (p + set.size b) l in
      let name : slice g (name_place t p) (length b.set_name) ≡ b.set_name = rw R.called at (text_part_lem w g (name_place t p) (omega (arith, R.inside))) in
      let z : n ≡ n + 0 = omega arith in
      let labels = ap (λ (x : ℕ). threes_shown g x (entries_to u (q + 8 + n * 4 + n * 4) n ++ rest)) z
      ∙ entries_shown u (q + 8 + n * 4 + n * 4) n 0 rest (λ m c. (labelled o g q u F m c).bytes) in
      let k = blocks_shown (p + set.size b) l r.1 (good_right set (block_good t o w) g p b (all_slots set l) m) in
      λ i. name i ∷ (labels ∙ ap (λ (x : List (List ℕ)). labels_to u n ++ x) k) i

-- ---- an accepted file f, and any file g that fits what f says

module _ (f : List ℕ) (u : Bytes f) (h : verdict f ≡ 0) (g : List ℕ) (m : Fits g 0 ((file (edition_of f) (order_of f)).slots (contents f))) where
  abbrev e : Edition
  e = edition_of f

  abbrev o : Order
  o = order_of f

  fit : SectionsFit e o (dataset_of f) (contents f).1 g
  fit = sections_fit e o (dataset_of f) (contents f).1 g (number_small (release_of f)) m

  -- what stands at a part's content
  at_content : (j : ℕ) (n : List ℕ) (P : ℕ → Type 0) → P (place e o (contents f) j + length (opening e.tagged n)) → P (content_at f j n)
  at_content j n P = subst P (ap (λ (x : ℕ). x + length (opening e.tagged n)) (sym (place_is f h j)))

  longs_shown_lem : longs_shown g (longs_of f) ≡ map (λ (r : LongString). r.contents) (dataset_of f).long_strings
  unfolding longs_of
  longs_shown_lem =
      let l = (dataset_of f).long_strings in
      records_shown e.tagged o e.record_width g (content_at f 10 n_strls) l (longs_right e o (dataset_of f).cells l (right f u h).longs)
      (at_content 10 n_strls (λ p. Fits g p (all_slots (long_record e.tagged o e.record_width) l)) (longs_fit e o (dataset_of f).cells g (place e o (contents f) 10) l fit.longs))

  sets_shown_lem : sets_shown g (sets_of f) ≡ block_texts (dataset_of f).label_blocks
  unfolding sets_of
  sets_shown_lem =
      let l = (dataset_of f).label_blocks in
      blocks_shown e.tagged o e.name_width g (content_at f 11 n_value_labels) l (blocks_right e o l (right f u h).block_list)
      (at_content 11 n_value_labels (λ p. Fits g p (all_slots (block e.tagged o e.name_width) l)) (blocks_fit e o g (place e o (contents f) 11) l fit.block_list))

-- ---- the lists of an accepted file

module _ (f : List ℕ) (u : Bytes f) (h : verdict f ≡ 0) where
  pub lists_given : ListsGiven f
  lists_given = let m = (sound f u h).fits in record { longs = longs_shown_lem f u h f m; sets = sets_shown_lem f u h f m }

  -- of a file g that agrees with f but for dead bytes
  module _ (g : List ℕ) (l : length g ≡ length f) (e : (i : ℕ) → i < length f → dead_in f i ≡ false → get_or g i 0 ≡ get_or f i 0) where
    fits_too : Fits g 0 ((file (edition_of f) (order_of f)).slots (contents f))
    unfolding dead_in
    fits_too = fits_live f g ((file (edition_of f) (order_of f)).slots (contents f)) (sound f u h).fits l e

    alike : Accepted (release_of f) (order_of f) g (contents f)
    alike = same_but_dead f g u h l e

    same_content : (j : ℕ) (n : List ℕ) → content_at g j n ≡ content_at f j n
    same_content j n = λ i. get_or (same_layout f g u h l e i).places j 0 + length (opening (edition (alike.release i)).tagged n)

    same_longs : longs_of g ≡ longs_of f
    unfolding longs_of
    same_longs = λ i. longs_from (edition (alike.release i)).record_width (same_content 10 n_strls i) (alike.says i).0.long_strings

    same_sets : sets_of g ≡ sets_of f
    unfolding sets_of
    same_sets =
        λ i. sets_from (edition (alike.release i)).tagged (alike.order i) (edition (alike.release i)).name_width (same_content 11 n_value_labels i)
        (alike.says i).0.label_blocks

    same_sorted : sorted_of g ≡ sorted_of f
    unfolding sorted_of
    same_sorted = λ i. (alike.says i).0.sorted

    same_numbers : (told : List ℕ → List ℕ) → told g ≡ told f → SameNumbers f g told
    same_numbers told t = same_lists (alike.accepted ∙ sym h) t

    same_list_lem : (told : List ℕ → List ℕ) (names : List ℕ → List ℕ → List (List ℕ)) → told g ≡ told f → names g (told f) ≡ names f (told f) → SameList f g told names
    same_list_lem told names t n = record { answer = same_numbers told t; bytes = ap (names g) t ∙ n }

    pub same_long_list : SameList f g longs_of longs_shown
    same_long_list = same_list_lem longs_of longs_shown same_longs (longs_shown_lem f u h g fits_too ∙ sym lists_given.longs)

    pub same_set_list : SameList f g sets_of sets_shown
    same_set_list = same_list_lem sets_of sets_shown same_sets (sets_shown_lem f u h g fits_too ∙ sym lists_given.sets)

    pub same_sort_order : SameNumbers f g sorted_of
    same_sort_order = same_numbers sorted_of same_sorted
