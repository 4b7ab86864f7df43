-- Label blocks of an accepted file.
use mathlib.Core.Path.{◌≡◌, refl, ap, ◌∙◌}
use Prim.Native.Nat.{ℕ, zero, suc, ◌+◌, ◌-◌, ◌≤◌, ◌<◌}
use native.Mathlib.Omega.{arith}
use mathlib.Core.List.{List, [], ◌∷◌, ◌++◌, map}
use mathlib.Core.Bool.{Bool, true, false, cond}
use lib.ListN.{length, replicate, length-map, length-append}
use lib.IntN.{ℤ}
use borrow.Author.Tests.{le-leb, lt-ltb, le-ltb}
use Rattle.format.specs.Slot.{byte, spare, Fits}
use Rattle.format.specs.Number.{Order, num_slots}
use Rattle.format.specs.Grammar.{Sect, text_slots, tag, done, all_slots, sizes, AllRight}
use Rattle.format.specs.Edition.{Edition, opening, closing, n_value_labels, n_stata_dta, n_lbl}
use Rattle.format.specs.Variables.{name}
use Rattle.format.specs.Labels.{Table, table, table_head, table_body, table_size, LabelBlock, block_head, block, blocks}
use Rattle.format.specs.Dta.{same_list}
use Rattle.format.proofs.SlotLaws.{fits_left, fits_right, fits_after, fits_bound}
use Rattle.format.proofs.Good.{text_read, text_length, good_bound, good_right}
use Rattle.format.proofs.LabelLaws.{block_good, numbers_wide}
use Rattle.questions.specs.Readings.{Try, got, number_in, text_in}
use Rattle.questions.specs.Ask.{Labels, unlabelled, head_size, blocks_in, labels_in}
use Rattle.questions.specs.Fact.{TableFact, no_table, table_fact, blocks_fact, labels_fact, label_fact}
use Rattle.questions.proofs.ReadLaws.{number_is, text_in_lem, text_room}
use Rattle.questions.proofs.TableLaws.{TableFacts, table_facts, table_at, table_sized}

table_size_lem : (o : Order) (w : ℕ) (t : Table) → (table o w).Right t → (table o w).size t ≡ table_size t
unfolding table table_head table_body
table_size_lem o w t r =
    omega (arith, numbers_wide o (length t.offsets) t.offsets r.1.1.0, numbers_wide o (length t.offsets) t.values r.1.1.1.0.0)

module _ (t : Bool) (o : Order) (w : ℕ) where
  -- what is read of a block that stands at p
  pub record BlockFacts (f : List ℕ) (p : ℕ) (b : LabelBlock) : Type 0 where
    pub read_size : number_in o 4 f (p + length (opening t n_lbl)) ≡ got (table_size b.entries)
    pub read_name : text_in w f (p + length (opening t n_lbl) + 4) ≡ got b.set_name
    pub the_table : TableFacts o f (p + length (opening t n_lbl) + head_size w) b.entries
    pub sized : p + (block t o w).size b ≡ p + length (opening t n_lbl) + head_size w + table_size b.entries + length (closing t n_lbl)

  pub block_facts : (f : List ℕ) (p : ℕ) (b : LabelBlock) → (block t o w).Right b → Fits f p ((block t o w).slots b) → BlockFacts f p b
  unfolding block block_head name tag
  block_facts f p b r m =
      let s = table_size b.entries in
      let q = p + length (opening t n_lbl) in
      let N = text_slots w b.set_name in
      let Z = replicate 3 (spare 0) in
      let H = num_slots o 4 s ++ (N ++ Z) in
      let T = (table o s).slots b.entries in
      let C = map byte (closing t n_lbl) in
      let a = fits_after f p (length (opening t n_lbl)) (map byte (opening t n_lbl)) (H ++ (T ++ C)) (length-map (opening t n_lbl) byte) m in
      let h = fits_left f q H (T ++ C) a in
      let n = fits_left f (q + 4) N Z (fits_right f q (num_slots o 4 s) (N ++ Z) h) in
      let z : length H ≡ head_size w = omega (arith, length-append (num_slots o 4 s) (N ++ Z), length-append N Z, text_length w b.set_name) in
      let c = fits_left f (q + head_size w) T C (fits_after f q (head_size w) H (T ++ C) z a) in
      let k = r.1.0.1.0.0 in
      record {
        read_size = number_is o 4 s f q r.1.0.0 (fits_left f q (num_slots o 4 s) (N ++ Z) h);
        read_name = text_in_lem w f (q + 4) (text_room w b.set_name f (q + 4) n) ∙ ap (λ (x : List ℕ). got x) (text_read w b.set_name f (q + 4) (omega (arith, k.0)) k.1 n);
        the_table = table_facts o s f (q + head_size w) b.entries r.1.1.0 c;
        sized = omega (arith, table_size_lem o s b.entries r.1.1.0);
      }

module _ (e : Edition) (o : Order) where
  abbrev one : Sect LabelBlock
  one = block e.tagged o e.name_width

  abbrev head : ℕ
  head = head_size e.name_width

  -- a table stands in the file
  abbrev There : List ℕ → TableFact → Type 0
  There f no_table = Unit {0}
  There f (table_fact p t) = TableFacts o f p t

  there_if : (f : List ℕ) (b : Bool) (x y : TableFact) → There f x → There f y → There f (cond b x y)
  there_if f true x y a b = a
  there_if f false x y a b = b

  labels_if : (b : Bool) (x y : TableFact) (n : Try Labels) → n ≡ got (labels_fact y) → cond b (got (labels_fact x)) n ≡ got (labels_fact (cond b x y))
  labels_if true x y n h = refl
  labels_if false x y n h = h

  -- the dataset's table is what is found in the file, and stands there
  pub record FoundAt (f : List ℕ) (r : Try Labels) (t : TableFact) : Type 0 where
    pub is : r ≡ got (labels_fact t)
    pub there : There f t

  -- .. where a test decides, r being what is found by it
  pub found_if : (f : List ℕ) (b : Bool) (r n : Try Labels) (t : TableFact) → r ≡ cond b n (got unlabelled) → FoundAt f n t → FoundAt f r (cond b t no_table)
  found_if f true r n t h k = record { is = h ∙ k.is; there = k.there }
  found_if f false r n t h k = record { is = h; there = tt }

  -- the words in a table that stands there
  pub words_at : (f : List ℕ) (t : TableFact) → There f t → (lent : List ℕ) (q : ℤ) → labels_in o f lent q (labels_fact t) ≡ label_fact lent q t
  words_at f no_table h lent q = refl
  words_at f (table_fact p t) h lent q = table_at o f p t h lent q

  -- the walk over the blocks is the search in the dataset's list
  module _ (f : List ℕ) (s : List ℕ) (z : ℕ) where
    blocks_at : (l : List LabelBlock) (k p : ℕ) → length f < p + k → p ≤ length f → z ≡ p + sizes one l → AllRight one l → Fits f p (all_slots one l)
        → FoundAt f (blocks_in e.tagged e.name_width o f s z k p) (blocks_fact e s l p)
    blocks_at [] zero p b u y r m = absurd (omega arith)
    blocks_at [] (suc k) p b u y r m = record { is = rw (le-ltb p z (omega arith)); there = tt }
    blocks_at (a ∷ l) zero p b u y r m = absurd (omega arith)
    blocks_at (a ∷ l) (suc k) p b u y r m =
        let w = table_size a.entries in
        let g = p + length (opening e.tagged n_lbl) in
        let c = length (closing e.tagged n_lbl) in
        let h = fits_left f p (one.slots a) (all_slots one l) m in
        let B = block_facts e.tagged o e.name_width f p a r.0 h in
        let x = B.sized in
        let d = good_bound one (block_good e.tagged o e.name_width) f p a h in
        let i = blocks_at l k (g + head + w + c) (omega arith) (omega arith) (omega (arith, x, y)) r.1
        (rw x at (good_right one (block_good e.tagged o e.name_width) f p a (all_slots one l) m)) in
        let T = table_fact (g + head) a.entries in
        let R = blocks_fact e s l (g + head + w + c) in
        record {
          is = rw (lt-ltb p z (omega (arith, x, y)), le-leb (g + head) z (omega (arith, x, y)), B.read_size, le-leb (g + head + w + c) z (omega (arith, x, y)), B.read_name, table_sized o f (g + head) a.entries B.the_table)
              (labels_if (same_list a.set_name s) T R _ i.is);
          there = there_if f (same_list a.set_name s) T R B.the_table i.there;
        }

  -- the blocks of a part that stands at p
  pub blocks_fit : (f : List ℕ) (p : ℕ) (l : List LabelBlock) → Fits f p ((blocks e.tagged o e.name_width (done 13)).slots l)
      → Fits f (p + length (opening e.tagged n_value_labels)) (all_slots one l)
  unfolding blocks tag
  blocks_fit f p l m =
      let A = map byte (opening e.tagged n_value_labels) in
      let E = map byte (closing e.tagged n_value_labels) ++ (map byte (closing e.tagged n_stata_dta) ++ []) in
      let g = p + length (opening e.tagged n_value_labels) in
      fits_left f g (all_slots one l) E (fits_after f p (length (opening e.tagged n_value_labels)) A (all_slots one l ++ E) (length-map (opening e.tagged n_value_labels) byte) m)

  pub blocks_right : (l : List LabelBlock) → (blocks e.tagged o e.name_width (done 13)).Right l → AllRight one l
  unfolding blocks tag
  blocks_right l r = r.1.0

  pub own_blocks : (f : List ℕ) (p : ℕ) (l : List LabelBlock) (s : List ℕ) → (blocks e.tagged o e.name_width (done 13)).Right l
      → Fits f p ((blocks e.tagged o e.name_width (done 13)).slots l)
      → let c = length (closing e.tagged n_value_labels) in
      let g = length (opening e.tagged n_value_labels) in
      FoundAt f (blocks_in e.tagged e.name_width o f s (p + (g + (sizes one l + c)) - c) (suc (length f)) (p + g)) (blocks_fact e s l (p + g))
  own_blocks f p l s r m =
      let b = blocks_fit f p l m in
      let g = p + length (opening e.tagged n_value_labels) in
      let c = fits_bound f g (all_slots one l) b in
      blocks_at f s _ l (suc (length f)) g (omega arith) (omega arith) (omega arith) (blocks_right l r) b
