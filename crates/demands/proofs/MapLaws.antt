-- The map and the places where the parts start: number 10.
use mathlib.Core.Path.{◌≡◌, refl, sym, ap, ◌∙◌}
use Prim.Native.Nat.{ℕ, zero, suc, ◌+◌, ◌*◌, ◌≤◌, ◌<◌}
use native.Mathlib.Nat.{add-zero, suc-mul, zero-mul}
use native.Mathlib.Omega.{arith}
use mathlib.Core.List.{List, [], ◌∷◌}
use mathlib.Core.Bool.{Bool, true, false, cond, ◌&&◌, true≢false}
use lib.ListN.{length, get_or, take}
use lib.Seq.{get_or-take}
use lib.Dec.{eqb, ltb}
use borrow.Author.Tests.{eqb-true, eqb-false, eq-eqb, ne_eqb, ltb-true, ltb-false}
use Rattle.format.specs.Number.{Order, num}
use Rattle.format.specs.Grammar.{next, number, read_times, sizes, between, tag, done}
use Rattle.format.specs.Edition.{Edition, map_count, opening, closing, n_map, n_value_labels, n_stata_dta}
use Rattle.format.specs.Variables.{file_map, types, names, sort_list, formats, set_names, var_labels}
use Rattle.format.specs.Data.{Cell, observations, strls}
use Rattle.format.specs.Labels.{LabelBlock, block, block_next, blocks}
use Rattle.format.specs.Dta.{Dataset, Extras, Parts, gather, part_sizes, positions, map_rule, same_list, from_strls, from_data, from_expansions, from_var_labels, from_set_names, from_formats, from_sort_list, from_names, from_types, from_map, sections, file_to, edition_of, order_of, verdict}
use Rattle.format.proofs.Good.{also_left, also_right, unless_true}
use Rattle.format.proofs.LabelLaws.{block_some}
use Rattle.format.proofs.StepLaws.{Met, places_met}
use Rattle.demands.specs.Logic.{Iff}
use Rattle.demands.specs.Places.{k_in, n_in, map_at, types_at, types_in, names_at, sort_at, formats_at, set_names_at, var_labels_at, expansions_at, data_at, cells_in, strls_at, blocks_at}
use Rattle.demands.specs.Reasons.{AllParts, end_at, past_end, positions_in, map_says, MapWrong}
use Rattle.demands.proofs.NumberLaws.{done_numbered, sections_starts, known_begins}
use Rattle.demands.proofs.PlaceLaws.{Own, own, but, second, all_right}
use Rattle.demands.proofs.PassedLaws.{passed_read, passed_sizes}
use Rattle.demands.proofs.PartLaws.{unless_false}
use Rattle.demands.proofs.VerdictLaws.{first_verdict, past_start}
use Rattle.demands.proofs.EndLaws.{block_inside, tail_of, blocks_read, of_parts, to_parts}

-- ---- two lists that differ

differ_of : (l m : List ℕ) → length l ≡ length m → same_list l m ≡ false → (i : ℕ) × (i < length l) × (get_or l i 0 ≡ get_or m i 0 → ⊥)
differ_of [] [] e h = absurd (true≢false h)
differ_of [] (y ∷ m) e h = absurd (omega arith)
differ_of (x ∷ l) [] e h = absurd (omega arith)
differ_of (x ∷ l) (y ∷ m) e h = go (eqb x y) refl (differ_of l m (omega arith))
  where
    go : (t : Bool) → eqb x y ≡ t → (same_list l m ≡ false → (i : ℕ) × (i < length l) × (get_or l i 0 ≡ get_or m i 0 → ⊥))
        → (i : ℕ) × (i < suc (length l)) × (get_or (x ∷ l) i 0 ≡ get_or (y ∷ m) i 0 → ⊥)
    go true q ih = let r = ih (rw q at h) in (suc r.0, omega (arith, r.1), r.2)
    go false q ih = (0, omega arith, eqb-false x y q)

of_differ : (l m : List ℕ) (i : ℕ) → (get_or l i 0 ≡ get_or m i 0 → ⊥) → same_list l m ≡ false
of_differ [] [] i n = absurd (n refl)
of_differ [] (y ∷ m) i n = refl
of_differ (x ∷ l) [] i n = refl
of_differ (x ∷ l) (y ∷ m) zero n = rw (ne_eqb x y n)
of_differ (x ∷ l) (y ∷ m) (suc i) n = go (eqb x y) (of_differ l m i n)
  where
    go : (t : Bool) → same_list l m ≡ false → (t && same_list l m) ≡ false
    go true h = h
    go false h = refl

-- the map of a tagged file, and none
rule_of : (t : Bool) (l m : List ℕ) → length l ≡ map_count t → length m ≡ 14 → same_list l (cond t m []) ≡ false
    → (i : ℕ) × (i < map_count t) × (get_or l i 0 ≡ get_or m i 0 → ⊥)
rule_of true l m a b h = let r = differ_of l m (a ∙ sym b) h in (r.0, omega (arith, r.1, a), r.2)
rule_of false [] m a b h = absurd (true≢false h)
rule_of false (x ∷ l) m a b h = absurd (omega arith)

of_rule : (t : Bool) (l m : List ℕ) (i : ℕ) → i < map_count t → (get_or l i 0 ≡ get_or m i 0 → ⊥) → same_list l (cond t m []) ≡ false
of_rule true l m i b n = of_differ l m i n
of_rule false l m i b n = absurd (omega arith)

-- ---- numbers one after another

pub numbers_long : (o : Order) (w n : ℕ) (f : List ℕ) (p : ℕ) → length (read_times (number o w) n f p) ≡ n
numbers_long o w zero f p = refl
numbers_long o w (suc n) f p = ap suc (numbers_long o w n f (p + w))

pub numbers_at : (o : Order) (w n : ℕ) (f : List ℕ) (p i : ℕ) → i < n → get_or (read_times (number o w) n f p) i 0 ≡ num o w f (p + i * w)
numbers_at o w zero f p i b = absurd (omega arith)
numbers_at o w (suc n) f p zero b = let q : p + 0 * w ≡ p = rw zero-mul (add-zero p) in rw q
numbers_at o w (suc n) f p (suc i) b =
    let q : p + suc i * w ≡ p + w + i * w = rw suc-mul (omega arith) in
    numbers_at o w n f (p + w) i (omega arith) ∙ ap (λ (x : ℕ). num o w f x) (sym q)

-- ---- the parts as the positions have them

module _ (e : Edition) (o : Order) (f : List ℕ) where
  abbrev said : Parts
  said = (sections e o (done 13)).read f 0

  k_said : said.0.0 ≡ k_in e o f
  unfolding sections k_in
  k_said = refl

  n_said : said.0.1.0 ≡ n_in e o f
  unfolding sections n_in
  n_said = refl

  map_said : said.1.0 ≡ (file_map e.tagged o).read f (map_at e o f)
  unfolding sections from_map map_at
  map_said = refl

  types_said : said.1.1.0 ≡ types_in e o f
  unfolding sections from_map from_types k_in map_at types_at types_in
  types_said = refl

  cells_said : said.1.1.1.1.1.1.1.1.1.0 ≡ cells_in e o f
  unfolding sections from_map from_types from_names from_sort_list from_formats from_set_names from_var_labels from_expansions from_data k_in n_in map_at types_at types_in names_at sort_at formats_at set_names_at var_labels_at expansions_at data_at cells_in
  cells_said = refl

  blocks_said : said.1.1.1.1.1.1.1.1.1.1.1 ≡ (blocks e.tagged o e.name_width (done 13)).read f (blocks_at e o f)
  unfolding sections from_map from_types from_names from_sort_list from_formats from_set_names from_var_labels from_expansions from_data from_strls k_in n_in map_at types_at types_in names_at sort_at formats_at set_names_at var_labels_at expansions_at data_at cells_in strls_at blocks_at
  blocks_said = refl

  met : Met e o f said (map_at e o f) (types_at e o f) (names_at e o f) (sort_at e o f) (formats_at e o f) (set_names_at e o f) (var_labels_at e o f) (expansions_at e o f) (data_at e o f)
      (strls_at e o f) (blocks_at e o f)
  unfolding map_at types_at names_at sort_at formats_at set_names_at var_labels_at expansions_at data_at strls_at blocks_at
  met =
      record {
        header_ends = refl;
        map_ends = refl;
        types_end = ap (λ (k : ℕ). next (types e.tagged o k) f (types_at e o f)) (sym k_said);
        names_end = ap (λ (k : ℕ). next (names e.tagged e.name_width k) f (names_at e o f)) (sym k_said);
        sort_ends = ap (λ (k : ℕ). next (sort_list e.tagged o k) f (sort_at e o f)) (sym k_said);
        formats_end = ap (λ (k : ℕ). next (formats e.tagged e.format_width k) f (formats_at e o f)) (sym k_said);
        sets_end = ap (λ (k : ℕ). next (set_names e.tagged e.name_width k) f (set_names_at e o f)) (sym k_said);
        labels_end = ap (λ (k : ℕ). next (var_labels e.tagged e.var_label_width k) f (var_labels_at e o f)) (sym k_said);
        expansions_end = refl;
        data_ends = λ i. next (observations e.tagged o e.v_width e.o_width (sym types_said i) (sym n_said i)) f (data_at e o f);
        strls_end = ap (λ (d : List (List Cell)). next (strls e.tagged o e.record_width d) f (strls_at e o f)) (sym cells_said);
      }

  -- the last two positions
  twelfth : (w : Dataset × Extras) → get_or (positions e o w) 12 0
      ≡ get_or (positions e o w) 11 0 + (length (opening e.tagged n_value_labels) + (sizes (block e.tagged o e.name_width) w.0.label_blocks + length (closing e.tagged n_value_labels)))
  unfolding part_sizes
  twelfth w = refl

  last : (w : Dataset × Extras) → get_or (positions e o w) 13 0 ≡ get_or (positions e o w) 12 0 + length (closing e.tagged n_stata_dta)
  unfolding part_sizes
  last w = refl

  fourteen : (w : Dataset × Extras) → length (positions e o w) ≡ 14
  unfolding part_sizes
  fourteen w = refl

  module _ (x : AllParts e o f) (z : past_end e o f x ≡ length f) where
    blocks_are : (gather said).0.label_blocks ≡ x.reached.label_blocks
    blocks_are =
        blocks_said ∙ walked
      where
        walked : (blocks e.tagged o e.name_width (done 13)).read f (blocks_at e o f) ≡ x.reached.label_blocks
        walked =
            blocks_read e.tagged o e.name_width (done 13) f (blocks_at e o f)
            ∙ ap (λ (v : List LabelBlock × (Unit {0} × (Unit {0} × Unit {0}))). v.0)
            (passed_read (block_next e.tagged) (block e.tagged o e.name_width) (tail_of e.tagged (done 13)) (block_inside e.tagged) (block_some e.tagged o e.name_width) f _
            x.reached.label_blocks x.at x.reached.passed x.last [])

    first_twelve : take 12 (positions e o (gather said)) ≡ take 12 (positions_in e o f x)
    first_twelve =
        places_met e o (done 13) f (map_at e o f) (types_at e o f) (names_at e o f) (sort_at e o f) (formats_at e o f) (set_names_at e o f) (var_labels_at e o f) (expansions_at e o f) (data_at e o f)
        (strls_at e o f) (blocks_at e o f) met

    below : (i : ℕ) → i < 12 → get_or (positions e o (gather said)) i 0 ≡ get_or (positions_in e o f x) i 0
    below i b =
        sym (get_or-take 12 (positions e o (gather said)) i 0 b) ∙ ap (λ (l : List ℕ). get_or l i 0) first_twelve ∙ get_or-take 12 (positions_in e o f x) i 0 b

    at_twelve : get_or (positions e o (gather said)) 12 0 ≡ end_at e o f x
    at_twelve =
        let s = passed_sizes (block_next e.tagged) (block e.tagged o e.name_width) (tail_of e.tagged (done 13)) (block_inside e.tagged) (block_some e.tagged o e.name_width) f _
        x.reached.label_blocks x.at x.reached.passed in
        twelfth (gather said) ∙ rw (below 11 (omega arith), blocks_are) (omega (arith, s))

    at_last : get_or (positions e o (gather said)) 13 0 ≡ length f
    at_last = last (gather said) ∙ rw at_twelve z

    -- all fourteen
    pub positions_are : (i : ℕ) → i < 14 → get_or (positions e o (gather said)) i 0 ≡ get_or (positions_in e o f x) i 0
    positions_are i b = go (ltb i 12) refl (eqb i 12) refl
      where
        go : (t : Bool) → ltb i 12 ≡ t → (u : Bool) → eqb i 12 ≡ u → get_or (positions e o (gather said)) i 0 ≡ get_or (positions_in e o f x) i 0
        go true q u r = below i (ltb-true i 12 q)
        go false q true r = rw (eqb-true i 12 r) at_twelve
        go false q false r =
            let y : i ≡ 13 = omega (arith, ltb-false i 12 q, eqb-false i 12 r) in
            rw y at_last

  count_most : (t : Bool) → map_count t ≤ 14
  count_most true = omega arith
  count_most false = omega arith

  map_read : (file_map e.tagged o).read f (map_at e o f) ≡ read_times (number o 8) (map_count e.tagged) f (map_at e o f + length (opening e.tagged n_map))
  unfolding file_map between tag
  map_read = refl

  -- the rule of the map is that each position is what it says
  module _ (x : AllParts e o f) (z : past_end e o f x ≡ length f) where
    says : (i : ℕ) → i < map_count e.tagged → get_or said.1.0 i 0 ≡ map_says e o f i
    says i b =
        ap (λ (l : List ℕ). get_or l i 0) (map_said ∙ map_read) ∙ numbers_at o 8 (map_count e.tagged) f (map_at e o f + length (opening e.tagged n_map)) i b

    wrong_of : map_rule e o said ≡ false → MapWrong e o f
    wrong_of h =
        let r = rule_of e.tagged said.1.0 (positions e o (gather said))
        (ap length (map_said ∙ map_read) ∙ numbers_long o 8 (map_count e.tagged) f (map_at e o f + length (opening e.tagged n_map))) (fourteen (gather said)) h in
        record {
          parts = x;
          whole = z;
          item = r.0;
          inside = r.1;
          wrong = λ q. r.2 (says r.0 r.1 ∙ q ∙ sym (positions_are x z r.0 (omega (arith, r.1, count_most e.tagged))));
        }

    of_wrong : (i : ℕ) → i < map_count e.tagged → (map_says e o f i ≡ get_or (positions_in e o f x) i 0 → ⊥) → map_rule e o said ≡ false
    of_wrong i b n =
        of_rule e.tagged said.1.0 (positions e o (gather said)) i b
        (λ q. n (sym (says i b) ∙ q ∙ positions_are x z i (omega (arith, b, count_most e.tagged))))

-- ---- 10

ten : Own 10
ten = own 10 (omega arith)

module _ (f : List ℕ) where
  abbrev eo : Edition
  eo = edition_of f

  abbrev oo : Order
  oo = order_of f

  to_wrong : verdict f ≡ 10 → MapWrong eo oo f
  unfolding file_to
  to_wrong h =
      let a = past_start f 10 (omega arith) h in
      let P = but 10 ten in
      let s = second ((sections eo oo (done 13)).judge f 0) _ 10
      (sections_starts P eo oo (done 13) (done_numbered P 13 refl) refl refl refl refl refl refl refl f (known_begins f a.0.1)) a.1 in
      let b = all_right eo oo (done 13) f a.0 s.0 in
      let x = to_parts eo oo f 0 (λ l p c q. (also_left ((tag l 4).judge f p) c q, also_right ((tag l 4).judge f p) c q)) (λ q y n. n refl) b.0 b.1 in
      wrong_of eo oo f x.0 (eqb-true (past_end eo oo f x.0) (length f) (unless_true (eqb (past_end eo oo f x.0) (length f)) 13 (omega arith) x.1))
      (unless_false (map_rule eo oo ((sections eo oo (done 13)).read f 0)) 10 refl s.1)

  from_wrong : MapWrong eo oo f → verdict f ≡ 10
  unfolding file_to
  from_wrong x =
      let b = x.parts.reached.before.0.0.0.0.0.0.0.0.0.0.0 in
      let s : (sections eo oo (done 13)).judge f 0 ≡ 0 = of_parts eo oo f x.parts ∙ rw (eq-eqb (past_end eo oo f x.parts) (length f) x.whole) in
      first_verdict f b.0 b.1 ∙ rw (s, of_wrong eo oo f x.parts x.whole x.item x.inside x.wrong)

pub map_wrong : (f : List ℕ) → Iff (verdict f ≡ 10) (MapWrong (edition_of f) (order_of f) f)
map_wrong f = (to_wrong f, from_wrong f)
