-- The fourteen positions of a file are the places that a walk over its sections met.
use mathlib.Core.Path.{◌≡◌, sym, ap, ◌∙◌}
use Prim.Native.Nat.{ℕ, ◌+◌}
use native.Mathlib.Omega.{arith}
use mathlib.Core.List.{List, [], ◌∷◌, ◌++◌}
use lib.ListN.{length, get_or, drop, take-append-drop}
use lib.Seq.{get_or-take}
use Rattle.format.specs.Number.{Order}
use Rattle.format.specs.Grammar.{next, done, sizes, tag}
use Rattle.format.specs.Edition.{Edition, opening, closing, n_value_labels, n_stata_dta}
use Rattle.format.specs.Labels.{LabelBlock, block, blocks}
use Rattle.format.specs.Dta.{Dataset, Extras, Parts, gather, part_sizes, positions, from_strls, from_data, from_expansions, from_var_labels, from_set_names, from_formats, from_sort_list, from_names, from_types, from_map, sections}
use Rattle.format.proofs.StepLaws.{Met, places_met}

-- the last two positions, from the one before them
last_two : (e : Edition) (o : Order) (w : Dataset × Extras) (p : ℕ) → get_or (positions e o w) 11 0 ≡ p
    → drop 12 (positions e o w)
    ≡ (p + (length (opening e.tagged n_value_labels) + (sizes (block e.tagged o e.name_width) w.0.label_blocks + length (closing e.tagged n_value_labels))))
    ∷ (p + (length (opening e.tagged n_value_labels) + (sizes (block e.tagged o e.name_width) w.0.label_blocks + length (closing e.tagged n_value_labels))) + length (closing e.tagged n_stata_dta))
    ∷ []
unfolding part_sizes
last_two e o w p h = rw (sym h)

-- where the label blocks end
pub blocks_next : (e : Edition) (o : Order) (f : List ℕ) (p : ℕ)
    → next (blocks e.tagged o e.name_width (done 13)) f p
    ≡ p + (length (opening e.tagged n_value_labels) + (sizes (block e.tagged o e.name_width) ((blocks e.tagged o e.name_width (done 13)).read f p) + length (closing e.tagged n_value_labels)))
    + length (closing e.tagged n_stata_dta)
unfolding blocks tag
blocks_next e o f p = omega arith

module _ (e : Edition) (o : Order) (f : List ℕ) where
  abbrev said : Parts
  said = (sections e o (done 13)).read f 0

  module _ (p1 p2 p3 p4 p5 p6 p7 p8 p9 p10 p11 : ℕ) (m : Met e o f said p1 p2 p3 p4 p5 p6 p7 p8 p9 p10 p11) where
    -- what the label blocks say
    blocks_said : (gather said).0.label_blocks ≡ (blocks e.tagged o e.name_width (done 13)).read f p11
    unfolding sections from_map from_types from_names from_sort_list from_formats from_set_names from_var_labels from_expansions from_data from_strls
    blocks_said = rw (m.strls_end, m.data_ends, m.expansions_end, m.labels_end, m.sets_end, m.formats_end, m.sort_ends, m.names_end, m.types_end, m.map_ends, m.header_ends)

    twelfth : get_or (positions e o (gather said)) 11 0 ≡ p11
    twelfth =
        sym (get_or-take 12 (positions e o (gather said)) 11 0 (omega arith))
        ∙ ap (λ (l : List ℕ). get_or l 11 0) (places_met e o (done 13) f p1 p2 p3 p4 p5 p6 p7 p8 p9 p10 p11 m)

    -- with q where </stata_dta> starts and n the file's length
    pub places_all : (q n : ℕ) → next (blocks e.tagged o e.name_width (done 13)) f p11 ≡ n → q + length (closing e.tagged n_stata_dta) ≡ n
        → 0 ∷ p1 ∷ p2 ∷ p3 ∷ p4 ∷ p5 ∷ p6 ∷ p7 ∷ p8 ∷ p9 ∷ p10 ∷ p11 ∷ q ∷ n ∷ [] ≡ positions e o (gather said)
    places_all q n h g =
        let l = positions e o (gather said) in
        let a = length (opening e.tagged n_value_labels) in
        let b = length (closing e.tagged n_value_labels) in
        let c = length (closing e.tagged n_stata_dta) in
        let s = sizes (block e.tagged o e.name_width) ((blocks e.tagged o e.name_width (done 13)).read f p11) in
        let y : p11 + (a + (s + b)) + c ≡ n = sym (blocks_next e o f p11) ∙ h in
        let z : q ≡ p11 + (a + (s + b)) = omega arith in
        let d : drop 12 l ≡ (p11 + (a + (s + b))) ∷ (p11 + (a + (s + b)) + c) ∷ [] =
        last_two e o (gather said) p11 twelfth ∙ ap (λ (x : List LabelBlock). ending a b c (sizes (block e.tagged o e.name_width) x)) blocks_said in
        sym
        (sym (take-append-drop 12 l)
        ∙ ap (λ (x : List ℕ). x ++ drop 12 l) (places_met e o (done 13) f p1 p2 p3 p4 p5 p6 p7 p8 p9 p10 p11 m)
        ∙ ap (λ (x : List ℕ). 0 ∷ p1 ∷ p2 ∷ p3 ∷ p4 ∷ p5 ∷ p6 ∷ p7 ∷ p8 ∷ p9 ∷ p10 ∷ p11 ∷ x) (d ∙ λ i. sym z i ∷ y i ∷ []))
      where
        ending : ℕ → ℕ → ℕ → ℕ → List ℕ
        ending a b c s = (p11 + (a + (s + b))) ∷ (p11 + (a + (s + b)) + c) ∷ []
