-- Text fields and names: number 7.
use mathlib.Core.Path.{◌≡◌, refl, sym, ap, ◌∙◌}
use Prim.Native.Nat.{ℕ, zero, suc, ◌+◌, ◌*◌, ◌≤◌, ◌<◌}
use native.Mathlib.Nat.{add-zero}
use native.Mathlib.Omega.{arith}
use mathlib.Core.List.{List, [], ◌∷◌}
use mathlib.Core.Logic.{◌⊎◌, inl, inr}
use mathlib.Core.Bool.{Bool, true, false, cond}
use lib.ListN.{length, get_or}
use lib.Dec.{eqb, ltb}
use borrow.Author.Tests.{eqb-true, eqb-false, eq-eqb, ne_eqb, ltb-false, le-ltb}
use Rattle.format.specs.Number.{Order, num}
use Rattle.format.specs.Grammar.{Sect, also, unless, need, next, text, text_at, times, within, between, tag, done, same_at}
use Rattle.format.specs.Edition.{Edition, start, opening, closing, n_varnames, n_formats, n_value_label_names, n_variable_labels, n_lbl}
use Rattle.format.specs.Variables.{name, names, fields, formats, set_names, var_labels}
use Rattle.format.specs.Labels.{table, block, block_next, blocks}
use Rattle.format.specs.Dta.{from_expansions, from_var_labels, from_set_names, from_formats, from_sort_list, from_names, sections, edition_of, order_of, verdict}
use Rattle.format.proofs.Good.{need_fits, need_room}
use Rattle.demands.specs.Logic.{Iff}
use Rattle.demands.specs.Places.{k_in, n_in, names_at, sort_at, formats_at, set_names_at, var_labels_at, types_in, expansions_at, data_at, cells_in, strls_at, blocks_at, BeforeHeader, BeforeNames, BeforeSort, BeforeFormats, BeforeSetNames, BeforeVarLabels, BeforeExpansions, BeforeBlocks}
use Rattle.demands.specs.Reasons.{Unended, NoName, FieldBroken, BlocksTo, block_table, TextBroken, in_names, in_formats, in_set_names, in_var_labels, in_block}
use Rattle.demands.proofs.NumberLaws.{need_listed, also_listed, tag_numbered, table_numbered, sort_numbered, expansions_numbered, data_numbered, strls_numbered}
use Rattle.demands.proofs.PlaceLaws.{Own, own, but, second, first, first_is, either, past, cut_names, cut_sort, cut_formats, cut_sets, cut_labels, cut_expansions, cut_data, cut_strls, from_names_lem, from_formats_lem, from_sets, from_labels, to_names}
use Rattle.demands.proofs.PartLaws.{part_of, of_part, some_of, of_some, unless_two, unless_false, tag_met, tag_stands}
use Rattle.demands.proofs.ReasonLaws.{reason}
use Rattle.demands.proofs.TableLaws.{block_judge, to_block, of_block}

-- ---- a field without a zero is a text of its full width

text_most : (w : ℕ) (f : List ℕ) (p : ℕ) → length (text_at w f p) ≤ w
text_most zero f p = omega arith
text_most (suc w) f p = go (eqb (get_or f p 0) 0) (text_most w f (suc p))
  where
    go : (t : Bool) → length (text_at w f (suc p)) ≤ w → length (cond t [] (get_or f p 0 ∷ text_at w f (suc p))) ≤ suc w
    go true h = omega arith
    go false h = omega arith

full_unended : (w : ℕ) (f : List ℕ) (p : ℕ) → length (text_at w f p) ≡ w → Unended w f p
full_unended zero f p h j b z = omega arith
full_unended (suc w) f p h j b z = go (eqb (get_or f p 0) 0) refl j b z (full_unended w f (suc p))
  where
    go : (t : Bool) → eqb (get_or f p 0) 0 ≡ t → (j : ℕ) → j < suc w → get_or f (p + j) 0 ≡ 0 → (length (text_at w f (suc p)) ≡ w → Unended w f (suc p)) → ⊥
    go true q j b z ih = let y : 0 ≡ suc w = rw q at h in omega arith
    go false q zero b z ih = eqb-false (get_or f p 0) 0 q (ap (λ (x : ℕ). get_or f x 0) (sym (add-zero p)) ∙ z)
    go false q (suc j) b z ih =
        let y : suc (length (text_at w f (suc p))) ≡ suc w = rw q at h in
        let e : p + suc j ≡ suc p + j = omega arith in
        ih (omega arith) j (omega arith) (ap (λ (x : ℕ). get_or f x 0) (sym e) ∙ z)

unended_full : (w : ℕ) (f : List ℕ) (p : ℕ) → Unended w f p → length (text_at w f p) ≡ w
unended_full zero f p h = refl
unended_full (suc w) f p h =
    let z : get_or f p 0 ≡ 0 → ⊥ = λ q. h 0 (omega arith) (ap (λ (x : ℕ). get_or f x 0) (add-zero p) ∙ q) in
    rw (ne_eqb (get_or f p 0) 0 z)
    (ap suc (unended_full w f (suc p) (λ j b q. h (suc j) (omega arith) (ap (λ (x : ℕ). get_or f x 0) (shift j) ∙ q))))
  where
    shift : (j : ℕ) → p + suc j ≡ suc p + j
    shift j = omega arith

-- a field gives 7 exactly if it has no zero
field_of : (w : ℕ) (f : List ℕ) (p : ℕ) → (text w 7).judge f p ≡ 7 → Unended w f p
field_of w f p h =
    full_unended w f p (omega (arith, ltb-false (length (text_at w f p)) w (unless_false (ltb (length (text_at w f p)) w) 7 refl h), text_most w f p))

of_field : (w : ℕ) (f : List ℕ) (p : ℕ) → Unended w f p → (text w 7).judge f p ≡ 7
of_field w f p u = rw (le-ltb (length (text_at w f p)) w (omega (arith, unended_full w f p u)))

field_two : (w : ℕ) (f : List ℕ) (p : ℕ) → ((text w 7).judge f p ≡ 0) ⊎ ((text w 7).judge f p ≡ 7)
field_two w f p = unless_two (ltb (length (text_at w f p)) w) 7

-- a name, if it has none or begins with it
empty_zero : (w : ℕ) (f : List ℕ) (p : ℕ) → ltb 0 (length (text_at w f p)) ≡ false → Unended w f p ⊎ (get_or f p 0 ≡ 0)
empty_zero zero f p h = inl (λ j b z. omega arith)
empty_zero (suc w) f p h = go (eqb (get_or f p 0) 0) refl
  where
    go : (t : Bool) → eqb (get_or f p 0) 0 ≡ t → Unended (suc w) f p ⊎ (get_or f p 0 ≡ 0)
    go true q = inr (eqb-true (get_or f p 0) 0 q)
    go false q = let y = rw q at (ltb-false 0 (length (text_at (suc w) f p)) h) in absurd (omega (arith, y))

zero_empty : (w : ℕ) (f : List ℕ) (p : ℕ) → get_or f p 0 ≡ 0 → length (text_at w f p) ≡ 0
zero_empty zero f p h = refl
zero_empty (suc w) f p h = rw (eq-eqb (get_or f p 0) 0 h)

name_of : (w : ℕ) (f : List ℕ) (p : ℕ) → (name w).judge f p ≡ 7 → NoName w f p
unfolding name
name_of w f p h = go (field_two w f p)
  where
    go : ((text w 7).judge f p ≡ 0) ⊎ ((text w 7).judge f p ≡ 7) → NoName w f p
    go (inl e) = empty_zero w f p (unless_false (ltb 0 (length (text_at w f p))) 7 refl (rw e at h))
    go (inr e) = inl (field_of w f p e)

of_name : (w : ℕ) (f : List ℕ) (p : ℕ) → NoName w f p → (name w).judge f p ≡ 7
unfolding name
of_name w f p (inl u) = first_is ((text w 7).judge f p) _ 7 refl (of_field w f p u)
of_name w f p (inr z) = go (field_two w f p)
  where
    go : ((text w 7).judge f p ≡ 0) ⊎ ((text w 7).judge f p ≡ 7) → also ((text w 7).judge f p) (unless (ltb 0 (length (text_at w f p))) 7) ≡ 7
    go (inl e) = rw (e, zero_empty w f p z)
    go (inr e) = first_is ((text w 7).judge f p) _ 7 refl e

name_two : (w : ℕ) (f : List ℕ) (p : ℕ) → ((name w).judge f p ≡ 0) ⊎ ((name w).judge f p ≡ 7)
unfolding name
name_two w f p = go (field_two w f p) (unless_two (ltb 0 (length (text_at w f p))) 7)
  where
    go : ((text w 7).judge f p ≡ 0) ⊎ ((text w 7).judge f p ≡ 7)
        → (unless (ltb 0 (length (text_at w f p))) 7 ≡ 0) ⊎ (unless (ltb 0 (length (text_at w f p))) 7 ≡ 7)
        → (also ((text w 7).judge f p) (unless (ltb 0 (length (text_at w f p))) 7) ≡ 0) ⊎ (also ((text w 7).judge f p) (unless (ltb 0 (length (text_at w f p))) 7) ≡ 7)
    go (inl e) (inl g) = inl (rw (e, g))
    go (inl e) (inr g) = inr (rw (e, g))
    go (inr e) g = inr (rw e)

seven : Own 7
seven = own 7 (omega arith)

-- ---- a list of fields between tags

module _ (S : Sect (List ℕ)) (w : ℕ) (wide : (a : List ℕ) → S.size a ≡ w) (wrong : ℕ → List ℕ → ℕ → Type 0) (f : List ℕ)
    (to : (q : ℕ) → S.judge f q ≡ 7 → wrong w f q) (of : (q : ℕ) → wrong w f q → S.judge f q ≡ 7) (two : (q : ℕ) → (S.judge f q ≡ 0) ⊎ (S.judge f q ≡ 7))
    (l r : List ℕ) (k p : ℕ) where
  list_of : (between l r (within (k * w) (times S k))).judge f p ≡ 7 → FieldBroken wrong l w k f p
  list_of h =
      let x = part_of l r (k * w) (times S k) f p 7 seven h in
      let c = some_of S w wide f 7 refl k (p + length l) x.1 in
      record { opened = x.0; variable = c.0; inside = c.1; broken = to (p + length l + c.0 * w) c.2 }

  of_list : FieldBroken wrong l w k f p → (between l r (within (k * w) (times S k))).judge f p ≡ 7
  of_list x =
      of_part l r (k * w) (times S k) f p 7 seven x.opened
      (of_some S w wide f 7 refl two k (p + length l) x.variable x.inside (of (p + length l + x.variable * w) x.broken))

module _ (t : Bool) (w k : ℕ) (f : List ℕ) (p : ℕ) where
  name_wide : (a : List ℕ) → (name w).size a ≡ w
  unfolding name
  name_wide a = refl

  names_of : (names t w k).judge f p ≡ 7 → FieldBroken NoName (opening t n_varnames) w k f p
  unfolding names
  names_of h = list_of (name w) w name_wide NoName f (name_of w f) (of_name w f) (name_two w f) (opening t n_varnames) (closing t n_varnames) k p h

  of_names : FieldBroken NoName (opening t n_varnames) w k f p → (names t w k).judge f p ≡ 7
  unfolding names
  of_names x = of_list (name w) w name_wide NoName f (name_of w f) (of_name w f) (name_two w f) (opening t n_varnames) (closing t n_varnames) k p x

  module _ (n : List ℕ) where
    fields_of : (fields t n w k).judge f p ≡ 7 → FieldBroken Unended (opening t n) w k f p
    unfolding fields
    fields_of h = list_of (text w 7) w (λ a. refl) Unended f (field_of w f) (of_field w f) (field_two w f) (opening t n) (closing t n) k p h

    of_fields : FieldBroken Unended (opening t n) w k f p → (fields t n w k).judge f p ≡ 7
    unfolding fields
    of_fields x = of_list (text w 7) w (λ a. refl) Unended f (field_of w f) (of_field w f) (field_two w f) (opening t n) (closing t n) k p x

-- ---- 7

module _ (e : Edition) (o : Order) (f : List ℕ) where
  abbrev end : Sect (Unit {0})
  end = done 13

  -- the name of a label block
  block_name : (p : ℕ) → BlocksTo e o f p → block_next e.tagged f p ≡ true → (block e.tagged o e.name_width).judge f p ≡ 7 → TextBroken e o f
  block_name p x m h =
      let P = but 7 seven in
      let l = opening e.tagged n_lbl in
      let q = p + length l in
      let u = second ((tag l 4).judge f p) _ 7 ((tag_numbered P l 4 refl).given f p) (sym (block_judge e.tagged o e.name_width f p) ∙ h) in
      let rest-free = also_listed P ((table o (num o 4 f q)).judge f (block_table e o f p)) _ ((table_numbered P refl o (num o 4 f q)).given f (block_table e o f p))
      ((tag_numbered P (closing e.tagged n_lbl) 4 refl).given f (next (table o (num o 4 f q)) f (block_table e o f p))) in
      let v = first (also (need (4 + (e.name_width + 3)) f q) (also ((name e.name_width).judge f (q + 4)) 0)) _ 7 rest-free u.1 in
      let y = second (need (4 + (e.name_width + 3)) f q) _ 7 (need_listed P (4 + (e.name_width + 3)) f q) v in
      in_block p x m (record { tag = (tag_stands l 3 f p u.0).0; room = need_room (4 + (e.name_width + 3)) f q y.0 })
      (name_of e.name_width f (q + 4) (first ((name e.name_width).judge f (q + 4)) 0 7 refl y.1))

  in_blocks : BeforeBlocks e o f × ((blocks e.tagged o e.name_width end).judge f (blocks_at e o f) ≡ 7) → TextBroken e o f
  in_blocks x = let r = to_block e o f 7 seven refl x.0 x.1 in block_name r.0 r.1 r.2 r.3

  -- no part between the variable labels and the label blocks gives it
  after_labels : BeforeExpansions e o f × ((from_expansions e o end (n_in e o f) (types_in e o f)).judge f (expansions_at e o f) ≡ 7) → TextBroken e o f
  after_labels x =
      let P = but 7 seven in
      in_blocks
      (past e o end f 7 seven _ _ _ (cut_strls e o end f) ((strls_numbered P refl e.tagged o e.record_width (cells_in e o f)).given f (strls_at e o f))
      (past e o end f 7 seven _ _ _ (cut_data e o end f) ((data_numbered P o e.v_width e.o_width e.tagged (types_in e o f) (n_in e o f)).given f (data_at e o f))
      (past e o end f 7 seven _ _ _ (cut_expansions e o end f) ((expansions_numbered P refl e.tagged o).given f (expansions_at e o f)) x)))

  in_labels : BeforeVarLabels e o f × ((from_var_labels e o end (k_in e o f) (n_in e o f) (types_in e o f)).judge f (var_labels_at e o f) ≡ 7) → TextBroken e o f
  in_labels x = go (either _ _ _ 7 (cut_labels e o end f) x)
    where
      go : (BeforeVarLabels e o f × ((var_labels e.tagged e.var_label_width (k_in e o f)).judge f (var_labels_at e o f) ≡ 7))
          ⊎ (BeforeExpansions e o f × ((from_expansions e o end (n_in e o f) (types_in e o f)).judge f (expansions_at e o f) ≡ 7)) → TextBroken e o f
      go (inl y) = in_var_labels y.0 (fields_of e.tagged e.var_label_width (k_in e o f) f (var_labels_at e o f) n_variable_labels y.1)
      go (inr y) = after_labels y

  in_sets : BeforeSetNames e o f × ((from_set_names e o end (k_in e o f) (n_in e o f) (types_in e o f)).judge f (set_names_at e o f) ≡ 7) → TextBroken e o f
  in_sets x = go (either _ _ _ 7 (cut_sets e o end f) x)
    where
      go : (BeforeSetNames e o f × ((set_names e.tagged e.name_width (k_in e o f)).judge f (set_names_at e o f) ≡ 7))
          ⊎ (BeforeVarLabels e o f × ((from_var_labels e o end (k_in e o f) (n_in e o f) (types_in e o f)).judge f (var_labels_at e o f) ≡ 7)) → TextBroken e o f
      go (inl y) = in_set_names y.0 (fields_of e.tagged e.name_width (k_in e o f) f (set_names_at e o f) n_value_label_names y.1)
      go (inr y) = in_labels y

  in_formats_lem : BeforeFormats e o f × ((from_formats e o end (k_in e o f) (n_in e o f) (types_in e o f)).judge f (formats_at e o f) ≡ 7) → TextBroken e o f
  in_formats_lem x = go (either _ _ _ 7 (cut_formats e o end f) x)
    where
      go : (BeforeFormats e o f × ((formats e.tagged e.format_width (k_in e o f)).judge f (formats_at e o f) ≡ 7))
          ⊎ (BeforeSetNames e o f × ((from_set_names e o end (k_in e o f) (n_in e o f) (types_in e o f)).judge f (set_names_at e o f) ≡ 7)) → TextBroken e o f
      go (inl y) = in_formats y.0 (fields_of e.tagged e.format_width (k_in e o f) f (formats_at e o f) n_formats y.1)
      go (inr y) = in_sets y

  in_names_lem : BeforeNames e o f × ((from_names e o end (k_in e o f) (n_in e o f) (types_in e o f)).judge f (names_at e o f) ≡ 7) → TextBroken e o f
  in_names_lem x = go (either _ _ _ 7 (cut_names e o end f) x)
    where
      go : (BeforeNames e o f × ((names e.tagged e.name_width (k_in e o f)).judge f (names_at e o f) ≡ 7))
          ⊎ (BeforeSort e o f × ((from_sort_list e o end (k_in e o f) (n_in e o f) (types_in e o f)).judge f (sort_at e o f) ≡ 7)) → TextBroken e o f
      go (inl y) = in_names y.0 (names_of e.tagged e.name_width (k_in e o f) f (names_at e o f) y.1)
      go (inr y) = in_formats_lem (past e o end f 7 seven _ _ _ (cut_sort e o end f) ((sort_numbered (but 7 seven) refl e.tagged o (k_in e o f)).given f (sort_at e o f)) y)

  text_of : BeforeHeader e o f → same_at (start e) f 0 ≡ true → (sections e o (done 13)).judge f 0 ≡ 7 → TextBroken e o f
  text_of b s h = in_names_lem (to_names e o end f 7 seven refl s refl b h)

  of_text : TextBroken e o f → (sections e o (done 13)).judge f 0 ≡ 7
  of_text (in_names b x) =
      from_names_lem e o end f b ∙ cut_names e o end f ∙ first_is _ _ 7 refl (of_names e.tagged e.name_width (k_in e o f) f (names_at e o f) x)
  of_text (in_formats b x) =
      from_formats_lem e o end f b ∙ cut_formats e o end f ∙ first_is _ _ 7 refl (of_fields e.tagged e.format_width (k_in e o f) f (formats_at e o f) n_formats x)
  of_text (in_set_names b x) =
      from_sets e o end f b ∙ cut_sets e o end f ∙ first_is _ _ 7 refl (of_fields e.tagged e.name_width (k_in e o f) f (set_names_at e o f) n_value_label_names x)
  of_text (in_var_labels b x) =
      from_labels e o end f b ∙ cut_labels e o end f ∙ first_is _ _ 7 refl (of_fields e.tagged e.var_label_width (k_in e o f) f (var_labels_at e o f) n_variable_labels x)
  of_text (in_block p x m b n) =
      let l = opening e.tagged n_lbl in
      let q = p + length l in
      of_block e o f 7 seven p x m
      (block_judge e.tagged o e.name_width f p
      ∙ rw (tag_met l 4 f p b.tag (omega (arith, b.room)), need_fits (4 + (e.name_width + 3)) f q b.room, of_name e.name_width f (q + 4) n) refl)

  before_text : TextBroken e o f → BeforeHeader e o f
  before_text (in_names b x) = b.0.0.0
  before_text (in_formats b x) = b.0.0.0.0.0
  before_text (in_set_names b x) = b.0.0.0.0.0.0
  before_text (in_var_labels b x) = b.0.0.0.0.0.0.0
  before_text (in_block p x m b n) = x.before.0.0.0.0.0.0.0.0.0.0.0

pub text_broken : (f : List ℕ) → Iff (verdict f ≡ 7) (TextBroken (edition_of f) (order_of f) f)
text_broken f = reason f 7 seven refl (text_of (edition_of f) (order_of f) f) (before_text (edition_of f) (order_of f) f) (of_text (edition_of f) (order_of f) f)
