-- What the part writers put is what is written for each list of the dataset.
use mathlib.Core.Path.{◌≡◌, refl, sym, ap, ◌∙◌, subst}
use Prim.Native.Nat.{ℕ, suc, ◌+◌, ◌*◌, ◌≤◌}
use native.Mathlib.Omega.{arith}
use native.Mathlib.Numerals.{add-one}
use mathlib.Core.List.{List, [], ◌++◌}
use mathlib.Core.Bool.{Bool, true, false, cond}
use lib.ListN.{length}
use Rattle.format.specs.Slot.{fill, Bytes}
use Rattle.format.specs.Number.{Order, order_by}
use Rattle.format.specs.Grammar.{Sect, within, times, text, read_times, all_slots, ended_at, ended_slots, ended, ruled, between}
use Rattle.format.specs.Edition.{Edition, opening, closing, code_width, n_variable_types, n_varnames, n_sortlist, n_formats, n_value_label_names, n_variable_labels}
use Rattle.format.specs.Variables.{VarType, type_code, types, name, names, fresh, sort_list, fields}
use Rattle.format.specs.Dta.{Dataset, dataset_of, all_shorter}
use Rattle.format.proofs.WriteLaws.{fill_between}
use Rattle.section.proofs.TagLaws.{opening_by, closing_by}
use Rattle.editions.specs.Editions.{numbers_of}
use Rattle.editions.specs.declared.Edition as Code
use Rattle.writing.specs.Writes.{Puts}
use Rattle.sources.specs.declared.Source.{Source}
use Rattle.sources.specs.Sources.{Opened, Sourced, Holding}
use Rattle.sources.specs.Parts.{types_to, names_to, sort_to, formats_to, sets_to, labels_to}
use Rattle.sources.proofs.PartReads.{types_of, TextsAt, names_of, formats_of, sets_of, labels_of, sort_of, held_parts}
use Rattle.write_parts.specs.Enclosed.{enclosed, text_bytes, sort_bytes, type_bytes}

-- a part between the tags of the name n, where the edition has tags
pub enclosed_is : {A : Type 0} (t : Bool) (n : List ℕ) (S : Sect A) (a : A) → enclosed t (opening true n) (closing true n) (fill (S.slots a)) ≡ fill ((between (opening t n) (closing t n) S).slots a)
enclosed_is t n S a =
    (λ i. opening_by t n i ++ (fill (S.slots a) ++ closing_by t n i)) ∙ sym (fill_between (opening t n) (closing t n) S a)

-- what is put is told in another way
pub puts_as : {t x d w : List ℕ} {r : ℕ} → t ≡ x → Puts t d w r → Puts x d w r
puts_as {t} {x} {d} {w} {r} e p = subst (λ (y : List ℕ). Puts y d w r) e p

pub room_as : (t x : List ℕ) (n : ℕ) → t ≡ x → length x ≤ n → length t ≤ n
room_as t x n e h = subst (λ (y : List ℕ). length y ≤ n) (sym e) h

module _ (f : List ℕ) (u : Bytes f) (e : Code.Edition) (m : Bool) (op : Opened f e m) (s : Source) (S : Sourced f s) (to : Code.Edition) (z : Bool) where
  abbrev E : Edition
  E = numbers_of to

  abbrev d : Dataset
  d = dataset_of f

  abbrev in_tags : List ℕ → List ℕ → List ℕ
  in_tags n g = enclosed to.tagged (opening true n) (closing true n) g

  pub types_eq : in_tags n_variable_types (type_bytes to.tagged (order_by z) s.k e.tagged (order_by m) f s.types) ≡ types_to E (order_by z) d
  unfolding types_to types
  types_eq =
      ap (λ (l : List VarType). in_tags n_variable_types (fill (all_slots (type_code to.tagged (order_by z)) l))) (types_of f u e m op s S)
      ∙ enclosed_is to.tagged n_variable_types (within (d.k * code_width to.tagged) (times (type_code to.tagged (order_by z)) d.k)) d.var_types

  pub names_eq : in_tags n_varnames (text_bytes to.name_width s.k e.name_width f s.names) ≡ names_to E (order_by z) d
  unfolding names_to names name
  names_eq =
      ap (λ (l : List (List ℕ)). in_tags n_varnames (fill (all_slots (text to.name_width 7) l))) (names_of f u e m op s S).reads
      ∙ enclosed_is to.tagged n_varnames (within (d.k * to.name_width) (times (name to.name_width) d.k)) d.var_names

  -- fields between the tags of the name n
  fields_eq : (n : List ℕ) (p w x : ℕ) (l : List (List ℕ)) → TextsAt f p s.k w l → in_tags n (text_bytes x s.k w f p) ≡ fill ((fields to.tagged n x d.k).slots l)
  unfolding fields
  fields_eq n p w x l h =
      ap (λ (y : List (List ℕ)). in_tags n (fill (all_slots (text x 7) y))) h.reads ∙ enclosed_is to.tagged n (within (d.k * x) (times (text x 7) d.k)) l

  pub formats_eq : in_tags n_formats (text_bytes to.format_width s.k e.format_width f s.formats) ≡ formats_to E (order_by z) d
  unfolding formats_to
  formats_eq = fields_eq n_formats s.formats e.format_width to.format_width d.display_formats (formats_of f u e m op s S)

  pub sets-eq : in_tags n_value_label_names (text_bytes to.name_width s.k e.name_width f s.sets) ≡ sets_to E (order_by z) d
  unfolding sets_to
  sets-eq = fields_eq n_value_label_names s.sets e.name_width to.name_width d.label_sets (sets_of f u e m op s S)

  pub labels_eq : in_tags n_variable_labels (text_bytes to.var_label_width s.k e.var_label_width f s.labels) ≡ labels_to E (order_by z) d
  unfolding labels_to
  labels_eq = fields_eq n_variable_labels s.labels e.var_label_width to.var_label_width d.variable_labels (labels_of f u e m op s S)

  pub sort_eq : in_tags n_sortlist (sort_bytes (order_by z) (s.k + 1) (order_by m) f s.sort) ≡ sort_to E (order_by z) d
  unfolding sort_to sort_list
  sort_eq =
      ap (λ (k : ℕ). in_tags n_sortlist (sort_bytes (order_by z) k (order_by m) f s.sort)) (add-one s.k)
      ∙ (λ i. in_tags n_sortlist (fill (ended_slots (order_by z) 2 (suc (S.variables i)) (sort_of f u e m op s S i))))
      ∙ enclosed_is to.tagged n_sortlist (within (suc d.k * 2) (ruled (ended (order_by z) 2 (suc d.k) 8) (fresh d.k []) 8)) d.sorted

  module _ (H : Holding f to (order_by z)) where
    short : (p w x : ℕ) (l : List (List ℕ)) → TextsAt f p s.k w l → all_shorter x l ≡ true → all_shorter x (read_times (text w 7) s.k f p) ≡ true
    short p w x l h a = ap (all_shorter x) h.reads ∙ a

    pub names_short : all_shorter to.name_width (read_times (text e.name_width 7) s.k f s.names) ≡ true
    names_short = short s.names e.name_width to.name_width d.var_names (names_of f u e m op s S) (held_parts f to (order_by z) H).names

    pub formats_short : all_shorter to.format_width (read_times (text e.format_width 7) s.k f s.formats) ≡ true
    formats_short = short s.formats e.format_width to.format_width d.display_formats (formats_of f u e m op s S) (held_parts f to (order_by z) H).formats

    pub sets_short : all_shorter to.name_width (read_times (text e.name_width 7) s.k f s.sets) ≡ true
    sets_short = short s.sets e.name_width to.name_width d.label_sets (sets_of f u e m op s S) (held_parts f to (order_by z) H).sets

    pub labels_short : all_shorter to.var_label_width (read_times (text e.var_label_width 7) s.k f s.labels) ≡ true
    labels_short = short s.labels e.var_label_width to.var_label_width d.variable_labels (labels_of f u e m op s S) (held_parts f to (order_by z) H).labels
