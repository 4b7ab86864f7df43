-- From part to part of a file that is checked: the number is due in a part exactly if those before it are right.
use mathlib.Core.Path.{◌≡◌, refl, sym, ◌∙◌}
use Prim.Native.Nat.{ℕ, zero, suc, ◌≤◌}
use native.Mathlib.Omega.{arith}
use mathlib.Core.List.{List}
use mathlib.Core.Logic.{◌⊎◌, inl, inr}
use mathlib.Core.Bool.{true, false, not, true≢false}
use lib.Dec.{eqb}
use borrow.Author.Tests.{eq-eqb, ne_eqb}
use Rattle.format.specs.Number.{Order}
use Rattle.format.specs.Grammar.{Sect, also, same_at}
use Rattle.format.specs.Edition.{Edition, start}
use Rattle.format.specs.Header.{header}
use Rattle.format.specs.Variables.{file_map, types, names, sort_list, formats, set_names, var_labels}
use Rattle.format.specs.Expansion.{expansions}
use Rattle.format.specs.Data.{observations, strls}
use Rattle.format.specs.Labels.{blocks}
use Rattle.format.specs.Dta.{from_strls, from_data, from_expansions, from_var_labels, from_set_names, from_formats, from_sort_list, from_names, from_types, from_map, sections}
use Rattle.format.proofs.Good.{also_left, also_right}
use Rattle.demands.specs.Places.{k_in, n_in, map_at, types_at, types_in, names_at, sort_at, formats_at, set_names_at, var_labels_at, expansions_at, data_at, cells_in, strls_at, blocks_at, BeforeHeader, BeforeMap, BeforeTypes, BeforeNames, BeforeSort, BeforeFormats, BeforeSetNames, BeforeVarLabels, BeforeExpansions, BeforeData, BeforeStrls, BeforeBlocks}
use Rattle.demands.proofs.NumberLaws.{Numbers, header_starts, map_numbered, types_numbered, names_numbered, sort_numbered, fields_numbered, expansions_numbered, data_numbered, strls_numbered}

-- ---- a number that is not of every part

-- c is none of 0 to 4
pub record Own (c : ℕ) : Type 0 where
  pub past : 5 ≤ c
  pub none : eqb 0 c ≡ false
  pub short : eqb 3 c ≡ false
  pub tags : eqb 4 c ≡ false

pub own : (c : ℕ) → 5 ≤ c → Own c
own c b =
    record {
      past = b;
      none = ne_eqb 0 c (λ q. omega (arith, q));
      short = ne_eqb 3 c (λ q. omega (arith, q));
      tags = ne_eqb 4 c (λ q. omega (arith, q));
    }

-- all numbers but c
abbrev pub but : (c : ℕ) → Own c → Numbers
but c w = record { has = λ x. not (eqb x c); none = rw w.none; short = rw w.short; tags = rw w.tags }

pub other : (c a : ℕ) → not (eqb a c) ≡ true → a ≡ c → ⊥
other c a h e = true≢false (sym h ∙ rw (eq-eqb a c e))

-- ---- two answers, one after the other

-- c is the second's where the first doesn't give it
pub second : (a b c : ℕ) → not (eqb a c) ≡ true → also a b ≡ c → (a ≡ 0) × (b ≡ c)
second zero b c n h = (refl, h)
second (suc a) b c n h = absurd (other c (suc a) n h)

-- c is the first's where the second doesn't give it
pub first : (a b c : ℕ) → not (eqb b c) ≡ true → also a b ≡ c → a ≡ c
first zero b c n h = absurd (other c b n h)
first (suc a) b c n h = h

pub first_is : (a b c : ℕ) → not (eqb 0 c) ≡ true → a ≡ c → also a b ≡ c
first_is zero b c n h = absurd (other c 0 n h)
first_is (suc a) b c n h = h

-- a number is the first's, or the first is right and it is the second's
pub one_of : (a b c : ℕ) → also a b ≡ c → (a ≡ c) ⊎ ((a ≡ 0) × (b ≡ c))
one_of zero b c h = inr (refl, h)
one_of (suc a) b c h = inl h

-- .. with what is known before
pub either : {B : Type 0} (v a b c : ℕ) → v ≡ also a b → B × (v ≡ c) → (B × (a ≡ c)) ⊎ ((B × (a ≡ 0)) × (b ≡ c))
either {B} v a b c q x = go (one_of a b c (sym q ∙ x.1))
  where
    go : (a ≡ c) ⊎ ((a ≡ 0) × (b ≡ c)) → (B × (a ≡ c)) ⊎ ((B × (a ≡ 0)) × (b ≡ c))
    go (inl h) = inl (x.0, h)
    go (inr h) = inr ((x.0, h.0), h.1)

module _ (e : Edition) (o : Order) (end : Sect (Unit {0})) (f : List ℕ) where
  -- ---- each part and the rest

  pub cut_header : (sections e o end).judge f 0 ≡ also ((header e o).judge f 0) ((from_map e o end (k_in e o f) (n_in e o f)).judge f (map_at e o f))
  unfolding sections k_in n_in map_at
  cut_header = refl

  pub cut_map : (from_map e o end (k_in e o f) (n_in e o f)).judge f (map_at e o f)
      ≡ also ((file_map e.tagged o).judge f (map_at e o f)) ((from_types e o end (k_in e o f) (n_in e o f)).judge f (types_at e o f))
  unfolding from_map types_at
  cut_map = refl

  pub cut_types : (from_types e o end (k_in e o f) (n_in e o f)).judge f (types_at e o f)
      ≡ also ((types e.tagged o (k_in e o f)).judge f (types_at e o f)) ((from_names e o end (k_in e o f) (n_in e o f) (types_in e o f)).judge f (names_at e o f))
  unfolding from_types types_in names_at
  cut_types = refl

  pub cut_names : (from_names e o end (k_in e o f) (n_in e o f) (types_in e o f)).judge f (names_at e o f)
      ≡ also ((names e.tagged e.name_width (k_in e o f)).judge f (names_at e o f)) ((from_sort_list e o end (k_in e o f) (n_in e o f) (types_in e o f)).judge f (sort_at e o f))
  unfolding from_names sort_at
  cut_names = refl

  pub cut_sort : (from_sort_list e o end (k_in e o f) (n_in e o f) (types_in e o f)).judge f (sort_at e o f)
      ≡ also ((sort_list e.tagged o (k_in e o f)).judge f (sort_at e o f)) ((from_formats e o end (k_in e o f) (n_in e o f) (types_in e o f)).judge f (formats_at e o f))
  unfolding from_sort_list formats_at
  cut_sort = refl

  pub cut_formats : (from_formats e o end (k_in e o f) (n_in e o f) (types_in e o f)).judge f (formats_at e o f)
      ≡ also ((formats e.tagged e.format_width (k_in e o f)).judge f (formats_at e o f)) ((from_set_names e o end (k_in e o f) (n_in e o f) (types_in e o f)).judge f (set_names_at e o f))
  unfolding from_formats set_names_at
  cut_formats = refl

  pub cut_sets : (from_set_names e o end (k_in e o f) (n_in e o f) (types_in e o f)).judge f (set_names_at e o f)
      ≡ also ((set_names e.tagged e.name_width (k_in e o f)).judge f (set_names_at e o f)) ((from_var_labels e o end (k_in e o f) (n_in e o f) (types_in e o f)).judge f (var_labels_at e o f))
  unfolding from_set_names var_labels_at
  cut_sets = refl

  pub cut_labels : (from_var_labels e o end (k_in e o f) (n_in e o f) (types_in e o f)).judge f (var_labels_at e o f)
      ≡ also ((var_labels e.tagged e.var_label_width (k_in e o f)).judge f (var_labels_at e o f)) ((from_expansions e o end (n_in e o f) (types_in e o f)).judge f (expansions_at e o f))
  unfolding from_var_labels expansions_at
  cut_labels = refl

  pub cut_expansions : (from_expansions e o end (n_in e o f) (types_in e o f)).judge f (expansions_at e o f)
      ≡ also ((expansions e.tagged o).judge f (expansions_at e o f)) ((from_data e o end (n_in e o f) (types_in e o f)).judge f (data_at e o f))
  unfolding from_expansions data_at
  cut_expansions = refl

  pub cut_data : (from_data e o end (n_in e o f) (types_in e o f)).judge f (data_at e o f)
      ≡ also ((observations e.tagged o e.v_width e.o_width (types_in e o f) (n_in e o f)).judge f (data_at e o f)) ((from_strls e o end (cells_in e o f)).judge f (strls_at e o f))
  unfolding from_data cells_in strls_at
  cut_data = refl

  pub cut_strls : (from_strls e o end (cells_in e o f)).judge f (strls_at e o f)
      ≡ also ((strls e.tagged o e.record_width (cells_in e o f)).judge f (strls_at e o f)) ((blocks e.tagged o e.name_width end).judge f (blocks_at e o f))
  unfolding from_strls blocks_at
  cut_strls = refl

  -- ---- where the parts before are right, the number is that of the rest

  from_map_lem : BeforeMap e o f → (sections e o end).judge f 0 ≡ (from_map e o end (k_in e o f) (n_in e o f)).judge f (map_at e o f)
  from_map_lem b = cut_header ∙ rw b.1

  pub from_types_lem : BeforeTypes e o f → (sections e o end).judge f 0 ≡ (from_types e o end (k_in e o f) (n_in e o f)).judge f (types_at e o f)
  from_types_lem b = from_map_lem b.0 ∙ cut_map ∙ rw b.1

  pub from_names_lem : BeforeNames e o f → (sections e o end).judge f 0 ≡ (from_names e o end (k_in e o f) (n_in e o f) (types_in e o f)).judge f (names_at e o f)
  from_names_lem b = from_types_lem b.0 ∙ cut_types ∙ rw b.1

  pub from_sort : BeforeSort e o f → (sections e o end).judge f 0 ≡ (from_sort_list e o end (k_in e o f) (n_in e o f) (types_in e o f)).judge f (sort_at e o f)
  from_sort b = from_names_lem b.0 ∙ cut_names ∙ rw b.1

  pub from_formats_lem : BeforeFormats e o f → (sections e o end).judge f 0 ≡ (from_formats e o end (k_in e o f) (n_in e o f) (types_in e o f)).judge f (formats_at e o f)
  from_formats_lem b = from_sort b.0 ∙ cut_sort ∙ rw b.1

  pub from_sets : BeforeSetNames e o f → (sections e o end).judge f 0 ≡ (from_set_names e o end (k_in e o f) (n_in e o f) (types_in e o f)).judge f (set_names_at e o f)
  from_sets b = from_formats_lem b.0 ∙ cut_formats ∙ rw b.1

  pub from_labels : BeforeVarLabels e o f → (sections e o end).judge f 0 ≡ (from_var_labels e o end (k_in e o f) (n_in e o f) (types_in e o f)).judge f (var_labels_at e o f)
  from_labels b = from_sets b.0 ∙ cut_sets ∙ rw b.1

  pub from_expansions_lem : BeforeExpansions e o f → (sections e o end).judge f 0 ≡ (from_expansions e o end (n_in e o f) (types_in e o f)).judge f (expansions_at e o f)
  from_expansions_lem b = from_labels b.0 ∙ cut_labels ∙ rw b.1

  from_data_lem : BeforeData e o f → (sections e o end).judge f 0 ≡ (from_data e o end (n_in e o f) (types_in e o f)).judge f (data_at e o f)
  from_data_lem b = from_expansions_lem b.0 ∙ cut_expansions ∙ rw b.1

  pub from_strls_lem : BeforeStrls e o f → (sections e o end).judge f 0 ≡ (from_strls e o end (cells_in e o f)).judge f (strls_at e o f)
  from_strls_lem b = from_data_lem b.0 ∙ cut_data ∙ rw b.1

  pub from_blocks : BeforeBlocks e o f → (sections e o end).judge f 0 ≡ (blocks e.tagged o e.name_width end).judge f (blocks_at e o f)
  from_blocks b = from_strls_lem b.0 ∙ cut_strls ∙ rw b.1

  -- ---- where nothing is refused, all parts are right

  right : {B : Type 0} (v a b : ℕ) → v ≡ also a b → B × (v ≡ 0) → (B × (a ≡ 0)) × (b ≡ 0)
  right v a b q x = let h = sym q ∙ x.1 in ((x.0, also_left a b h), also_right a b h)

  pub all_right : BeforeHeader e o f → (sections e o end).judge f 0 ≡ 0 → BeforeBlocks e o f × ((blocks e.tagged o e.name_width end).judge f (blocks_at e o f) ≡ 0)
  all_right b h =
      right _ _ _ cut_strls (right _ _ _ cut_data (right _ _ _ cut_expansions (right _ _ _ cut_labels (right _ _ _ cut_sets (right _ _ _ cut_formats
      (right _ _ _ cut_sort (right _ _ _ cut_names (right _ _ _ cut_types (right _ _ _ cut_map (right _ _ _ cut_header (b, h)))))))))))

  -- ---- and a number that the parts before don't give is due in the rest

  module _ (c : ℕ) (w : Own c) where
    -- one part more
    pub past : {B : Type 0} (v a b : ℕ) → v ≡ also a b → not (eqb a c) ≡ true → B × (v ≡ c) → (B × (a ≡ 0)) × (b ≡ c)
    past v a b q h x = let s = second a b c h (sym q ∙ x.1) in ((x.0, s.0), s.1)

    module _ (h5 : not (eqb 5 c) ≡ true) (begins : same_at (start e) f 0 ≡ true) where
      pub to_types : BeforeHeader e o f → (sections e o end).judge f 0 ≡ c → BeforeTypes e o f × ((from_types e o end (k_in e o f) (n_in e o f)).judge f (types_at e o f) ≡ c)
      to_types b h =
          past _ _ _ cut_map ((map_numbered (but c w) e.tagged o).given f (map_at e o f))
          (past _ _ _ cut_header (header_starts (but c w) h5 e.tagged e o f begins) (b, h))

      module _ (h6 : not (eqb 6 c) ≡ true) where
        pub to_names : BeforeHeader e o f → (sections e o end).judge f 0 ≡ c
            → BeforeNames e o f × ((from_names e o end (k_in e o f) (n_in e o f) (types_in e o f)).judge f (names_at e o f) ≡ c)
        to_names b h = past _ _ _ cut_types ((types_numbered (but c w) h6 e.tagged o (k_in e o f)).given f (types_at e o f)) (to_types b h)

        module _ (h7 : not (eqb 7 c) ≡ true) where
          pub to_sort : BeforeHeader e o f → (sections e o end).judge f 0 ≡ c
              → BeforeSort e o f × ((from_sort_list e o end (k_in e o f) (n_in e o f) (types_in e o f)).judge f (sort_at e o f) ≡ c)
          to_sort b h = past _ _ _ cut_names ((names_numbered (but c w) h7 e.tagged e.name_width (k_in e o f)).given f (names_at e o f)) (to_names b h)

          module _ (h8 : not (eqb 8 c) ≡ true) where
            pub to_formats : BeforeHeader e o f → (sections e o end).judge f 0 ≡ c
                → BeforeFormats e o f × ((from_formats e o end (k_in e o f) (n_in e o f) (types_in e o f)).judge f (formats_at e o f) ≡ c)
            to_formats b h = past _ _ _ cut_sort ((sort_numbered (but c w) h8 e.tagged o (k_in e o f)).given f (sort_at e o f)) (to_sort b h)

            pub to_expansions : BeforeHeader e o f → (sections e o end).judge f 0 ≡ c
                → BeforeExpansions e o f × ((from_expansions e o end (n_in e o f) (types_in e o f)).judge f (expansions_at e o f) ≡ c)
            to_expansions b h =
                past _ _ _ cut_labels ((fields_numbered (but c w) h7 e.tagged _ e.var_label_width (k_in e o f)).given f (var_labels_at e o f))
                (past _ _ _ cut_sets ((fields_numbered (but c w) h7 e.tagged _ e.name_width (k_in e o f)).given f (set_names_at e o f))
                (past _ _ _ cut_formats ((fields_numbered (but c w) h7 e.tagged _ e.format_width (k_in e o f)).given f (formats_at e o f)) (to_formats b h)))

            module _ (h9 : not (eqb 9 c) ≡ true) where
              pub to_strls : BeforeHeader e o f → (sections e o end).judge f 0 ≡ c → BeforeStrls e o f × ((from_strls e o end (cells_in e o f)).judge f (strls_at e o f) ≡ c)
              to_strls b h =
                  past _ _ _ cut_data ((data_numbered (but c w) o e.v_width e.o_width e.tagged (types_in e o f) (n_in e o f)).given f (data_at e o f))
                  (past _ _ _ cut_expansions ((expansions_numbered (but c w) h9 e.tagged o).given f (expansions_at e o f)) (to_expansions b h))

              module _ (h11 : not (eqb 11 c) ≡ true) where
                pub to_blocks : BeforeHeader e o f → (sections e o end).judge f 0 ≡ c
                    → BeforeBlocks e o f × ((blocks e.tagged o e.name_width end).judge f (blocks_at e o f) ≡ c)
                to_blocks b h = past _ _ _ cut_strls ((strls_numbered (but c w) h11 e.tagged o e.record_width (cells_in e o f)).given f (strls_at e o f)) (to_strls b h)
