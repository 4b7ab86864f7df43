-- The lists of a file, one after another.
use mathlib.Core.Path.{◌≡◌, refl, sym}
use Prim.Native.Nat.{ℕ, ◌*◌}
use mathlib.Core.List.{List, [], ◌∷◌}
use mathlib.Core.Bool.{Bool, true, false, cond}
use Rattle.std.specs.Prelude.{Result, Ok, Err}
use Rattle.refusal.specs.declared.Refusal.{Refusal}
use Rattle.refusal.specs.Refusals.{number_of}
use Rattle.format.specs.Number.{Order}
use Rattle.format.specs.Grammar.{Sect, seq, done, within, times, between}
use Rattle.format.specs.Edition.{Edition, opening, closing, n_varnames}
use Rattle.format.specs.Variables.{VarType, types, names, sort_list, fields, formats, set_names, var_labels}
use Rattle.format.specs.Dta.{from_types, from_names, from_sort_list, from_formats, from_set_names, from_var_labels, from_expansions}
use Rattle.format.proofs.StepLaws.{stop, on}
use Rattle.section.specs.Judged.{Judged, field}
use Rattle.section.proofs.StepLaws.{some_number}
use Rattle.section.proofs.PartLaws.{part_by}
use Rattle.lists.specs.Walks.{list_places, Listed}

-- ---- lists of text fields

module _ (t : Bool) (w k : ℕ) (f : List ℕ) (p : ℕ) (r : Result ℕ Refusal) where
  pub names_judged : Judged (between (cond t (opening true n_varnames) []) (cond t (closing true n_varnames) []) (within (k * w) (times (field true w) k))) f p r → Judged (names t w k) f p r
  unfolding names
  names_judged j = part_by t n_varnames _ f p r j

  pub fields_judged : (n : List ℕ) → Judged (between (cond t (opening true n) []) (cond t (closing true n) []) (within (k * w) (times (field false w) k))) f p r → Judged (fields t n w k) f p r
  unfolding fields
  fields_judged n j = part_by t n _ f p r j

-- ---- from list to list

-- p is where the types start
module _ (e : Edition) (o : Order) (k : ℕ) (f : List ℕ) (p : ℕ) where
  abbrev T : List VarType
  T = (types e.tagged o k).read f p

  -- S at q decides, whatever N is
  abbrev At : {A : Type 0} → (ℕ → Sect A) → ℕ → Type 0
  At S q = (n : ℕ) → (from_types e o (done 13) k n).judge f p ≡ (S n).judge f q

  -- a list there is refused, or right
  module _ {A B : Type 0} (S : Sect A) (U : ℕ → A → Sect B) {q : ℕ} (here : At (λ n. seq S (U n)) q) where
    refuse : {x : Refusal} → Judged S f q (Err x) → Listed e o k f p (Err x)
    refuse {x} j n = sym (stop S (U n) f (here n) (number_of x) j.code (some_number x))

    past : {a : ℕ} → Judged S f q (Ok a) → At (λ n. U n (S.read f q)) a
    past {a} j n = on S (U n) f (here n) a j.code j.ends

  at_types : At (λ n. seq (types e.tagged o k) (from_names e o (done 13) k n)) p
  unfolding from_types
  at_types n = refl

  pub types_refused : {x : Refusal} → Judged (types e.tagged o k) f p (Err x) → Listed e o k f p (Err x)
  types_refused j = refuse (types e.tagged o k) (λ n. from_names e o (done 13) k n) at_types j

  module _ {t : ℕ} (Jt : Judged (types e.tagged o k) f p (Ok t)) where
    at_names : At (λ n. seq (names e.tagged e.name_width k) (λ u. from_sort_list e o (done 13) k n T)) t
    unfolding from_names
    at_names n = past (types e.tagged o k) (λ n. from_names e o (done 13) k n) at_types Jt n

    pub names_refused : {x : Refusal} → Judged (names e.tagged e.name_width k) f t (Err x) → Listed e o k f p (Err x)
    names_refused j = refuse (names e.tagged e.name_width k) (λ n u. from_sort_list e o (done 13) k n T) at_names j

    module _ {m : ℕ} (Jm : Judged (names e.tagged e.name_width k) f t (Ok m)) where
      at_sort : At (λ n. seq (sort_list e.tagged o k) (λ u. from_formats e o (done 13) k n T)) m
      unfolding from_sort_list
      at_sort n = past (names e.tagged e.name_width k) (λ n u. from_sort_list e o (done 13) k n T) at_names Jm n

      pub sort_refused : {x : Refusal} → Judged (sort_list e.tagged o k) f m (Err x) → Listed e o k f p (Err x)
      sort_refused j = refuse (sort_list e.tagged o k) (λ n u. from_formats e o (done 13) k n T) at_sort j

      module _ {s : ℕ} (Js : Judged (sort_list e.tagged o k) f m (Ok s)) where
        at_formats : At (λ n. seq (formats e.tagged e.format_width k) (λ u. from_set_names e o (done 13) k n T)) s
        unfolding from_formats
        at_formats n = past (sort_list e.tagged o k) (λ n u. from_formats e o (done 13) k n T) at_sort Js n

        pub formats_refused : {x : Refusal} → Judged (formats e.tagged e.format_width k) f s (Err x) → Listed e o k f p (Err x)
        formats_refused j = refuse (formats e.tagged e.format_width k) (λ n u. from_set_names e o (done 13) k n T) at_formats j

        module _ {d : ℕ} (Jd : Judged (formats e.tagged e.format_width k) f s (Ok d)) where
          at_sets : At (λ n. seq (set_names e.tagged e.name_width k) (λ u. from_var_labels e o (done 13) k n T)) d
          unfolding from_set_names
          at_sets n = past (formats e.tagged e.format_width k) (λ n u. from_set_names e o (done 13) k n T) at_formats Jd n

          pub sets_refused : {x : Refusal} → Judged (set_names e.tagged e.name_width k) f d (Err x) → Listed e o k f p (Err x)
          sets_refused j = refuse (set_names e.tagged e.name_width k) (λ n u. from_var_labels e o (done 13) k n T) at_sets j

          module _ {v : ℕ} (Jv : Judged (set_names e.tagged e.name_width k) f d (Ok v)) where
            at_labels : At (λ n. seq (var_labels e.tagged e.var_label_width k) (λ u. from_expansions e o (done 13) n T)) v
            unfolding from_var_labels
            at_labels n = past (set_names e.tagged e.name_width k) (λ n u. from_var_labels e o (done 13) k n T) at_sets Jv n

            pub labels_refused : {x : Refusal} → Judged (var_labels e.tagged e.var_label_width k) f v (Err x) → Listed e o k f p (Err x)
            labels_refused j = refuse (var_labels e.tagged e.var_label_width k) (λ n u. from_expansions e o (done 13) n T) at_labels j

            pub lists_met : {l : ℕ} → Judged (var_labels e.tagged e.var_label_width k) f v (Ok l) → Listed e o k f p (Ok (t ∷ m ∷ s ∷ d ∷ v ∷ l ∷ []))
            unfolding list_places
            lists_met {l} Jl =
                record {
                  types_right = sym Jt.code;
                  ends = rw (Jl.ends, Jv.ends, Jd.ends, Js.ends, Jm.ends, Jt.ends);
                  inside = Jl.inside;
                  decides = λ n. past (var_labels e.tagged e.var_label_width k) (λ n u. from_expansions e o (done 13) n T) at_labels Jl n;
                }
