-- All sections of a file, one after another.
use mathlib.Core.Path.{◌≡◌, refl, sym, ap, ◌∙◌, subst}
use Prim.Native.Nat.{ℕ, ◌+◌, ◌*◌, ◌≤◌}
use native.Mathlib.Omega.{arith}
use mathlib.Core.List.{List, [], ◌∷◌}
use mathlib.Core.Bool.{Bool, true, false, cond}
use lib.ListN.{length, get_or}
use Rattle.format.specs.Number.{Order}
use Rattle.format.specs.Grammar.{Sect, need, seq, next, done, within, times, read_times, judge_times, tag}
use Rattle.format.specs.Edition.{Edition, code_width, opening, closing, n_variable_types, n_stata_dta}
use Rattle.format.specs.Header.{header}
use Rattle.format.specs.Variables.{VarType, file_map, type_code, types}
use Rattle.format.specs.Expansion.{expansions}
use Rattle.format.specs.Data.{Cell, observations, strls}
use Rattle.format.specs.Dta.{Parts, from_data, from_expansions, from_var_labels, from_set_names, from_formats, from_sort_list, from_names, from_types, from_map, sections}
use Rattle.format.proofs.Good.{also_left, also_right}
use Rattle.format.proofs.StepLaws.{stop, on, between_judge, between_read, within_room, Met}
use Rattle.std.specs.Prelude.{Result, Ok, Err}
use Rattle.refusal.specs.declared.Refusal.{Refusal}
use Rattle.refusal.specs.Refusals.{number_of}
use Rattle.section.proofs.StepLaws.{some_number}
use Rattle.header.specs.declared.Head.{Head}
use Rattle.header.specs.Heads.{Headed}
use Rattle.map.specs.Maps.{MapJudged}
use Rattle.lists.specs.Walks.{list_places, ListsMet, Listed}
use Rattle.data.specs.Places.{Typed}
use Rattle.checking.specs.Walks.{rest_places, Rested, Sectioned}
use Rattle.checking.proofs.PlaceLaws.{blocks_next, places_all}

pub types_tag : (t : Bool) → cond t 16 0 ≡ length (opening t n_variable_types)
types_tag true = refl
types_tag false = refl

-- ---- the types

module _ (t : Bool) (o : Order) (k : ℕ) (f : List ℕ) (p : ℕ) where
  abbrev first : ℕ
  first = p + length (opening t n_variable_types)

  codes : (types t o k).judge f p ≡ 0 → (within (k * code_width t) (times (type_code t o) k)).judge f first ≡ 0
  unfolding types
  codes h =
      let S = within (k * code_width t) (times (type_code t o) k) in
      let l = opening t n_variable_types in
      let r = closing t n_variable_types in
      also_left (S.judge f first) ((tag r 4).judge f (next S f first))
      (also_right ((tag l 4).judge f p) _ (sym (between_judge l r S f p) ∙ h))

  -- types that are right, with their list at q
  pub types_typed : (q : ℕ) → q ≡ first → k ≤ 32767 → (types t o k).judge f p ≡ 0 → Typed t o f q k
  types_typed q e b h =
      subst (λ (x : ℕ). Typed t o f x k) (sym e)
      (record {
        few = b;
        inside = within_room (k * code_width t) (times (type_code t o) k) f first (codes h);
        right = also_right (need (k * code_width t) f first) (judge_times (type_code t o) k f first) (codes h);
      })

  pub types_read : (q : ℕ) → q ≡ first → read_times (type_code t o) k f q ≡ (types t o k).read f p
  unfolding types
  types_read q e = ap (λ (x : ℕ). read_times (type_code t o) k f x) e ∙ sym (between_read (opening t n_variable_types) (closing t n_variable_types) (within (k * code_width t) (times (type_code t o) k)) f p)

-- ---- from section to section

module _ (e : Edition) (o : Order) (f : List ℕ) where
  abbrev S : Sect Parts
  S = sections e o (done 13)

  abbrev said : Parts
  said = S.read f 0

  abbrev K : ℕ
  K = ((header e o).read f 0).0

  abbrev N : ℕ
  N = ((header e o).read f 0).1.0

  head_k : K ≡ said.0.0
  unfolding sections
  head_k = refl

  head_n : N ≡ said.0.1.0
  unfolding sections
  head_n = refl

  -- T at q decides
  abbrev At : {A : Type 0} → Sect A → ℕ → Type 0
  At T q = S.judge f 0 ≡ T.judge f q

  -- a section there is refused
  refuse : {A B : Type 0} (T : Sect A) (U : A → Sect B) {q : ℕ} → At (seq T U) q → {c : Refusal} → number_of c ≡ T.judge f q → Sectioned e o f (Err c)
  refuse T U here {c} h = record { code = sym (stop T U f here (number_of c) h (some_number c)); met = tt }

  at_header : At (seq (header e o) (λ h. from_map e o (done 13) h.0 h.1.0)) 0
  unfolding sections
  at_header = refl

  pub header_refused : {c : Refusal} → Headed (header e o) f (Err c) → Sectioned e o f (Err c)
  header_refused j = refuse (header e o) (λ x. from_map e o (done 13) x.0 x.1.0) at_header j.code

  module _ {h : Head} (H : Headed (header e o) f (Ok h)) where
    at_map : At (seq (file_map e.tagged o) (λ m. from_types e o (done 13) K N)) h.at
    unfolding from_map
    at_map = on (header e o) (λ x. from_map e o (done 13) x.0 x.1.0) f at_header h.at H.code H.says.ends

    pub map_refused : {c : Refusal} → MapJudged e.tagged f h.at (Err c) → Sectioned e o f (Err c)
    map_refused j = refuse (file_map e.tagged o) (λ x. from_types e o (done 13) K N) at_map (j o).code

    module _ {m : ℕ} (M : MapJudged e.tagged f h.at (Ok m)) where
      at_lists : At (from_types e o (done 13) K N) m
      at_lists = on (file_map e.tagged o) (λ x. from_types e o (done 13) K N) f at_map m (M o).code (M o).ends

      -- what the types say
      types_said : (types e.tagged o K).read f m ≡ said.1.1.0
      unfolding sections from_map from_types
      types_said = rw ((M o).ends, H.says.ends)

      abbrev P : ℕ → ℕ
      P i = get_or (list_places e o K f m) i 0

      pub lists_refused : {c : Refusal} → Listed e o h.k f m (Err c) → Sectioned e o f (Err c)
      lists_refused {c} l = record { code = subst (λ (x : ℕ). Listed e o x f m (Err c)) H.says.count l N ∙ sym at_lists; met = tt }

      module _ {l : List ℕ} (L' : ListsMet e o h.k f m l) where
        L : ListsMet e o K f m l
        L = subst (λ (x : ℕ). ListsMet e o x f m l) H.says.count L'

        abbrev end : ℕ
        end = get_or l 5 0

        at_rest : At (from_expansions e o (done 13) N ((types e.tagged o K).read f m)) end
        at_rest = at_lists ∙ L.decides N

        module _ (q : ℕ) (g : q ≡ m + length (opening e.tagged n_variable_types)) where
          -- the types are in the file, and right
          pub lists_typed : Typed e.tagged o f q h.k
          lists_typed = types_typed e.tagged o h.k f m q g H.says.few L'.types_right

          pub lists_room : q ≤ length f
          lists_room = omega (arith, lists_typed.inside)

          rested : {r : Result (List ℕ) Refusal} → Rested e o h.n (read_times (type_code e.tagged o) h.k f q) f end r → Rested e o N ((types e.tagged o K).read f m) f end r
          rested {r} R =
              subst (λ (x : List VarType). Rested e o N x f end r)
              (types_read e.tagged o h.k f m q g ∙ ap (λ (x : ℕ). (types e.tagged o x).read f m) H.says.count)
              (subst (λ (x : ℕ). Rested e o x (read_times (type_code e.tagged o) h.k f q) f end r) H.says.rows R)

          pub rest_refused : {c : Refusal} → Rested e o h.n (read_times (type_code e.tagged o) h.k f q) f end (Err c) → Sectioned e o f (Err c)
          rest_refused j = record { code = (rested j).code ∙ sym at_rest; met = tt }

          module _ {r : List ℕ} (R' : Rested e o h.n (read_times (type_code e.tagged o) h.k f q) f end (Ok r)) where
            R : Rested e o N ((types e.tagged o K).read f m) f end (Ok r)
            R = rested R'

            -- the positions of the rest
            abbrev Q : ℕ → ℕ
            Q i = get_or (rest_places e o N ((types e.tagged o K).read f m) f end) i 0

            ends : end ≡ P 5
            ends = ap (λ (x : List ℕ). get_or x 5 0) L.ends

            -- what the data says
            cells_said : (observations e.tagged o e.v_width e.o_width ((types e.tagged o K).read f m) N).read f (Q 0) ≡ said.1.1.1.1.1.1.1.1.1.0
            unfolding list_places rest_places sections from_map from_types from_names from_sort_list from_formats from_set_names from_var_labels from_expansions from_data
            cells_said = rw (ends, (M o).ends, H.says.ends)

            met : Met e o f said h.at m (P 0) (P 1) (P 2) (P 3) (P 4) (P 5) (Q 0) (Q 1) (Q 2)
            unfolding list_places rest_places sections
            met =
                record {
                  header_ends = H.says.ends;
                  map_ends = (M o).ends;
                  types_end = refl;
                  names_end = refl;
                  sort_ends = refl;
                  formats_end = refl;
                  sets_end = refl;
                  labels_end = refl;
                  expansions_end = ap (λ (x : ℕ). next (expansions e.tagged o) f x) ends;
                  data_ends = ap (λ (x : List VarType). next (observations e.tagged o e.v_width e.o_width x N) f (Q 0)) types_said;
                  strls_end = ap (λ (x : List (List Cell)). next (strls e.tagged o e.record_width x) f (Q 1)) cells_said;
                }

            -- all fourteen
            abbrev placed : List ℕ → List ℕ → List ℕ
            placed x y =
                0 ∷ h.at ∷ m ∷ get_or x 0 0 ∷ get_or x 1 0 ∷ get_or x 2 0 ∷ get_or x 3 0 ∷ get_or x 4 0 ∷ get_or x 5 0
                ∷ get_or y 0 0 ∷ get_or y 1 0 ∷ get_or y 2 0 ∷ get_or y 3 0 ∷ get_or y 4 0 ∷ []

            filled : placed l r ≡ 0 ∷ h.at ∷ m ∷ P 0 ∷ P 1 ∷ P 2 ∷ P 3 ∷ P 4 ∷ P 5 ∷ Q 0 ∷ Q 1 ∷ Q 2 ∷ Q 3 ∷ length f ∷ []
            unfolding rest_places
            filled = ap (λ (x : List ℕ). placed x r) L.ends ∙ ap (placed (list_places e o K f m)) R.met.places

            last : Q 3 + length (closing e.tagged n_stata_dta) ≡ length f
            unfolding rest_places
            last = omega (arith, R.met.blocks_end, blocks_next e o f (Q 2))

            pub sections_met : Sectioned e o f (Ok (record { k = h.k; n = h.n; map = h.at; places = placed l r }))
            sections_met =
                record {
                  code = R.code ∙ sym at_rest;
                  met =
                      record {
                        variables = H.says.count ∙ head_k;
                        rows = H.says.rows ∙ head_n;
                        map_ends = H.says.ends;
                        map_inside = subst (λ (x : ℕ). x ≤ length f) (M o).ends (M o).inside;
                        places = filled ∙ places_all e o f h.at m (P 0) (P 1) (P 2) (P 3) (P 4) (P 5) (Q 0) (Q 1) (Q 2) met (Q 3) (length f) R.met.blocks_end last;
                      };
                }
