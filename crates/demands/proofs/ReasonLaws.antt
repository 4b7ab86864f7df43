-- The reason of each number: the verdict is that number exactly if what the number says stands in the file.
use mathlib.Core.Path.{◌≡◌, refl, sym, ◌∙◌}
use Prim.Native.Nat.{ℕ, suc, ◌+◌, ◌*◌}
use native.Mathlib.Omega.{arith}
use mathlib.Core.List.{List, []}
use mathlib.Core.Logic.{◌⊎◌}
use mathlib.Core.Bool.{Bool, true, false, not}
use lib.ListN.{length}
use lib.Dec.{eqb}
use Rattle.format.specs.Number.{Order, num}
use Rattle.format.specs.Grammar.{Sect, ruled, times, ended, done, same_at}
use Rattle.format.specs.Edition.{Edition, start, code_width, opening, closing, n_variable_types, n_sortlist}
use Rattle.format.specs.Variables.{VarType, has_type, type_by, type_code, types, fresh, sort_list}
use Rattle.format.specs.Dta.{map_rule, sections, file_to, edition_of, order_of, verdict}
use Rattle.demands.specs.Logic.{Iff}
use Rattle.demands.specs.Places.{k_in, n_in, types_in, types_at, sort_at, names_at, formats_at, BeforeHeader}
use Rattle.demands.specs.Reasons.{TypeUnknown, SortBroken}
use Rattle.demands.proofs.NumberLaws.{unless_listed, done_numbered, names_on, formats_on, known_begins}
use Rattle.demands.proofs.PlaceLaws.{Own, own, but, first, first_is, cut_types, cut_sort, from_types_lem, from_sort, to_types, to_sort}
use Rattle.demands.proofs.VerdictLaws.{first_verdict, past_start}
use Rattle.demands.proofs.PartLaws.{part_of, of_part, some_of, of_some, unless_two, unless_false, unended_of, of_unended}

-- ---- a number that the map doesn't give is due in the sections

module _ (f : List ℕ) (c : ℕ) (w : Own c) where
  abbrev e : Edition
  e = edition_of f

  abbrev o : Order
  o = order_of f

  -- what the sections give
  pub of_sections : BeforeHeader e o f → (sections e o (done 13)).judge f 0 ≡ c → verdict f ≡ c
  unfolding file_to
  of_sections b h = first_verdict f b.0 b.1 ∙ first_is ((sections e o (done 13)).judge f 0) _ c (rw w.none) h

  pub in_sections : not (eqb 10 c) ≡ true → verdict f ≡ c → BeforeHeader e o f × ((sections e o (done 13)).judge f 0 ≡ c)
  unfolding file_to
  in_sections h10 h =
      let a = past_start f c (omega (arith, w.past)) h in
      (a.0, first ((sections e o (done 13)).judge f 0) _ c (unless_listed (but c w) (map_rule e o ((sections e o (done 13)).read f 0)) 10 h10) a.1)

  -- so its reason is one that the sections have
  pub reason : {X : Type 0} → not (eqb 10 c) ≡ true → (BeforeHeader e o f → same_at (start e) f 0 ≡ true → (sections e o (done 13)).judge f 0 ≡ c → X)
      → (X → BeforeHeader e o f) → (X → (sections e o (done 13)).judge f 0 ≡ c) → Iff (verdict f ≡ c) X
  reason h10 to before from = (
    λ h. (let a = in_sections h10 h in to a.0 (known_begins f a.0.1) a.1),
    λ x. of_sections (before x) (from x),
  )

-- ---- 6

six : Own 6
six = own 6 (omega arith)

-- a code is unknown or not
code_two : (t : Bool) (o : Order) (f : List ℕ) (q : ℕ) → ((type_code t o).judge f q ≡ 0) ⊎ ((type_code t o).judge f q ≡ 6)
unfolding type_code
code_two t o f q = unless_two (has_type t (type_by t (num o (code_width t) f q))) 6

code_unknown : (t : Bool) (o : Order) (f : List ℕ) (q : ℕ) → (type_code t o).judge f q ≡ 6 → has_type t (type_by t (num o (code_width t) f q)) ≡ false
unfolding type_code
code_unknown t o f q h = unless_false (has_type t (type_by t (num o (code_width t) f q))) 6 refl h

unknown_code : (t : Bool) (o : Order) (f : List ℕ) (q : ℕ) → has_type t (type_by t (num o (code_width t) f q)) ≡ false → (type_code t o).judge f q ≡ 6
unfolding type_code
unknown_code t o f q h = rw h

code_wide : (t : Bool) (o : Order) (a : VarType) → (type_code t o).size a ≡ code_width t
unfolding type_code
code_wide t o a = refl

module _ (e : Edition) (o : Order) (f : List ℕ) where
  -- the part of the types, and what is judged in it
  abbrev codes : Sect (List VarType)
  codes = times (type_code e.tagged o) (k_in e o f)

  unknown_of : BeforeHeader e o f → same_at (start e) f 0 ≡ true → (sections e o (done 13)).judge f 0 ≡ 6 → TypeUnknown e o f
  unfolding types
  unknown_of b s h =
      let P = but 6 six in
      let a = to_types e o (done 13) f 6 six refl s b h in
      let q = types_at e o f in
      let j = first ((types e.tagged o (k_in e o f)).judge f q) _ 6
      ((names_on P e o (done 13) (done_numbered P 13 refl) refl refl refl refl refl (k_in e o f) (n_in e o f) (types_in e o f)).given f (names_at e o f))
      (sym (cut_types e o (done 13) f) ∙ a.1) in
      let x = part_of (opening e.tagged n_variable_types) (closing e.tagged n_variable_types) (k_in e o f * code_width e.tagged) codes f q 6 six j in
      let c = some_of (type_code e.tagged o) (code_width e.tagged) (code_wide e.tagged o) f 6 refl (k_in e o f) _ x.1 in
      record { before = a.0; opened = x.0; variable = c.0; inside = c.1; unknown = code_unknown e.tagged o f _ c.2 }

  of_unknown : TypeUnknown e o f → (sections e o (done 13)).judge f 0 ≡ 6
  unfolding types
  of_unknown x =
      let q = types_at e o f in
      let j = of_some (type_code e.tagged o) (code_width e.tagged) (code_wide e.tagged o) f 6 refl (code_two e.tagged o f) (k_in e o f)
      (q + length (opening e.tagged n_variable_types)) x.variable x.inside (unknown_code e.tagged o f _ x.unknown) in
      from_types_lem e o (done 13) f x.before ∙ cut_types e o (done 13) f
      ∙ first_is _ _ 6 refl
      (of_part (opening e.tagged n_variable_types) (closing e.tagged n_variable_types) (k_in e o f * code_width e.tagged) codes f q 6 six x.opened j)

pub type_unknown : (f : List ℕ) → Iff (verdict f ≡ 6) (TypeUnknown (edition_of f) (order_of f) f)
type_unknown f =
    reason f 6 six refl (unknown_of (edition_of f) (order_of f) f) (λ x. x.before.0.0) (of_unknown (edition_of f) (order_of f) f)

-- ---- 8

eight : Own 8
eight = own 8 (omega arith)

module _ (e : Edition) (o : Order) (f : List ℕ) where
  -- what is judged in the part of the sort list
  abbrev entries : Sect (List ℕ)
  entries = ruled (ended o 2 (suc (k_in e o f)) 8) (fresh (k_in e o f) []) 8

  unsorted_of : BeforeHeader e o f → same_at (start e) f 0 ≡ true → (sections e o (done 13)).judge f 0 ≡ 8 → SortBroken e o f
  unfolding sort_list
  unsorted_of b s h =
      let P = but 8 eight in
      let a = to_sort e o (done 13) f 8 eight refl s refl refl b h in
      let q = sort_at e o f in
      let j = first ((sort_list e.tagged o (k_in e o f)).judge f q) _ 8
      ((formats_on P e o (done 13) (done_numbered P 13 refl) refl refl refl refl (k_in e o f) (n_in e o f) (types_in e o f)).given f (formats_at e o f))
      (sym (cut_sort e o (done 13) f) ∙ a.1) in
      let x = part_of (opening e.tagged n_sortlist) (closing e.tagged n_sortlist) (suc (k_in e o f) * 2) entries f q 8 eight j in
      record { before = a.0; opened = x.0; broken = unended_of o 2 (suc (k_in e o f)) (fresh (k_in e o f) []) f _ 8 refl x.1 }

  of_unsorted : SortBroken e o f → (sections e o (done 13)).judge f 0 ≡ 8
  unfolding sort_list
  of_unsorted x =
      let q = sort_at e o f in
      from_sort e o (done 13) f x.before ∙ cut_sort e o (done 13) f
      ∙ first_is _ _ 8 refl
      (of_part (opening e.tagged n_sortlist) (closing e.tagged n_sortlist) (suc (k_in e o f) * 2) entries f q 8 eight x.opened
      (of_unended o 2 (suc (k_in e o f)) (fresh (k_in e o f) []) f _ 8 refl x.broken))

pub sort_broken : (f : List ℕ) → Iff (verdict f ≡ 8) (SortBroken (edition_of f) (order_of f) f)
sort_broken f =
    reason f 8 eight refl (unsorted_of (edition_of f) (order_of f) f) (λ x. x.before.0.0.0.0) (of_unsorted (edition_of f) (order_of f) f)
