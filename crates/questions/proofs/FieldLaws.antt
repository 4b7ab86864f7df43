-- The lists of variables in an accepted file: text fields, types, sort list.
use mathlib.Core.Path.{◌≡◌, refl, ap, ◌∙◌}
use Prim.Native.Nat.{ℕ, zero, suc, ◌+◌, ◌-◌, ◌*◌, ◌≤◌}
use native.Mathlib.Omega.{arith}
use mathlib.Core.List.{List, [], ◌∷◌}
use mathlib.Core.Bool.{Bool, true, false, cond}
use lib.ListN.{length, get_or, replicate}
use lib.Dec.{eqb}
use borrow.Author.Tests.{ne_eqb}
use Rattle.format.specs.Slot.{spare, Fits}
use Rattle.format.specs.Number.{Order, num_slots}
use Rattle.format.specs.Grammar.{text, text_at, Ended, ended_slots, ended, times, within, ruled, tag, between, all_slots, AllRight}
use Rattle.format.specs.Edition.{code_width, opening, closing, n_variable_types, n_varnames, n_sortlist}
use Rattle.format.specs.Variables.{VarType, byte_type, code_of, type_code, types, name, names, fresh, sort_list, fields}
use Rattle.format.proofs.SlotLaws.{fits_left, fits_right, length_tab}
use Rattle.format.proofs.Good.{good_right, text_good, between_fits, element}
use Rattle.format.proofs.VariableLaws.{name_good, name_wide, code_good, code_wide}
use Rattle.questions.specs.Readings.{got, text_in}
use Rattle.questions.specs.Ask.{part, slice, among, text_part, type_in, types_in, sort_in}
use Rattle.questions.specs.Fact.{sort_place}
use Rattle.questions.proofs.ReadLaws.{number_is, text_in_lem, text_part_lem, among_below}

-- ---- text fields

-- field i of a list of fields that starts at p
pub record TextField (w : ℕ) (f : List ℕ) (p : ℕ) (l : List (List ℕ)) (i : ℕ) : Type 0 where
  pub reads : text_in w f (p + (i - 1) * w) ≡ got (get_or l (i - 1) [])
  pub bytes : slice f (p + (i - 1) * w) (length (get_or l (i - 1) [])) ≡ get_or l (i - 1) []

field_of : (w : ℕ) (f : List ℕ) (q : ℕ) (t : List ℕ) → text_at w f q ≡ t → q + w ≤ length f → (text_in w f q ≡ got t) × (slice f q (length t) ≡ t)
field_of w f q t e b = (text_in_lem w f q b ∙ ap (λ (x : List ℕ). got x) e, rw e at (text_part_lem w f q b))

pub part_is : (w : ℕ) (f : List ℕ) (q : ℕ) (t : List ℕ) → text_in w f q ≡ got t → text_part w f q ≡ got (part q (length t))
part_is w f q t h = rw h

pub name_field : (t : Bool) (w k : ℕ) (f : List ℕ) (p : ℕ) (l : List (List ℕ)) (i : ℕ) → (names t w k).Right l → Fits f p ((names t w k).slots l) → among i k ≡ true
    → TextField w f (p + length (opening t n_varnames)) l i
unfolding names name between tag
name_field t w k f p l i r m b =
    let a = between_fits (opening t n_varnames) (closing t n_varnames) (within (k * w) (times (name w) k)) l f p m in
    let c = element (name w) (name_good w) (name_wide w) [] l f (p + length (opening t n_varnames)) (i - 1) r.1.0.1 a
    (rw r.1.0.0 (among_below i k b)) in
    let d = field_of w f _ _ c.reads c.inside in
    record { reads = d.0; bytes = d.1 }

pub text_field_lem : (t : Bool) (n : List ℕ) (w k : ℕ) (f : List ℕ) (p : ℕ) (l : List (List ℕ)) (i : ℕ) → (fields t n w k).Right l → Fits f p ((fields t n w k).slots l)
    → among i k ≡ true → TextField w f (p + length (opening t n)) l i
unfolding fields between tag
text_field_lem t n w k f p l i r m b =
    let a = between_fits (opening t n) (closing t n) (within (k * w) (times (text w 7) k)) l f p m in
    let c = element (text w 7) (text_good w 7 (omega arith)) (λ a r. refl) [] l f (p + length (opening t n)) (i - 1) r.1.0.1 a
    (rw r.1.0.0 (among_below i k b)) in
    let d = field_of w f _ _ c.reads c.inside in
    record { reads = d.0; bytes = d.1 }

-- ---- types

pub type_at : (t : Bool) (o : Order) (f : List ℕ) (p : ℕ) (x : VarType) → (type_code t o).Right x → Fits f p ((type_code t o).slots x) → type_in t o f p ≡ got x
unfolding type_code
type_at t o f p x r m = rw (number_is o (code_width t) (code_of t x) f p r.0.0 m, r.0.1, r.1)

types_at : (t : Bool) (o : Order) (f : List ℕ) (l : List VarType) (p : ℕ) → AllRight (type_code t o) l → Fits f p (all_slots (type_code t o) l)
    → types_in t o f (length l) p ≡ got l
types_at t o f [] p r m = refl
types_at t o f (x ∷ l) p r m =
    let a = type_at t o f p x r.0 (fits_left f p ((type_code t o).slots x) (all_slots (type_code t o) l) m) in
    let b = good_right (type_code t o) (code_good t o) f p x (all_slots (type_code t o) l) m in
    let c = rw (code_wide t o x r.0) at b in
    rw (a, types_at t o f l (p + code_width t) r.1 c)

pub own_types : (t : Bool) (o : Order) (k : ℕ) (f : List ℕ) (p : ℕ) (l : List VarType) → (types t o k).Right l → Fits f p ((types t o k).slots l)
    → types_in t o f k (p + length (opening t n_variable_types)) ≡ got l
unfolding types between tag
own_types t o k f p l r m =
    rw r.1.0.0 at
    (types_at t o f l (p + length (opening t n_variable_types)) r.1.0.1
    (between_fits (opening t n_variable_types) (closing t n_variable_types) (within (k * code_width t) (times (type_code t o) k)) l f p m))

pub own_type : (t : Bool) (o : Order) (k : ℕ) (f : List ℕ) (p : ℕ) (l : List VarType) (i : ℕ) → (types t o k).Right l → Fits f p ((types t o k).slots l) → among i k ≡ true
    → type_in t o f (p + length (opening t n_variable_types) + (i - 1) * code_width t) ≡ got (get_or l (i - 1) byte_type)
unfolding types between tag
own_type t o k f p l i r m b =
    let a = between_fits (opening t n_variable_types) (closing t n_variable_types) (within (k * code_width t) (times (type_code t o) k)) l f p m in
    let c = element (type_code t o) (code_good t o) (code_wide t o) byte_type l f (p + length (opening t n_variable_types)) (i - 1) r.1.0.1 a
    (rw r.1.0.0 (among_below i k b)) in
    type_at t o f _ _ c.right c.fits

-- there are K of them
pub types_count : (t : Bool) (o : Order) (k : ℕ) (l : List VarType) → (types t o k).Right l → length l ≡ k
unfolding types between tag
types_count t o k l r = r.1.0.0

-- ---- sort list

sort_at : (o : Order) (f : List ℕ) (i n : ℕ) (l : List ℕ) (x p : ℕ) → Ended o 2 n l → Fits f p (ended_slots o 2 n l) → sort_in o f i n x p ≡ got (sort_place i x l)
sort_at o f i zero l x p r m = absurd r
sort_at o f i (suc n) [] x p r m = rw (number_is o 2 0 f p (omega arith) (fits_left f p (num_slots o 2 0) (replicate (n * 2) (spare 0)) m))
sort_at o f i (suc n) (v ∷ l) x p r m =
    let a = number_is o 2 v f p r.1 (fits_left f p (num_slots o 2 v) (ended_slots o 2 n l) m) in
    let b : Fits f (p + 2) (ended_slots o 2 n l) = rw length_tab at (fits_right f p (num_slots o 2 v) (ended_slots o 2 n l) m) in
    let z = ne_eqb v 0 (λ y. (let g : v ≡ 0 = y in omega (arith, r.0))) in
    rw (a, z) (go (eqb v i) refl (sort_at o f i n l (suc x) (p + 2) r.2 b))
  where
    go : (t : Bool) → eqb v i ≡ t → sort_in o f i n (suc x) (p + 2) ≡ got (sort_place i (suc x) l)
        → cond (eqb v i) (got (suc x)) (sort_in o f i n (suc x) (p + 2)) ≡ got (cond (eqb v i) (suc x) (sort_place i (suc x) l))
    go true e h = rw e
    go false e h = rw e h

pub own_sort : (t : Bool) (o : Order) (k : ℕ) (f : List ℕ) (p : ℕ) (l : List ℕ) (i : ℕ) → (sort_list t o k).Right l → Fits f p ((sort_list t o k).slots l)
    → sort_in o f i (suc k) 0 (p + length (opening t n_sortlist)) ≡ got (sort_place i 0 l)
unfolding sort_list between tag
own_sort t o k f p l i r m =
    sort_at o f i (suc k) l 0 (p + length (opening t n_sortlist)) r.1.0.0
    (between_fits (opening t n_sortlist) (closing t n_sortlist) (within (suc k * 2) (ruled (ended o 2 (suc k) 8) (fresh k []) 8)) l f p m)
