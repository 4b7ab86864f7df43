-- The map and the lists of variables are good.
use mathlib.Core.Path.{◌≡◌, refl, sym, ap, ◌∙◌, subst}
use Prim.Native.Nat.{ℕ, zero, suc, ◌+◌, ◌-◌, ◌*◌, ◌%◌, ◌^◌, ◌≤◌, ◌<◌}
use native.Mathlib.Omega.{arith}
use mathlib.Core.List.{List, [], ◌∷◌, ◌++◌, map}
use mathlib.Core.Bool.{Bool, true, false, cond, not, ◌&&◌, ◌||◌}
use lib.ListN.{length, get_or}
use lib.Dec.{eqb, leb, ltb}
use borrow.Author.Tests.{eqb-true, eqb-false, eq-eqb, ne_eqb, lt-ltb, le-ltb, not-true}
use Rattle.format.specs.Slot.{Fits, byte}
use Rattle.format.specs.Number.{Order, msf, lsf}
use Rattle.format.specs.Grammar.{Sect, within, number, text, ruled, times, coded, ended, between}
use Rattle.format.specs.Edition.{code_width, text_max, map_count, n_map, n_variable_types, n_varnames, n_sortlist, n_formats, n_value_label_names, n_variable_labels}
use Rattle.format.specs.Variables.{file_map, VarType, text_type, strl_type, byte_type, int_type, long_type, float_type, double_type, code_of, type_by, has_type, type_code, types, nonempty, name, names, fresh, sort_list, fields, formats, set_names, var_labels}
use Rattle.format.proofs.Good.{Good, number_good, text_good, within_good, ruled_good, coded_good, times_size, times_good}
use Rattle.format.proofs.EndedLaws.{ended_good}
use Rattle.format.proofs.TagLaws.{all_bytes, part_good}

-- n sections of one width
pub list_good : {w : ℕ} {A : Type 0} (S : Sect A) (wide : (a : A) → S.Right a → S.size a ≡ w) (G : Good w ◌≤◌ S) (k : ℕ) → Good 0 ◌≤◌ (within (k * w) (times S k))
list_good {w} S wide G k =
    within_good _ (times_good S wide G k) (λ l r. times_size S wide G l r.1 ∙ ap (λ (n : ℕ). n * w) r.0)

pub map_good : (t : Bool) (o : Order) → Good 0 ◌≤◌ (file_map t o)
unfolding file_map
map_good t o = part_good t n_map _ refl (list_good (number o 8) (λ a r. refl) (number_good o 8) (map_count t))

-- ---- types

code_pick : (t : Bool) (c k : ℕ) (x y : VarType) → code_of t x ≡ k → code_of t y ≡ c → code_of t (cond (eqb c k) x y) ≡ c
code_pick t c k x y p q = go (eqb c k) refl
  where
    go : (b : Bool) → eqb c k ≡ b → code_of t (cond (eqb c k) x y) ≡ c
    go true e = rw e (p ∙ sym (eqb-true c k e))
    go false e = rw e q

pub code_type : (t : Bool) (c : ℕ) → code_of t (type_by t c) ≡ c
code_type t c =
    code_pick t c (code_of t byte_type) byte_type _ refl
    (code_pick t c (code_of t int_type) int_type _ refl
    (code_pick t c (code_of t long_type) long_type _ refl
    (code_pick t c (code_of t float_type) float_type _ refl
    (code_pick t c (code_of t double_type) double_type _ refl
    (code_pick t c (code_of t strl_type) strl_type _ refl refl)))))

pub code_good : (t : Bool) (o : Order) → Good (code_width t) ◌≤◌ (type_code t o)
unfolding type_code
code_good t o = ruled_good _ (coded_good _ (number_good o (code_width t)) (type_by t) (code_of t) (λ c r. code_type t c)) (has_type t) 6 (omega arith)

pub code_wide : (t : Bool) (o : Order) (x : VarType) → (type_code t o).Right x → (type_code t o).size x ≡ code_width t
unfolding type_code
code_wide t o x r = refl

pub types_good : (t : Bool) (o : Order) (k : ℕ) → Good 0 ◌≤◌ (types t o k)
unfolding types
types_good t o k = part_good t n_variable_types _ refl (list_good (type_code t o) (code_wide t o) (code_good t o) k)

-- ---- names, sort list, text fields

pub name_good : (w : ℕ) → Good w ◌≤◌ (name w)
unfolding name
name_good w = ruled_good _ (text_good w 7 (omega arith)) nonempty 7 (omega arith)

pub name_wide : (w : ℕ) (t : List ℕ) → (name w).Right t → (name w).size t ≡ w
unfolding name
name_wide w t r = refl

pub names_good : (t : Bool) (w k : ℕ) → Good 0 ◌≤◌ (names t w k)
unfolding names
names_good t w k = part_good t n_varnames _ refl (list_good (name w) (name_wide w) (name_good w) k)

pub sort_good : (t : Bool) (o : Order) (k : ℕ) → Good 0 ◌≤◌ (sort_list t o k)
unfolding sort_list
sort_good t o k =
    part_good t n_sortlist _ refl (within_good _ (ruled_good _ (ended_good o 2 (suc k) 8 (omega arith)) (fresh k []) 8 (omega arith)) (λ l r. refl))

pub fields_good : (t : Bool) (n : List ℕ) (w k : ℕ) → all_bytes n ≡ true → Good 0 ◌≤◌ (fields t n w k)
unfolding fields
fields_good t n w k h = part_good t n _ h (list_good (text w 7) (λ a r. refl) (text_good w 7 (omega arith)) k)
