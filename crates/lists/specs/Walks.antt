-- What going through the lists of a file promises.
use Rattle.std.specs.Prelude.{◌≡◌, ℕ, ◌≤◌, List, [], ◌∷◌, length, get_or, Result, Ok, Err}
use Rattle.refusal.specs.declared.Refusal.{Refusal}
use Rattle.refusal.specs.Refusals.{number_of}
use Rattle.format.specs.Number.{Order}
use Rattle.format.specs.Grammar.{next, done}
use Rattle.format.specs.Edition.{Edition}
use Rattle.format.specs.Variables.{types, names, sort_list, formats, set_names, var_labels}
use Rattle.format.specs.Dta.{from_types, from_expansions}
use Rattle.editions.specs.declared.Edition as Code

-- the text fields of an edition are narrow enough that 32,767 of them can be counted
pub record Narrow (e : Code.Edition) : Type 0 where
  pub names : e.name_width ≤ 65535
  pub formats : e.format_width ≤ 65535
  pub labels : e.var_label_width ≤ 65535

-- the positions 3 to 8 of a file with the types of k variables at place p: names, sort list, display formats, label-set names, variable
-- labels, and what follows them
unfoldable pub list_places : Edition → Order → ℕ → List ℕ → ℕ → List ℕ
list_places e o k f p =
    let a = next (types e.tagged o k) f p in
    let b = next (names e.tagged e.name_width k) f a in
    let c = next (sort_list e.tagged o k) f b in
    let d = next (formats e.tagged e.format_width k) f c in
    let v = next (set_names e.tagged e.name_width k) f d in
    let l = next (var_labels e.tagged e.var_label_width k) f v in
    a ∷ b ∷ c ∷ d ∷ v ∷ l ∷ []

-- the lists of k variables at place p of f were met, and end at r
pub record ListsMet (e : Edition) (o : Order) (k : ℕ) (f : List ℕ) (p : ℕ) (r : List ℕ) : Type 0 where
  pub types_right : (types e.tagged o k).judge f p ≡ 0
  pub ends : r ≡ list_places e o k f p
  pub inside : get_or r 5 0 ≤ length f
  -- what follows them decides
  pub decides : (n : ℕ) → (from_types e o (done 13) k n).judge f p ≡ (from_expansions e o (done 13) n ((types e.tagged o k).read f p)).judge f (get_or r 5 0)

-- r is the answer for the lists of k variables at place p of f
abbrev pub Listed : Edition → Order → ℕ → List ℕ → ℕ → Result (List ℕ) Refusal → Type 0
Listed e o k f p (Ok r) = ListsMet e o k f p r
Listed e o k f p (Err x) = (n : ℕ) → number_of x ≡ (from_types e o (done 13) k n).judge f p
