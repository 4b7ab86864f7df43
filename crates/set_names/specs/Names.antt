-- Label-set names in order.
use Rattle.std.specs.Prelude.{◌≡◌, ℕ, zero, suc, ◌+◌, ◌-◌, ◌≤◌, ◌<◌, List, [], ◌∷◌, Bool, true, false, cond, not, ◌&&◌, length, get_or, eqb, ltb, Result}
use Rattle.std.specs.Result.{result_unwrap_or}
use Rattle.format.specs.Dta.{Layout}
use Rattle.questions.specs.Ask.{answer_of, ask_set, slice, shown}
use Rattle.refusal.specs.declared.Refusal.{Refusal}
use Rattle.answers.specs.declared.Part.{Part}
use Rattle.answers.specs.Answers.{part_by}

-- the label-set name of variable i; empty where it is refused
unfoldable pub name_of : List ℕ → Layout → ℕ → List ℕ
name_of f l i = shown f (answer_of f l (ask_set i))

-- where it stands; of a refusal place and length are 0
abbrev pub name_by : Result Part Refusal → Part
name_by r = result_unwrap_or r (record { at = 0; len = 0 })

-- r is where it stands
pub record IsName (f : List ℕ) (l : Layout) (i : ℕ) (r : Part) : Type 0 where
  pub place : r ≡ name_by (part_by (answer_of f l (ask_set i)))
  pub is : slice f r.at r.len ≡ name_of f l i
  pub inside : r.at + r.len ≤ length f

-- s stands before t: by the first byte that differs, and before what it begins
abbrev pub less : List ℕ → List ℕ → Bool
less s [] = false
less [] (y ∷ t) = true
less (x ∷ s) (y ∷ t) = cond (eqb x y) (less s t) (ltb x y)

module _ (f : List ℕ) (l : Layout) (v : List ℕ) where
  -- the name of the variable at place k of the list v, counted from 0
  abbrev pub name_at : ℕ → List ℕ
  name_at k = name_of f l (get_or v k 0)

  -- none of the first n names after the one at place 0 stands before the one that it follows
  unfoldable pub ordered_to : ℕ → Bool
  ordered_to zero = true
  ordered_to (suc n) = ordered_to n && not (less (name_at (suc n)) (name_at n))

  -- the variables are listed in the order of their names
  abbrev pub in_order : Bool
  in_order = ordered_to (length v - 1)

  -- r is how many of the names stand before s: those listed first
  pub record IsFirst (s : List ℕ) (r : ℕ) : Type 0 where
    pub upto : r ≤ length v
    pub before : (k : ℕ) → k < r → less (name_at k) s ≡ true
    pub after : (k : ℕ) → r ≤ k → k < length v → less (name_at k) s ≡ false
