-- The label tables of many variables, as numbers.
use Rattle.std.specs.Prelude.{◌≡◌, ℕ, zero, suc, ◌<◌, List, ◌⊎◌, Bool, cond, ◌&&◌, length, get_or, eqb, leb, Option, None, Some, IfSome, Result, Ok, Err}
use Rattle.format.specs.Number.{Order}
use Rattle.format.specs.Dta.{Layout, same_list}
use Rattle.questions.specs.Ask.{answer_of, ask_set, ask_table}
use Rattle.refusal.specs.declared.Refusal.{Refusal}
use Rattle.refusal.specs.declared.Refusal.TheVariants.{NotThere, NotReadable}
use Rattle.refusal.specs.Refusals as Refusals
use Rattle.answers.specs.declared.Part.{Part}
use Rattle.answers.specs.Answers.{part_by}
use Rattle.walks.specs.declared.LabelSet.{LabelSet}
use Rattle.walks.specs.Answers.{set_by, lenless}
use Rattle.walks.specs.Walks.{block_labels}
use Rattle.set_names.specs.Names.{name_at, in_order}

-- without labels, or refused
abbrev pub unlabelled : Result (Unit {0}) Refusal → Result (Option LabelSet) Refusal
unlabelled (Ok u) = Ok None
unlabelled (Err e) = Err e

-- the label set of a number, but for its length: 0 where no block was found, which gives the answer r; 1 and 2 refused with 16 and 17; 3 without labels; else
-- four more than the place of its table
abbrev pub table_of : Result (Unit {0}) Refusal → ℕ → Result (Option LabelSet) Refusal
table_of r zero = unlabelled r
table_of r (suc zero) = Err NotThere
table_of r (suc (suc zero)) = Err NotReadable
table_of r (suc (suc (suc zero))) = Ok None
table_of r (suc (suc (suc (suc p)))) = Ok (Some (record { at = p; len = 0 }))

-- no block was found for the variable at place k, and its name is s
abbrev pub is_next : List ℕ → Layout → List ℕ → List ℕ → List ℕ → ℕ → Bool
is_next f l v s t k = eqb (get_or t k 0) 0 && same_list (name_at f l v k) s

-- the number at place k of t, where the name at place k of v is s and no block was found for it: x; else as it was
abbrev pub marked_at : List ℕ → Layout → List ℕ → List ℕ → ℕ → List ℕ → ℕ → ℕ
marked_at f l v s x t k = cond (is_next f l v s t k) x (get_or t k 0)

-- u is t with x for those variables
pub record Marks (f : List ℕ) (l : Layout) (v s : List ℕ) (x : ℕ) (t u : List ℕ) : Type 0 where
  pub long : length u ≡ length t
  pub each : (k : ℕ) → k < length v → get_or u k 0 ≡ marked_at f l v s x t k

-- of variables of one name, a block was found for all or for none
pub record Alike (f : List ℕ) (l : Layout) (v t : List ℕ) : Type 0 where
  pub each : (k m : ℕ) → k < length v → m < length v → name_at f l v k ≡ name_at f l v m → get_or t k 0 ≡ 0 → get_or t m 0 ≡ 0

-- no refusal but 17
abbrev pub IsRest : Result (Unit {0}) Refusal → Type 0
IsRest r = (r ≡ Ok tt) ⊎ (r ≡ Err NotReadable)

-- of the variables for which no block was found before, u has the tables of the first blocks of their names from p on, in a part that ends at z, where those for
-- whose name there is none answer r; the others stay
pub record Passed (g : Bool) (w : ℕ) (o : Order) (f : List ℕ) (l : Layout) (v : List ℕ) (z p : ℕ) (t u : List ℕ) (r : Result (Unit {0}) Refusal) : Type 0 where
  pub found : (k : ℕ) → k < length v → get_or t k 0 ≡ 0 → table_of r (get_or u k 0) ≡ lenless (set_by (block_labels g w o f (name_at f l v k) z p))
  pub others : (k : ℕ) → k < length v → (get_or t k 0 ≡ 0 → ⊥) → get_or u k 0 ≡ get_or t k 0
  pub number : IsRest r

-- the number of a variable whose label-set name is the part p, before a block is looked at
abbrev pub number_of : Result Part Refusal → ℕ
number_of (Ok p) = cond (eqb p.len 0) 3 0
number_of (Err e) = cond (eqb (Refusals.number_of e) 16) 1 2

-- t has these numbers for the variables of the list v
pub record Started (f : List ℕ) (l : Layout) (v t : List ℕ) : Type 0 where
  pub long : length t ≡ 32768
  pub each : (k : ℕ) → k < length v → get_or t k 0 ≡ number_of (part_by (answer_of f l (ask_set (get_or v k 0))))

-- they can be found at once: there are at most 32,768 variables, listed in the order of their names
abbrev pub can_find : List ℕ → Layout → List ℕ → Bool
can_find f l v = leb (length v) 32768 && in_order f l v

-- where r says that they are found, t has the label table of each variable of the list v
pub record Found (f : List ℕ) (l : Layout) (v t : List ℕ) (r : Option (Result (Unit {0}) Refusal)) : Type 0 where
  pub each : IfSome r (λ x. (k : ℕ) → k < length v → table_of x (get_or t k 0) ≡ lenless (set_by (answer_of f l (ask_table (get_or v k 0)))))

-- the answer r has no refusal but 17; where nothing is found the table u is as it came, t
abbrev pub Bare : List ℕ → List ℕ → Option (Result (Unit {0}) Refusal) → Type 0
Bare t u None = u ≡ t
Bare t u (Some r) = IsRest r
