-- What the functions promise that go through a file section by section.
use Rattle.std.specs.Prelude.{◌≡◌, ℕ, ◌+◌, ◌-◌, ◌≤◌, List, [], ◌∷◌, length, get_or, Result, IfOk}
use Rattle.refusal.specs.declared.Refusal.{Refusal}
use Rattle.refusal.specs.Refusals.{code_of}
use Rattle.format.specs.Number.{Order}
use Rattle.format.specs.Grammar.{Sect, read_times, next, done}
use Rattle.format.specs.Edition.{Edition, closing, n_stata_dta}
use Rattle.format.specs.Header.{header}
use Rattle.format.specs.Variables.{VarType, type_code, file_map}
use Rattle.format.specs.Expansion.{expansions}
use Rattle.format.specs.Data.{Cell, observations, strls}
use Rattle.format.specs.Labels.{blocks}
use Rattle.format.specs.Dta.{Parts, gather, positions, from_expansions, sections}
use Rattle.editions.specs.declared.Edition as Code
use Rattle.checking.specs.declared.Walk.{Walk}

-- v and o of a strL cell have eight bytes together, and the other numbers are small
pub record Wide (e : Code.Edition) : Type 0 where
  pub eight : e.v_width + e.o_width ≡ 8
  pub record_small : e.record_width ≤ 8

-- n observations of the k variables with the type list at tp
abbrev pub rows : Code.Edition → Order → List ℕ → ℕ → ℕ → ℕ → Sect (List (List Cell))
rows e o f tp k n = observations e.tagged o e.v_width e.o_width (read_times (type_code e.tagged o) k f tp) n

-- the positions 9 to 13 of a file with expansion blocks at place p, for variables of the types t and n observations: data, long strings,
-- label blocks, </stata_dta>, and the file's length
unfoldable pub rest_places : Edition → Order → ℕ → List VarType → List ℕ → ℕ → List ℕ
rest_places e o n t f p =
    let d = observations e.tagged o e.v_width e.o_width t n in
    let x = next (expansions e.tagged o) f p in
    let s = next d f x in
    let b = next (strls e.tagged o e.record_width (d.read f x)) f s in
    x ∷ s ∷ b ∷ (length f - length (closing e.tagged n_stata_dta)) ∷ length f ∷ []

-- the sections from the expansion blocks on were met, their positions are r, and the last ends where the file does
pub record RestMet (e : Edition) (o : Order) (n : ℕ) (t : List VarType) (f : List ℕ) (p : ℕ) (r : List ℕ) : Type 0 where
  pub places : r ≡ rest_places e o n t f p
  pub blocks_end : next (blocks e.tagged o e.name_width (done 13)) f (get_or (rest_places e o n t f p) 2 0) ≡ length f

-- r is the answer for the sections from the expansion blocks on, for variables of the types t and n observations, at place p of f
pub record Rested (e : Edition) (o : Order) (n : ℕ) (t : List VarType) (f : List ℕ) (p : ℕ) (r : Result (List ℕ) Refusal) : Type 0 where
  pub code : code_of r ≡ (from_expansions e o (done 13) n t).judge f p
  pub met : IfOk r (RestMet e o n t f p)

-- all sections were met: K, N, the map, the fourteen positions
pub record WalkMet (e : Edition) (o : Order) (f : List ℕ) (v : Parts) (r : Walk) : Type 0 where
  pub variables : r.k ≡ v.0.0
  pub rows : r.n ≡ v.0.1.0
  pub map_ends : r.map ≡ next (header e o) f 0
  pub map_inside : next (file_map e.tagged o) f r.map ≤ length f
  pub places : r.places ≡ positions e o (gather v)

-- r is the answer for all sections of f
pub record Sectioned (e : Edition) (o : Order) (f : List ℕ) (r : Result Walk Refusal) : Type 0 where
  pub code : code_of r ≡ (sections e o (done 13)).judge f 0
  pub met : IfOk r (WalkMet e o f ((sections e o (done 13)).read f 0))
