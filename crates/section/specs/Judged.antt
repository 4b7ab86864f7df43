-- What a function promises that judges a section of a file.
use Rattle.std.specs.Prelude.{◌≡◌, List, Bool, true, false, ℕ, ◌≤◌, length, cond, eqb, Result, Ok, Err, IfOk}
use Rattle.format.specs.Grammar.{Sect, next, text}
use Rattle.format.specs.Variables.{name}
use Rattle.refusal.specs.declared.Refusal.{Refusal}
use Rattle.refusal.specs.Refusals.{code_of}

-- r is the answer for the section S at place p of f: its refusal; where it is right, where it ends, in the file
pub record Judged {A : Type 0} (S : Sect A) (f : List ℕ) (p : ℕ) (r : Result ℕ Refusal) : Type 0 where
  pub code : code_of r ≡ S.judge f p
  pub ends : IfOk r (λ q. q ≡ next S f p)
  pub inside : IfOk r (λ q. q ≤ length f)

-- the same of a refusal that is a number
pub record Numbered {A : Type 0} (S : Sect A) (f : List ℕ) (p : ℕ) (r : Result ℕ ℕ) : Type 0 where
  pub code : r ≡ cond (eqb (S.judge f p) 0) (Ok (next S f p)) (Err (S.judge f p))
  pub inside : IfOk r (λ q. q ≤ length f)

-- a text field of w bytes, which may be empty or, as a name, not
abbrev pub field : Bool → ℕ → Sect (List ℕ)
field true w = name w
field false w = text w 7
