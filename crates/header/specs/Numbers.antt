-- What reading a number of a header promises.
use Rattle.std.specs.Prelude.{◌≡◌, List, true, ℕ, ◌+◌, ◌≤◌, length, Result, IfOk}
use Rattle.format.specs.Number.{Order, num}
use Rattle.format.specs.Grammar.{Sect, next}
use Rattle.refusal.specs.declared.Refusal.{Refusal}
use Rattle.refusal.specs.Refusals.{code_of}
use Rattle.header.specs.declared.Rule.{Rule}
use Rattle.header.specs.Rules.{holds, held}

-- r is the answer for the number of w bytes with the rule t at place p of f: its refusal; where it is right, the number, whose bytes are there
pub record Held (o : Order) (w : ℕ) (t : Rule) (f : List ℕ) (p : ℕ) (r : Result ℕ Refusal) : Type 0 where
  pub code : code_of r ≡ (held o w t).judge f p
  pub is : IfOk r (λ n. n ≡ num o w f p)
  pub ruled : IfOk r (λ n. holds t n ≡ true)
  pub room : IfOk r (λ n. p + w ≤ length f)

-- r is the answer for the section S, which says a number, at place p of f: its refusal; where it is right, where it ends, in the file, and the number
pub record Valued (S : Sect ℕ) (f : List ℕ) (p : ℕ) (r : Result (ℕ × ℕ) Refusal) : Type 0 where
  pub code : code_of r ≡ S.judge f p
  pub ends : IfOk r (λ v. v.0 ≡ next S f p)
  pub inside : IfOk r (λ v. v.0 ≤ length f)
  pub is : IfOk r (λ v. v.1 ≡ S.read f p)
