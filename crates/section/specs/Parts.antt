-- What the first end of a section between tags promises.
use Rattle.std.specs.Prelude.{◌≡◌, List, ℕ, ◌+◌, ◌≤◌, length, Result, IfOk}
use Rattle.format.specs.Grammar.{also, need, tag}
use Rattle.refusal.specs.declared.Refusal.{Refusal}
use Rattle.refusal.specs.Refusals.{code_of}

-- r is the answer for the first tag l at place p of f, after which n bytes must be there
pub record Opened (l : List ℕ) (n : ℕ) (f : List ℕ) (p : ℕ) (r : Result ℕ Refusal) : Type 0 where
  pub code : code_of r ≡ also ((tag l 4).judge f p) (need n f (p + length l))
  pub ends : IfOk r (λ q. q ≡ p + length l)
  pub inside : IfOk r (λ q. q ≤ length f)
