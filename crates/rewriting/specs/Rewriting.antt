-- What rewriting a file promises (document 01, "The numbers a call may answer").
use Rattle.std.specs.Prelude.{◌≡◌, ℕ, List, ◌++◌, Bool, cond, ◌&&◌, ◌||◌, length, drop, eqb, leb, Result, Ok, Err}
use Rattle.format.specs.Number.{Order, order_by}
use Rattle.format.specs.Grammar.{also, unless}
use Rattle.format.specs.Edition.{Edition, edition, is_release, release_by}
use Rattle.format.specs.Dta.{verdict, dataset_of, written, holds}
use Rattle.refusal.specs.declared.Refusal.{Refusal}
use Rattle.refusal.specs.Refusals.{code_of}

-- an edition that is read, in either byte order (1: MSF, 2: LSF), is offered
abbrev pub offered : ℕ → ℕ → Bool
offered e o = is_release e && (eqb o 1 || eqb o 2)

-- the edition and the byte order of a target that is offered
abbrev pub edition_to : ℕ → Edition
edition_to e = edition (release_by e)

abbrev pub order_to : ℕ → Order
order_to o = order_by (eqb o 1)

-- the target is offered and can hold the dataset of f (else 15)
abbrev pub held : List ℕ → ℕ → ℕ → Bool
held f e o = offered e o && holds (edition_to e) (order_to o) (dataset_of f)

-- the dataset of f, as it is written in the target
abbrev pub rewritten : List ℕ → ℕ → ℕ → List ℕ
rewritten f e o = written (edition_to e) (order_to o) (dataset_of f)

-- the number for a file, a target and an output of n bytes: 1 to 13, then 15, then 14
unfoldable pub rewrite_code : List ℕ → ℕ → ℕ → ℕ → ℕ
rewrite_code f e o n =
    let r = (let s = unless (leb (length (rewritten f e o)) n) 14 in also (unless (held f e o) 15) s) in
    also (verdict f) r

-- the output, which was d: done, it begins with the result, and what follows is as it was; refused, it is as it came
unfoldable pub output_of : List ℕ → ℕ → ℕ → List ℕ → List ℕ
output_of f e o d =
    let t = rewritten f e o in
    cond (eqb (rewrite_code f e o (length d)) 0) (t ++ drop (length t) d) d

-- the result's length; 0 with a refusal
unfoldable pub length_of : List ℕ → ℕ → ℕ → ℕ → ℕ
length_of f e o n = cond (eqb (rewrite_code f e o n) 0) (length (rewritten f e o)) 0

-- the length that an answer tells, 0 where it is a refusal
abbrev pub len_of : Result ℕ Refusal → ℕ
len_of (Ok n) = n
len_of (Err e) = 0

-- r is the answer for the file f, the edition e and the byte order o, and w is what the output then holds, which was d
pub record Rewrites (f : List ℕ) (e o : ℕ) (d w : List ℕ) (r : Result ℕ Refusal) : Type 0 where
  pub code : code_of r ≡ rewrite_code f e o (length d)
  pub len : len_of r ≡ length_of f e o (length d)
  pub out : w ≡ output_of f e o d
