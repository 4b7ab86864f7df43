-- What a list of numbers about an accepted file promises.
use Rattle.std.specs.Prelude.{◌≡◌, ℕ, List, ◌++◌, cond, length, drop, eqb, leb, Result, Ok, Err}
use Rattle.format.specs.Grammar.{also, unless}
use Rattle.format.specs.Dta.{verdict}
use Rattle.refusal.specs.Refusals.{number_of}
use Rattle.long_list.specs.declared.Untold.{Untold}
use Rattle.long_list.specs.declared.Untold.TheVariants.{Refused, NoRoom}

-- the number for the file f, of which the numbers t are to be told, and a slice of n numbers: 1 to 13, then 14 where the slice is shorter than t
abbrev pub list_code : List ℕ → List ℕ → ℕ → ℕ
list_code f t n = also (verdict f) (unless (leb (length t) n) 14)

-- how many numbers t are, also where there is no room for them; 0 where the file is refused
abbrev pub list_count : List ℕ → List ℕ → ℕ
list_count f t = cond (eqb (verdict f) 0) (length t) 0

-- the slice, which was d: done, it begins with t, and what follows is as it was; refused, it is as it came
abbrev pub list_out : List ℕ → List ℕ → List ℕ → List ℕ
list_out f t d = cond (eqb (list_code f t (length d)) 0) (t ++ drop (length t) d) d

-- the number of an answer, 0 where the list is told
abbrev pub told_code : Result ℕ Untold → ℕ
told_code (Ok n) = 0
told_code (Err (Refused r)) = number_of r
told_code (Err (NoRoom n)) = 14

-- how many numbers it says that the list has, 0 where the file is refused
abbrev pub told_count : Result ℕ Untold → ℕ
told_count (Ok n) = n
told_count (Err (Refused r)) = 0
told_count (Err (NoRoom n)) = n

-- r is the answer for the file f, of which the numbers t are to be told, and w is what the slice then holds, which was d
pub record Lists (f t d w : List ℕ) (r : Result ℕ Untold) : Type 0 where
  pub code : told_code r ≡ list_code f t (length d)
  pub count : told_count r ≡ list_count f t
  pub out : w ≡ list_out f t d
