-- Laws of type codes.
use mathlib.Core.Path.{◌≡◌, refl}
use Prim.Native.Nat.{ℕ}
use mathlib.Core.Bool.{Bool}
use mathlib.Core.List.{List}
use Rattle.format.specs.Number.{Order, num}
use Rattle.format.specs.Grammar.{unless}
use Rattle.format.specs.Edition.{code_width}
use Rattle.format.specs.Variables.{VarType, type_by, has_type, type_code}

-- a code's size
pub code_size : (t : Bool) (o : Order) (x : VarType) → (type_code t o).size x ≡ code_width t
unfolding type_code
code_size t o x = refl

-- the refusal of a code c at q, which r tells is known
pub code_judge : (t : Bool) (o : Order) (f : List ℕ) (q c : ℕ) (r : Bool) → c ≡ num o (code_width t) f q → r ≡ has_type t (type_by t c) → (type_code t o).judge f q ≡ unless r 6
unfolding type_code
code_judge t o f q c r e h = rw (h, e)
