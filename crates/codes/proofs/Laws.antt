-- The type of a field is the type whose field it is, and its kind is known. Assumes nothing.
use mathlib.Core.Path.{◌≡◌, refl}
use mathlib.Core.Bool.{Bool, true, false}
use Prim.Native.Nat.{◌^◌, ◌≤◌}
use native.Mathlib.Omega.{arith}
use Rattle.format.specs.Edition.{code_width}
use Rattle.format.specs.Variables.{VarType, text_type, strl_type, byte_type, int_type, long_type, float_type, double_type}
use Rattle.codes.specs.Fields.{field_by, known, type_of}

-- `type_of` undoes `field_by`
pub type_back : (t : VarType) → type_of (field_by t).kind (field_by t).width ≡ t
type_back (text_type w) = refl
type_back strl_type = refl
type_back byte_type = refl
type_back int_type = refl
type_back long_type = refl
type_back float_type = refl
type_back double_type = refl

-- a type's field is of a known kind
pub type_known : (t : VarType) → known (field_by t).kind ≡ true
type_known (text_type w) = refl
type_known strl_type = refl
type_known byte_type = refl
type_known int_type = refl
type_known long_type = refl
type_known float_type = refl
type_known double_type = refl

-- a code has at most two bytes, and fits 16 bits
pub code_small : (t : Bool) → (code_width t ≤ 2) × (256 ^ code_width t ≤ 65536)
code_small true = (omega arith, omega arith)
code_small false = (omega arith, omega arith)
