-- What a type code says: the kind of a variable's cells, and the width of their field.
use Rattle.std.specs.Prelude.{ℕ, Bool, true, false, cond}
use Rattle.format.specs.Variables.{VarType, text_type, strl_type, byte_type, int_type, long_type, float_type, double_type, type_by, has_type}
use Rattle.codes.specs.declared.Kind.{Kind}
use Rattle.codes.specs.declared.Kind.TheVariants.{Text, StrL, Byte, Int, Long, Float, Double, Unknown}
use Rattle.codes.specs.declared.Field.{Field}

-- the field of a type: its kind, and how many bytes a cell has; a strL cell has 8 in every edition
abbrev pub field_by : VarType → Field
field_by (text_type w) = record { kind = Text; width = w }
field_by strl_type = record { kind = StrL; width = 8 }
field_by byte_type = record { kind = Byte; width = 1 }
field_by int_type = record { kind = Int; width = 2 }
field_by long_type = record { kind = Long; width = 4 }
field_by float_type = record { kind = Float; width = 4 }
field_by double_type = record { kind = Double; width = 8 }

-- the field of a code that the edition does not know
abbrev pub unknown : Field
unknown = record { kind = Unknown; width = 0 }

-- the field of a code: that of its type, where the edition has the type
abbrev pub field_of : Bool → ℕ → Field
field_of t c = cond (has_type t (type_by t c)) (field_by (type_by t c)) unknown

-- the kind is known
abbrev pub known : Kind → Bool
known Text = true
known StrL = true
known Byte = true
known Int = true
known Long = true
known Float = true
known Double = true
known Unknown = false

-- the type of a field: of a text its width counts, and an unknown one is taken as a text of no bytes
abbrev pub type_of : Kind → ℕ → VarType
type_of Text w = text_type w
type_of StrL w = strl_type
type_of Byte w = byte_type
type_of Int w = int_type
type_of Long w = long_type
type_of Float w = float_type
type_of Double w = double_type
type_of Unknown w = text_type 0
