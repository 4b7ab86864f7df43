-- What a cell says, and what it seeks in a label table (document 01, "What a cell says").
use Rattle.std.specs.Prelude.{ℕ, zero, suc, ◌+◌, ◌-◌, ◌*◌, ◌/◌, ◌%◌, ◌^◌, List, Bool, true, false, cond, ◌&&◌, length, eqb, leb, ltb, ℤ, pos, negsuc, neg_ℤ, Float}
use Rattle.std.specs.Float.{nan, inf, fin, binary32, binary64}
use Rattle.std.specs.Float.Ieee.{up, down, of_bits}
use Rattle.format.specs.Number.{Order, num}
use Rattle.format.specs.Grammar.{text_at}
use Rattle.format.specs.Variables.{VarType, text_type, strl_type, byte_type, int_type, long_type, float_type, double_type}

-- what a cell says: a whole number; a float or double that is a number, as its exact value; a missing letter, 0 for `.` and 1 to 26 for
-- `.a` to `.z`; between two letters, or after the last; outside; a text, by its place and length in the file; a long-string reference
pub data Says : Type 0 where
  whole : ℤ → Says
  single : Float → Says
  double : Float → Says
  letter : ℕ → Says
  between outside : Says
  words : ℕ → ℕ → Says
  reference : ℕ → ℕ → Says

-- ---- byte, int, long

-- n below 2 * half as a signed number
abbrev pub signed_by : ℕ → ℕ → ℤ
signed_by half n = cond (ltb n half) (pos n) (negsuc (2 * half - suc n))

-- a byte, int or long by its bits, half being 2^7, 2^15 or 2^31: the 27 greatest values are letters, the lowest is outside
abbrev pub says_whole : ℕ → ℕ → Says
says_whole half n =
    cond (leb (half - 27) n && ltb n half) (letter (n - (half - 27)))
    (cond (eqb n half) outside (whole (signed_by half n)))

-- ---- float, double

-- a float or double by its bits b, and the number if it is one: letters start at `first` and are `gap` apart; up to and with plus infinity,
-- `top`, the rest is between; numbers are below the letters, or from minus zero, `minus`, to the published minimum, `least`; NaN of
-- either sign and what is below the minimum is outside
abbrev pub says_real : ℕ → ℕ → ℕ → ℕ → ℕ → Says → ℕ → Says
says_real first gap top minus least number b =
    cond (ltb b first) number
    (cond (leb b top) (cond (eqb ((b - first) % gap) 0 && leb ((b - first) / gap) 26) (letter ((b - first) / gap)) between)
    (cond (leb minus b && leb b least) number outside))

-- a float by its bits
abbrev pub says_float : ℕ → Says
says_float b = says_real 0x7f000000 2048 0x7f800000 0x80000000 0xfeffffff (single (of_bits binary32 b)) b

-- a double by its bits
abbrev pub says_double : ℕ → Says
says_double b = says_real 0x7fe0000000000000 (2 ^ 40) 0x7ff0000000000000 0x8000000000000000 0xffefffffffffffff (double (of_bits binary64 b)) b

-- ---- a cell in a file

-- what the cell of a type at place p of the file says; vw and ow are the widths of v and o in a strL cell
abbrev pub says_at : Order → ℕ → ℕ → VarType → List ℕ → ℕ → Says
says_at o vw ow (text_type w) f p = words p (length (text_at w f p))
says_at o vw ow strl_type f p = reference (num o vw f p) (num o ow f (p + vw))
says_at o vw ow byte_type f p = says_whole 128 (num o 1 f p)
says_at o vw ow int_type f p = says_whole 32768 (num o 2 f p)
says_at o vw ow long_type f p = says_whole 2147483648 (num o 4 f p)
says_at o vw ow float_type f p = says_float (num o 4 f p)
says_at o vw ow double_type f p = says_double (num o 8 f p)

-- ---- the label key

-- what is sought in a label table: nothing, or a value
pub data Key : Type 0 where
  nothing : Key
  seeks : ℤ → Key

-- the greatest size of a long that is a number, negative and not
abbrev pub long_max : Bool → ℕ
long_max true = 2147483647
long_max false = 2147483620

-- the number of size q, negative where s is true: -0 is 0
abbrev pub with_sign : Bool → ℕ → ℤ
with_sign true q = neg_ℤ (pos q)
with_sign false q = pos q

-- a float or double seeks its exact value if that is a whole number in the range of a long's numbers: `fin s m e` is m * 2^e, the fraction
-- m * up e / down e, negative where s is true
unfoldable pub key_real : Float → Key
key_real nan = nothing
key_real (inf s) = nothing
key_real (fin s m e) =
    cond (eqb (m * up e % down e) 0 && leb (m * up e / down e) (long_max s)) (seeks (with_sign s (m * up e / down e))) nothing

-- what a cell seeks: a whole number itself, letter k the long's code 2,147,483,621 + k
abbrev pub key_of : Says → Key
key_of (whole z) = seeks z
key_of (single x) = key_real x
key_of (double x) = key_real x
key_of (letter k) = seeks (pos (2147483621 + k))
key_of between = nothing
key_of outside = nothing
key_of (words p n) = nothing
key_of (reference v o) = nothing
