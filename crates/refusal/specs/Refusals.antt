-- The numbers of refusals.
use Rattle.std.specs.Prelude.{ℕ, Result, Ok, Err, cond, eqb}
use Rattle.refusal.specs.declared.Refusal.{Refusal}
use Rattle.refusal.specs.declared.Refusal.TheVariants.{TooLong, UnknownBeginning, CutShort, WrongTag, WrongHeader, UnknownType, WrongText, WrongSortList, WrongExpansion, WrongMap, WrongLongString, WrongLabelTable, BytesAfterEnd, NoRoom, NotHeld, NotThere, NotReadable}

abbrev pub number_of : Refusal → ℕ
number_of TooLong = 1
number_of UnknownBeginning = 2
number_of CutShort = 3
number_of WrongTag = 4
number_of WrongHeader = 5
number_of UnknownType = 6
number_of WrongText = 7
number_of WrongSortList = 8
number_of WrongExpansion = 9
number_of WrongMap = 10
number_of WrongLongString = 11
number_of WrongLabelTable = 12
number_of BytesAfterEnd = 13
number_of NoRoom = 14
number_of NotHeld = 15
number_of NotThere = 16
number_of NotReadable = 17

-- the number of an answer's refusal, 0 where it is none
abbrev pub code_of : {A : Type 0} → Result A Refusal → ℕ
code_of (Ok a) = 0
code_of (Err e) = number_of e

-- an answer whose refusal is told in another way
abbrev pub retold : {A E : Type 0} → (Refusal → E) → Result A Refusal → Result A E
retold t (Ok a) = Ok a
retold t (Err e) = Err (t e)

-- the refusal of a question, by its number: questions are refused with 16 and 17 alone
abbrev pub refusal_by : ℕ → Refusal
refusal_by n = cond (eqb n 16) NotThere NotReadable
