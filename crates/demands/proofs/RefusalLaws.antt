-- An answer is told by its numbers.
use mathlib.Core.Path.{◌≡◌, refl, sym, ap, ◌∙◌}
use Prim.Native.Nat.{ℕ, ◌<◌}
use native.Mathlib.Omega.{arith}
use mathlib.Core.Bool.{cond}
use lib.Dec.{eqb}
use Rattle.std.specs.Prelude.{Result, Ok, Err}
use Rattle.refusal.specs.declared.Refusal.{Refusal}
use Rattle.refusal.specs.declared.Refusal.TheVariants.{TooLong, UnknownBeginning, CutShort, WrongTag, WrongHeader, UnknownType, WrongText, WrongSortList, WrongExpansion, WrongMap, WrongLongString, WrongLabelTable, BytesAfterEnd, NoRoom, NotHeld, NotThere, NotReadable}
use Rattle.refusal.specs.Refusals.{number_of, code_of}
use Rattle.section.proofs.StepLaws.{some_number}
use Rattle.long_list.specs.declared.Untold.{Untold}
use Rattle.long_list.specs.declared.Untold.TheVariants as U
use Rattle.long_list.specs.Lists.{told_code, told_count}
use Rattle.rewriting.specs.Rewriting.{len_of}

-- the refusal of a number
numbered : ℕ → Refusal
numbered n =
    cond (eqb n 1) TooLong
    (cond (eqb n 2) UnknownBeginning
    (cond (eqb n 3) CutShort
    (cond (eqb n 4) WrongTag
    (cond (eqb n 5) WrongHeader
    (cond (eqb n 6) UnknownType
    (cond (eqb n 7) WrongText
    (cond (eqb n 8) WrongSortList
    (cond (eqb n 9) WrongExpansion
    (cond (eqb n 10) WrongMap
    (cond (eqb n 11) WrongLongString
    (cond (eqb n 12) WrongLabelTable
    (cond (eqb n 13) BytesAfterEnd
    (cond (eqb n 14) NoRoom
    (cond (eqb n 15) NotHeld
    (cond (eqb n 16) NotThere NotReadable)))))))))))))))

numbered_back : (e : Refusal) → numbered (number_of e) ≡ e
unfolding numbered
numbered_back TooLong = refl
numbered_back UnknownBeginning = refl
numbered_back CutShort = refl
numbered_back WrongTag = refl
numbered_back WrongHeader = refl
numbered_back UnknownType = refl
numbered_back WrongText = refl
numbered_back WrongSortList = refl
numbered_back WrongExpansion = refl
numbered_back WrongMap = refl
numbered_back WrongLongString = refl
numbered_back WrongLabelTable = refl
numbered_back BytesAfterEnd = refl
numbered_back NoRoom = refl
numbered_back NotHeld = refl
numbered_back NotThere = refl
numbered_back NotReadable = refl

-- refusals of one number are one
pub same_refusal : (a b : Refusal) → number_of a ≡ number_of b → a ≡ b
same_refusal a b h = sym (numbered_back a) ∙ ap numbered h ∙ numbered_back b

pub same_result : (a b : Result ℕ Refusal) → code_of a ≡ code_of b → len_of a ≡ len_of b → a ≡ b
same_result (Ok m) (Ok n) h k = ap Ok k
same_result (Ok m) (Err d) h k = absurd (some_number d (sym h))
same_result (Err e) (Ok n) h k = absurd (some_number e h)
same_result (Err e) (Err d) h k = ap Err (same_refusal e d h)

-- of a list, whose number is 14 only where it has some numbers
pub same_told : (a b : Result ℕ Untold) → told_code a ≡ told_code b → told_count a ≡ told_count b → (told_code a ≡ 14 → 0 < told_count a) → a ≡ b
same_told (Ok m) (Ok n) h k s = ap Ok k
same_told (Ok m) (Err (U.Refused d)) h k s = absurd (some_number d (sym h))
same_told (Ok m) (Err (U.NoRoom n)) h k s = absurd (omega (arith, h))
same_told (Err (U.Refused e)) (Ok n) h k s = absurd (some_number e h)
same_told (Err (U.Refused e)) (Err (U.Refused d)) h k s = ap (λ (x : Refusal). Err (U.Refused x)) (same_refusal e d h)
same_told (Err (U.Refused e)) (Err (U.NoRoom n)) h k s = absurd (omega (arith, s h))
same_told (Err (U.NoRoom m)) (Ok n) h k s = absurd (omega (arith, h))
same_told (Err (U.NoRoom m)) (Err (U.Refused d)) h k s = absurd (omega (arith, k, s refl))
same_told (Err (U.NoRoom m)) (Err (U.NoRoom n)) h k s = ap (λ (x : ℕ). Err (U.NoRoom x)) k
