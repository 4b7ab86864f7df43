-- How large records of long strings are in several forms: neither tags nor the byte order change it.
use mathlib.Core.Path.{◌≡◌, refl}
use Prim.Native.Nat.{ℕ, ◌+◌, ◌≤◌, ◌<◌}
use native.Mathlib.Omega.{arith}
use mathlib.Core.List.{List, [], ◌∷◌}
use mathlib.Core.Bool.{Bool}
use lib.ListN.{length}
use Rattle.format.specs.Number.{Order}
use Rattle.format.specs.Grammar.{Sect, all_slots, sizes}
use Rattle.format.specs.Data.{LongString, long_record}
use Rattle.format.proofs.SlotLaws.{fits_bound}
use Rattle.format.proofs.DataLaws.{record_good}
use Rattle.format.proofs.Good.{all_sized}
use Rattle.writing.specs.Writes.{Stand, Room}
use Rattle.write_strls.proofs.RecordLaws.{record_size_lem, record_slots}

pub sizes_same : (t u : Bool) (o z : Order) (w : ℕ) (l : List LongString) → sizes (long_record t o w) l ≡ sizes (long_record u z w) l
sizes_same t u o z w [] = refl
sizes_same t u o z w (r ∷ l) = omega (arith, record_size_lem t o w r, record_size_lem u z w r, sizes_same t u o z w l)

pub slots_same : (t u : Bool) (o : Order) (w : ℕ) (l : List LongString) → all_slots (long_record t o w) l ≡ all_slots (long_record u o w) l
slots_same t u o w [] = refl
slots_same t u o w (r ∷ l) = rw (record_slots t u o w r, slots_same t u o w l)

-- a caller may ask for room in any of these forms
pub room_same : (t u : Bool) (o z : Order) (w : ℕ) {E : Sect LongString} {f : List ℕ} {p q n : ℕ} → Room E (long_record t o w) f p q n → Room E (long_record u z w) f p q n
room_same t u o z w r = record { list = r.list; stand = r.stand; room = omega (arith, r.room, sizes_same t u o z w r.list) }

-- records with o in no more bytes are no larger, and with o in at most 12 bytes at most twice as large
module _ (t u : Bool) (o z : Order) (ow w : ℕ) where
  pub sizes_less : w ≤ ow → (l : List LongString) → sizes (long_record u z w) l ≤ sizes (long_record t o ow) l
  sizes_less b [] = omega arith
  sizes_less b (r ∷ l) = omega (arith, record_size_lem t o ow r, record_size_lem u z w r, sizes_less b l)

  pub sizes_twice : w ≤ 12 → (l : List LongString) → sizes (long_record u z w) l ≤ sizes (long_record t o ow) l + sizes (long_record t o ow) l
  sizes_twice b [] = omega arith
  sizes_twice b (r ∷ l) = omega (arith, record_size_lem t o ow r, record_size_lem u z w r, sizes_twice b l)

-- records that stand are no larger than the file
pub stand_inside : (t : Bool) (o : Order) (ow : ℕ) (f : List ℕ) (p q : ℕ) (l : List LongString) → Stand (long_record t o ow) f p q l → p + sizes (long_record t o ow) l ≤ length f
stand_inside t o ow f p q l s = omega (arith, fits_bound f p (all_slots (long_record t o ow) l) s.fits, all_sized (long_record t o ow) (record_good t o ow) l)

-- so there is room for them with o in no more bytes
pub room_less : (t u : Bool) (o z : Order) (ow w : ℕ) (f : List ℕ) (p q n : ℕ) (l : List LongString) → Stand (long_record t o ow) f p q l → w ≤ ow → length f ≤ n
    → Room (long_record t o ow) (long_record u z w) f p q n
room_less t u o z ow w f p q n l s b h =
    record { list = l; stand = s; room = omega (arith, h, sizes_less t u o z ow w b l, stand_inside t o ow f p q l s) }
