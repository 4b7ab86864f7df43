-- The code's slot, in the words of the format.
use Rattle.format.specs.Search as Format
use Rattle.format.specs.Search.{found, missing, lost}
use Rattle.search.specs.declared.Slot.{Slot}
use Rattle.search.specs.declared.Slot.TheVariants.{Found, Missing, Lost}

-- where the search ended
abbrev pub slot_of : Slot → Format.Slot
slot_of (Found i) = found i
slot_of Missing = missing
slot_of Lost = lost
