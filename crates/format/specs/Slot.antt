-- Slots: what may stand at each place of a file.
use Rattle.std.specs.Prelude.{◌≡◌, ℕ, suc, ◌+◌, ◌≤◌, ◌<◌, List, [], ◌∷◌, map, Bool, true, false, length, get_or}

-- A slot is one place of a file: a live byte, which is this byte and no other; or a dead byte (document 01, "Dead bytes"),
-- which may be any, and for which a writer puts the given one.
pub data Slot : Type 0 where
  byte : ℕ → Slot
  spare : ℕ → Slot

-- the slot takes the byte x
abbrev pub Takes : Slot → ℕ → Type 0
Takes (byte b) x = x ≡ b
Takes (spare v) x = Unit

-- the slots P stand in the file f from place p on
abbrev pub Fits : List ℕ → ℕ → List Slot → Type 0
Fits f p [] = p ≤ length f
Fits f p (s ∷ P) = Takes s (get_or f p 0) × Fits f (suc p) P

-- the byte that a writer puts for a slot
abbrev pub put : Slot → ℕ
put (byte b) = b
put (spare v) = v

-- the bytes that a writer puts for slots
abbrev pub fill : List Slot → List ℕ
fill P = map put P

-- the slot is dead
abbrev pub is_spare : Slot → Bool
is_spare (byte b) = false
is_spare (spare v) = true

-- place i of a file that fits P is dead; a place past the end is not
abbrev pub dead : List Slot → ℕ → Bool
dead P i = is_spare (get_or P i (byte 0))

-- the elements of a list are bytes
abbrev pub Bytes : List ℕ → Type 0
Bytes f = (i : ℕ) → get_or f i 0 < 256
