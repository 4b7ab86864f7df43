-- Numbers of any width in either byte order.
use Rattle.std.specs.Prelude.{ℕ, zero, suc, ◌+◌, ◌-◌, ◌*◌, ◌/◌, ◌%◌, List, [], ◌∷◌, Bool, true, false, cond, get_or, eqb}
use Rattle.format.specs.Slot.{Slot, byte}

-- byte order: most significant byte first, or least significant byte first
pub data Order : Type 0 where
  msf lsf : Order

-- the byte order, by whether it is most significant byte first
abbrev pub order_by : Bool → Order
order_by true = msf
order_by false = lsf

-- Digits of base 256 are counted from the most significant one, 0, on. Digit k of a number of w bytes stands at this place,
-- counted from its first byte; and this digit stands at place k.
abbrev pub seat : Order → ℕ → ℕ → ℕ
seat msf w k = k
seat lsf w k = w - suc k

-- the number whose w digits are d 0, d 1, ..
abbrev pub val : (ℕ → ℕ) → ℕ → ℕ
val d zero = 0
val d (suc w) = val d w * 256 + d w

-- digit k of n as a number of w digits
abbrev pub digit : ℕ → ℕ → ℕ → ℕ
digit zero n k = 0
digit (suc w) n k = cond (eqb k w) (n % 256) (digit w (n / 256) k)

-- the list s 0, s 1, .., of w elements
abbrev pub tab {ℓ} : {A : Type ℓ} → ℕ → (ℕ → A) → List A
tab zero s = []
tab (suc w) s = s zero ∷ tab w (λ i. s (suc i))

-- the number of w bytes that stands at place p of the file f
abbrev pub num : Order → ℕ → List ℕ → ℕ → ℕ
num o w f p = val (λ k. get_or f (p + seat o w k) 0) w

-- the slots of the number n in w bytes
abbrev pub num_slots : Order → ℕ → ℕ → List Slot
num_slots o w n = tab w (λ i. byte (digit w n (seat o w i)))
