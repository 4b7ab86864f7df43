-- What writing into the rest of an output promises.
use Rattle.std.specs.Prelude.{◌≡◌, ℕ, ◌+◌, ◌≤◌, List, ◌++◌, length, drop}
use Rattle.format.specs.Slot.{Fits, fill}
use Rattle.format.specs.Grammar.{Sect, all_slots, sizes, AllRight}

-- w is the output d with the bytes t laid over its beginning; r is how many they are
pub record Puts (t d w : List ℕ) (r : ℕ) : Type 0 where
  pub is : w ≡ t ++ drop r d
  pub long : r ≡ length t

-- ---- sections whose number is not known beforehand

-- sections E stand one after another in f, from p up to q, and say l
pub record Stand {A : Type 0} (E : Sect A) (f : List ℕ) (p q : ℕ) (l : List A) : Type 0 where
  pub right : AllRight E l
  pub fits : Fits f p (all_slots E l)
  pub ends : p + sizes E l ≡ q

-- some do, and what they say takes at most n bytes in the form T
pub record Room {A : Type 0} (E T : Sect A) (f : List ℕ) (p q n : ℕ) : Type 0 where
  pub list : List A
  pub stand : Stand E f p q list
  pub room : sizes T list ≤ n

-- r is how many bytes those that stand from p to q take in the form T
pub record Sizes {A : Type 0} (E T : Sect A) (f : List ℕ) (p q r : ℕ) : Type 0 where
  pub all : (l : List A) → Stand E f p q l → r ≡ sizes T l

-- w is the output d with those that stand from p to q laid over its beginning in the form T, in r bytes
pub record PutsAll {A : Type 0} (E T : Sect A) (f : List ℕ) (p q : ℕ) (d w : List ℕ) (r : ℕ) : Type 0 where
  pub all : (l : List A) → Stand E f p q l → Puts (fill (all_slots T l)) d w r
