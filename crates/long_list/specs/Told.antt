-- What telling sections as numbers promises, where it is not known beforehand how many sections there are. `F p l` are the numbers for the list l,
-- whose sections stand one after another from p on.
use Rattle.std.specs.Prelude.{◌≡◌, ℕ, ◌≤◌, List, length}
use Rattle.format.specs.Grammar.{Sect}
use Rattle.writing.specs.Writes.{Puts, Stand}

-- some stand in f from p up to q, and are at most n numbers
pub record ToldRoom {A : Type 0} (E : Sect A) (F : ℕ → List A → List ℕ) (f : List ℕ) (p q n : ℕ) : Type 0 where
  pub list : List A
  pub stand : Stand E f p q list
  pub room : length (F p list) ≤ n

-- r is how many numbers those that stand from p to q are
pub record ToldCount {A : Type 0} (E : Sect A) (F : ℕ → List A → List ℕ) (f : List ℕ) (p q r : ℕ) : Type 0 where
  pub all : (l : List A) → Stand E f p q l → r ≡ length (F p l)

-- w is the output d with the numbers for those that stand from p to q laid over its beginning; r is how many they are
pub record ToldPut {A : Type 0} (E : Sect A) (F : ℕ → List A → List ℕ) (f : List ℕ) (p q : ℕ) (d w : List ℕ) (r : ℕ) : Type 0 where
  pub all : (l : List A) → Stand E f p q l → Puts (F p l) d w r
