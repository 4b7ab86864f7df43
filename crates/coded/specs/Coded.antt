-- Answers as numbers: each is four, the first of which tells what the others are.
use Rattle.std.specs.Prelude.{◌≡◌, ℕ, zero, suc, ◌-◌, ◌*◌, ◌/◌, List, [], ◌∷◌, ◌++◌, true, cond, length, drop, leb, ℤ, pos, negsuc, Float, Result, Ok, Err}
use Rattle.std.specs.Float.{Format, binary32, binary64}
use Rattle.std.specs.Float.Ieee.{is_nan, to_bits}
use Rattle.format.specs.Variables.{code_of}
use Rattle.format.specs.Cells.{Says, whole, single, double, letter, between, outside, words, reference}
use Rattle.format.specs.Dta.{Layout}
use Rattle.questions.specs.Ask.{Question, Labels, unlabelled, labelled, Answer, refused, count, mark, typed, part, column, labels, cell, plain, long, ask_cell, answer_of, among, in_range}
use Rattle.asking.specs.declared.Answer as Told
use Rattle.asking.specs.Asking.{answer_by}
use Rattle.refusal.specs.declared.Refusal.{Refusal}
use Rattle.refusal.specs.declared.Refusal.TheVariants.{NotThere}

abbrev pub four : ℕ → ℕ → ℕ → ℕ → List ℕ
four k a b c = k ∷ a ∷ b ∷ c ∷ []

-- a whole number: its size, and 1 where it is negative
abbrev pub whole_numbers : ℤ → List ℕ
whole_numbers (pos n) = four 6 n 0 0
whole_numbers (negsuc n) = four 6 (suc n) 1 0

-- the bits of a float or double; 0 of a NaN, which no cell says
abbrev pub bits_in : Format → Float → ℕ
bits_in m x = cond (is_nan x) 0 (to_bits m x)

-- what a cell says
abbrev pub cell_numbers : Says → List ℕ
cell_numbers (whole z) = whole_numbers z
cell_numbers (single x) = four 7 (bits_in binary32 x) 0 0
cell_numbers (double x) = four 8 (bits_in binary64 x) 0 0
cell_numbers (letter k) = four 9 k 0 0
cell_numbers between = four 10 0 0 0
cell_numbers outside = four 11 0 0 0
cell_numbers (words p n) = four 12 p n 0
cell_numbers (reference v o) = four 13 v o 0

-- a label table: whether there is one, its place and length
abbrev pub label_numbers : Labels → List ℕ
label_numbers unlabelled = four 16 0 0 0
label_numbers (labelled p n) = four 16 1 p n

-- an answer. A type is its code in a tagged edition
abbrev pub numbers_of : Answer → List ℕ
numbers_of (refused c) = four 0 c 0 0
numbers_of (count n) = four 1 n 0 0
numbers_of (mark b) = four 2 (cond b 1 0) 0 0
numbers_of (typed t) = four 3 (code_of true t) 0 0
numbers_of (part p n) = four 4 p n 0
numbers_of (plain t) = four 5 0 0 0
numbers_of (cell s) = cell_numbers s
numbers_of (long k p n) = four 14 k p n
numbers_of (column t p n) = four 15 (code_of true t) p n
numbers_of (labels s) = label_numbers s

-- an answer that is given, or a refusal with any number
abbrev pub told_as : Result Told.Answer ℕ → Answer
told_as (Ok x) = answer_by x
told_as (Err c) = refused c

-- r is the numbers of x
abbrev pub NumbersOf : Result Told.Answer ℕ → List ℕ → Type 0
NumbersOf x r = r ≡ numbers_of (told_as x)

-- ---- answers one after another

-- the answers to q 0, q 1, .. up to n of them
module _ (f : List ℕ) (l : Layout) (q : ℕ → Question) where
  unfoldable pub told : ℕ → List ℕ
  told zero = []
  told (suc n) = told n ++ numbers_of (answer_of f l (q n))

-- how many numbers there are from i up to k; none where i is not one of 1..k
abbrev pub following : ℕ → ℕ → ℕ
following i k = cond (among i k) (suc k - i) 0

-- the lesser
abbrev pub least : ℕ → ℕ → ℕ
least a b = cond (leb a b) a b

-- the answer of a run that begins with the cell of variable i and observation j, into a slice of x numbers: 16 where there is no such cell; else how many
-- answers are stored, as many as there is room for, and at most n
abbrev pub run_of : Layout → ℕ → ℕ → ℕ → ℕ → Result ℕ Refusal
run_of l i j n x = let r = Ok (least (x / 4) n) in cond (in_range l (ask_cell i j)) r (Err NotThere)

-- how many answers a run stores
abbrev pub stored : Result ℕ Refusal → ℕ
stored (Ok n) = n
stored (Err e) = 0

-- r is that answer, and w is what the slice then holds, which was d: the answers to q 0, q 1, .. and then what stood there
pub record Tells (f : List ℕ) (l : Layout) (i j : ℕ) (q : ℕ → Question) (n : ℕ) (d w : List ℕ) (r : Result ℕ Refusal) : Type 0 where
  pub answer : r ≡ run_of l i j n (length d)
  pub out : w ≡ told f l q (stored r) ++ drop (stored r * 4) d
