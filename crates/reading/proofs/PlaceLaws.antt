-- Where parts and the fields of a list stand.
use mathlib.Core.Path.{◌≡◌, ap, ◌∙◌}
use Prim.Native.Nat.{ℕ, ◌+◌, ◌-◌, ◌*◌, ◌≤◌}
use native.Mathlib.Omega.{arith}
use native.Mathlib.Nat.{zero-mul}
use mathlib.Core.List.{List}
use mathlib.Core.Bool.{Bool, true, false, cond}
use lib.ListN.{length}
use Rattle.format.specs.Edition.{opening, closing}
use Rattle.std.specs.Prelude.{Option}
use Rattle.reading.specs.Reads.{read_by, place_in}

-- field j of a list at s, after the list's first tag
pub list_place : (t : Bool) (n : List ℕ) (m s g j i w : ℕ) → length (opening true n) ≡ m → g ≡ cond t m 0 → j ≡ i → s + g + j * w ≡ s + length (opening t n) + i * w
list_place true n m s g j i w q e k = rw (k, q, e)
list_place false n m s g j i w q e k = rw (k, e)

-- the list itself
pub list_start : (t : Bool) (n : List ℕ) (m s g w : ℕ) → length (opening true n) ≡ m → g ≡ cond t m 0 → s + g + 0 * w ≡ s + length (opening t n)
list_start true n m s g w q e = rw (zero-mul w, q, e) (omega arith)
list_start false n m s g w q e = rw (zero-mul w, e) (omega arith)

-- a width that is another number's name
pub placed_as : (f : List ℕ) (s j : ℕ) {w v : ℕ} → w ≡ v → (r : Option ℕ) → r ≡ read_by (place_in f (s + j * w)) → r ≡ read_by (place_in f (s + j * v))
placed_as f s j e r h = h ∙ ap (λ (x : ℕ). read_by (place_in f (s + j * x))) e

-- where a part's content starts
pub start_is : (t : Bool) (n : List ℕ) (m s a : ℕ) → length (opening true n) ≡ m → a ≡ cond t m 0 → s + a ≡ s + length (opening t n)
start_is true n m s a q e = rw (q, e)
start_is false n m s a q e = rw e

-- where it ends
pub end_is : (t : Bool) (n : List ℕ) (m s a b : ℕ) → length (closing true n) ≡ m → a ≡ cond t m 0 → b ≡ s - a → b ≡ s - length (closing t n)
end_is true n m s a b q e k = k ∙ rw (q, e)
end_is false n m s a b q e k = k ∙ rw e

-- a part that starts before it ends has room for its first mark
pub part_more : (t : Bool) (m n a b : ℕ) → m ≤ n → a ≡ cond t m 0 → b ≡ cond t n 0 → a ≤ b
part_more true m n a b h p q = omega arith
part_more false m n a b h p q = omega arith
