-- Tags are bytes, and S between the tags of a name is good.
use mathlib.Core.Path.{◌≡◌, refl, sym}
use Prim.Native.Nat.{ℕ, zero, suc, ◌+◌, ◌/◌, ◌%◌, ◌≤◌, ◌<◌}
use native.Mathlib.Omega.{arith}
use mathlib.Core.List.{List, [], ◌∷◌, ◌++◌}
use mathlib.Core.Bool.{Bool, true, false, ◌&&◌}
use lib.ListN.{length, get_or}
use lib.Dec.{ltb}
use borrow.Author.Tests.{ltb-true, lt-ltb}
use Rattle.format.specs.Slot.{Bytes}
use Rattle.format.specs.Grammar.{Sect, tag, between, within, times}
use Rattle.format.specs.Edition.{opening, closing, digits, tagged_start, blocks_end}
use Rattle.format.proofs.Good.{Good, and_left, and_right, tag_good, between_good}

-- a test that a list is of bytes
abbrev pub all_bytes : List ℕ → Bool
all_bytes [] = true
all_bytes (x ∷ l) = ltb x 256 && all_bytes l

pub bytes_of : (l : List ℕ) → all_bytes l ≡ true → Bytes l
bytes_of [] h i = omega arith
bytes_of (x ∷ l) h zero = ltb-true x 256 (and_left (ltb x 256) (all_bytes l) h)
bytes_of (x ∷ l) h (suc i) = bytes_of l (and_right (ltb x 256) (all_bytes l) h) i

test_append : (k l : List ℕ) → all_bytes k ≡ true → all_bytes l ≡ true → all_bytes (k ++ l) ≡ true
test_append [] l h z = z
test_append (x ∷ k) l h z = rw (and_left (ltb x 256) (all_bytes k) h) (test_append k l (and_right (ltb x 256) (all_bytes k) h) z)

pub opening_bytes : (t : Bool) (n : List ℕ) → all_bytes n ≡ true → Bytes (opening t n)
opening_bytes true n h = bytes_of (opening true n) (test_append n (62 ∷ []) h refl)
opening_bytes false n h = bytes_of [] refl

pub closing_bytes : (t : Bool) (n : List ℕ) → all_bytes n ≡ true → Bytes (closing t n)
closing_bytes true n h = bytes_of (closing true n) (test_append n (62 ∷ []) h refl)
closing_bytes false n h = bytes_of [] refl

pub end_bytes : (t : Bool) → Bytes (blocks_end t)
end_bytes true = bytes_of [] refl
end_bytes false = bytes_of (blocks_end false) refl

pub start_bytes : (n : ℕ) → n < 1000 → Bytes (tagged_start n)
start_bytes n b =
    bytes_of (tagged_start n)
    (rw (lt-ltb (48 + n / 100) 256 (omega arith), lt-ltb (48 + n / 10 % 10) 256 (omega arith), lt-ltb (48 + n % 10) 256 (omega arith)))

pub opening_good : (t : Bool) (n : List ℕ) → all_bytes n ≡ true → Good 0 ◌≤◌ (tag (opening t n) 4)
opening_good t n h = tag_good (opening t n) 4 (opening_bytes t n h) (omega arith)

pub closing_good : (t : Bool) (n : List ℕ) → all_bytes n ≡ true → Good 0 ◌≤◌ (tag (closing t n) 4)
closing_good t n h = tag_good (closing t n) 4 (closing_bytes t n h) (omega arith)

pub part_good : {A : Type 0} (t : Bool) (n : List ℕ) (S : Sect A) → all_bytes n ≡ true → Good 0 ◌≤◌ S → Good 0 ◌≤◌ (between (opening t n) (closing t n) S)
part_good t n S h G = between_good (opening t n) (closing t n) S (opening_bytes t n h) (closing_bytes t n h) G
