-- Readings inside a file, and what they give where slots stand.
use mathlib.Core.Path.{◌≡◌, refl, ap, ◌∙◌}
use Prim.Native.Nat.{ℕ, zero, suc, ◌+◌, ◌-◌, ◌^◌, ◌≤◌, ◌<◌}
use native.Mathlib.Omega.{arith}
use mathlib.Core.List.{List, [], ◌∷◌, map}
use mathlib.Core.Bool.{Bool, true, false, cond}
use lib.ListN.{length, get_or, take, drop}
use lib.Seq.{drop-cons}
use lib.Dec.{eqb, leb, ltb}
use borrow.Author.Tests.{le-leb, leb-true, ltb-true}
use Rattle.format.specs.Slot.{byte, Fits}
use Rattle.format.specs.Number.{Order, msf, lsf, num, num_slots}
use Rattle.format.specs.Grammar.{text_at, text_slots}
use Rattle.format.specs.Edition.{Release, edition, release_by, order_mark}
use Rattle.format.specs.Dta.{Layout}
use Rattle.format.proofs.SlotLaws.{fits_bound, length_tab}
use Rattle.format.proofs.NumberLaws.{num_read}
use Rattle.format.proofs.Good.{and_left, and_right, text_length}
use Rattle.format.proofs.EditionLaws.{number_read, number_back}
use Rattle.questions.specs.Readings.{Try, none, got, bind, room, number_in, text_needs, text_in}
use Rattle.questions.specs.Ask.{Question, refused, slice, release_in, order_in, in_range, among, or_refused, answer_in, answer_of}

-- ---- numbers

pub room_is : (f : List ℕ) (p n : ℕ) → p + n ≤ length f → room f p n ≡ got tt
room_is f p n h = rw (le-leb (p + n) (length f) h)

pub number_in_lem : (o : Order) (w : ℕ) (f : List ℕ) (p : ℕ) → p + w ≤ length f → number_in o w f p ≡ got (num o w f p)
number_in_lem o w f p h = rw (room_is f p w h)

pub number_room : (o : Order) (w n : ℕ) (f : List ℕ) (p : ℕ) → Fits f p (num_slots o w n) → p + w ≤ length f
number_room o w n f p m = rw length_tab at (fits_bound f p (num_slots o w n) m)

pub number_is : (o : Order) (w n : ℕ) (f : List ℕ) (p : ℕ) → n < 256 ^ w → Fits f p (num_slots o w n) → number_in o w f p ≡ got n
number_is o w n f p r m = number_in_lem o w f p (number_room o w n f p m) ∙ ap (λ (x : ℕ). got x) (num_read o w n f p r m)

-- ---- texts

needs_less : (t : Bool) (n w : ℕ) → ltb n w ≡ t → cond t (suc n) w ≤ w
needs_less true n w e = ltb-true n w e
needs_less false n w e = omega arith

-- a text needs no more than its field
pub needs_in : (w : ℕ) (f : List ℕ) (p : ℕ) → p + w ≤ length f → p + text_needs w (text_at w f p) ≤ length f
needs_in w f p h = let t = text_at w f p in omega (arith, needs_less (ltb (length t) w) (length t) w refl)

pub text_in_lem : (w : ℕ) (f : List ℕ) (p : ℕ) → p + w ≤ length f → text_in w f p ≡ got (text_at w f p)
text_in_lem w f p h = rw (room_is f p (text_needs w (text_at w f p)) (needs_in w f p h))

pub text_room : (w : ℕ) (t : List ℕ) (f : List ℕ) (p : ℕ) → Fits f p (text_slots w t) → p + w ≤ length f
text_room w t f p m = rw (text_length w t) at (fits_bound f p (text_slots w t) m)

-- a text's own bytes stand where it is read
pub text_part_lem : (w : ℕ) (f : List ℕ) (p : ℕ) → p + w ≤ length f → slice f p (length (text_at w f p)) ≡ text_at w f p
text_part_lem zero f p h = refl
text_part_lem (suc w) f p h = go (eqb (get_or f p 0) 0) refl (text_part_lem w f (suc p) (omega arith))
  where
    go : (t : Bool) → eqb (get_or f p 0) 0 ≡ t → take (length (text_at w f (suc p))) (drop (suc p) f) ≡ text_at w f (suc p)
        → take (length (text_at (suc w) f p)) (drop p f) ≡ text_at (suc w) f p
    go true e ih = rw e
    go false e ih = rw (e, drop-cons f p 0 (omega arith)) (ap (λ (l : List ℕ). get_or f p 0 ∷ l) ih)

-- bytes that stand at p
pub bytes_at : (l : List ℕ) (f : List ℕ) (p : ℕ) → Fits f p (map byte l) → slice f p (length l) ≡ l
bytes_at [] f p m = refl
bytes_at (x ∷ l) f p m =
    let b : suc p ≤ length f = omega (arith, fits_bound f p (map byte (x ∷ l)) m) in
    rw (drop-cons f p 0 b) (λ j. m.0 j ∷ bytes_at l f (suc p) m.1 j)

-- ---- 16 and 17

-- the marks of an edition and of a byte order are read as those
pub release_in_lem : (r : Release) → release_in (edition r).number ≡ got r
release_in_lem r = ap (λ (b : Bool). cond b (got (release_by (edition r).number)) none) (number_read r) ∙ ap got (number_back r)

pub order_in_lem : (o : Order) → order_in (order_mark o) ≡ got o
order_in_lem msf = refl
order_in_lem lsf = refl

pub answer_in_lem : (r : Release) (o : Order) (f : List ℕ) (l : Layout) (q : Question) → l.release ≡ (edition r).number → l.order ≡ order_mark o
    → answer_of f l q ≡ cond (in_range l q) (or_refused (answer_in (edition r) o f l q)) (refused 16)
unfolding answer_of
answer_in_lem r o f l q a b =
    ap (λ (t : Try Release). cond (in_range l q) (or_refused (bind t λ s. bind (order_in l.order) λ p. answer_in (edition s) p f l q)) (refused 16)) (ap release_in a ∙ release_in_lem r)
    ∙ ap (λ (t : Try Order). cond (in_range l q) (or_refused (bind t λ p. answer_in (edition r) p f l q)) (refused 16)) (ap order_in b ∙ order_in_lem o)

pub among_below : (i k : ℕ) → among i k ≡ true → i - 1 < k
among_below i k h = omega (arith, ltb-true 0 i (and_left (ltb 0 i) (leb i k) h), leb-true i k (and_right (ltb 0 i) (leb i k) h))
