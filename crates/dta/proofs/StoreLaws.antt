-- Numbers stored one after another.
use mathlib.Core.Path.{◌≡◌, sym, ap, ◌∙◌}
use Prim.Native.Nat.{ℕ, zero, suc, ◌+◌, ◌≤◌, ◌<◌}
use native.Mathlib.Nat.{add-zero, not-suc-le-zero}
use native.Mathlib.Numerals.{add-one}
use native.Mathlib.Omega.{arith}
use mathlib.Core.List.{List, [], ◌∷◌, ◌++◌}
use lib.ListN.{length, get_or, set, take, drop}
use borrow.Author.Tests.{le-leb, lt-leb}
use Rattle.format.specs.Dta.{Layout}
use Rattle.dta.specs.Exports.{numbers, laid, stored}
use lib.Seq.{sets, sets-eq, length-sets, take_all}

more : (vs l : List ℕ) (a i : ℕ) → i < length vs → set (sets l a (take i vs)) (a + i) (get_or vs i 0) ≡ sets l a (take (suc i) vs)
more [] l a i h = absurd (not-suc-le-zero h)
more (x ∷ vs) l a zero h = rw (add-zero a)
more (x ∷ vs) l a (suc i) h =
    let e : a + suc i ≡ suc a + i = omega arith in
    rw e (more vs (set l a x) (suc a) i (omega arith))

-- one number more
pub sets_more : (vs l w : List ℕ) (a i : ℕ) → i < length vs → w ≡ sets l a (take i vs) → set w (a + i) (get_or vs i 0) ≡ sets l a (take (i + 1) vs)
sets_more vs l w a i h e = ap (λ (x : List ℕ). set x (a + i) (get_or vs i 0)) e ∙ more vs l a i h ∙ ap (λ (k : ℕ). sets l a (take k vs)) (sym (add-one i))

-- all of them
pub sets_all : (vs l w : List ℕ) (a i : ℕ) → length vs ≤ i → w ≡ sets l a (take i vs) → w ≡ sets l a vs
sets_all vs l w a i h e = e ∙ ap (λ (x : List ℕ). sets l a x) (take_all i vs h)

-- n of them from the front, and what was there past them
pub sets_front : (vs l : List ℕ) (n : ℕ) → length vs ≡ n → n ≤ length l → sets l 0 vs ≡ vs ++ drop n l
sets_front vs l n e h = sets-eq vs l 0 (omega arith) ∙ (let z : 0 + length vs ≡ n = omega arith in ap (λ (k : ℕ). vs ++ drop k l) z)

-- their number stays
pub sets_long : (us vs d w : List ℕ) (a b : ℕ) → w ≡ sets (sets d a us) b vs → length w ≡ length d
sets_long us vs d w a b e = ap length e ∙ length-sets (sets d a us) b vs ∙ length-sets d a us

-- a layout stored, or not
pub laid_room : (l : Layout) (d : List ℕ) → 18 ≤ length d → laid l d ≡ numbers l ++ drop 18 d
laid_room l d h = rw (le-leb 18 (length d) h)

pub laid_none : (l : Layout) (d : List ℕ) → length d < 18 → laid l d ≡ d
laid_none l d h = rw (lt-leb 18 (length d) h)

-- one number
pub stored_room : (n : ℕ) (d : List ℕ) → 1 ≤ length d → set d 0 n ≡ stored n d
stored_room n [] h = absurd (omega arith)
stored_room n (x ∷ d) h = rw (le-leb 1 (length (x ∷ d)) h)

pub stored_none : (n : ℕ) (d : List ℕ) → length d < 1 → d ≡ stored n d
stored_none n d h = rw (lt-leb 1 (length d) h)
