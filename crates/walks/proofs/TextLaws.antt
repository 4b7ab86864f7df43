-- Texts at any place of a file, by the length that was read.
use mathlib.Core.Path.{◌≡◌, refl, sym, ◌∙◌}
use Prim.Native.Nat.{ℕ, zero, suc, ◌+◌, ◌≤◌}
use native.Mathlib.Omega.{arith}
use mathlib.Core.List.{List}
use mathlib.Core.Bool.{Bool, true, false, false≢true}
use lib.ListN.{length, get_or}
use lib.Dec.{eqb, leb, ltb}
use borrow.Author.Tests.{leb-true}
use Rattle.format.specs.Number.{Order}
use Rattle.format.specs.Grammar.{text_at}
use Rattle.questions.specs.Readings.{none, got, number_in, text_needs, text_in}
use Rattle.reading.specs.Reads.{length_in}

pub text_short : (w : ℕ) (f : List ℕ) (p : ℕ) → length (text_at w f p) ≤ w
text_short zero f p = omega arith
text_short (suc w) f p = go (eqb (get_or f p 0) 0) refl (text_short w f (suc p))
  where
    go : (b : Bool) → eqb (get_or f p 0) 0 ≡ b → length (text_at w f (suc p)) ≤ w → length (text_at (suc w) f p) ≤ suc w
    go true e h = rw e (omega arith)
    go false e h = rw e (omega arith)

-- it needs its own bytes at least
needs_some : (w n : ℕ) (t : List ℕ) → n ≡ length t → n ≤ w → n ≤ text_needs w t
needs_some w n t e h = go (ltb (length t) w) refl
  where
    go : (b : Bool) → ltb (length t) w ≡ b → n ≤ text_needs w t
    go true q = rw q (omega arith)
    go false q = rw q (omega arith)

module _ (w : ℕ) (f : List ℕ) (p : ℕ) where
  pub text_none : length_in w f p ≡ none → text_in w f p ≡ none
  text_none h = go (leb (p + text_needs w (text_at w f p)) (length f)) refl
    where
      go : (b : Bool) → leb (p + text_needs w (text_at w f p)) (length f) ≡ b → text_in w f p ≡ none
      go true e = let g : length_in w f p ≡ got (length (text_at w f p)) = rw e in absurd (false≢true (cc (sym h ∙ g)))
      go false e = rw e

  -- what was read is the text, its length is n, and its bytes are in the file
  pub record TextGot (n : ℕ) : Type 0 where
    pub is : text_in w f p ≡ got (text_at w f p)
    pub long : n ≡ length (text_at w f p)
    pub short : n ≤ w
    pub inside : p + n ≤ length f

  pub text_got : (n : ℕ) → length_in w f p ≡ got n → TextGot n
  text_got n h = go (leb (p + text_needs w (text_at w f p)) (length f)) refl
    where
      go : (b : Bool) → leb (p + text_needs w (text_at w f p)) (length f) ≡ b → TextGot n
      go true e =
          let l : got n ≡ got (length (text_at w f p)) = sym h ∙ rw e in
          let k : n ≡ length (text_at w f p) = cc l in
          let s : n ≤ w = omega (arith, text_short w f p, k) in
          record { is = rw e; long = k; short = s; inside = omega (arith, needs_some w n (text_at w f p) k s, leb-true (p + text_needs w (text_at w f p)) (length f) e) }
      go false e = let g : length_in w f p ≡ none = rw e in absurd (false≢true (cc (sym h ∙ g)))

-- a number that was read is in the file
pub number_inside : (o : Order) (w : ℕ) (f : List ℕ) (p n : ℕ) → number_in o w f p ≡ got n → p + w ≤ length f
number_inside o w f p n h = go (leb (p + w) (length f)) refl
  where
    go : (b : Bool) → leb (p + w) (length f) ≡ b → p + w ≤ length f
    go true e = leb-true (p + w) (length f) e
    go false e = let g : number_in o w f p ≡ none = rw e in absurd (false≢true (cc (sym h ∙ g)))
