-- Laws of readings at any place, for the functions here and for those that call them.
use mathlib.Core.Path.{◌≡◌, refl, sym, ap, ◌∙◌}
use Prim.Native.Nat.{ℕ, zero, suc, ◌+◌, ◌-◌, ◌≤◌, ◌<◌}
use native.Mathlib.Nat.{not-suc-le-zero}
use native.Mathlib.Omega.{arith}
use mathlib.Core.List.{List}
use mathlib.Core.Logic.{◌⊎◌, inl, inr}
use mathlib.Core.Bool.{Bool, true, false, false≢true}
use lib.ListN.{length, get_or, take, drop, get_or-eq_default}
use lib.Dec.{eqb, leb, ltb}
use borrow.Author.Tests.{le-leb, lt-leb, leb-true, leb-false, lt-ltb, le-ltb}
use Rattle.format.specs.Number.{Order, num}
use Rattle.format.specs.Grammar.{text_at}
use Rattle.text.specs.Texts.{IsTextLength}
use Rattle.text.proofs.TextLaws.{text_bytes}
use Rattle.questions.specs.Readings.{Try, none, got, bind, room, number_in, text_needs, text_in}
use Rattle.std.specs.Prelude.{Some, None, min}
use Rattle.std.proofs.lemmas.Option.{none-some, same_Some}
use Rattle.reading.specs.Reads.{read_by, length_in, place_in}

-- ---- what a reading says

-- nothing is read
pub read_none : (x : Try ℕ) → None ≡ read_by x → x ≡ none
read_none none e = refl
read_none (got n) e = absurd (none-some n e)

-- its value is read
pub read_got : (n : ℕ) (x : Try ℕ) → Some n ≡ read_by x → x ≡ got n
read_got n none e = absurd (none-some n (sym e))
read_got n (got m) e = ap got (sym (same_Some n m e))

-- ---- room

module _ (f : List ℕ) (p n : ℕ) where
  pub room_got : p + n ≤ length f → room f p n ≡ got tt
  room_got h = rw (le-leb (p + n) (length f) h)

  pub room_none : length f < p + n → room f p n ≡ none
  room_none h = rw (lt-leb (p + n) (length f) h)

-- ---- numbers

module _ (o : Order) (w : ℕ) (f : List ℕ) (p : ℕ) where
  pub number_got : p + w ≤ length f → number_in o w f p ≡ got (num o w f p)
  number_got h = rw (room_got f p w h)

  pub number_none : length f < p + w → number_in o w f p ≡ none
  number_none h = rw (room_none f p w h)

-- ---- texts

-- past the end of the file every byte counts as zero, so a width that is cut there changes nothing
pub text_cut : (m w : ℕ) (f : List ℕ) (p : ℕ) → m ≤ w → length f ≤ p + m → text_at w f p ≡ text_at m f p
text_cut zero zero f p h k = refl
text_cut zero (suc w) f p h k =
    let e : get_or f p 0 ≡ 0 = get_or-eq_default f 0 {n = p} (omega arith) in
    rw e
text_cut (suc m) zero f p h k = absurd (not-suc-le-zero h)
text_cut (suc m) (suc w) f p h k = rw (text_cut m w f (suc p) (omega arith) (omega arith))

module _ (w : ℕ) (f : List ℕ) (p : ℕ) where
  -- a text whose zero is in the file
  pub text_ends : (n : ℕ) → n ≡ length (text_at w f p) → n < w → p + n < length f → length_in w f p ≡ got n
  text_ends n e h k =
      let l : length (text_at w f p) < w = omega arith in
      rw (lt-ltb (length (text_at w f p)) w l, le-leb (p + suc (length (text_at w f p))) (length f) (omega arith)) (ap got (sym e))

  -- a text over its whole width
  pub text_whole : (n : ℕ) → n ≡ length (text_at w f p) → n ≡ w → p + w ≤ length f → length_in w f p ≡ got n
  text_whole n e h k =
      let l : w ≤ length (text_at w f p) = omega arith in
      rw (le-ltb (length (text_at w f p)) w l, le-leb (p + w) (length f) k) (ap got (sym e))

  -- a text that the end of the file cuts
  pub text_cut_off : (n : ℕ) → n ≡ length (text_at w f p) → n < w → length f ≤ p + n → length_in w f p ≡ none
  text_cut_off n e h k =
      let l : length (text_at w f p) < w = omega arith in
      rw (lt-ltb (length (text_at w f p)) w l, lt-leb (p + suc (length (text_at w f p))) (length f) (omega arith))

  -- nothing is read past the end
  pub text_past : length f < p → text_in w f p ≡ none
  text_past h = room_past (text_needs w (text_at w f p))
    where
      room_past : (n : ℕ) → bind (room f p n) (λ u. got (text_at w f p)) ≡ none
      room_past n = rw (room_none f p n (omega arith))

module _ (w : ℕ) (f : List ℕ) (p : ℕ) where
  pub length_past : length f < p → length_in w f p ≡ none
  length_past h = rw (text_past w f p h)

  -- m bytes are looked at: the width, or what is left of the file
  module _ (h : p ≤ length f) (m : ℕ) (e : m ≡ min w (length f - p)) (n : ℕ) (t : IsTextLength m f p n) where
    -- the text of the field and of its bytes in the file
    text_is : n ≡ length (text_at w f p)
    text_is = go (leb w (length f - p)) refl
      where
        go : (b : Bool) → leb w (length f - p) ≡ b → n ≡ length (text_at w f p)
        go true k = let z : m ≡ w = omega (arith, leb-true w (length f - p) k) in t.is ∙ ap (λ (x : ℕ). length (text_at x f p)) z
        go false k = t.is ∙ ap length (sym (text_cut m w f p (omega arith) (omega (arith, leb-false w (length f - p) k))))

    pub length_cut : n ≡ m → m < w → length_in w f p ≡ none
    length_cut i k = text_cut_off w f p n text_is (omega arith) (omega arith)

    pub length_got : ((n ≡ m) × (w ≤ m)) ⊎ (n ≡ m → ⊥) → length_in w f p ≡ got n
    length_got (inl x) = text_whole w f p n text_is (omega (arith, x)) (omega (arith, x))
    length_got (inr z) = let s = t.short in text_ends w f p n text_is (omega (arith, z)) (omega (arith, z))

-- ---- where a reading lies

-- a number that is read is the number there, in the file
pub number_there : (o : Order) (w : ℕ) (f : List ℕ) (p n : ℕ) → Some n ≡ read_by (number_in o w f p) → p + w ≤ length f
number_there o w f p n e = go (leb (p + w) (length f)) refl
  where
    go : (t : Bool) → leb (p + w) (length f) ≡ t → p + w ≤ length f
    go true k = leb-true (p + w) (length f) k
    go false k = absurd (false≢true (cc (sym (read_got n (number_in o w f p) e) ∙ number_none o w f p (leb-false (p + w) (length f) k))))

pub text_short : (w : ℕ) (f : List ℕ) (p : ℕ) → length (text_at w f p) ≤ w
text_short zero f p = omega arith
text_short (suc w) f p = go (eqb (get_or f p 0) 0) refl (text_short w f (suc p))
  where
    go : (t : Bool) → eqb (get_or f p 0) 0 ≡ t → length (text_at w f (suc p)) ≤ w → length (text_at (suc w) f p) ≤ suc w
    go true e h = rw e (omega arith)
    go false e h = rw e (omega arith)

-- a text that is read is the text there, in the file, and is the bytes there
pub text_there : (w : ℕ) (f : List ℕ) (p : ℕ) (t : List ℕ) → text_in w f p ≡ got t → (p + length t ≤ length f) × (take (length t) (drop p f) ≡ t)
text_there w f p t e = go (leb (p + text_needs w (text_at w f p)) (length f)) refl
  where
    go : (b : Bool) → leb (p + text_needs w (text_at w f p)) (length f) ≡ b → (p + length t ≤ length f) × (take (length t) (drop p f) ≡ t)
    go false k = let z : text_in w f p ≡ none = rw k in absurd (false≢true (cc (sym z ∙ e)))
    go true k =
        let z : text_in w f p ≡ got (text_at w f p) = rw k in
        let q : text_at w f p ≡ t = cc (sym z ∙ e) in
        let n = leb-true (p + text_needs w (text_at w f p)) (length f) k in
        let s = text_short w f p in
        let i : p + length (text_at w f p) ≤ length f = needs (ltb (length (text_at w f p)) w) refl n in
        (rw (sym q) i, rw (sym q) (cut (leb w (length f - p)) refl i))
      where
        needs : (b : Bool) → ltb (length (text_at w f p)) w ≡ b → p + text_needs w (text_at w f p) ≤ length f → p + length (text_at w f p) ≤ length f
        needs true h n = omega (arith, rw h at n)
        needs false h n = omega (arith, rw h at n, text_short w f p)

        cut : (b : Bool) → leb w (length f - p) ≡ b → p + length (text_at w f p) ≤ length f → take (length (text_at w f p)) (drop p f) ≡ text_at w f p
        cut true h i = text_bytes f w p (omega (arith, leb-true w (length f - p) h))
        cut false h i =
            let q = text_cut (length f - p) w f p (omega (arith, leb-false w (length f - p) h)) (omega arith) in
            rw q (text_bytes f (length f - p) p (omega arith))

-- ---- places

module _ (f : List ℕ) (p : ℕ) where
  pub place_got : p ≤ length f → place_in f p ≡ got p
  place_got h = rw (le-leb p (length f) h)

  pub place_none : length f < p → place_in f p ≡ none
  place_none h = rw (lt-leb p (length f) h)

  -- a place that is there is p, and in the file or at its end
  module _ (q : ℕ) (e : Some q ≡ read_by (place_in f p)) where
    both : (q ≡ p) × (p ≤ length f)
    both = go (leb p (length f)) refl
      where
        go : (t : Bool) → leb p (length f) ≡ t → (q ≡ p) × (p ≤ length f)
        go true k = (same_Some q p (e ∙ ap read_by (place_got (leb-true p (length f) k))), leb-true p (length f) k)
        go false k = absurd (none-some q (sym (e ∙ ap read_by (place_none (leb-false p (length f) k)))))

    pub place_is : q ≡ p
    place_is = both.0

    pub place_inside : p ≤ length f
    place_inside = both.1

  module _ (e : None ≡ read_by (place_in f p)) where
    -- one that isn't lies past the end
    pub place_past : length f < p
    place_past = go (leb p (length f)) refl
      where
        go : (t : Bool) → leb p (length f) ≡ t → length f < p
        go true k = absurd (none-some p (e ∙ ap read_by (place_got (leb-true p (length f) k))))
        go false k = leb-false p (length f) k

    -- nothing is read there
    pub number_nowhere : (o : Order) (w : ℕ) → number_in o w f p ≡ none
    number_nowhere o w = number_none o w f p (omega (arith, place_past))

    pub text_nowhere : (w : ℕ) → text_in w f p ≡ none
    text_nowhere w = text_past w f p place_past
