-- Laws of texts and tags in a file, a byte at a time.
use mathlib.Core.Path.{◌≡◌, refl, sym, ap, ◌∙◌}
use Prim.Native.Nat.{ℕ, zero, suc, ◌+◌, ◌-◌, ◌≤◌, ◌<◌}
use native.Mathlib.Omega.{arith}
use native.Mathlib.Nat.{add-zero, zero-add, add-suc, sub-zero}
use native.Mathlib.Numerals.{add-one}
use mathlib.Core.List.{List, [], ◌∷◌, ◌++◌}
use mathlib.Core.Bool.{Bool, true, false, not, ◌&&◌, ◌||◌, and-false, true≢false}
use lib.ListN.{length, get_or, take, drop, replicate, length-drop, drop_of_length-le}
use lib.Seq.{drop-cons, take-suc, get_or-take, get_or-drop, length-take-le, ext_get_or}
use lib.Dec.{eqb}
use borrow.Author.Tests.{eq-eqb, ne_eqb, eqb-true, eqb-false, le-leb, lt-leb}
use Rattle.std.specs.List.{starts_with}
use Rattle.format.specs.Slot.{fill}
use Rattle.format.specs.Grammar.{unless, text_at, text_slots, raw, same_at, tag}
use Rattle.format.proofs.SlotLaws.{length_tab, get_d_tab}
use Rattle.format.proofs.WriteLaws.{fill_text}
use Rattle.text.specs.Texts.{has_zero}

-- what is left of n, one at a time
left : (n i : ℕ) → i < n → n - i ≡ suc (n - (i + 1))
left n i b = omega arith

or_false : (a b : Bool) → (a || b) ≡ false → (a ≡ false) × (b ≡ false)
or_false true b e = absurd (true≢false e)
or_false false b e = (refl, e)

or_none : (a : Bool) → (a || false) ≡ a
or_none true = refl
or_none false = refl

or_true : (a : Bool) → (a || true) ≡ true
or_true true = refl
or_true false = refl

or_assoc : (a b c : Bool) → ((a || b) || c) ≡ (a || (b || c))
or_assoc true b c = refl
or_assoc false b c = refl

-- ---- the search for a text's end

module _ (w : ℕ) (f : List ℕ) (p i : ℕ) where
  pub text_stop : i < w → get_or f (p + i) 0 ≡ 0 → length (text_at (w - i) f (p + i)) ≡ 0
  text_stop b z = rw (left w i b, z)

  pub text_turn : i < w → (get_or f (p + i) 0 ≡ 0 → ⊥) → length (text_at (w - i) f (p + i)) ≡ suc (length (text_at (w - (i + 1)) f (p + (i + 1))))
  text_turn b z =
      let g : p + (i + 1) ≡ suc (p + i) = omega arith in
      rw (left w i b, g, ne_eqb (get_or f (p + i) 0) 0 z)

  pub text_none : w ≤ i → length (text_at (w - i) f (p + i)) ≡ 0
  text_none b = let e : w - i ≡ 0 = omega arith in rw e

-- ---- the search by blocks

module _ (f : List ℕ) (p : ℕ) where
  pub zero_none : has_zero 0 f p ≡ false
  unfolding has_zero
  zero_none = refl

  -- one byte more
  pub zero_turn : (k : ℕ) → (has_zero k f p || eqb (get_or f (p + k) 0) 0) ≡ has_zero (k + 1) f p
  unfolding has_zero
  zero_turn k = rw add-one

  -- m bytes and b more
  zero_join : (m b : ℕ) → has_zero (m + b) f p ≡ (has_zero m f p || has_zero b f (p + m))
  unfolding has_zero
  zero_join m zero = rw add-zero (sym (or_none (has_zero m f p)))
  zero_join m (suc b) =
      let g : p + (m + b) ≡ p + m + b = omega arith in
      rw (add-suc, zero_join m b, g) (or_assoc (has_zero m f p) (has_zero b f (p + m)) (eqb (get_or f (p + m + b) 0) 0))

  -- one block more
  pub zero_block : (m b : ℕ) → has_zero m f p ≡ false → has_zero b f (p + m) ≡ false → has_zero (m + b) f p ≡ false
  zero_block m b h z = zero_join m b ∙ rw (h, z)

  -- a block with a zero
  pub zero_found : (n m b : ℕ) → m + b ≤ n → has_zero b f (p + m) ≡ true → true ≡ has_zero n f p
  zero_found n m b h z =
      let e : n ≡ m + b + (n - (m + b)) = omega arith in
      let s : has_zero (m + b) f p ≡ true = zero_join m b ∙ rw z (or_true (has_zero m f p)) in
      sym (ap (λ (k : ℕ). has_zero k f p) e ∙ zero_join (m + b) (n - (m + b)) ∙ rw s)

  -- the last block, which starts at e, where the first m bytes have none
  pub zero_end : (n m b e : ℕ) → n ≡ e + b → e ≤ m → has_zero m f p ≡ false → has_zero b f (p + e) ≡ has_zero n f p
  zero_end n m b e s h z =
      let g : m ≡ e + (m - e) = omega arith in
      let o = or_false (has_zero e f p) (has_zero (m - e) f (p + e)) (sym (zero_join e (m - e)) ∙ ap (λ (k : ℕ). has_zero k f p) (sym g) ∙ z) in
      let j : has_zero (e + b) f p ≡ has_zero b f (p + e) = zero_join e b ∙ rw o.0 in
      sym (ap (λ (k : ℕ). has_zero k f p) s ∙ j)

  -- past bytes without a zero the text goes on
  pub zero_past : (w n : ℕ) → n ≤ w → has_zero n f p ≡ false → n + length (text_at (w - n) f (p + n)) ≡ length (text_at w f p)
  unfolding has_zero
  zero_past w zero b h = rw (zero-add, sub-zero, add-zero)
  zero_past w (suc n) b h =
      let o = or_false (has_zero n f p) (eqb (get_or f (p + n) 0) 0) h in
      rw (← add-one n) (omega (arith, zero_past w n (omega arith) o.0, text_turn w f p n (omega arith) (eqb-false (get_or f (p + n) 0) 0 o.1)))

  short_turn : (w m : ℕ) → suc m ≤ w → (t : Bool) → has_zero m f p ≡ t → (has_zero m f p || eqb (get_or f (p + m) 0) 0) ≡ true
      → (has_zero m f p ≡ true → length (text_at w f p) < m) → length (text_at w f p) < suc m
  short_turn w m b true e h k = omega (arith, k e)
  short_turn w m b false e h k =
      let z : eqb (get_or f (p + m) 0) 0 ≡ true = rw e at h in
      omega (arith, zero_past w m (omega arith) e, text_stop w f p m (omega arith) (eqb-true (get_or f (p + m) 0) 0 z))

  -- a text ends before any zero
  zero_short : (w m : ℕ) → m ≤ w → has_zero m f p ≡ true → length (text_at w f p) < m
  unfolding has_zero
  zero_short w zero b h = absurd (true≢false (sym h))
  zero_short w (suc m) b h = short_turn w m b (has_zero m f p) refl h (zero_short w m (omega arith))

-- ---- the last byte, after m others

module _ (f : List ℕ) (p n m : ℕ) (e : n ≡ m + 1) where
  abbrev long : ℕ
  long = length (text_at n f p)

  last_early : has_zero m f p ≡ true → (t : Bool) → (t && false) ≡ eqb (suc long) n
  last_early h t = rw and-false (sym (ne_eqb (suc long) n (λ z. (let y : suc long ≡ n = z in omega (arith, zero_short f p n m (omega arith) h)))))

  last_here : has_zero m f p ≡ false → (t : Bool) → eqb (get_or f (p + m) 0) 0 ≡ t → (t && true) ≡ eqb (suc long) n
  last_here h true q =
      sym (eq-eqb (suc long) n (omega (arith, zero_past f p n m (omega arith) h, text_stop n f p m (omega arith) (eqb-true (get_or f (p + m) 0) 0 q))))
  last_here h false q =
      let k = text_turn n f p m (omega arith) (eqb-false (get_or f (p + m) 0) 0 q) in
      let l = zero_past f p n m (omega arith) h in
      sym (ne_eqb (suc long) n (λ z. (let y : suc long ≡ n = z in omega (arith, k, l))))

  pub last_is : (z : Bool) → z ≡ has_zero m f p → (eqb (get_or f (p + m) 0) 0 && not z) ≡ eqb (suc long) n
  last_is true h = last_early (sym h) (eqb (get_or f (p + m) 0) 0)
  last_is false h = last_here (sym h) (eqb (get_or f (p + m) 0) 0) refl

-- ---- the bytes of a file at a place

module _ (f : List ℕ) where
  -- one byte more
  pub bytes_turn : (p i : ℕ) → p + i < length f → take i (drop p f) ++ get_or f (p + i) 0 ∷ [] ≡ take (i + 1) (drop p f)
  bytes_turn p i h =
      let k : i < length (drop p f) = simp length-drop (omega arith) in
      rw (add-one i, take-suc (drop p f) i 0 k, get_or-drop p f i 0)

  -- the m bytes at p, one by one: what a section `raw m` there says
  pub bytes_raw : (p m : ℕ) → p + m ≤ length f → take m (drop p f) ≡ (raw m).read f p
  bytes_raw p m h =
      let k : m ≤ length (drop p f) = simp length-drop (omega arith) in
      let n : length (take m (drop p f)) ≡ m = length-take-le m (drop p f) k in
      ext_get_or 0 (take m (drop p f)) ((raw m).read f p) (n ∙ sym (length_tab m (λ i. get_or f (p + i) 0)))
      λ i b. (let d : i < m = omega arith in
      get_or-take m (drop p f) i 0 d ∙ get_or-drop p f i 0 ∙ sym (get_d_tab m (λ i. get_or f (p + i) 0) 0 i d))

  -- a text is the bytes of the file, as many as it has
  pub text_bytes : (w p : ℕ) → p + w ≤ length f → take (length (text_at w f p)) (drop p f) ≡ text_at w f p
  text_bytes zero p b = refl
  text_bytes (suc w) p b = go (eqb (get_or f p 0) 0) refl (text_bytes w (suc p) (omega arith))
    where
      go : (t : Bool) → eqb (get_or f p 0) 0 ≡ t → take (length (text_at w f (suc p))) (drop (suc p) f) ≡ text_at w f (suc p)
          → take (length (text_at (suc w) f p)) (drop p f) ≡ text_at (suc w) f p
      go true e h = rw e
      go false e h = let k : p < length f = omega arith in rw (e, drop-cons f p 0 k) (ap (λ (l : List ℕ). get_or f p 0 ∷ l) h)

  -- a text's bytes and zeros to the end of a field of n bytes are what is put for it there
  pub text_put : (w p m n : ℕ) → p + w ≤ length f → m ≡ length (text_at w f p) → m ≤ n
      → take m (drop p f) ++ replicate (n - m) 0 ≡ fill (text_slots n (text_at w f p))
  text_put w p m n b e h = let k : length (text_at w f p) ≤ n = omega arith in rw (e, text_bytes w p b) (sym (fill_text n (text_at w f p) k))

-- ---- the comparison of a tag

module _ (t f : List ℕ) (p i : ℕ) where
  pub same_turn : i < length t → get_or f (p + i) 0 ≡ get_or t i 0 → same_at (drop i t) f (p + i) ≡ same_at (drop (i + 1) t) f (p + (i + 1))
  same_turn b e =
      let g : p + (i + 1) ≡ suc (p + i) = omega arith in
      rw (drop-cons t i 0 b, g, add-one i, eq-eqb (get_or f (p + i) 0) (get_or t i 0) e)

  pub same_stop : i < length t → (get_or f (p + i) 0 ≡ get_or t i 0 → ⊥) → same_at (drop i t) f (p + i) ≡ false
  same_stop b e = rw (drop-cons t i 0 b, ne_eqb (get_or f (p + i) 0) (get_or t i 0) e)

  pub same_none : length t ≤ i → same_at (drop i t) f (p + i) ≡ true
  same_none b = rw (drop_of_length-le t {i = i} b)

eqb_turned : (a b : ℕ) → eqb a b ≡ eqb b a
eqb_turned a b = go (eqb b a) refl
  where
    go : (t : Bool) → eqb b a ≡ t → eqb a b ≡ t
    go true e = eq-eqb a b (sym (eqb-true b a e))
    go false e = ne_eqb a b (λ z. eqb-false b a e (sym z))

-- the bytes of t stand at p where they are what the file from p on starts with
pub same_starts : (t f : List ℕ) (p : ℕ) → p + length t ≤ length f → starts_with eqb (drop p f) t ≡ same_at t f p
same_starts [] f p b = refl
same_starts (x ∷ t) f p b =
    let h : p < length f = omega arith in
    rw (drop-cons f p 0 h, eqb_turned x (get_or f p 0), same_starts t f (suc p) (omega arith))

module _ (t : List ℕ) (c : ℕ) (f : List ℕ) (p : ℕ) where
  pub tag_short : length f < p + length t → (tag t c).judge f p ≡ 3
  unfolding tag
  tag_short h = rw (lt-leb (p + length t) (length f) h)

  pub tag_there : p + length t ≤ length f → (tag t c).judge f p ≡ unless (same_at t f p) c
  unfolding tag
  tag_there h = rw (le-leb (p + length t) (length f) h)
