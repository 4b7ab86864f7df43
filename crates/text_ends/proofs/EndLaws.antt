-- Where the texts in a table's text area end: from one place to another, and block by block.
use mathlib.Core.Path.{◌≡◌, refl, ap, ◌∙◌, subst}
use Prim.Native.Nat.{ℕ, zero, suc, ◌+◌, ◌-◌, ◌*◌, ◌≤◌, ◌<◌}
use native.Mathlib.Omega.{arith}
use mathlib.Core.List.{List}
use mathlib.Core.Bool.{Bool, true, false}
use lib.ListN.{length, get_or, set, length-set}
use lib.Seq.{get_or-set_same, get_or-set_other}
use lib.Dec.{eqb}
use borrow.Author.Tests.{eqb-true, eqb-false}
use Rattle.format.specs.Grammar.{text_at}
use Rattle.text.specs.Texts.{IsTextLength}
use Rattle.reading.proofs.ReadLaws.{text_short}
use Rattle.text_ends.specs.Ends.{end_from, EndsBy, Ends}

-- ---- a text in a field of two parts

-- it ends in the first, or else where that in the second does
text_first : (v w : ℕ) (f : List ℕ) (p : ℕ) → length (text_at v f p) < v → length (text_at (v + w) f p) ≡ length (text_at v f p)
text_first zero w f p h = absurd (omega arith)
text_first (suc v) w f p h = go (eqb (get_or f p 0) 0) refl (text_first v w f (suc p))
  where
    go : (t : Bool) → eqb (get_or f p 0) 0 ≡ t → (length (text_at v f (suc p)) < v → length (text_at (v + w) f (suc p)) ≡ length (text_at v f (suc p)))
        → length (text_at (suc v + w) f p) ≡ length (text_at (suc v) f p)
    go true e ih = let s : suc v + w ≡ suc (v + w) = omega arith in rw (s, e)
    go false e ih =
        let s : suc v + w ≡ suc (v + w) = omega arith in
        let g : suc (length (text_at v f (suc p))) < suc v = rw e at h in
        rw (s, e) (ap suc (ih (omega arith)))

text_second : (v w : ℕ) (f : List ℕ) (p : ℕ) → v ≤ length (text_at v f p) → length (text_at (v + w) f p) ≡ v + length (text_at w f (p + v))
text_second zero w f p h = let s : 0 + w ≡ w = omega arith in let q : p + 0 ≡ p = omega arith in rw (s, q) (omega arith)
text_second (suc v) w f p h = go (eqb (get_or f p 0) 0) refl (text_second v w f (suc p))
  where
    go : (t : Bool) → eqb (get_or f p 0) 0 ≡ t → (v ≤ length (text_at v f (suc p)) → length (text_at (v + w) f (suc p)) ≡ v + length (text_at w f (suc p + v)))
        → length (text_at (suc v + w) f p) ≡ suc v + length (text_at w f (p + suc v))
    go true e ih = let g : suc v ≤ 0 = rw e at h in absurd (omega arith)
    go false e ih =
        let s : suc v + w ≡ suc (v + w) = omega arith in
        let q : p + suc v ≡ suc p + v = omega arith in
        let g : suc v ≤ suc (length (text_at v f (suc p))) = rw e at h in
        rw (s, q, e) (omega (arith, ih (omega arith)))

-- ---- from one place to another

-- with n bytes found from y on, before z
module _ {f : List ℕ} {n : ℕ} (a y z : ℕ) (N : IsTextLength (z - y) f (a + y) n) (low : y ≤ z) where
  parts : (x : ℕ) → z ≤ x → x - y ≡ (z - y) + (x - z)
  parts x h = omega arith

  pub ends_first : {e : ℕ} → n < z - y → EndsBy f a y z e (y + n)
  ends_first b =
      record {
        all = λ x h E.
            (let k : length (text_at (z - y) f (a + y)) < z - y = omega (arith, N.is) in
            rw (parts x h, text_first (z - y) (x - z) f (a + y) k) (ap (λ (m : ℕ). y + m) N.is));
      }

  pub ends_second : {e : ℕ} → z - y ≤ n → EndsBy f a y z e e
  ends_second b =
      record {
        all = λ x h E.
            (let k : z - y ≤ length (text_at (z - y) f (a + y)) = omega (arith, N.is) in
            let q : a + y + (z - y) ≡ a + z = omega arith in
            rw (parts x h, text_second (z - y) (x - z) f (a + y) k, q) (omega (arith, E)));
      }

pub end_most : (f : List ℕ) (a x y : ℕ) → y ≤ x → end_from f a x y ≤ x
end_most f a x y h = omega (arith, text_short (x - y) f (a + y))

-- ---- block by block, from the last on

module _ (f : List ℕ) (a x : ℕ) where
  -- the entries from b on are told; e is where the text from y on ends
  pub record Ending (t : List ℕ) (b y e : ℕ) : Type 0 where
    pub ends : Ends f a x b t
    pub near : b * 256 ≤ y + 256
    pub low : y ≤ x
    pub few : b ≤ 20737
    pub here : e ≡ end_from f a x y

  pub ending_none : {t : List ℕ} {b : ℕ} → length t ≡ 20737 → x ≤ 5308416 → x < b * 256 → b * 256 ≤ x + 256 → Ending t b x x
  ending_none n m l h =
      let z : x - x ≡ 0 = omega arith in
      record {
        ends = record { long = n; each = λ i g k. absurd (omega arith) };
        near = h;
        low = omega arith;
        few = omega arith;
        here = rw z (omega arith);
      }

module _ {f : List ℕ} {a x : ℕ} {t : List ℕ} {b y e : ℕ} (H : Ending f a x t b y e) where
  module _ (some : 0 < b) {r : ℕ} (R : EndsBy f a ((b - 1) * 256) y e r) where
    next : r ≡ end_from f a x ((b - 1) * 256)
    next = R.all x H.low H.here

    pub ending_low : r ≤ x
    ending_low = omega (arith, next, H.near, H.low, end_most f a x ((b - 1) * 256) (omega (arith, H.near, H.low)))

    told : (i : ℕ) → b - 1 ≤ i → i * 256 ≤ x → (q : Bool) → eqb i (b - 1) ≡ q → get_or (set t (b - 1) r) i 0 ≡ end_from f a x (i * 256)
    told i g k true q = rw (eqb-true i (b - 1) q) (get_or-set_same t (b - 1) r 0 (omega (arith, H.few, H.ends.long)) ∙ next)
    told i g k false q =
        let n = eqb-false i (b - 1) q in
        get_or-set_other t (b - 1) i r 0 n ∙ H.ends.each i (omega (arith, n)) k

    pub ending_on : Ending f a x (set t (b - 1) r) (b - 1) ((b - 1) * 256) r
    ending_on =
        record {
          ends = record { long = length-set t (b - 1) r ∙ H.ends.long; each = λ i g k. told i g k (eqb i (b - 1)) refl };
          near = omega arith;
          low = omega (arith, H.near, H.low);
          few = omega (arith, H.few);
          here = next;
        }

  pub ending_all : b ≤ 0 → Ends f a x 0 t
  ending_all h = let z : b ≡ 0 = omega arith in subst (λ (n : ℕ). Ends f a x n t) z H.ends

-- ---- what the entries say

module _ {f : List ℕ} {a x : ℕ} {t : List ℕ} (T : Ends f a x 0 t) (i : ℕ) (inside : i * 256 ≤ x) where
  pub ends_low : get_or t i 0 ≤ x
  ends_low = omega (arith, T.each i (omega arith) inside, end_most f a x (i * 256) inside)

  -- of a text from y on, which entry i helps to find
  module _ {y r : ℕ} (R : EndsBy f a y (i * 256) (get_or t i 0) r) where
    pub ends_is : r ≡ end_from f a x y
    ends_is = R.all x inside (T.each i (omega arith) inside)

    pub ends_length : y ≤ x → IsTextLength (x - y) f (a + y) (r - y)
    ends_length h = record { is = omega (arith, ends_is); short = omega (arith, ends_is, end_most f a x y h) }
