-- An output that is written from its front, a byte or a section at a time.
use mathlib.Core.Path.{◌≡◌, refl, ap, ◌∙◌, subst}
use mathlib.Core.List.{List, [], ◌∷◌, ◌++◌, append_assoc, append-nil}
use Prim.Native.Nat.{ℕ, suc, ◌+◌, ◌-◌, ◌<◌, ◌≤◌}
use native.Mathlib.Omega.{arith}
use native.Mathlib.Numerals.{add-one}
use borrow.Rule.Slice.PartMut.{put_mid}
use lib.ListN.{length, take, drop, set, get_or, length-append, length-drop, length-set, drop_of_length-le}
use lib.Seq.{drop-cons, set_at, take_at, drop_at, drop-drop, take_all}

-- w is t, of a bytes, and then what d has past them
pub record Laid (t : List ℕ) (a : ℕ) (d w : List ℕ) : Type 0 where
  pub is : w ≡ t ++ drop a d
  pub long : length t ≡ a
  pub whole : length w ≡ length d

pub laid_none : (d : List ℕ) → Laid [] 0 d d
laid_none d = record { is = refl; long = refl; whole = refl }

-- a first section of a bytes, as a contract says it
pub laid_first : (t d w : List ℕ) (a : ℕ) → w ≡ t ++ drop a d → length t ≡ a → a ≤ length d → Laid t a d w
laid_first t d w a e n h = record { is = e; long = n; whole = ap length e ∙ length-append t (drop a d) ∙ simp length-drop (omega arith) }

-- what is written is told in another way
pub laid_as : {t u : List ℕ} {a b : ℕ} {d w : List ℕ} → Laid t a d w → t ≡ u → a ≡ b → Laid u b d w
laid_as {t} {u} {a} {b} {d} {w} l p q = subst (λ (x : List ℕ). Laid x b d w) p (subst (λ (k : ℕ). Laid t k d w) q l)

module _ {t : List ℕ} {a : ℕ} {d w : List ℕ} (l : Laid t a d w) where
  -- one byte more
  pub laid_byte : (v : ℕ) → a < length d → Laid (t ++ v ∷ []) (a + 1) d (set w a v)
  laid_byte v h =
      let e = l.long in
      record {
        is =
            ap (λ (x : List ℕ). set x a v) l.is
            ∙ rw (drop-cons d a 0, set_at t (get_or d a 0) (drop (suc a) d) v a, append_assoc, add-one);
        long = length-append t (v ∷ []) ∙ omega arith;
        whole = length-set w a v ∙ l.whole;
      }

  -- one section more, of b bytes, into the tail. `put_mid` is what the borrow checker says of a slice whose part `&mut out[a..]` has come back
  pub laid_part : (g p : List ℕ) (b : ℕ) → length g ≡ b → a + b ≤ length d → p ≡ g ++ drop b (take (length w - a) (drop a w))
      → Laid (t ++ g) (a + b) d (put_mid a (length w - a) w p)
  laid_part g p b hg room hp =
      let e = l.long in
      let tail : drop a w ≡ drop a d = rw l.is (drop_at t (drop a d) a e) in
      let head : take a w ≡ t = rw l.is (take_at t (drop a d) a e) in
      let all : take (length w - a) (drop a w) ≡ drop a w = take_all (length w - a) (drop a w) (simp length-drop (omega arith)) in
      let none : drop (length w - a) (drop a w) ≡ [] = drop_of_length-le (drop a w) {i = length w - a} (simp length-drop (omega arith)) in
      let is : put_mid a (length w - a) w p ≡ (t ++ g) ++ drop (a + b) d = rw (head, none, hp, all, tail, append-nil, drop-drop, append_assoc) in
      let long : length (t ++ g) ≡ a + b = length-append t g ∙ omega arith in
      record { is = is; long = long; whole = ap length is ∙ length-append (t ++ g) (drop (a + b) d) ∙ simp length-drop (omega arith) }
