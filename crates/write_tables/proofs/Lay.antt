-- An output that is written from the front: what is laid down, and what is yet to be laid, are the whole.
use mathlib.Core.Path.{◌≡◌, refl, sym, ap, ◌∙◌, subst}
use mathlib.Core.List.{List, [], ◌∷◌, ◌++◌, append_assoc, append-nil}
use Prim.Native.Nat.{ℕ, suc, ◌+◌, ◌-◌, ◌<◌, ◌≤◌}
use native.Mathlib.Nat.{add-zero}
use native.Mathlib.Omega.{arith}
use native.Mathlib.Numerals.{add-one}
use borrow.Rule.Slice.PartMut.{put_mid}
use lib.ListN.{length, take, drop, set, get_or, length-append, length-drop, length-set, drop_of_length-le, take-append-drop}
use lib.Seq.{take_at, drop_at, drop-drop, take_all, length-take-le, drop-set-lt, take-suc-set, get_or-drop}

-- the first n bytes of w are laid down, rest is yet to come, and past them w is as d was
pub record Lay (d w : List ℕ) (n : ℕ) (rest whole : List ℕ) : Type 0 where
  pub head : take n w ++ rest ≡ whole
  pub tail : drop n w ≡ drop n d
  pub long : length w ≡ length d

pub lay_start : (d whole : List ℕ) → Lay d d 0 whole whole
lay_start d whole = record { head = refl; tail = refl; long = refl }

module _ (d w : List ℕ) (n : ℕ) (rest whole : List ℕ) where
  -- one byte more
  pub lay_byte : (x y : ℕ) → Lay d w n (x ∷ rest) whole → y ≡ x → n < length d → Lay d (set w n y) (n + 1) rest whole
  lay_byte x y l e h =
      let b : n < length w = omega (arith, l.long) in
      record {
        head = rw (add-one n, take-suc-set w n y b, append_assoc, e) l.head;
        tail = rw (add-one n, drop-set-lt (suc n) w n y (omega arith)) (sym (drop-drop 1 n w ∙ ap (λ (k : ℕ). drop k w) (add-one n)) ∙ ap (drop 1) l.tail ∙ drop-drop 1 n d ∙ ap (λ (k : ℕ). drop k d) (add-one n));
        long = length-set w n y ∙ l.long;
      }

  -- one section more, written into the tail
  pub lay_part : (g p : List ℕ) (b : ℕ) → Lay d w n (g ++ rest) whole → length g ≡ b → n + b ≤ length d
      → p ≡ g ++ drop b (take (length w - n) (drop n w)) → Lay d (put_mid n (length w - n) w p) (n + b) rest whole
  lay_part g p b l hg room hp =
      let s = l.long in
      let all : take (length w - n) (drop n w) ≡ drop n w = take_all (length w - n) (drop n w) (simp length-drop (omega arith)) in
      let none : drop (length w - n) (drop n w) ≡ [] = drop_of_length-le (drop n w) {i = length w - n} (simp length-drop (omega arith)) in
      let is : put_mid n (length w - n) w p ≡ (take n w ++ g) ++ drop (n + b) w = rw (none, hp, all, append-nil, drop-drop, append_assoc) in
      let lg : length (take n w ++ g) ≡ n + b = length-append (take n w) g ∙ rw (length-take-le n w (omega arith), hg) in
      record {
        head = rw (is, take_at (take n w ++ g) (drop (n + b) w) (n + b) lg, append_assoc) l.head;
        tail = rw (is, drop_at (take n w ++ g) (drop (n + b) w) (n + b) lg) (sym (drop-drop b n w) ∙ ap (drop b) l.tail ∙ drop-drop b n d);
        long = ap length is ∙ length-append (take n w ++ g) (drop (n + b) w) ∙ rw (lg, length-drop) (omega arith);
      }

pub lay_end : (d w : List ℕ) (n : ℕ) (whole : List ℕ) → Lay d w n [] whole → w ≡ whole ++ drop n d
lay_end d w n whole l = sym (take-append-drop n w) ∙ rw (l.tail, sym (append-nil (take n w)), l.head)

-- what is yet to come is told in another way
pub lay_as : (d w : List ℕ) (n m : ℕ) (r s whole : List ℕ) → Lay d w n r whole → n ≡ m → r ≡ s → Lay d w m s whole
lay_as d w n m r s whole l e g = subst (λ (k : ℕ). Lay d w k s whole) e (subst (λ (x : List ℕ). Lay d w n x whole) g l)

-- what stands next is as it was
pub lay_at : (d w : List ℕ) (n : ℕ) (rest whole : List ℕ) → Lay d w n rest whole → get_or w n 0 ≡ get_or d n 0
lay_at d w n rest whole l =
    ap (λ (k : ℕ). get_or w k 0) (sym (add-zero n)) ∙ sym (get_or-drop n w 0 0) ∙ ap (λ (x : List ℕ). get_or x 0 0) l.tail ∙ get_or-drop n d 0 0 ∙ ap (λ (k : ℕ). get_or d k 0) (add-zero n)

pub lay_close : (d w : List ℕ) (n m : ℕ) (r whole all : List ℕ) → Lay d w n r whole → n ≡ m → r ≡ [] → whole ≡ all → w ≡ all ++ drop m d
lay_close d w n m r whole all l e z g = lay_end d w n whole (lay_as d w n n r [] whole l refl z) ∙ rw (g, e)
