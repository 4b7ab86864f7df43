-- A list that ends at its first zero is good.
use mathlib.Core.Path.{◌≡◌, refl, sym, ap, ◌∙◌, subst}
use Prim.Native.Nat.{ℕ, zero, suc, ◌+◌, ◌-◌, ◌*◌, ◌^◌, ◌≤◌, ◌<◌}
use native.Mathlib.Nat.{add-zero, add_assoc, not-suc-le-zero, suc-mul, zero-mul, one-le-pow, le_of_suc-le-suc}
use native.Mathlib.Omega.{arith}
use mathlib.Core.List.{List, [], ◌∷◌, ◌++◌}
use mathlib.Core.Bool.{Bool, true, false, cond, not, ◌&&◌, ◌||◌, true≢false}
use lib.ListN.{length, get_or, replicate, length-append, length-replicate}
use lib.Dec.{eqb, leb, ltb}
use borrow.Author.Tests.{eqb-true, eqb-false, eq-eqb, ne_eqb, ltb-true, lt-ltb}
use Rattle.format.specs.Slot.{Slot, byte, spare, Takes, Fits, Bytes}
use Rattle.format.specs.Number.{Order, num, num_slots, tab}
use Rattle.format.specs.Grammar.{Sect, unless, ended_slots, ended_at, Ended, ended}
use Rattle.format.proofs.SlotLaws.{fits_left, fits_right, fits_append, fits_idle, length_tab, Small, small_append, small_idle}
use Rattle.format.proofs.NumberLaws.{num_read, num_fits, num_small, number_small}
use Rattle.format.proofs.Good.{Good, unless_true, unless_holds}

module _ (o : Order) (w : ℕ) where
  pub ended_length : (n : ℕ) (l : List ℕ) → length (ended_slots o w n l) ≡ n * w
  ended_length zero l = sym (zero-mul w)
  ended_length (suc n) [] = rw (length-append, length_tab, length-replicate, suc-mul) (omega arith)
  ended_length (suc n) (x ∷ l) = rw (length-append, length_tab, ended_length n l, suc-mul) (omega arith)

  ended_small : (n : ℕ) (l : List ℕ) → Small (ended_slots o w n l)
  ended_small zero l = tt
  ended_small (suc n) [] = small_append (num_slots o w 0) (replicate (n * w) (spare 0)) (number_small o w 0) (small_idle (n * w) 0 (omega arith))
  ended_small (suc n) (x ∷ l) = small_append (num_slots o w x) (ended_slots o w n l) (number_small o w x) (ended_small n l)

  pub ended_read : (n : ℕ) (l : List ℕ) (f : List ℕ) (p : ℕ) → Ended o w n l → Fits f p (ended_slots o w n l) → ended_at o w n f p ≡ l
  ended_read zero l f p r m = absurd r
  ended_read (suc n) [] f p r m =
      let e = num_read o w 0 f p (one-le-pow w 256 (omega arith)) (fits_left f p (num_slots o w 0) (replicate (n * w) (spare 0)) m) in
      rw (eq-eqb (num o w f p) 0 e)
  ended_read (suc n) (x ∷ l) f p r m =
      let e = num_read o w x f p r.1 (fits_left f p (num_slots o w x) (ended_slots o w n l) m) in
      let h : Fits f (p + w) (ended_slots o w n l) = rw length_tab at (fits_right f p (num_slots o w x) (ended_slots o w n l) m) in
      rw (e, ne_eqb x 0 (λ z. (let y : x ≡ 0 = z in omega (arith, r.0))), ended_read n l f (p + w) r.2 h)

  ended_short : (n : ℕ) (l : List ℕ) → Ended o w n l → length l < n
  ended_short zero l r = absurd r
  ended_short (suc n) [] r = omega arith
  ended_short (suc n) (x ∷ l) r = omega (arith, ended_short n l r.2)

  ended_fits : (n : ℕ) (f : List ℕ) (p : ℕ) → Bytes f → p + n * w ≤ length f → length (ended_at o w n f p) < n
      → (Ended o w n (ended_at o w n f p)) × (Fits f p (ended_slots o w n (ended_at o w n f p)))
  ended_fits zero f p u b l = absurd (not-suc-le-zero l)
  ended_fits (suc n) f p u b l = go (eqb (num o w f p) 0) refl (ended_fits n f (p + w) u)
    where
      c : p + (w + n * w) ≤ length f
      c = omega (arith, rw suc-mul at b)

      go : (t : Bool) → eqb (num o w f p) 0 ≡ t
          → (p + w + n * w ≤ length f → length (ended_at o w n f (p + w)) < n
          → (Ended o w n (ended_at o w n f (p + w))) × (Fits f (p + w) (ended_slots o w n (ended_at o w n f (p + w)))))
          → (Ended o w (suc n) (ended_at o w (suc n) f p)) × (Fits f p (ended_slots o w (suc n) (ended_at o w (suc n) f p)))
      go true e ih =
          let z = eqb-true (num o w f p) 0 e in
          rw e (
            tt,
            fits_append f p (num_slots o w 0) (replicate (n * w) (spare 0))
                (subst (λ (x : ℕ). Fits f p (num_slots o w x)) z (num_fits o w f p u (omega (arith, c))))
                (fits_idle f (p + length (num_slots o w 0)) (n * w) 0 (rw length_tab (omega (arith, c)))),
          )
      go false e ih =
          let l2 : suc (length (ended_at o w n f (p + w))) < suc n = rw e at l in
          let i = ih (omega (arith, c)) (omega arith) in
          rw e (
            (omega (arith, eqb-false (num o w f p) 0 e), num_small o w f p u, i.0),
            fits_append f p (num_slots o w (num o w f p)) (ended_slots o w n (ended_at o w n f (p + w))) (num_fits o w f p u (omega (arith, c)))
                (rw length_tab i.1),
          )

  pub ended_good : (n c : ℕ) → 0 < c → Good (n * w) ◌≤◌ (ended o w n c)
  ended_good n c h =
      record {
        sized = ended_length n;
        small = λ l r. ended_small n l;
        complete = λ f p l r m e. record {
          accepted = unless_holds (ltb (length (ended_at o w n f p)) n) c
              (lt-ltb (length (ended_at o w n f p)) n (rw (ended_read n l f p r m) (ended_short n l r)));
          read_back = ended_read n l f p r m;
        };
        sound = λ f p u l j.
            (let q = ended_fits n f p u l (ltb-true (length (ended_at o w n f p)) n (unless_true (ltb (length (ended_at o w n f p)) n) c h j)) in
            record { right = q.0; fits = q.1; ends = l });
      }
