-- Numbers of 2 bytes up to the first zero: counted, and put.
use mathlib.Core.Path.{◌≡◌, refl, sym, ap, ◌∙◌}
use Prim.Native.Nat.{ℕ, zero, suc, ◌+◌, ◌-◌, ◌*◌, ◌≤◌, ◌<◌}
use native.Mathlib.Nat.{sub-zero, add-zero, zero-add}
use native.Mathlib.Numerals.{add-one}
use native.Mathlib.Omega.{arith}
use mathlib.Core.List.{List, [], ◌∷◌, ◌++◌}
use mathlib.Core.Bool.{Bool, true, false}
use borrow.Author.Tests.{ne_eqb}
use lib.Dec.{eqb}
use lib.ListN.{length, set}
use Rattle.format.specs.Number.{Order, num}
use Rattle.format.specs.Grammar.{number, read_times, ended_at}
use Rattle.text.proofs.Lay.{Laid, laid_none, laid_byte, laid_as}
use Rattle.writing.specs.Writes.{Puts}
use Rattle.writing.proofs.Chain.{puts_of}
use Rattle.write_texts.proofs.TimesLaws.{reads_more}

module _ (o : Order) (f : List ℕ) where
  -- those before the first zero are at most n, and the first of all
  pub record First (n p : ℕ) : Type 0 where
    pub few : length (ended_at o 2 n f p) ≤ n
    pub are : read_times (number o 2) (length (ended_at o 2 n f p)) f p ≡ ended_at o 2 n f p

  pub ended_first : (n p : ℕ) → First n p
  ended_first zero p = record { few = omega arith; are = refl }
  ended_first (suc n) p = go (eqb (num o 2 f p) 0) refl (ended_first n (p + 2))
    where
      go : (b : Bool) → eqb (num o 2 f p) 0 ≡ b → First n (p + 2) → First (suc n) p
      go true e h = record { few = rw e (omega arith); are = rw e }
      go false e h = record { few = rw e (omega arith); are = rw e (ap (λ (l : List ℕ). num o 2 f p ∷ l) h.are) }

-- ---- counted

module _ (o : Order) (f : List ℕ) (p n : ℕ) where
  -- the first i of n are not zero
  pub record Counted (i : ℕ) : Type 0 where
    pub low : i ≤ n
    pub count : length (ended_at o 2 n f p) ≡ i + length (ended_at o 2 (n - i) f (p + i * 2))

pub counted_none : {o : Order} {f : List ℕ} {p n : ℕ} → Counted o f p n 0
counted_none = record { low = omega arith; count = rw (sub-zero, add-zero, zero-add) refl }

left : (n i : ℕ) → i < n → n - i ≡ suc (n - (i + 1))
left n i b = omega arith

module _ {o : Order} {f : List ℕ} {p n i : ℕ} (s : Counted o f p n i) where
  -- the next one
  module _ (b : i < n) {x : ℕ} (e : x ≡ num o 2 f (p + i * 2)) where
    pub counted_stop : x ≡ 0 → i ≡ length (ended_at o 2 n f p)
    counted_stop h =
        let z : num o 2 f (p + i * 2) ≡ 0 = sym e ∙ h in
        let y : length (ended_at o 2 (n - i) f (p + i * 2)) ≡ 0 = rw (left n i b, z) in
        omega (arith, s.count)

    pub counted_on : (x ≡ 0 → ⊥) → Counted o f p n (i + 1)
    counted_on h =
        let step : p + i * 2 + 2 ≡ p + (i + 1) * 2 = omega arith in
        let y : length (ended_at o 2 (n - i) f (p + i * 2)) ≡ suc (length (ended_at o 2 (n - (i + 1)) f (p + (i + 1) * 2))) =
        rw (left n i b, ne_eqb (num o 2 f (p + i * 2)) 0 (λ z. h (e ∙ z))) (ap (λ (q : ℕ). suc (length (ended_at o 2 (n - (i + 1)) f q))) step) in
        record { low = omega arith; count = omega (arith, s.count) }

  pub counted_all : n ≤ i → n ≡ length (ended_at o 2 n f p)
  counted_all b =
      let z : n - i ≡ 0 = omega arith in
      let y : length (ended_at o 2 (n - i) f (p + i * 2)) ≡ 0 = rw z in
      omega (arith, s.count)

-- ---- put

module _ (o : Order) (f : List ℕ) (p n : ℕ) where
  -- the first i of n are put over d
  pub record Done (d w : List ℕ) (i : ℕ) : Type 0 where
    pub low : i ≤ n
    pub laid : Laid (read_times (number o 2) i f p) i d w

pub done_none : {o : Order} {f : List ℕ} {p n : ℕ} {d : List ℕ} → Done o f p n d d 0
done_none {d = d} = record { low = omega arith; laid = laid_none d }

module _ {o : Order} {f : List ℕ} {p n : ℕ} {d w : List ℕ} {i : ℕ} (s : Done o f p n d w i) where
  pub done_on : i < n → n ≤ length d → {x : ℕ} → x ≡ num o 2 f (p + i * 2) → Done o f p n d (set w i x) (i + 1)
  done_on b room {x} e =
      let more = ap (λ (y : ℕ). read_times (number o 2) i f p ++ y ∷ []) e ∙ sym (reads_more (number o 2) 2 (λ a. refl) f i p) in
      record { low = omega arith; laid = laid_as (laid_byte s.laid x (omega arith)) (more ∙ ap (λ (k : ℕ). read_times (number o 2) k f p) (sym (add-one i))) refl }

  pub done_all : n ≤ i → Puts (read_times (number o 2) n f p) d w n
  done_all b = let e : i ≡ n = omega arith in puts_of (laid_as s.laid (ap (λ (k : ℕ). read_times (number o 2) k f p) e) e)
