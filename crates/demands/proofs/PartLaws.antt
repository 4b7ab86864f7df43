-- Laws of one part: what gives its own number there.
use mathlib.Core.Path.{◌≡◌, refl, sym, ◌∙◌}
use Prim.Native.Nat.{ℕ, zero, suc, ◌+◌, ◌*◌, ◌≤◌, ◌<◌}
use native.Mathlib.Nat.{add-zero, zero-mul, suc-mul}
use native.Mathlib.Omega.{arith}
use mathlib.Core.List.{List, [], ◌∷◌}
use mathlib.Core.Logic.{◌⊎◌, inl, inr}
use mathlib.Core.Bool.{Bool, true, false, cond}
use lib.ListN.{length}
use lib.Dec.{eqb, ltb}
use borrow.Author.Tests.{eqb-false, ltb-false, le-ltb}
use Rattle.format.specs.Number.{Order, num}
use Rattle.format.specs.Grammar.{Sect, also, unless, need, next, within, ruled, same_at, tag, between, judge_times, ended_at, ended}
use Rattle.format.proofs.Good.{also_left, also_right, unless_true, need_fits, need_room}
use Rattle.format.proofs.StepLaws.{between_judge}
use Rattle.demands.specs.Reasons.{Opened}
use Rattle.demands.proofs.NumberLaws.{need_listed, tag_numbered}
use Rattle.demands.proofs.PlaceLaws.{Own, but, second, first, first_is}

-- ---- tags

-- a tag is right exactly if its bytes stand there
pub tag_met : (l : List ℕ) (c : ℕ) (f : List ℕ) (p : ℕ) → same_at l f p ≡ true → p + length l ≤ length f → (tag l c).judge f p ≡ 0
unfolding tag
tag_met l c f p h b = rw (need_fits (length l) f p b, h)

pub tag_stands : (l : List ℕ) (c : ℕ) (f : List ℕ) (p : ℕ) → (tag l (suc c)).judge f p ≡ 0 → (same_at l f p ≡ true) × (p + length l ≤ length f)
unfolding tag
tag_stands l c f p h = (
  unless_true (same_at l f p) (suc c) (omega arith) (also_right (need (length l) f p) (unless (same_at l f p) (suc c)) h),
  need_room (length l) f p (also_left (need (length l) f p) (unless (same_at l f p) (suc c)) h),
)

-- ---- a part between tags: a number of its own is its contents'

module _ {A : Type 0} (l r : List ℕ) (S : Sect A) (f : List ℕ) (p : ℕ) (c : ℕ) (w : Own c) where
  pub between_of : (between l r S).judge f p ≡ c → ((tag l 4).judge f p ≡ 0) × (S.judge f (p + length l) ≡ c)
  between_of h =
      let a = second ((tag l 4).judge f p) _ c ((tag_numbered (but c w) l 4 (rw w.tags)).given f p) (sym (between_judge l r S f p) ∙ h) in
      (a.0, first (S.judge f (p + length l)) _ c ((tag_numbered (but c w) r 4 (rw w.tags)).given f (next S f (p + length l))) a.1)

  pub of_between : (tag l 4).judge f p ≡ 0 → S.judge f (p + length l) ≡ c → (between l r S).judge f p ≡ c
  of_between a h = between_judge l r S f p ∙ rw a (first_is (S.judge f (p + length l)) _ c (rw w.none) h)

-- .. where n bytes must be there
module _ {A : Type 0} (l r : List ℕ) (n : ℕ) (S : Sect A) (f : List ℕ) (p : ℕ) (c : ℕ) (w : Own c) where
  pub part_of : (between l r (within n S)).judge f p ≡ c → Opened l n f p × (S.judge f (p + length l) ≡ c)
  part_of h =
      let a = between_of l r (within n S) f p c w h in
      let d = second (need n f (p + length l)) (S.judge f (p + length l)) c (need_listed (but c w) n f (p + length l)) a.1 in
      (record { tag = (tag_stands l 3 f p a.0).0; room = need_room n f (p + length l) d.0 }, d.1)

  pub of_part : Opened l n f p → S.judge f (p + length l) ≡ c → (between l r (within n S)).judge f p ≡ c
  of_part b h =
      of_between l r (within n S) f p c w (tag_met l 4 f p b.tag (omega (arith, b.room))) (rw (need_fits n f (p + length l) b.room) h)

-- ---- a list of sections of one width, each of which gives 0 or c

module _ {A : Type 0} (S : Sect A) (w : ℕ) (wide : (a : A) → S.size a ≡ w) (f : List ℕ) (c : ℕ) (z : eqb 0 c ≡ false) where
  pub some_of : (n p : ℕ) → judge_times S n f p ≡ c → (i : ℕ) × (i < n) × (S.judge f (p + i * w) ≡ c)
  some_of zero p h = absurd (eqb-false 0 c z h)
  some_of (suc n) p h = go (S.judge f p) refl (some_of n (next S f p))
    where
      go : (x : ℕ) → S.judge f p ≡ x → (judge_times S n f (next S f p) ≡ c → (i : ℕ) × (i < n) × (S.judge f (next S f p + i * w) ≡ c))
          → (i : ℕ) × (i < suc n) × (S.judge f (p + i * w) ≡ c)
      go zero e ih =
          let r = ih (rw e at h) in
          let q : next S f p + r.0 * w ≡ p + suc r.0 * w = rw suc-mul (omega (arith, wide (S.read f p))) in
          (suc r.0, omega (arith, r.1), rw q at r.2)
      go (suc x) e ih =
          let y : suc x ≡ c = rw e at h in
          let q : p + 0 * w ≡ p = rw zero-mul (add-zero p) in
          (0, omega arith, rw q (e ∙ y))

  pub of_some : ((q : ℕ) → (S.judge f q ≡ 0) ⊎ (S.judge f q ≡ c)) → (n p i : ℕ) → i < n → S.judge f (p + i * w) ≡ c → judge_times S n f p ≡ c
  of_some two zero p i b h = absurd (omega arith)
  of_some two (suc n) p zero b h =
      let q : p + 0 * w ≡ p = rw zero-mul (add-zero p) in
      first_is (S.judge f p) _ c (rw z) (rw q at h)
  of_some two (suc n) p (suc i) b h =
      let q : p + suc i * w ≡ next S f p + i * w = rw suc-mul (omega (arith, wide (S.read f p))) in
      go (two p) (of_some two n (next S f p) i (omega arith) (rw q at h))
    where
      go : (S.judge f p ≡ 0) ⊎ (S.judge f p ≡ c) → judge_times S n f (next S f p) ≡ c → also (S.judge f p) (judge_times S n f (next S f p)) ≡ c
      go (inl e) ih = rw e ih
      go (inr e) ih = first_is (S.judge f p) _ c (rw z) e

-- a test's number
pub unless_two : (t : Bool) (c : ℕ) → (unless t c ≡ 0) ⊎ (unless t c ≡ c)
unless_two true c = inl refl
unless_two false c = inr refl

pub unless_false : (t : Bool) (c : ℕ) → eqb 0 c ≡ false → unless t c ≡ c → t ≡ false
unless_false true c z h = absurd (eqb-false 0 c z h)
unless_false false c z h = refl

-- ---- numbers up to the first zero, and a rule on them

-- no more than there are places
pub ended_most : (o : Order) (w n : ℕ) (f : List ℕ) (p : ℕ) → length (ended_at o w n f p) ≤ n
ended_most o w zero f p = omega arith
ended_most o w (suc n) f p = go (eqb (num o w f p) 0) (ended_most o w n f (p + w))
  where
    go : (t : Bool) → length (ended_at o w n f (p + w)) ≤ n → length (cond t [] (num o w f p ∷ ended_at o w n f (p + w))) ≤ suc n
    go true h = omega arith
    go false h = omega arith

module _ (o : Order) (w n : ℕ) (t : List ℕ → Bool) (f : List ℕ) (p c : ℕ) (z : eqb 0 c ≡ false) where
  pub unended_of : (ruled (ended o w n c) t c).judge f p ≡ c → (length (ended_at o w n f p) ≡ n) ⊎ (t (ended_at o w n f p) ≡ false)
  unended_of h = go (ltb (length (ended_at o w n f p)) n) refl
    where
      go : (b : Bool) → ltb (length (ended_at o w n f p)) n ≡ b → (length (ended_at o w n f p) ≡ n) ⊎ (t (ended_at o w n f p) ≡ false)
      go true e = inr (unless_false (t (ended_at o w n f p)) c z (rw e at h))
      go false e = inl (omega (arith, ltb-false (length (ended_at o w n f p)) n e, ended_most o w n f p))

  pub of_unended : (length (ended_at o w n f p) ≡ n) ⊎ (t (ended_at o w n f p) ≡ false) → (ruled (ended o w n c) t c).judge f p ≡ c
  of_unended (inl h) = rw (le-ltb (length (ended_at o w n f p)) n (omega (arith, h))) (first_is c _ c (rw z) refl)
  of_unended (inr h) = go (ltb (length (ended_at o w n f p)) n)
    where
      go : (b : Bool) → also (unless b c) (unless (t (ended_at o w n f p)) c) ≡ c
      go true = rw h
      go false = first_is c _ c (rw z) refl
