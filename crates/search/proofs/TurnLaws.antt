-- The search, a turn at a time. Assumes nothing.
use mathlib.Core.Path.{◌≡◌, refl, ◌∙◌}
use mathlib.Core.Bool.{Bool, true, false}
use Prim.Native.Nat.{ℕ, zero, suc, ◌+◌, ◌-◌, ◌<◌, ◌≤◌}
use native.Mathlib.Omega.{arith}
use borrow.Author.Tests.{lt-ltb, le-ltb}
use lib.IntN.{ℤ}
use lib.Signed.{lt_z}
use Rattle.format.proofs.SearchLaws.{middle}
use Rattle.format.specs.Search.{Slot, found, missing, lost, same_z, halve}

-- a search that ends at s has come to the values from lo on, below hi
pub record Left (v : ℕ → ℤ) (there : ℕ → Bool) (x : ℤ) (s : Slot) (lo hi : ℕ) : Type 0 where
  pub turns : ℕ
  pub enough : hi - lo ≤ turns
  pub rest : s ≡ (halve v there x turns lo hi).slot

module _ {v : ℕ → ℤ} {there : ℕ → Bool} {x : ℤ} {s : Slot} {lo hi : ℕ} (l : Left v there x s lo hi) where
  pub none : hi ≤ lo → s ≡ missing
  none h = l.rest ∙ go l.turns
    where
      go : (k : ℕ) → (halve v there x k lo hi).slot ≡ missing
      go zero = refl
      go (suc k) = rw (le-ltb lo hi h)

  -- one turn more
  turn : lo < hi → (k : ℕ) × (hi - lo ≤ suc k) × (s ≡ (halve v there x (suc k) lo hi).slot)
  turn h = go l.turns l.enough l.rest
    where
      go : (k : ℕ) → hi - lo ≤ k → s ≡ (halve v there x k lo hi).slot
          → (k : ℕ) × (hi - lo ≤ suc k) × (s ≡ (halve v there x (suc k) lo hi).slot)
      go zero e r = absurd (omega arith)
      go (suc k) e r = (k, e, r)

  pub gone : lo < hi → there (middle lo hi) ≡ false → s ≡ lost
  gone h t = (turn h).2 ∙ rw (lt-ltb lo hi h, t)

  pub here : lo < hi → there (middle lo hi) ≡ true → same_z x (v (middle lo hi)) ≡ true → s ≡ found (middle lo hi)
  here h t e = (turn h).2 ∙ rw (lt-ltb lo hi h, t, e)

  pub below : lo < hi → there (middle lo hi) ≡ true → same_z x (v (middle lo hi)) ≡ false → lt_z x (v (middle lo hi)) ≡ true
      → Left v there x s lo (middle lo hi)
  below h t e o = record { turns = (turn h).0; enough = omega (arith, (turn h).1); rest = (turn h).2 ∙ rw (lt-ltb lo hi h, t, e, o) }

  pub above : lo < hi → there (middle lo hi) ≡ true → same_z x (v (middle lo hi)) ≡ false → lt_z x (v (middle lo hi)) ≡ false
      → Left v there x s (middle lo hi + 1) hi
  above h t e o = record { turns = (turn h).0; enough = omega (arith, (turn h).1); rest = (turn h).2 ∙ rw (lt-ltb lo hi h, t, e, o) }
