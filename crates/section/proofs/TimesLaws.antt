-- A loop over a list of k sections S, with i of them passed and the next at q.
use mathlib.Core.Path.{◌≡◌}
use Prim.Native.Nat.{ℕ, suc, ◌+◌, ◌-◌, ◌*◌, ◌<◌}
use native.Mathlib.Nat.{suc-mul}
use native.Mathlib.Omega.{arith}
use mathlib.Core.List.{List}
use Rattle.format.specs.Grammar.{Sect, judge_times}

module _ (k i : ℕ) (b : i < k) where
  left : k - i ≡ suc (k - (i + 1))
  left = omega arith

  -- what is left takes the next and the rest
  pub list_rest : (w : ℕ) → (k - i) * w ≡ w + (k - (i + 1)) * w
  list_rest w = rw (left, suc-mul) (omega arith)

  module _ {A : Type 0} (S : Sect A) (f : List ℕ) (q : ℕ) where
    -- a refusal is the answer; after a section that is right, of w bytes, the rest decides
    pub list_stop : {c : ℕ} → S.judge f q ≡ suc c → suc c ≡ judge_times S (k - i) f q
    list_stop h = rw (left, h)

    pub list_turn : (w : ℕ) → ((a : A) → S.size a ≡ w) → S.judge f q ≡ 0 → judge_times S (k - (i + 1)) f (q + w) ≡ judge_times S (k - i) f q
    list_turn w wide h = rw (left, h, wide (S.read f q))
