-- Where checking comes to: numbers 3 and 4.
use mathlib.Core.Path.{◌≡◌, refl, ◌∙◌}
use Prim.Native.Nat.{ℕ, ◌+◌, ◌≤◌}
use native.Mathlib.Omega.{arith}
use mathlib.Core.List.{List, []}
use mathlib.Core.Bool.{Bool, true, false, not}
use lib.ListN.{length}
use lib.Dec.{eqb, leb}
use borrow.Author.Tests.{leb-false, lt-leb}
use Rattle.format.specs.Grammar.{Sect, unless, need, next, within, tag, same_at}
use Rattle.format.specs.Dta.{file, edition_of, order_of, verdict}
use Rattle.format.proofs.Good.{need_fits}
use Rattle.demands.specs.Logic.{Iff}
use Rattle.demands.specs.Comes.{Comes, here, first, second, content, before_rule, told_by, step, end, Lacks, lacks, Differs, differs, CutShort, TagDiffers}
use Rattle.demands.proofs.PlaceLaws.{first_is}
use Rattle.demands.proofs.PartLaws.{unless_false}
use Rattle.demands.proofs.VerdictLaws.{first_verdict, past_start}
use Rattle.demands.proofs.LocatedLaws.{in_file}
use Rattle.demands.proofs.PassedLaws.{passed_judge, at_end, at_next}

-- the number of what checking comes to is the number of all
module _ (f : List ℕ) {B : Type 0} (T : Sect B) (q : ℕ) (c : ℕ) (z : not (eqb 0 c) ≡ true) (h : T.judge f q ≡ c) where
  pub given_there : (A : Type 0) (S : Sect A) (p : ℕ) → Comes f T q A S p → S.judge f p ≡ c
  given_there A S p here = h
  given_there A S p (first X U x) = first_is (X.judge f p) _ c z (given_there _ X p x)
  given_there A S p (second X U m x) = rw m (given_there _ (U (X.read f p)) (next X f p) x)
  given_there A S p (content X n b x) = rw (need_fits n f p b) (given_there _ X p x)
  given_there A S p (before_rule X t d x) = first_is (X.judge f p) _ c z (given_there _ X p x)
  given_there A S p (told_by X to of x) = given_there _ X p x
  given_there A S p (step more E U {r = r} {l = l} i s d g x) =
      passed_judge more E U i s f p l r d [] ∙ at_next more E U i s f r l g ∙ first_is (E.judge f r) _ c z (given_there _ E r x)
  given_there A S p (end more E U {r = r} {l = l} i s d g x) =
      passed_judge more E U i s f p l r d [] ∙ at_end more E U i s f r l g ∙ given_there _ (U l) r x

-- ---- 3

lack_of : (f : List ℕ) (p n : ℕ) (A : Type 0) (S : Sect A) → need n f p ≡ 3 → Lacks f p A (within n S)
lack_of f p n A S h = lacks S n (leb-false (p + n) (length f) (unless_false (leb (p + n) (length f)) 3 refl h))

no_tag : (l f : List ℕ) (p : ℕ) → p + length l ≤ length f → unless (same_at l f p) 4 ≡ 3 → Lacks f p (Unit {0}) (tag l 4)
no_tag l f p b h = absurd (go (same_at l f p) h)
  where
    go : (t : Bool) → unless t 4 ≡ 3 → ⊥
    go true h = omega arith
    go false h = omega arith

lack_judge : (f : List ℕ) (p : ℕ) (A : Type 0) (S : Sect A) → Lacks f p A S → S.judge f p ≡ 3
lack_judge f p A S (lacks X n b) = rw (lt-leb (p + n) (length f) b)

pub cut_short : (f : List ℕ) → Iff (verdict f ≡ 3) (CutShort (edition_of f) (order_of f) f)
cut_short f = (
  λ h. (let a = past_start f 3 (omega arith) h in
      record { before = a.0; due = (in_file 3 (omega arith) (omega arith) Lacks lack_of no_tag (edition_of f) (order_of f)).found f 0 a.1 }),
  λ x. first_verdict f x.before.0 x.before.1
      ∙ given_there f x.due.T x.due.at 3 refl (lack_judge f x.due.at x.due.B x.due.T x.due.because) _ (file (edition_of f) (order_of f)) 0 x.due.comes,
)

-- ---- 4

no_lack : (f : List ℕ) (p n : ℕ) (A : Type 0) (S : Sect A) → need n f p ≡ 4 → Differs f p A (within n S)
no_lack f p n A S h = absurd (go (leb (p + n) (length f)) h)
  where
    go : (t : Bool) → unless t 3 ≡ 4 → ⊥
    go true h = omega arith
    go false h = omega arith

differ_of : (l f : List ℕ) (p : ℕ) → p + length l ≤ length f → unless (same_at l f p) 4 ≡ 4 → Differs f p (Unit {0}) (tag l 4)
differ_of l f p b h = differs l b (unless_false (same_at l f p) 4 refl h)

differ_judge : (f : List ℕ) (p : ℕ) (A : Type 0) (S : Sect A) → Differs f p A S → S.judge f p ≡ 4
unfolding tag
differ_judge f p A S (differs l b h) = rw (need_fits (length l) f p b, h)

pub tag_differs : (f : List ℕ) → Iff (verdict f ≡ 4) (TagDiffers (edition_of f) (order_of f) f)
tag_differs f = (
  λ h. (let a = past_start f 4 (omega arith) h in
      record { before = a.0; due = (in_file 4 (omega arith) (omega arith) Differs no_lack differ_of (edition_of f) (order_of f)).found f 0 a.1 }),
  λ x. first_verdict f x.before.0 x.before.1
      ∙ given_there f x.due.T x.due.at 4 refl (differ_judge f x.due.at x.due.B x.due.T x.due.because) _ (file (edition_of f) (order_of f)) 0 x.due.comes,
)
