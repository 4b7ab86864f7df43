-- What a rewrite answers, and what the output then holds.
use mathlib.Core.Path.{◌≡◌, refl, sym, ap, ◌∙◌}
use Prim.Native.Nat.{ℕ, zero, suc, ◌≤◌}
use native.Mathlib.Omega.{arith}
use mathlib.Core.List.{List, ◌++◌}
use mathlib.Core.Bool.{Bool, true, false, cond, ◌&&◌, ◌||◌}
use lib.ListN.{length, take, drop}
use lib.Seq.{take-append_seam}
use lib.Dec.{eqb, leb}
use borrow.Author.Tests.{eqb-true, eq-eqb, ne_eqb, leb-true, leb-false, le-leb, lt-leb}
use Rattle.format.specs.Number.{Order, msf, lsf, order_by}
use Rattle.format.specs.Grammar.{also, unless}
use Rattle.format.specs.Edition.{Release, edition, is_release, release_by, order_mark}
use Rattle.format.specs.Dta.{Dataset, verdict, dataset_of, written, holds}
use Rattle.format.proofs.Good.{and_left, and_right}
use Rattle.format.proofs.EditionLaws.{number_is, number_read}
use Rattle.std.specs.Prelude.{Result}
use Rattle.refusal.specs.declared.Refusal.{Refusal}
use Rattle.refusal.specs.Refusals.{code_of}
use Rattle.demands.proofs.RefusalLaws.{same_result}
use Rattle.rewriting.specs.Rewriting.{offered, edition_to, order_to, held, rewritten, rewrite_code, output_of, length_of, len_of, Rewrites}
use Rattle.demands.specs.Demands.{RewriteGiven}
use Rattle.demands.proofs.VerdictLaws.{verdict_number}

-- ---- the number, from the verdict v, whether the target holds the dataset, and whether there is room

abbrev pub code_by : ℕ → Bool → Bool → ℕ
code_by v h t = also v (also (unless h 15) (unless t 14))

pub code_judged : (v : ℕ) (h t : Bool) → (v ≡ 0 → ⊥) → code_by v h t ≡ v
code_judged zero h t n = absurd (n refl)
code_judged (suc v) h t n = refl

code_number : (v : ℕ) (h t : Bool) → v ≤ 13 → code_by v h t ≤ 15
code_number zero true true b = omega arith
code_number zero true false b = omega arith
code_number zero false t b = omega arith
code_number (suc v) h t b = omega arith

code_15 : (v : ℕ) (h t : Bool) → v ≤ 13 → code_by v h t ≡ 15 → (v ≡ 0) × (h ≡ false)
code_15 zero true true b q = absurd (omega arith)
code_15 zero true false b q = absurd (omega arith)
code_15 zero false t b q = (refl, refl)
code_15 (suc v) h t b q = absurd (omega arith)

pub code_14 : (v : ℕ) (h t : Bool) → v ≤ 13 → code_by v h t ≡ 14 → (v ≡ 0) × (h ≡ true) × (t ≡ false)
code_14 zero true true b q = absurd (omega arith)
code_14 zero true false b q = (refl, refl, refl)
code_14 zero false t b q = absurd (omega arith)
code_14 (suc v) h t b q = absurd (omega arith)

pub code_0 : (v : ℕ) (h t : Bool) → code_by v h t ≡ 0 → (v ≡ 0) × (h ≡ true) × (t ≡ true)
code_0 zero true true q = (refl, refl, refl)
code_0 zero true false q = absurd (omega arith)
code_0 zero false t q = absurd (omega arith)
code_0 (suc v) h t q = absurd (omega arith)

module _ (f : List ℕ) (e o : ℕ) (d w : List ℕ) (r : Result ℕ Refusal) (R : Rewrites f e o d w r) where
  -- there is room
  abbrev fits : Bool
  fits = leb (length (rewritten f e o)) (length d)

  code_is : code_of r ≡ code_by (verdict f) (held f e o) fits
  unfolding rewrite_code
  code_is = R.code

  code_with : (v : ℕ) (h t : Bool) → verdict f ≡ v → held f e o ≡ h → fits ≡ t → code_of r ≡ code_by v h t
  code_with v h t p q s = code_is ∙ (λ i. code_by (p i) (q i) (s i))

  refused_out : (code_of r ≡ 0 → ⊥) → (w ≡ d) × (len_of r ≡ 0)
  unfolding output_of length_of
  refused_out n =
      let z : eqb (rewrite_code f e o (length d)) 0 ≡ false = ne_eqb (rewrite_code f e o (length d)) 0 (λ q. n (R.code ∙ q)) in
      (R.out ∙ rw z, R.len ∙ rw z)

  done_len : code_of r ≡ 0 → len_of r ≡ length (rewritten f e o)
  unfolding length_of
  done_len q = R.len ∙ rw (eq-eqb (rewrite_code f e o (length d)) 0 (sym R.code ∙ q))

  done_out : code_of r ≡ 0 → w ≡ rewritten f e o ++ drop (length (rewritten f e o)) d
  unfolding output_of
  done_out q = R.out ∙ rw (eq-eqb (rewrite_code f e o (length d)) 0 (sym R.code ∙ q))

  -- done, the output begins with the result
  pub done_take : code_of r ≡ 0 → take (len_of r) w ≡ rewritten f e o
  done_take q =
      (λ i. take (done_len q i) (done_out q i)) ∙ take-append_seam (rewritten f e o) (drop (length (rewritten f e o)) d)

  pub rewrite_given : RewriteGiven f e o d w r
  rewrite_given =
      let v = verdict_number f in
      record {
        number = rw code_is (code_number (verdict f) (held f e o) fits v);
        judged = λ n. code_is ∙ code_judged (verdict f) (held f e o) fits n;
        not_held = (λ q. code_15 (verdict f) (held f e o) fits v (sym code_is ∙ q), λ x. code_with 0 false fits x.0 x.1 refl);
        no_room = (
          λ q. (let x = code_14 (verdict f) (held f e o) fits v (sym code_is ∙ q) in
              (x.0, x.1, leb-false (length (rewritten f e o)) (length d) x.2)),
          λ x. code_with 0 true false x.0 x.1 (lt-leb (length (rewritten f e o)) (length d) x.2),
        );
        room = (
          λ q. (let x = code_0 (verdict f) (held f e o) fits (sym code_is ∙ q) in
              (x.0, x.1, leb-true (length (rewritten f e o)) (length d) x.2)),
          λ x. code_with 0 true true x.0 x.1 (le-leb (length (rewritten f e o)) (length d) x.2),
        );
        untouched = refused_out;
        done = λ q. (done_out q ∙ ap (λ (n : ℕ). rewritten f e o ++ drop n d) (sym (done_len q)), done_len q);
      }

-- ---- a target that is offered

pub offered_edition : (e o : ℕ) → offered e o ≡ true → (edition (release_by e)).number ≡ e
offered_edition e o h = sym (number_is e (and_left (is_release e) (eqb o 1 || eqb o 2) h))

pub offered_order : (e o : ℕ) → offered e o ≡ true → order_mark (order_to o) ≡ o
offered_order e o h = go (eqb o 1) refl (and_right (is_release e) (eqb o 1 || eqb o 2) h)
  where
    go : (a : Bool) → eqb o 1 ≡ a → (a || eqb o 2) ≡ true → order_mark (order_by a) ≡ o
    go true p k = sym (eqb-true o 1 p)
    go false p k = sym (eqb-true o 2 k)

pub all_offered : (r : Release) (o : Order) → offered (edition r).number (order_mark o) ≡ true
all_offered r o = ap (λ (b : Bool). b && (eqb (order_mark o) 1 || eqb (order_mark o) 2)) (number_read r) ∙ orders o
  where
    orders : (o : Order) → (eqb (order_mark o) 1 || eqb (order_mark o) 2) ≡ true
    orders msf = refl
    orders lsf = refl

-- ---- files of one verdict and one dataset

module _ (f g : List ℕ) (v : verdict g ≡ verdict f) (d : dataset_of g ≡ dataset_of f) (e o : ℕ) where
  same_rewritten : rewritten g e o ≡ rewritten f e o
  same_rewritten = ap (λ (x : Dataset). written (edition_to e) (order_to o) x) d

  same_code : (n : ℕ) → rewrite_code g e o n ≡ rewrite_code f e o n
  unfolding rewrite_code
  same_code n =
      λ i. code_by (v i) (offered e o && holds (edition_to e) (order_to o) (d i)) (leb (length (same_rewritten i)) n)

  same_length : (n : ℕ) → length_of g e o n ≡ length_of f e o n
  unfolding length_of
  same_length n = λ i. cond (eqb (same_code n i) 0) (length (same_rewritten i)) 0

  same_output : (b : List ℕ) → output_of g e o b ≡ output_of f e o b
  unfolding output_of
  same_output b = λ i. cond (eqb (same_code (length b) i) 0) (same_rewritten i ++ drop (length (same_rewritten i)) b) b

  pub same_rewrite : (b x w : List ℕ) (r s : Result ℕ Refusal) → Rewrites f e o b x r → Rewrites g e o b w s → (s ≡ r) × (w ≡ x)
  same_rewrite b x w r s R S =
      let code = S.code ∙ same_code (length b) ∙ sym R.code in
      let len = S.len ∙ same_length (length b) ∙ sym R.len in
      (same_result s r code len, S.out ∙ same_output b ∙ sym R.out)
