-- How a file begins, and what follows from its edition.
use mathlib.Core.Path.{◌≡◌, refl, sym, ap, ◌∙◌}
use Prim.Native.Nat.{ℕ, ◌≤◌, ◌<◌}
use native.Mathlib.Omega.{arith}
use mathlib.Core.List.{List, [], ◌∷◌}
use mathlib.Core.Bool.{Bool, true, false, cond, and-false}
use lib.ListN.{length, get_or, get_or-eq_default}
use lib.Dec.{eqb}
use borrow.Author.Tests.{eqb-true, eq-eqb, ne_eqb}
use Rattle.std.specs.Prelude.{Result, Ok, Err, Some, None}
use Rattle.std.specs.Result.{is_ok}
use Rattle.refusal.specs.declared.Refusal.{Refusal}
use Rattle.refusal.specs.Refusals.{number_of, code_of}
use Rattle.format.specs.Grammar.{no_zero, same_at, tag}
use Rattle.format.specs.Edition as Format
use Rattle.format.specs.Edition.{r117, r118, edition, start}
use Rattle.format.specs.Dta.{begins, known, release_of, edition_of, is_msf}
use Rattle.format.proofs.EditionLaws.{each, found}
use Rattle.format.proofs.FileLaws.{begun}
use Rattle.section.proofs.StepLaws.{tag_room, some_number}
use Rattle.section.proofs.TagLaws.{tag_same}
use Rattle.editions.specs.declared.Release.{Release}
use Rattle.editions.specs.Editions.{release_as, read_as}

-- a file begins with tags exactly if these are right there
pub tags_begin : (l f : List ℕ) (r : Result (Unit {0}) Refusal) → code_of r ≡ (tag l 2).judge f 0 → no_zero l ≡ true → is_ok r ≡ same_at l f 0
tags_begin l f (Ok a) e z = ap (λ (c : ℕ). eqb c 0) e ∙ tag_same l 1 f 0 z (omega arith)
tags_begin l f (Err x) e z = sym (ne_eqb (number_of x) 0 (some_number x)) ∙ ap (λ (c : ℕ). eqb c 0) e ∙ tag_same l 1 f 0 z (omega arith)

-- what a file of the edition r is known to be
pub record Known (f : List ℕ) (r : Release) : Type 0 where
  pub known : known f ≡ true
  pub release : release_as r ≡ release_of f
  pub starts : same_at (start (edition_of f)) f 0 ≡ true
  pub room : length (start (edition_of f)) ≤ length f

module _ (f : List ℕ) where
  -- a file that begins as an edition has its number
  pub begins_is : (r : Format.Release) → begins r f ≡ true → (edition r).number ≡ cond (known f) (edition_of f).number 0
  begins_is r h =
      let b = begun r f h in
      sym (ap (λ (x : Bool). cond x (edition_of f).number 0) b.0 ∙ ap (λ (x : Format.Release). (edition x).number) b.1)

  -- by its first byte
  pub same : (b : ℕ) → get_or f 0 0 ≡ b → same_at (b ∷ []) f 0 ≡ true
  same b e = rw (eq-eqb (get_or f 0 0) b e)

  other : (b : ℕ) (l : List ℕ) → (get_or f 0 0 ≡ b → ⊥) → same_at (b ∷ l) f 0 ≡ false
  other b l n = rw (ne_eqb (get_or f 0 0) b n)

  -- else by the tags of a tagged edition
  pub begins_tagged : (n : ℕ) → n ≡ cond (begins r117 f) 117 (cond (begins r118 f) 118 0) → (get_or f 0 0 ≡ 113 → ⊥) → (get_or f 0 0 ≡ 114 → ⊥) → (get_or f 0 0 ≡ 115 → ⊥)
      → n ≡ cond (known f) (edition_of f).number 0
  begins_tagged n e x y z = e ∙ go (begins r117 f) refl (begins r118 f) refl
    where
      go : (a : Bool) → begins r117 f ≡ a → (b : Bool) → begins r118 f ≡ b → cond a 117 (cond b 118 0) ≡ cond (known f) (edition_of f).number 0
      go true h b i = begins_is r117 h
      go false h true i = begins_is r118 i
      go false h false i = rw (other 113 [] x, other 114 [] y, other 115 [] z, h, i)

  -- an empty file is of none
  pub empty_none : length f ≡ 0 → 0 ≡ cond (known f) (edition_of f).number 0
  empty_none e =
      let z : get_or f 0 0 ≡ 0 = get_or-eq_default f 0 (omega arith) in
      begins_tagged 0 (sym (rw z)) (λ h. omega arith) (λ h. omega arith) (λ h. omega arith)

  -- bytes that are not zero are in the file
  start_room : (l : List ℕ) → no_zero l ≡ true → same_at l f 0 ≡ true → length l ≤ length f
  start_room l z s =
      let h : eqb ((tag l 4).judge f 0) 0 ≡ true = tag_same l 3 f 0 z (omega arith) ∙ s in
      omega (arith, tag_room l 4 f 0 (eqb-true ((tag l 4).judge f 0) 0 h))

  -- what the edition says
  pub release_known : (r : Release) → read_as (Some r) ≡ cond (known f) (Some (release_of f)) None → Known f r
  release_known r e = go (known f) refl
    where
      go : (b : Bool) → known f ≡ b → Known f r
      go true h =
          let s : begins (release_of f) f ≡ true = found (λ r. begins r f) h in
          let g = rw h at e in
          record {
            known = h;
            release = cc;
            starts = s;
            room = start_room (start (edition_of f)) (each (λ r. no_zero (start (edition r))) refl (release_of f)) s;
          }
      go false h = let g = rw h at e in cc

  -- it begins as none
  pub none_known : read_as None ≡ cond (known f) (Some (release_of f)) None → known f ≡ false
  none_known e = go (known f) refl
    where
      go : (b : Bool) → known f ≡ b → known f ≡ false
      go true h = let g = rw h at e in cc
      go false h = h

-- ---- the byte order

-- a file that is too short has none
module _ (f : List ℕ) where
  pub tagged_short : length f < 55 → false ≡ is_msf true f
  tagged_short h =
      let z : get_or f 54 0 ≡ 0 = get_or-eq_default f 0 (omega arith) in
      sym (rw z (rw (and-false (eqb (get_or f 53 0) 83)) (and-false (eqb (get_or f 52 0) 77))))

  pub mark_short : length f < 2 → false ≡ is_msf false f
  mark_short h =
      let z : get_or f 1 0 ≡ 0 = get_or-eq_default f 0 (omega arith) in
      rw z
