-- The answer of a list, case by case: a refusal, no room, done.
use mathlib.Core.Path.{◌≡◌, refl, sym, ap, ◌∙◌, subst}
use Prim.Native.Nat.{ℕ, zero, suc, ◌≤◌, ◌<◌}
use native.Mathlib.Omega.{arith}
use mathlib.Core.List.{List, ◌++◌}
use mathlib.Core.Bool.{Bool, true, false}
use lib.ListN.{length, drop}
use lib.Dec.{eqb, leb}
use borrow.Author.Tests.{eq-eqb, ne_eqb, le-leb, lt-leb}
use Rattle.format.specs.Dta.{verdict}
use Rattle.format.specs.Grammar.{Sect, also, unless}
use Rattle.writing.specs.Writes.{Puts, Stand}
use Rattle.std.specs.Prelude.{Result, Ok, Err}
use Rattle.refusal.specs.declared.Refusal.{Refusal}
use Rattle.refusal.specs.Refusals.{number_of}
use Rattle.section.proofs.StepLaws.{some_number}
use Rattle.long_list.specs.declared.Untold.{Untold}
use Rattle.long_list.specs.declared.Untold.TheVariants.{Refused, NoRoom}
use Rattle.long_list.specs.Lists.{list_code, Lists}
use Rattle.long_list.specs.Told.{ToldRoom, ToldCount, ToldPut}

also_refused : (v b : ℕ) → (v ≡ 0 → ⊥) → also v b ≡ v
also_refused zero b n = absurd (n refl)
also_refused (suc v) b n = refl

-- the number of a file that is accepted, by whether there is room
code_by : (f t d : List ℕ) (b : Bool) → verdict f ≡ 0 → leb (length t) (length d) ≡ b → list_code f t (length d) ≡ unless b 14
code_by f t d b v e = λ i. also (v i) (unless (e i) 14)

module _ {f t d : List ℕ} where
  pub lists_refused : {e : Refusal} → number_of e ≡ verdict f → Lists f t d d (Err (Refused e))
  lists_refused {e} c =
      let n : verdict f ≡ 0 → ⊥ = λ (h : verdict f ≡ 0). some_number e (c ∙ h) in
      let k = also_refused (verdict f) (unless (leb (length t) (length d)) 14) n in
      let b : eqb (verdict f) 0 ≡ false = ne_eqb (verdict f) 0 n in
      record { code = c ∙ sym k; count = rw b; out = rw (k, b) }

  pub lists_short : {n : ℕ} → verdict f ≡ 0 → n ≡ length t → length d < length t → Lists f t d d (Err (NoRoom n))
  lists_short v e h =
      let k = code_by f t d false v (lt-leb (length t) (length d) h) in
      record { code = sym k; count = rw (eq-eqb (verdict f) 0 v) e; out = rw k }

  pub lists_done : {w : List ℕ} {n m : ℕ} → verdict f ≡ 0 → n ≡ length t → length t ≤ length d → Puts t d w m → Lists f t d w (Ok n)
  lists_done v e h p =
      let k = code_by f t d true v (le-leb (length t) (length d) h) in
      record {
        code = sym k;
        count = rw (eq-eqb (verdict f) 0 v) e;
        out = rw k (p.is ∙ ap (λ (x : ℕ). t ++ drop x d) p.long);
      }

-- a list of sections that are counted, and put where there is room
module _ {A : Type 0} {E : Sect A} {F : ℕ → List A → List ℕ} {f t : List ℕ} {p q n : ℕ} {l : List A} (c : ToldCount E F f p q n) (s : Stand E f p q l) (e : F p l ≡ t) where
  count_is : n ≡ length t
  count_is = c.all l s ∙ ap length e

  pub counted_room : {m : ℕ} → n ≤ m → ToldRoom E F f p q m
  counted_room h = record { list = l; stand = s; room = omega (arith, c.all l s) }

  pub counted_short : {d : List ℕ} → verdict f ≡ 0 → length d < n → Lists f t d d (Err (NoRoom n))
  counted_short {d} v h = lists_short v count_is (omega (arith, count_is))

  pub counted_done : {d w : List ℕ} {m : ℕ} → verdict f ≡ 0 → n ≤ length d → ToldPut E F f p q d w m → Lists f t d w (Ok n)
  counted_done {d} {w} {m} v h x = lists_done v count_is (omega (arith, count_is)) (subst (λ (y : List ℕ). Puts y d w m) e (x.all l s))
