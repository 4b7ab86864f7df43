-- What is stored in slices.
use mathlib.Core.Path.{◌≡◌, ap, ◌∙◌}
use Prim.Native.Nat.{ℕ, ◌*◌, ◌≤◌, ◌<◌}
use native.Mathlib.Omega.{arith}
use mathlib.Core.List.{List, [], ◌∷◌, ◌++◌}
use lib.ListN.{length, set, take, drop}
use lib.Seq.{take-length}
use borrow.Author.Tests.{le-leb, lt-leb}
use Rattle.std.specs.Prelude.{Result}
use Rattle.refusal.specs.declared.Refusal.{Refusal}
use Rattle.refusal.specs.Refusals as Refusals
use Rattle.long_list.specs.declared.Untold.{Untold}
use Rattle.long_list.specs.Lists.{told_code, told_count, list_code, list_count, list_out, Lists}
use Rattle.format.specs.Dta.{Layout}
use Rattle.questions.specs.Ask.{Question}
use Rattle.coded.specs.Coded as Coded
use Rattle.coded.specs.Coded.{told, Tells}
use Rattle.dta_facts.specs.Exports.{copied, stored, Runs}

-- one number
pub stored_room : (n : ℕ) (d : List ℕ) → 1 ≤ length d → set d 0 n ≡ stored n d
stored_room n [] h = absurd (omega arith)
stored_room n (x ∷ d) h = rw (le-leb 1 (length (x ∷ d)) h)

pub stored_none : (n : ℕ) (d : List ℕ) → length d < 1 → d ≡ stored n d
stored_none n d h = rw (lt-leb 1 (length d) h)

-- what a list promises, and how many numbers it has stored over e, where c is its number and m how many it says
pub listed_stored : (e : List ℕ) {f t d w v : List ℕ} {r : Result ℕ Untold} {c m : ℕ} → Lists f t d w r → c ≡ told_code r → m ≡ told_count r → v ≡ stored m e
    → (c ≡ list_code f t (length d)) × (w ≡ list_out f t d) × (v ≡ stored (list_count f t) e)
listed_stored e l p q h = (p ∙ l.code, l.out, h ∙ ap (λ (n : ℕ). stored n e) (q ∙ l.count))

-- what a run promises, and how many answers it has stored over e
pub runs_stored : (e : List ℕ) {f d w v : List ℕ} {l : Layout} {i j n : ℕ} {q : ℕ → Question} {r : Result ℕ Refusal} {k m : ℕ} → Tells f l i j q n d w r
    → k ≡ Refusals.code_of r → m ≡ Coded.stored r → v ≡ stored m e → Runs f l i j q n d w e v k
runs_stored e {f} {d} {w} {v} {l} {i} {j} {n} {q} {r} t p g h =
    let c = ap (λ (x : Result ℕ Refusal). Coded.stored x) t.answer in
    record {
      code = p ∙ ap (λ (x : Result ℕ Refusal). Refusals.code_of x) t.answer;
      out = t.out ∙ ap (λ (m : ℕ). told f l q m ++ drop (m * 4) d) c;
      count = h ∙ ap (λ (m : ℕ). stored m e) (g ∙ c);
    }

-- the bytes u, which are t, with room for them in d or not
module _ (d : List ℕ) {t u : List ℕ} (e : u ≡ t) where
  pub copied_room : {w : List ℕ} → length u ≤ length d → w ≡ take (length u) (drop 0 u) ++ drop (length u) d → (length u ≡ length t) × (w ≡ copied t d)
  copied_room {w} h m =
      let all : w ≡ copied u d = rw (le-leb (length u) (length d) h) (m ∙ ap (λ (x : List ℕ). x ++ drop (length u) d) (take-length u)) in
      (ap length e, all ∙ ap (λ (x : List ℕ). copied x d) e)

  pub copied_none : length d < length u → (length u ≡ length t) × (d ≡ copied t d)
  copied_none h =
      let none : d ≡ copied u d = rw (lt-leb (length u) (length d) h) in
      (ap length e, none ∙ ap (λ (x : List ℕ). copied x d) e)
