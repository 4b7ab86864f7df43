-- The variables of a block's name, marked one after another.
use mathlib.Core.Path.{◌≡◌, refl, sym, ap, ◌∙◌}
use Prim.Native.Nat.{ℕ, ◌+◌, ◌≤◌, ◌<◌}
use native.Mathlib.Omega.{arith}
use mathlib.Core.List.{List}
use mathlib.Core.Bool.{Bool, true, false, ◌&&◌, and-false, false≢true}
use lib.ListN.{length, get_or, set, length-set}
use lib.Seq.{get_or-set_same, get_or-set_other}
use lib.Dec.{eqb, ltb}
use borrow.Author.Tests.{ltb-true, ltb-false, eq-eqb, ne_eqb, eqb-true, eqb-false}
use Rattle.std.specs.Cmp.Lexicographic.{pointwise}
use Rattle.format.specs.Dta.{Layout, same_list}
use Rattle.set_names.specs.Names.{name_at}
use Rattle.set_names.proofs.OrderLaws.{same_is}
use Rattle.set_tables.specs.Tables.{is_next, marked_at, Marks, Alike}
use Rattle.set_tables.proofs.SameLaws.{eq_same}

-- ---- whether a variable is next

pub next_named : (f : List ℕ) (l : Layout) (v s t : List ℕ) (k : ℕ) → get_or t k 0 ≡ 0 → (a b : List ℕ) → a ≡ name_at f l v k → b ≡ s
    → (r : Bool) → r ≡ pointwise eqb a b → r ≡ is_next f l v s t k
next_named f l v s t k h a b A B r e =
    rw (eq-eqb (get_or t k 0) 0 h) (e ∙ eq_same a b ∙ ap (λ (x : List ℕ). same_list x b) A ∙ ap (same_list (name_at f l v k)) B)

-- ---- what is stored for it

module _ (f : List ℕ) (l : Layout) (v s t : List ℕ) (k x : ℕ) where
  pub marked_yes : is_next f l v s t k ≡ true → marked_at f l v s x t k ≡ x
  marked_yes h = rw h

  pub marked_no : is_next f l v s t k ≡ false → marked_at f l v s x t k ≡ get_or t k 0
  marked_no h = rw h

  pub marked_other : same_list (name_at f l v k) s ≡ false → marked_at f l v s x t k ≡ get_or t k 0
  marked_other h = marked_no (rw h (and-false (eqb (get_or t k 0) 0)))

  pub marked_found : (get_or t k 0 ≡ 0 → ⊥) → marked_at f l v s x t k ≡ get_or t k 0
  marked_found h = marked_no (rw (ne_eqb (get_or t k 0) 0 h))

  pub marked_here : get_or t k 0 ≡ 0 → same_list (name_at f l v k) s ≡ true → marked_at f l v s x t k ≡ x
  marked_here h e = marked_yes (rw (eq-eqb (get_or t k 0) 0 h) e)

-- ---- the loop

-- those before place k are marked, of which the names from place r on may be s
pub record Marking (f : List ℕ) (l : Layout) (v s : List ℕ) (x : ℕ) (t : List ℕ) (r k : ℕ) (u : List ℕ) : Type 0 where
  pub long : length u ≡ length t
  pub from : r ≤ k
  pub each : (m : ℕ) → m < k → get_or u m 0 ≡ marked_at f l v s x t m
  pub after : (m : ℕ) → k ≤ m → get_or u m 0 ≡ get_or t m 0

module _ (f : List ℕ) (l : Layout) (v s : List ℕ) (x : ℕ) (t : List ℕ) (r : ℕ) where
  pub marking_starts : ((k : ℕ) → k < r → same_list (name_at f l v k) s ≡ false) → Marking f l v s x t r r t
  marking_starts F =
      record { long = refl; from = omega arith; each = λ m h. sym (marked_other f l v s t m x (F m h)); after = λ m h. refl }

  module _ (k : ℕ) (u : List ℕ) (M : Marking f l v s x t r k u) where
    -- whether it is next with the numbers of the start, too
    next_is : (b : Bool) → b ≡ is_next f l v s u k → b ≡ is_next f l v s t k
    next_is b h = h ∙ ap (λ (y : ℕ). eqb y 0 && same_list (name_at f l v k) s) (M.after k (omega arith))

    pub marking_on : true ≡ is_next f l v s u k → k < length u → Marking f l v s x t r (k + 1) (set u k x)
    marking_on h i =
        record {
          long = simp length-set M.long;
          from = omega (arith, M.from);
          each = λ m j. go m (eqb m k) refl j;
          after = λ m j. get_or-set_other u k m x 0 (λ q. omega arith) ∙ M.after m (omega arith);
        }
      where
        go : (m : ℕ) (b : Bool) → eqb m k ≡ b → m < k + 1 → get_or (set u k x) m 0 ≡ marked_at f l v s x t m
        go m true e j = rw (eqb-true m k e) (get_or-set_same u k x 0 i ∙ sym (marked_yes f l v s t k x (sym (next_is true h))))
        go m false e j =
            let d = eqb-false m k e in
            get_or-set_other u k m x 0 d ∙ M.each m (omega arith)

    -- it ends with one that is not next, or with the list
    module _ (A : Alike f l v t) (O : (k : ℕ) → r ≤ k → same_list (name_at f l v k) s ≡ false → (m : ℕ) → k ≤ m → m < length v → same_list (name_at f l v m) s ≡ false)
        (N : k < length v → false ≡ is_next f l v s u k) where
      -- a later one stays, whether its name is s or not
      stays : (m : ℕ) → k ≤ m → m < length v → marked_at f l v s x t m ≡ get_or t m 0
      stays m h i = go (same_list (name_at f l v m) s) refl
        where
          n : false ≡ is_next f l v s t k
          n = next_is false (N (omega arith))

          same : same_list (name_at f l v m) s ≡ true → same_list (name_at f l v k) s ≡ true → get_or t m 0 ≡ 0 → ⊥
          same a b z =
              let e = A.each m k i (omega arith) (same_is (name_at f l v m) s a ∙ sym (same_is (name_at f l v k) s b)) z in
              false≢true (n ∙ rw (eq-eqb (get_or t k 0) 0 e) b)

          one : (b : Bool) → same_list (name_at f l v k) s ≡ b → same_list (name_at f l v m) s ≡ true → marked_at f l v s x t m ≡ get_or t m 0
          one true e q = marked_found f l v s t m x (same q e)
          one false e q = absurd (false≢true (sym (O k M.from e m h i) ∙ q))

          go : (b : Bool) → same_list (name_at f l v m) s ≡ b → marked_at f l v s x t m ≡ get_or t m 0
          go true q = one (same_list (name_at f l v k) s) refl q
          go false q = marked_other f l v s t m x q

      pub marking_ends : Marks f l v s x t u
      marking_ends = record { long = M.long; each = λ m i. go m i (ltb m k) refl }
        where
          go : (m : ℕ) → m < length v → (b : Bool) → ltb m k ≡ b → get_or u m 0 ≡ marked_at f l v s x t m
          go m i true e = M.each m (ltb-true m k e)
          go m i false e = M.after m (ltb-false m k e) ∙ sym (stays m (ltb-false m k e) i)
