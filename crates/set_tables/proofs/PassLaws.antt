-- One pass over the label blocks, for all variables of a list.
use mathlib.Core.Path.{◌≡◌, refl, sym, ap, ◌∙◌, subst}
use Prim.Native.Nat.{ℕ, suc, ◌+◌, ◌*◌, ◌≤◌, ◌<◌}
use native.Mathlib.Omega.{arith}
use mathlib.Core.List.{List}
use mathlib.Core.Logic.{inl, inr}
use mathlib.Core.Bool.{Bool, true, false, false≢true}
use lib.ListN.{length, get_or, take, drop}
use lib.Dec.{eqb, leb}
use borrow.Author.Tests.{eqb-true, eqb-false}
use Rattle.format.specs.Number.{Order}
use Rattle.format.specs.Grammar.{text_at}
use Rattle.format.specs.Dta.{Layout, same_list}
use Rattle.questions.specs.Readings.{Try, none, got, bind, test, number_in, text_in}
use Rattle.questions.specs.Ask.{slice, sized_in, block_in}
use Rattle.std.specs.Prelude.{Option, Some, Result, Ok, Err}
use Rattle.refusal.specs.declared.Refusal.{Refusal}
use Rattle.refusal.specs.declared.Refusal.TheVariants.{NotReadable}
use Rattle.walks.specs.declared.LabelSet.{LabelSet}
use Rattle.walks.specs.Answers.{set_by, lenless}
use Rattle.walks.specs.Walks as Walk
use Rattle.walks.specs.Walks.{open_size, close_size, table_at, BlockGot, block_labels}
use Rattle.walks.proofs.BlockLaws.{Come, starts, come_plain, come_gone, come_here, come_on}
use Rattle.label_words.proofs.WordLaws.{text_slice}
use Rattle.set_names.specs.Names.{name_at}
use Rattle.set_tables.specs.Tables.{unlabelled, table_of, Marks, Alike, IsRest, Passed}
use Rattle.set_tables.proofs.SameLaws.{same_swap}
use Rattle.set_tables.proofs.MarkLaws.{marked_other, marked_found, marked_here}

-- the label set whose table stands at a
abbrev pub table_set : ℕ → Result (Option LabelSet) Refusal
table_set a = Ok (Some (record { at = a; len = 0 }))

-- the number x of a variable of the name s, in a pass from `start` on that has come to p: no block of that name yet, or the table of the first
pub data Sought (g : Bool) (w : ℕ) (o : Order) (f s : List ℕ) (z start p x : ℕ) : Type 0 where
  still : x ≡ 0 → Come g w o f s z start p → Sought g w o f s z start p x
  seen : (a : ℕ) → x ≡ suc (suc (suc (suc a))) → table_set a ≡ lenless (set_by (block_labels g w o f s z start)) → Sought g w o f s z start p x

-- the pass has come to p, with the numbers u; they were t at its start
pub record Going (g : Bool) (w : ℕ) (o : Order) (f : List ℕ) (l : Layout) (v : List ℕ) (z start : ℕ) (t : List ℕ) (p : ℕ) (u : List ℕ) : Type 0 where
  pub long : length u ≡ 32768
  pub alike : Alike f l v u
  pub each : (k : ℕ) → k < length v → get_or t k 0 ≡ 0 → Sought g w o f (name_at f l v k) z start p (get_or u k 0)
  pub others : (k : ℕ) → k < length v → (get_or t k 0 ≡ 0 → ⊥) → get_or u k 0 ≡ get_or t k 0

-- the name of a block, as the code has it
pub block_name : (g : Bool) (w : ℕ) (o : Order) (f : List ℕ) (z p n m : ℕ) → BlockGot g w o f z p n m → (a : ℕ) → a ≡ Walk.name_at g p → slice f a m ≡ text_at w f (Walk.name_at g p)
block_name g w o f z p n m b a e =
    ap (λ (x : ℕ). slice f x m) e
    ∙ ap (λ (y : ℕ). take y (drop (Walk.name_at g p) f)) b.name
    ∙ text_slice w f (Walk.name_at g p) (omega (arith, b.inside, b.name))

rest_lenless : (r : Result (Unit {0}) Refusal) → unlabelled r ≡ lenless (unlabelled r)
rest_lenless (Ok u) = refl
rest_lenless (Err e) = refl

module _ (g : Bool) (w : ℕ) (o : Order) (f : List ℕ) (l : Layout) (v : List ℕ) (z start : ℕ) (t : List ℕ) where
  pub going_starts : length t ≡ 32768 → Alike f l v t → Going g w o f l v z start t start t
  going_starts h A =
      record { long = h; alike = A; each = λ k i e. still e (starts g w o f (name_at f l v k) z start); others = λ k i e. refl }

  module _ (p : ℕ) (u : List ℕ) (G : Going g w o f l v z start t p u) where
    -- what is answered, where those not found answer r
    answers : (r : Result (Unit {0}) Refusal) → IsRest r → ((s : List ℕ) → Come g w o f s z start p → unlabelled r ≡ set_by (block_labels g w o f s z start)) → Passed g w o f l v z start t u r
    answers r n h = record { found = λ k i e. go k (G.each k i e); others = G.others; number = n }
      where
        go : (k : ℕ) → Sought g w o f (name_at f l v k) z start p (get_or u k 0) → table_of r (get_or u k 0) ≡ lenless (set_by (block_labels g w o f (name_at f l v k) z start))
        go k (still e C) = ap (table_of r) e ∙ rest_lenless r ∙ ap lenless (h (name_at f l v k) C)
        go k (seen a e q) = ap (table_of r) e ∙ q

    pub going_ends : z ≤ p → Passed g w o f l v z start t u (Ok tt)
    going_ends h = answers (Ok tt) (inl refl) (λ s C. come_plain g w o f s z start p C h)

    module _ (h : p < z) where
      pub going_gone : block_in g w o f z p ≡ none → Passed g w o f l v z start t u (Err NotReadable)
      going_gone b = answers (Err NotReadable) (inr refl) (λ s C. come_gone g w o f s z start p C h b)

      module _ (n m : ℕ) (b : BlockGot g w o f z p n m) (s : List ℕ) (S : s ≡ text_at w f (Walk.name_at g p)) (x : ℕ) (X : x ≡ suc (suc (suc (suc (table_at g w p)))))
          (y : List ℕ) (M : Marks f l v s x u y) where
        other_way : (k : ℕ) (c : Bool) → same_list (name_at f l v k) s ≡ c → c ≡ same_list (text_at w f (Walk.name_at g p)) (name_at f l v k)
        other_way k c e = sym e ∙ same_swap (name_at f l v k) s ∙ ap (λ (i : List ℕ). same_list i (name_at f l v k)) S

        sought : (k : ℕ) → k < length v → Sought g w o f (name_at f l v k) z start p (get_or u k 0)
            → Sought g w o f (name_at f l v k) z start (table_at g w p + n + close_size g) (get_or y k 0)
        sought k i (seen a e q) = seen a (M.each k i ∙ marked_found f l v s u k x (λ d. omega (arith, d, e)) ∙ e) q
        sought k i (still e C) = go (same_list (name_at f l v k) s) refl
          where
            go : (c : Bool) → same_list (name_at f l v k) s ≡ c → Sought g w o f (name_at f l v k) z start (table_at g w p + n + close_size g) (get_or y k 0)
            go true c =
                seen (table_at g w p) (M.each k i ∙ marked_here f l v s u k x e c ∙ X)
                (ap lenless (come_here g w o f (name_at f l v k) z start p C h n m b (other_way k true c) (table_at g w p) refl))
            go false c =
                still (M.each k i ∙ marked_other f l v s u k x c ∙ e)
                (come_on g w o f (name_at f l v k) z start p C h n m b (other_way k false c))

        stay : (k : ℕ) → k < length v → (get_or t k 0 ≡ 0 → ⊥) → get_or y k 0 ≡ get_or t k 0
        stay k i d = M.each k i ∙ marked_found f l v s u k x (λ e. d (sym (G.others k i d) ∙ e)) ∙ G.others k i d

        -- one that is not found yet, and its name is no block's
        left : (k : ℕ) → k < length v → get_or y k 0 ≡ 0 → (get_or u k 0 ≡ 0) × (same_list (name_at f l v k) s ≡ false)
        left k i e = go (eqb (get_or u k 0) 0) refl
          where
            name : (c : Bool) → same_list (name_at f l v k) s ≡ c → get_or u k 0 ≡ 0 → (get_or u k 0 ≡ 0) × (same_list (name_at f l v k) s ≡ false)
            name true c d = absurd (let q = sym e ∙ M.each k i ∙ marked_here f l v s u k x d c ∙ X in omega (arith, q))
            name false c d = (d, c)

            go : (c : Bool) → eqb (get_or u k 0) 0 ≡ c → (get_or u k 0 ≡ 0) × (same_list (name_at f l v k) s ≡ false)
            go true c = name (same_list (name_at f l v k) s) refl (eqb-true (get_or u k 0) 0 c)
            go false c = absurd (let d = eqb-false (get_or u k 0) 0 c in d (sym (marked_found f l v s u k x d) ∙ sym (M.each k i) ∙ e))

        same : Alike f l v y
        same = record { each = λ k j a b q e. one k j a b q (left k a e) }
          where
            one : (k j : ℕ) → k < length v → j < length v → name_at f l v k ≡ name_at f l v j → (get_or u k 0 ≡ 0) × (same_list (name_at f l v k) s ≡ false) → get_or y j 0 ≡ 0
            one k j a b q e = M.each j b ∙ marked_other f l v s u j x (ap (λ (i : List ℕ). same_list i s) (sym q) ∙ e.1) ∙ G.alike.each k j a b q e.0

        going_on : Going g w o f l v z start t (table_at g w p + n + close_size g) y
        going_on = record { long = M.long ∙ G.long; alike = same; each = λ k i e. sought k i (G.each k i e); others = stay }

      -- a turn, by the sizes of a block's marks
      pub going_turn : (n m : ℕ) → BlockGot g w o f z p n m → (a c : ℕ) → a ≡ open_size g → c ≡ close_size g
          → (y : List ℕ) → Marks f l v (slice f (p + a + 4) m) (p + a + (7 + w) + 4) u y → Going g w o f l v z start t (p + a + (7 + w) + n + c) y
      going_turn n m b a c A C y M =
          let q : table_at g w p + n + close_size g ≡ p + a + (7 + w) + n + c = omega (arith, A, C) in
          subst (λ (i : ℕ). Going g w o f l v z start t i y) q
          (going_on n m b _ (block_name g w o f z p n m b _ (omega (arith, A))) _ (omega (arith, A)) y M)

-- a length and a name, and the length again
abbrev pair : ℕ → List ℕ → Try (ℕ × List ℕ)
pair n s = got (n, s)

abbrev number : ℕ → Try (ℕ × List ℕ) → ℕ
number d none = d
number d (got x) = x.0

-- ---- a table is long enough for a place four bytes after its start

sized_long : (o : Order) (f : List ℕ) (n p : ℕ) (u : Unit {0}) → sized_in o f n p ≡ got u → 8 ≤ n
sized_long o f n p u h = go (number_in o 4 f p) (number_in o 4 f (p + 4)) h
  where
    fits : (a b : ℕ) (c : Bool) → eqb n (8 + (8 * a + b)) ≡ c → test c ≡ got u → 8 ≤ n
    fits a b true e h = omega (arith, eqb-true n (8 + (8 * a + b)) e)
    fits a b false e h = absurd (false≢true (cc h))

    go : (a b : Try ℕ) → (bind a λ x. bind b λ y. test (eqb n (8 + (8 * x + y)))) ≡ got u → 8 ≤ n
    go none b h = absurd (false≢true (cc h))
    go (got a) none h = absurd (false≢true (cc h))
    go (got a) (got b) h = fits a b (eqb n (8 + (8 * a + b))) refl h

-- .. and so is that of a block
pub block_long : (g : Bool) (w : ℕ) (o : Order) (f : List ℕ) (z p n m : ℕ) → BlockGot g w o f z p n m → 8 ≤ n
block_long g w o f z p n m b =
    go (leb (table_at g w p) z) (number_in o 4 f (p + open_size g)) (λ k. leb (table_at g w p + k + close_size g) z) (text_in w f (Walk.name_at g p)) (λ k. sized_in o f k (table_at g w p)) (λ k u h. sized_long o f k (table_at g w p) u h) b.is
  where
    s : List ℕ
    s = text_at w f (Walk.name_at g p)

    last : (k : ℕ) (r : List ℕ) (d : Try (Unit {0})) → ((u : Unit {0}) → d ≡ got u → 8 ≤ k) → (bind d λ u. pair k r) ≡ pair n s → 8 ≤ n
    last k r none L h = absurd (false≢true (cc h))
    last k r (got u) L h = omega (arith, L u refl, ap (number n) h)

    after : (k : ℕ) (c : Bool) (r : Try (List ℕ)) (d : Try (Unit {0})) → ((u : Unit {0}) → d ≡ got u → 8 ≤ k) → (bind (test c) λ u. bind r λ e. bind d λ u. pair k e) ≡ pair n s → 8 ≤ n
    after k false r d L h = absurd (false≢true (cc h))
    after k true none d L h = absurd (false≢true (cc h))
    after k true (got r) d L h = last k r d L h

    go : (a : Bool) (x : Try ℕ) (c : ℕ → Bool) (r : Try (List ℕ)) (d : ℕ → Try (Unit {0})) → ((k : ℕ) (u : Unit {0}) → d k ≡ got u → 8 ≤ k)
        → (bind (test a) λ u. bind x λ k. bind (test (c k)) λ u. bind r λ e. bind (d k) λ u. pair k e) ≡ pair n s → 8 ≤ n
    go false x c r d L h = absurd (false≢true (cc h))
    go true none c r d L h = absurd (false≢true (cc h))
    go true (got k) c r d L h = after k (c k) r (d k) (L k) h
