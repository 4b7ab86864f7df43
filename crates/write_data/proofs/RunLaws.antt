-- Runs: their sizes, runs that join, and tables of runs.
use mathlib.Core.Path.{◌≡◌, refl, sym, ap, ◌∙◌}
use mathlib.Core.List.{List, [], ◌∷◌, ◌++◌, append_assoc}
use mathlib.Core.Bool.{Bool, true, false, cond, not, ◌&&◌}
use Prim.Native.Nat.{ℕ, zero, suc, ◌+◌, ◌-◌, ◌*◌, ◌/◌, ◌%◌, ◌≤◌, ◌<◌}
use native.Mathlib.Nat.{mul-one, add-mul, mul-le-mul_left}
use native.Mathlib.Omega.{arith}
use native.Mathlib.Numerals.{add-one}
use lib.ListN.{length, get_or, take, drop, set, length-set, length-drop}
use lib.Seq.{get_or-set_same, get_or-set_other, length-take-le, drop-drop, take-add}
use lib.Dec.{eqb, leb}
use borrow.Author.Tests.{eqb-true, eqb-false, leb-true, leb-false, not-true}
use Rattle.format.specs.Slot.{fill}
use Rattle.format.specs.Number.{Order, msf, lsf, order_by, num, num_slots}
use Rattle.format.specs.Grammar.{number, fixed, text_at}
use Rattle.format.specs.Variables.{strl_type}
use Rattle.format.proofs.Good.{fixed_good, and_left, and_right}
use Rattle.format.proofs.DataLaws.{cell_good}
use Rattle.format.proofs.WriteLaws.{fill_length, fill_append}
use Rattle.text.proofs.Lay.{laid_first, laid_part, laid_as}
use borrow.Rule.Slice.PartMut.{put_mid}
use Rattle.write_data.specs.declared.Forms.{Forms}
use Rattle.write_data.specs.Rows.{from, to, Eights}
use Rattle.write_data.specs.Runs.{run_step, run_size, run_bytes, kind_at, count_at, runs_size, runs_bytes, joins, Added}
use Rattle.write_data.proofs.PutLaws.{times_split, times_length, number_long}

-- ---- sizes

pub step_some : (s : ℕ) → 1 ≤ run_step s
unfolding run_step
step_some zero = omega arith
step_some (suc zero) = omega arith
step_some (suc (suc zero)) = omega arith
step_some (suc (suc (suc zero))) = omega arith
step_some (suc (suc (suc (suc zero)))) = omega arith
step_some (suc (suc (suc (suc (suc s))))) = omega arith

pub step_eight : (s : ℕ) → (s ≡ 0 → ⊥) → (s ≡ 1 → ⊥) → (s ≡ 2 → ⊥) → (s ≡ 3 → ⊥) → (s ≡ 4 → ⊥) → run_step s ≡ 8
unfolding run_step
step_eight zero a b c d e = absurd (a refl)
step_eight (suc zero) a b c d e = absurd (b refl)
step_eight (suc (suc zero)) a b c d e = absurd (c refl)
step_eight (suc (suc (suc zero))) a b c d e = absurd (d refl)
step_eight (suc (suc (suc (suc zero)))) a b c d e = absurd (e refl)
step_eight (suc (suc (suc (suc (suc s))))) a b c d e = refl

pub count_size : (s c : ℕ) → c ≤ run_size s c
count_size s c = omega (arith, mul-one c, mul-le-mul_left c (step_some s))

module _ (h : Forms) (E : Eights h) (f : List ℕ) where
  abbrev o : Order
  o = order_by h.msf

  abbrev x : Order
  x = order_by h.tomsf

  pub link_long : (p : ℕ) → length (fill ((to h strl_type).slots ((from h strl_type).read f p))) ≡ 8
  link_long p = fill_length (to h strl_type) (cell_good x h.tov h.too strl_type) ((from h strl_type).read f p) ∙ E.after

  -- a reference: v, and then o
  pub link_put : (q m n : ℕ) (d u p : List ℕ) → m ≡ num o h.v f q → n ≡ num o h.o f (q + h.v) → 8 ≤ length d → u ≡ fill (num_slots x h.tov m) ++ drop h.tov d
      → p ≡ fill (num_slots x h.too n) ++ drop h.too (take (length u - h.tov) (drop h.tov u))
      → put_mid h.tov (length u - h.tov) u p ≡ fill ((to h strl_type).slots ((from h strl_type).read f q)) ++ drop 8 d
  link_put q m n d u p em en room hu hp =
      let e = E.after in
      let first = laid_first (fill (num_slots x h.tov m)) d u h.tov hu (number_long x h.tov m) (omega arith) in
      let both = laid_part first (fill (num_slots x h.too n)) p h.too (number_long x h.too n) (omega arith) hp in
      (laid_as both (sym (fill_append (num_slots x h.tov m) (num_slots x h.too n)) ∙ (λ i. fill (num_slots x h.tov (em i) ++ num_slots x h.too (en i)))) E.after).is

  pub run_length : (s c q : ℕ) → q + run_size s c ≤ length f → length (run_bytes h s c f q) ≡ run_size s c
  unfolding run_step run_bytes
  run_length zero c q b = fill_length (fixed c) (fixed_good c) (text_at c f q) ∙ sym (mul-one c)
  run_length (suc zero) c q b = length-take-le c (drop q f) (simp length-drop (omega (arith, mul-one c))) ∙ sym (mul-one c)
  run_length (suc (suc zero)) c q b = times_length (number lsf 2) (number msf 2) 2 f (λ p. refl) (λ p. number_long msf 2 (num lsf 2 f p)) c q
  run_length (suc (suc (suc zero))) c q b = times_length (from h strl_type) (to h strl_type) 8 f (λ p. E.before) link_long c q
  run_length (suc (suc (suc (suc zero)))) c q b = times_length (number lsf 4) (number msf 4) 4 f (λ p. refl) (λ p. number_long msf 4 (num lsf 4 f p)) c q
  run_length (suc (suc (suc (suc (suc s))))) c q b = times_length (number lsf 8) (number msf 8) 8 f (λ p. refl) (λ p. number_long msf 8 (num lsf 8 f p)) c q

  -- two runs of one kind, but no texts, are one
  pub run_join : (s a b q : ℕ) → (s ≡ 0 → ⊥) → run_bytes h s (a + b) f q ≡ run_bytes h s a f q ++ run_bytes h s b f (q + run_size s a)
  unfolding run_step run_bytes
  run_join zero a b q n = absurd (n refl)
  run_join (suc zero) a b q n = take-add a b (drop q f) ∙ rw (drop-drop a q f, mul-one)
  run_join (suc (suc zero)) a b q n = times_split (number lsf 2) (number msf 2) 2 f (λ p. refl) a b q
  run_join (suc (suc (suc zero))) a b q n = times_split (from h strl_type) (to h strl_type) 8 f (λ p. E.before) a b q
  run_join (suc (suc (suc (suc zero)))) a b q n = times_split (number lsf 4) (number msf 4) 4 f (λ p. refl) a b q
  run_join (suc (suc (suc (suc (suc s))))) a b q n = times_split (number lsf 8) (number msf 8) 8 f (λ p. refl) a b q

  -- so it is after others, X, of z bytes
  pub join_after : (X : List ℕ) (k s a b q z : ℕ) → k ≡ s → (s ≡ 0 → ⊥)
      → X ++ run_bytes h s (a + b) f (q + z) ≡ (X ++ run_bytes h k a f (q + z)) ++ run_bytes h s b f (q + (z + run_size k a))
  join_after X k s a b q z e n =
      let g : q + (z + run_size s a) ≡ q + z + run_size s a = omega arith in
      rw (e, g, append_assoc) (ap (λ (l : List ℕ). X ++ l) (run_join s a b (q + z) n))

-- ---- what is put for one run

pub run_eight : (h : Forms) (s c : ℕ) (f : List ℕ) (q : ℕ) → (s ≡ 0 → ⊥) → (s ≡ 1 → ⊥) → (s ≡ 2 → ⊥) → (s ≡ 3 → ⊥) → (s ≡ 4 → ⊥)
    → run_bytes h 8 c f q ≡ run_bytes h s c f q
unfolding run_bytes
run_eight h zero c f q a b i j k = absurd (a refl)
run_eight h (suc zero) c f q a b i j k = absurd (b refl)
run_eight h (suc (suc zero)) c f q a b i j k = absurd (i refl)
run_eight h (suc (suc (suc zero))) c f q a b i j k = absurd (j refl)
run_eight h (suc (suc (suc (suc zero)))) c f q a b i j k = absurd (k refl)
run_eight h (suc (suc (suc (suc (suc s))))) c f q a b i j k = refl

-- a text fits its field
pub text_short : (w : ℕ) (f : List ℕ) (p : ℕ) → length (text_at w f p) ≤ w
text_short zero f p = omega arith
text_short (suc w) f p = go (eqb (get_or f p 0) 0) (text_short w f (suc p))
  where
    go : (b : Bool) → length (text_at w f (suc p)) ≤ w → length (cond b [] (get_or f p 0 ∷ text_at w f (suc p))) ≤ suc w
    go true h = omega arith
    go false h = omega arith

-- ---- tables

-- tables whose first r entries are the same
module _ (t u : List ℕ) where
  abbrev Same : ℕ → Type 0
  Same r = (i : ℕ) → i < r → get_or u i 0 ≡ get_or t i 0

  pub same_size : (r : ℕ) → Same r → runs_size u r ≡ runs_size t r
  same_size zero e = refl
  same_size (suc r) e =
      (λ k. same_size r (λ i b. e i (omega arith)) k + run_size (e r (omega arith) k % 16) (e r (omega arith) k / 16))

  pub same_bytes : (h : Forms) (f : List ℕ) (q r : ℕ) → Same r → runs_bytes u h r f q ≡ runs_bytes t h r f q
  same_bytes h f q zero e = refl
  same_bytes h f q (suc r) e =
      let z = same_size r (λ i b. e i (omega arith)) in
      let y = e r (omega arith) in
      let x = same_bytes h f q r (λ i b. e i (omega arith)) in
      λ k. x k ++ run_bytes h (y k % 16) (y k / 16) f (q + z k)

-- the sizes of the first runs
pub size_up : (t : List ℕ) (i r : ℕ) → i < r → runs_size t i + run_size (kind_at t i) (count_at t i) ≤ runs_size t r
size_up t i zero b = absurd (omega (arith, b))
size_up t i (suc r) b = go (leb r i) refl (size_up t i r)
  where
    go : (k : Bool) → leb r i ≡ k → (i < r → runs_size t i + run_size (kind_at t i) (count_at t i) ≤ runs_size t r)
        → runs_size t i + run_size (kind_at t i) (count_at t i) ≤ runs_size t r + run_size (kind_at t r) (count_at t r)
    go true e ih = let z : i ≡ r = omega (arith, leb-true r i e) in rw z (omega arith)
    go false e ih = omega (arith, ih (leb-false r i e))

module _ (t : List ℕ) (r s c : ℕ) (small : s < 16) (all : length t ≡ 32768) (few : r ≤ 32767) where
  -- an entry for a run
  entry_kind : (c * 16 + s) % 16 ≡ s
  entry_kind = omega arith

  entry_count : (c * 16 + s) / 16 ≡ c
  entry_count = omega arith

  -- a run after them
  pub added_new : Added t r s c (set t r (c * 16 + s)) (r + 1)
  added_new =
      let u = set t r (c * 16 + s) in
      let at : get_or u r 0 ≡ c * 16 + s = get_or-set_same t r (c * 16 + s) 0 (omega arith) in
      let k : get_or u r 0 % 16 ≡ s = ap (λ (y : ℕ). y % 16) at ∙ entry_kind in
      let n : get_or u r 0 / 16 ≡ c = ap (λ (y : ℕ). y / 16) at ∙ entry_count in
      let same : Same t u r = λ i b. get_or-set_other t r i (c * 16 + s) 0 (λ e. (let z : i ≡ r = e in omega arith)) in
      record {
        long = length-set t r (c * 16 + s) ∙ all;
        few = omega arith;
        size = rw (add-one r) (λ j. same_size t u r same j + run_size (k j) (n j));
        bytes = λ h E f q. rw (add-one r) (λ j. same_bytes t u h f q r same j ++ run_bytes h (k j) (n j) f (q + same_size t u r same j));
      }

  -- the last run is longer
  pub added_last : (i : ℕ) → r ≡ i + 1 → kind_at t i ≡ s → (s ≡ 0 → ⊥) → Added t r s c (set t i (get_or t i 0 + c * 16)) r
  added_last i e k n =
      let v = get_or t i 0 + c * 16 in
      let u = set t i v in
      let a = count_at t i in
      let at : get_or u i 0 ≡ v = get_or-set_same t i v 0 (omega arith) in
      let ku : get_or u i 0 % 16 ≡ s = ap (λ (y : ℕ). y % 16) at ∙ omega (arith, k) in
      let nu : get_or u i 0 / 16 ≡ a + c = ap (λ (y : ℕ). y / 16) at ∙ omega arith in
      let same : Same t u i = λ j b. get_or-set_other t i j v 0 (λ w. (let z : j ≡ i = w in omega arith)) in
      let z : r ≡ suc i = omega arith in
      let size : runs_size u (suc i) ≡ runs_size t (suc i) + run_size s c =
      (λ j. same_size t u i same j + run_size (ku j) (nu j)) ∙ rw k (omega (arith, add-mul a c (run_step s))) in
      record {
        long = length-set t i v ∙ all;
        few = omega arith;
        size = rw z size;
        bytes = λ h E f q. rw z
            ((λ j. same_bytes t u h f q i same j ++ run_bytes h (ku j) (nu j) f (q + same_size t u i same j))
            ∙ join_after h E f (runs_bytes t h i f q) (kind_at t i) s a c q (runs_size t i) k n);
      }

-- what joining says
module _ (t : List ℕ) (r s : ℕ) (j : joins t r s ≡ true) where
  pub joins_kind : s ≡ 0 → ⊥
  joins_kind = eqb-false s 0 (not-true (eqb s 0) (and_left (not (eqb s 0)) (not (eqb r 0) && eqb (kind_at t (r - 1)) s) j))

  pub joins_some : 1 ≤ r
  joins_some =
      let z = eqb-false r 0 (not-true (eqb r 0) (and_left (not (eqb r 0)) (eqb (kind_at t (r - 1)) s) (and_right (not (eqb s 0)) (not (eqb r 0) && eqb (kind_at t (r - 1)) s) j))) in
      omega arith

  pub joins_last : kind_at t (r - 1) ≡ s
  joins_last = eqb-true (kind_at t (r - 1)) s (and_right (not (eqb r 0)) (eqb (kind_at t (r - 1)) s) (and_right (not (eqb s 0)) (not (eqb r 0) && eqb (kind_at t (r - 1)) s) j))

-- entries are small
pub count_small : (s c z : ℕ) → z + run_size s c ≤ 67108864 → c ≤ 67108864
count_small s c z h = omega (arith, count_size s c)

pub entry_small : (t : List ℕ) (i r s c : ℕ) → i < r → runs_size t r + run_size s c ≤ 67108864 → get_or t i 0 + c * 16 < 4294967296
entry_small t i r s c b h = omega (arith, size_up t i r b, count_size (kind_at t i) (count_at t i), count_size s c)

-- the size of one run more
pub run_after : (t : List ℕ) (i a b : ℕ) → a ≡ runs_size t i → b ≡ run_size (kind_at t i) (count_at t i) → a + b ≡ runs_size t (i + 1)
run_after t i a b e g = rw (add-one i, g) (ap (λ (x : ℕ). x + run_size (kind_at t i) (count_at t i)) e)
