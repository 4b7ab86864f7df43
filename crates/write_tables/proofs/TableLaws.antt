-- A table that stands at a place: what is read of it, and what is put for it.
use mathlib.Core.Path.{◌≡◌, refl, sym, ap, ◌∙◌, subst}
use Prim.Native.Nat.{ℕ, zero, suc, ◌+◌, ◌*◌, ◌≤◌, ◌<◌}
use native.Mathlib.Omega.{arith}
use mathlib.Core.List.{List, [], ◌∷◌, ◌++◌, append_assoc}
use mathlib.Core.Bool.{Bool, true, false, true≢false}
use lib.ListN.{length, get_or, length-append}
use lib.Dec.{eqb, ltb}
use borrow.Author.Tests.{eqb-true, ltb-true}
use Rattle.format.specs.Slot.{Fits, fill}
use Rattle.format.specs.Number.{Order, num, num_slots, tab}
use Rattle.format.specs.Grammar.{number, times, read_times, all_slots, member, masked, all_below, area}
use Rattle.format.specs.Labels.{Table, table_head, table_body, table, table_size}
use Rattle.format.proofs.SlotLaws.{fits_left, fits_right, fits_after, fits_bound, length_fill}
use Rattle.format.proofs.Good.{and_left, and_right, number_good, all_sized, times_good}
use Rattle.format.proofs.AreaLaws.{area_good, past_gives}
use Rattle.format.proofs.LabelLaws.{numbers_wide}
use Rattle.format.proofs.WriteLaws.{fill_append, fill_area}
use Rattle.write_tables.specs.Tables.{TableAt, TableRoom}
use Rattle.write_tables.proofs.MarkLaws.{numbers_fill}

-- what is read of a table
pub record TableRead (o : Order) (f : List ℕ) (p n m : ℕ) (t : Table) : Type 0 where
  pub inside : p + (8 + (n * 4 + (n * 4 + m))) ≤ length f
  pub offs : read_times (number o 4) n f (p + 8) ≡ t.offsets
  pub vals : read_times (number o 4) n f (p + (8 + n * 4)) ≡ t.values
  pub chars : tab m (masked t.offsets (λ i. get_or f (p + (8 + n * 4 + n * 4) + i) 0)) ≡ t.texts
  pub low : (j : ℕ) → member j t.offsets ≡ true → j < m

-- a number below one past the last zero of m bytes is below m
below_each : (b : ℕ) (l : List ℕ) (j : ℕ) → all_below b l ≡ true → member j l ≡ true → j < b
below_each b [] j h k = absurd (true≢false (sym k))
below_each b (x ∷ l) j h k = go (eqb j x) refl (below_each b l j (and_right (ltb x b) (all_below b l) h))
  where
    go : (t : Bool) → eqb j x ≡ t → (member j l ≡ true → j < b) → j < b
    go true e ih = subst (λ (y : ℕ). y < b) (sym (eqb-true j x e)) (ltb-true x b (and_left (ltb x b) (all_below b l) h))
    go false e ih = ih (rw e at k)

five : (A D O W T : List ℕ) → ((A ++ D) ++ (O ++ W)) ++ T ≡ A ++ (D ++ (O ++ (W ++ T)))
five A D O W T = simp append_assoc

module _ (o : Order) (f : List ℕ) where
  -- numbers that stand at p
  numbers_read : (n p : ℕ) (l : List ℕ) → (times (number o 4) n).Right l → Fits f p (all_slots (number o 4) l) → read_times (number o 4) n f p ≡ l
  numbers_read n p l r m =
      ((times_good (number o 4) (λ a r. refl) (number_good o 4) n).complete f p l r m
      (omega (arith, fits_bound f p (all_slots (number o 4) l) m, all_sized (number o 4) (number_good o 4) l))).read_back

  numbers_long : (n : ℕ) (l : List ℕ) → (times (number o 4) n).Right l → length (all_slots (number o 4) l) ≡ n * 4
  numbers_long n l r = all_sized (number o 4) (number_good o 4) l ∙ numbers_wide o n l r

  pub table_read : (p n m : ℕ) (t : Table) → TableAt o f p n m t → TableRead o f p n m t
  unfolding table table_head table_body
  table_read p n m t s =
      let r = s.right.1.1 in
      let x = length t.offsets in
      let y = length t.texts in
      let A = num_slots o 4 x ++ num_slots o 4 y in
      let O = all_slots (number o 4) t.offsets in
      let W = all_slots (number o 4) t.values in
      let T = (area t.offsets y 12).slots t.texts in
      let a : Fits f (p + 8) (O ++ (W ++ T)) = fits_right f p A (O ++ (W ++ T)) s.fits in
      let b = fits_after f (p + 8) (x * 4) O (W ++ T) (numbers_long x t.offsets r.0) a in
      let c = fits_after f (p + 8 + x * 4) (x * 4) W T (numbers_long x t.values r.1.0.0) b in
      let d = fits_bound f (p + 8 + x * 4 + x * 4) T c in
      let e = (area_good t.offsets y 12 (omega arith)).sized t.texts in
      let v : p + 8 + x * 4 ≡ p + (8 + x * 4) = omega arith in
      let q : p + 8 + x * 4 + x * 4 ≡ p + (8 + x * 4 + x * 4) = omega arith in
      let g = ((area_good t.offsets y 12 (omega arith)).complete f (p + 8 + x * 4 + x * 4) t.texts r.1.1 c (omega arith)).read_back in
      rw (s.entries, s.chars)
      (record {
        inside = omega arith;
        offs = numbers_read x (p + 8) t.offsets r.0 (fits_left f (p + 8) O (W ++ T) a);
        vals = rw v at (numbers_read x (p + 8 + x * 4) t.values r.1.0.0 (fits_left f (p + 8 + x * 4) W T b));
        chars = rw q at g;
        low = λ j k. (let z = past_gives (λ i. get_or t.texts i 0) y j (below_each _ t.offsets j r.1.1.end k) in omega (arith, z.1, z.2));
      })

  -- two tables that stand there are one
  pub table_same : (p n m : ℕ) (t u : Table) → TableAt o f p n m t → TableAt o f p n m u → t ≡ u
  table_same p n m t u a b =
      let x = table_read p n m t a in
      let y = table_read p n m u b in
      let e = sym x.offs ∙ y.offs in
      let v = sym x.vals ∙ y.vals in
      let c = sym x.chars ∙ ap (λ (l : List ℕ). tab m (masked l (λ i. get_or f (p + (8 + n * 4 + n * 4) + i) 0))) e ∙ y.chars in
      λ i. record { offsets = e i; values = v i; texts = c i }

  -- what is put for it, part by part
  pub table_fill : (z : Order) (p n m : ℕ) (t : Table) → TableAt o f p n m t → fill ((table z (table_size t)).slots t)
      ≡ fill (num_slots z 4 n)
      ++ (fill (num_slots z 4 m)
      ++ (fill (all_slots (number z 4) (read_times (number o 4) n f (p + 8)))
      ++ (fill (all_slots (number z 4) (read_times (number o 4) n f (p + (8 + n * 4))))
      ++ tab m (masked (read_times (number o 4) n f (p + 8)) (λ i. get_or f (p + (8 + n * 4 + n * 4) + i) 0)))))
  unfolding table table_head table_body
  table_fill z p n m t s =
      let R = table_read p n m t s in
      let r = s.right.1.1 in
      let O = all_slots (number z 4) t.offsets in
      let W = all_slots (number z 4) t.values in
      let T = (area t.offsets (length t.texts) 12).slots t.texts in
      let a = fill_append O (W ++ T) ∙ ap (λ (l : List ℕ). fill O ++ l) (fill_append W T ∙ ap (λ (l : List ℕ). fill W ++ l) (fill_area t.offsets (length t.texts) 12 t.texts r.1.1)) in
      rw (R.offs, R.vals, R.chars, s.entries, s.chars) (ap (λ (l : List ℕ). fill (num_slots z 4 (length t.offsets)) ++ (fill (num_slots z 4 (length t.texts)) ++ l)) a)

  -- what is put for the text
  abbrev pub area_fill : ℕ → ℕ → ℕ → List ℕ
  area_fill p n m = tab m (masked (read_times (number o 4) n f (p + 8)) (λ i. get_or f (p + (8 + n * 4 + n * 4) + i) 0))

  -- the same, as code puts it
  pub table_parts : (z : Order) (p n m : ℕ) (t : Table) → TableAt o f p n m t
      → ((fill (num_slots z 4 n) ++ fill (num_slots z 4 m)) ++ (numbers_fill o z f n (p + 8) ++ numbers_fill o z f n (p + 8 + n * 4))) ++ area_fill p n m
      ≡ fill ((table z (table_size t)).slots t)
  table_parts z p n m t s =
      let e : p + 8 + n * 4 ≡ p + (8 + n * 4) = omega arith in
      let A = fill (num_slots z 4 n) in
      let D = fill (num_slots z 4 m) in
      let O = numbers_fill o z f n (p + 8) in
      ap (λ (q : ℕ). ((A ++ D) ++ (O ++ numbers_fill o z f n q)) ++ area_fill p n m) e
      ∙ five A D O (numbers_fill o z f n (p + (8 + n * 4))) (area_fill p n m)
      ∙ sym (table_fill z p n m t s)

  -- it is in the file, and there is room for it
  pub room_inside : (p n m r : ℕ) → TableRoom o f p n m r → (p + (8 + (n * 4 + (n * 4 + m))) ≤ length f) × (8 + (n * 4 + (n * 4 + m)) ≤ r)
  room_inside p n m r h = ((table_read p n m h.this h.stands).inside, omega (arith, h.stands.entries, h.stands.chars, h.room))

-- how many bytes are put for numbers
pub numbers_length : (o z : Order) (f : List ℕ) (n q : ℕ) → length (fill (all_slots (number z 4) (read_times (number o 4) n f q))) ≡ n * 4
numbers_length o z f zero q = refl
numbers_length o z f (suc n) q =
    let e = length-append (num_slots z 4 (num o 4 f q)) (all_slots (number z 4) (read_times (number o 4) n f (q + 4))) in
    length_fill (all_slots (number z 4) (read_times (number o 4) (suc n) f q)) ∙ omega (arith, numbers_length o z f n (q + 4), length_fill (all_slots (number z 4) (read_times (number o 4) n f (q + 4))))

pub entries_length : (o z : Order) (f : List ℕ) (n q : ℕ) → length (numbers_fill o z f n q ++ numbers_fill o z f n (q + n * 4)) ≡ n * 4 + n * 4
entries_length o z f n q =
    length-append (numbers_fill o z f n q) (numbers_fill o z f n (q + n * 4)) ∙ omega (arith, numbers_length o z f n q, numbers_length o z f n (q + n * 4))
