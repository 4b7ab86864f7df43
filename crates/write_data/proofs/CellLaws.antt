-- A cell is a run: what is put for it by its type is what is put for a run of its kind.
use mathlib.Core.Path.{◌≡◌, refl, sym, ap, ◌∙◌, subst}
use mathlib.Core.List.{List, ◌∷◌, ◌++◌}
use mathlib.Core.Bool.{Bool, true, false, cond, not, ◌&&◌}
use Prim.Native.Nat.{ℕ, zero, suc, ◌+◌, ◌*◌, ◌/◌, ◌≤◌, ◌<◌}
use native.Mathlib.Nat.{mul-one, div-one}
use native.Mathlib.Omega.{arith}
use lib.ListN.{length, get_or, take, drop}
use lib.Seq.{drop-drop, take-add}
use lib.Dec.{eqb}
use borrow.Author.Tests.{eqb-true, eq-eqb}
use Rattle.format.specs.Slot.{fill, Bytes}
use Rattle.format.specs.Number.{Order, msf, lsf, order_by, seat, digit, tab, num, num_slots}
use Rattle.format.specs.Grammar.{number}
use Rattle.format.specs.Variables.{VarType, text_type, strl_type, byte_type, int_type, long_type, float_type, double_type}
use Rattle.format.proofs.Good.{and_left, and_right}
use Rattle.format.proofs.NumberLaws.{digit_val, seat_below, seat_twice}
use Rattle.format.proofs.WriteLaws.{fill_number, fill_append}
use Rattle.codes.specs.declared.Kind.{Kind}
use Rattle.codes.specs.declared.Kind.TheVariants.{Text, StrL, Byte, Int, Long, Float, Double, Unknown}
use Rattle.codes.specs.Fields.{field_by}
use Rattle.text.proofs.TextLaws.{bytes_raw}
use Rattle.write_data.specs.declared.Forms.{Forms}
use Rattle.write_data.specs.Rows.{from, to, put_times, Eights}
use Rattle.write_data.specs.Runs.{same_order, keeps, halves, run_kind, run_step, run_size, turned, run_bytes}
use Rattle.write_data.proofs.PutLaws.{times_one}

never : false ≡ true → ⊥
never z = subst (λ (b : Bool). cond b ⊥ (Unit {0})) z tt

tab_same : (w : ℕ) (s t : ℕ → ℕ) → ((i : ℕ) → i < w → s i ≡ t i) → tab w s ≡ tab w t
tab_same zero s t e = refl
tab_same (suc w) s t e = λ k. e 0 (omega arith) k ∷ tab_same w (λ i. s (suc i)) (λ i. t (suc i)) (λ i b. e (suc i) (omega arith)) k

-- the bytes of a number that is read in one order and put in another
number_bytes : (o x : Order) (w : ℕ) (f : List ℕ) (q : ℕ) → Bytes f → fill (num_slots x w (num o w f q)) ≡ tab w (λ i. get_or f (q + seat o w (seat x w i)) 0)
number_bytes o x w f q u =
    fill_number x w (num o w f q)
    ∙ tab_same w (λ i. digit w (num o w f q) (seat x w i)) (λ i. get_or f (q + seat o w (seat x w i)) 0)
    (λ i c. digit_val (λ k. get_or f (q + seat o w k) 0) w (λ k. u (q + seat o w k)) (seat x w i) (seat_below x w i c))

-- in the same order they are those of the file
pub number_copied : (o : Order) (w : ℕ) (f : List ℕ) (q : ℕ) → Bytes f → q + w ≤ length f → fill (num_slots o w (num o w f q)) ≡ take w (drop q f)
number_copied o w f q u b =
    number_bytes o o w f q u
    ∙ tab_same w (λ i. get_or f (q + seat o w (seat o w i)) 0) (λ i. get_or f (q + i) 0) (λ i c. ap (λ (j : ℕ). get_or f (q + j) 0) (seat_twice o w i c))
    ∙ sym (bytes_raw f q w b)

-- from either order to the other, they are the same
pub number_turned : (a b : Bool) (w : ℕ) (f : List ℕ) (q : ℕ) → Bytes f → cond a b (not b) ≡ false → fill (num_slots (order_by b) w (num (order_by a) w f q)) ≡ turned w f q
number_turned true true w f q u e = absurd (never (sym e))
number_turned true false w f q u e = number_bytes msf lsf w f q u ∙ sym (number_bytes lsf msf w f q u)
number_turned false true w f q u e = refl
number_turned false false w f q u e = absurd (never (sym e))

-- one byte has no order
byte_same : (a b : Bool) (n : ℕ) → num_slots (order_by a) 1 n ≡ num_slots (order_by b) 1 n
byte_same true true n = refl
byte_same true false n = refl
byte_same false true n = refl
byte_same false false n = refl

same_is : (a b : Bool) → cond a b (not b) ≡ true → b ≡ a
same_is true true e = refl
same_is true false e = e
same_is false true e = sym e
same_is false false e = refl

module _ (h : Forms) where
  cond_small : (b : Bool) (n : ℕ) → n < 16 → cond b 1 n < 16
  cond_small true n l = omega arith
  cond_small false n l = l

  half_small : (b : Bool) → cond b 4 3 < 16
  half_small true = omega arith
  half_small false = omega arith

  half_size : (b : Bool) → 8 / run_step (cond b 4 3) * run_step (cond b 4 3) ≡ 8
  unfolding run_step
  half_size true = refl
  half_size false = refl

  pub kind_small : (k : Kind) → run_kind h k < 16
  kind_small Text = omega arith
  kind_small StrL = cond_small (keeps h) (cond (halves h) 4 3) (half_small (halves h))
  kind_small Byte = omega arith
  kind_small Int = cond_small (same_order h) 2 (omega arith)
  kind_small Long = cond_small (same_order h) 4 (omega arith)
  kind_small Float = cond_small (same_order h) 4 (omega arith)
  kind_small Double = cond_small (same_order h) 8 (omega arith)
  kind_small Unknown = omega arith

  -- the size of a run of one cell
  cond_size : (b : Bool) (w s : ℕ) → w / run_step s * run_step s ≡ w → w / run_step (cond b 1 s) * run_step (cond b 1 s) ≡ w
  unfolding run_step
  cond_size true w s e = mul-one (w / 1) ∙ div-one w
  cond_size false w s e = e

  pub size_is : (x : VarType) → run_size (run_kind h (field_by x).kind) ((field_by x).width / run_step (run_kind h (field_by x).kind)) ≡ (field_by x).width
  unfolding run_step
  size_is (text_type w) = mul-one (w / 1) ∙ div-one w
  size_is strl_type = cond_size (keeps h) 8 (cond (halves h) 4 3) (half_size (halves h))
  size_is byte_type = refl
  size_is int_type = cond_size (same_order h) 2 2 refl
  size_is long_type = cond_size (same_order h) 4 4 refl
  size_is float_type = cond_size (same_order h) 4 4 refl
  size_is double_type = cond_size (same_order h) 8 8 refl

module _ (h : Forms) (E : Eights h) (f : List ℕ) (u : Bytes f) (q : ℕ) where
  abbrev o : Order
  o = order_by h.msf

  abbrev x : Order
  x = order_by h.tomsf

  order_is : same_order h ≡ true → x ≡ o
  order_is e = ap order_by (same_is h.msf h.tomsf e)

  -- a number of w bytes, as a run of kind s where its order changes
  number_run : (w s : ℕ) → q + w ≤ length f → (b : Bool) → same_order h ≡ b → turned w f q ≡ run_bytes h s (w / run_step s) f q
      → fill (num_slots x w (num o w f q)) ≡ run_bytes h (cond b 1 s) (w / run_step (cond b 1 s)) f q
  unfolding run_step run_bytes
  number_run w s b true e z =
      ap (λ (y : Order). fill (num_slots y w (num o w f q))) (order_is e) ∙ number_copied o w f q u b ∙ ap (λ (n : ℕ). take n (drop q f)) (sym (div-one w))
  number_run w s b false e z = number_turned h.msf h.tomsf w f q u e ∙ z

  one_number : (w : ℕ) → turned w f q ≡ put_times (number lsf w) (number msf w) 1 f q
  one_number w = sym (times_one (number lsf w) (number msf w) w f (λ p. refl) q)

  -- a reference that changes: as two numbers, or as it is
  not_same : (a b : Bool) → (a && b) ≡ false → b ≡ true → a ≡ false
  not_same true b e z = sym z ∙ e
  not_same false b e z = refl

  link_changed : keeps h ≡ false → (b : Bool) → halves h ≡ b
      → fill ((to h strl_type).slots ((from h strl_type).read f q)) ≡ run_bytes h (cond b 4 3) (8 / run_step (cond b 4 3)) f q
  unfolding run_step run_bytes
  link_changed e true z =
      let ev = eqb-true h.v 4 (and_left (eqb h.v 4) (eqb h.tov 4) z) in
      let et = eqb-true h.tov 4 (and_right (eqb h.v 4) (eqb h.tov 4) z) in
      let m = E.before in
      let n = E.after in
      let eo : h.o ≡ 4 = omega arith in
      let eu : h.too ≡ 4 = omega arith in
      let s : same_order h ≡ false = not_same (same_order h) (eqb h.v h.tov) e (eq-eqb h.v h.tov (ev ∙ sym et)) in
      fill_append (num_slots x h.tov (num o h.v f q)) (num_slots x h.too (num o h.o f (q + h.v)))
      ∙ (λ i. fill (num_slots x (et i) (num o (ev i) f q)) ++ fill (num_slots x (eu i) (num o (eo i) f (q + ev i))))
      ∙ (λ i. number_turned h.msf h.tomsf 4 f q u s i ++ number_turned h.msf h.tomsf 4 f (q + 4) u s i)
  link_changed e false z = sym (times_one (from h strl_type) (to h strl_type) 8 f (λ p. E.before) q)

  link_run : q + 8 ≤ length f → (b : Bool) → keeps h ≡ b
      → fill ((to h strl_type).slots ((from h strl_type).read f q)) ≡ run_bytes h (cond b 1 (cond (halves h) 4 3)) (8 / run_step (cond b 1 (cond (halves h) 4 3))) f q
  unfolding run_step run_bytes
  link_run b true e =
      let v = num o h.v f q in
      let y = num o h.o f (q + h.v) in
      let d = order_is (and_left (same_order h) (eqb h.v h.tov) e) in
      let ev : h.tov ≡ h.v = sym (eqb-true h.v h.tov (and_right (same_order h) (eqb h.v h.tov) e)) in
      let m = E.before in
      let n = E.after in
      let eo : h.too ≡ h.o = omega arith in
      fill_append (num_slots x h.tov v) (num_slots x h.too y)
      ∙ (λ i. fill (num_slots (d i) (ev i) v) ++ fill (num_slots (d i) (eo i) y))
      ∙ (λ i. number_copied o h.v f q u (omega arith) i ++ number_copied o h.o f (q + h.v) u (omega arith) i)
      ∙ sym (ap (λ (k : ℕ). take k (drop q f)) (sym E.before) ∙ take-add h.v h.o (drop q f) ∙ rw (drop-drop h.v q f))
  link_run b false e = link_changed e (halves h) refl

  pub cell_run : (t : VarType) → q + (field_by t).width ≤ length f
      → fill ((to h t).slots ((from h t).read f q)) ≡ run_bytes h (run_kind h (field_by t).kind) ((field_by t).width / run_step (run_kind h (field_by t).kind)) f q
  unfolding run_step run_bytes
  cell_run (text_type w) b = rw (div-one w)
  cell_run strl_type b = link_run b (keeps h) refl
  cell_run byte_type b = ap fill (byte_same h.tomsf h.msf (num o 1 f q)) ∙ number_copied o 1 f q u b
  cell_run int_type b = number_run 2 2 b (same_order h) refl (one_number 2)
  cell_run long_type b = number_run 4 4 b (same_order h) refl (one_number 4)
  cell_run float_type b = number_run 4 4 b (same_order h) refl (one_number 4)
  cell_run double_type b = number_run 8 8 b (same_order h) refl (one_number 8)
