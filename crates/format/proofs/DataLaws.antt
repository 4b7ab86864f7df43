-- The data and the long strings are good.
use mathlib.Core.Path.{◌≡◌, refl, sym, ap, ◌∙◌, subst}
use Prim.Native.Nat.{ℕ, zero, suc, ◌+◌, ◌-◌, ◌*◌, ◌%◌, ◌^◌, ◌≤◌, ◌<◌}
use native.Mathlib.Omega.{arith}
use mathlib.Core.List.{List, [], ◌∷◌, ◌++◌, map}
use mathlib.Core.Bool.{Bool, true, false, cond, not, ◌&&◌, ◌||◌}
use lib.ListN.{length, get_or}
use lib.Dec.{eqb, leb, ltb}
use borrow.Author.Tests.{eqb-true, eqb-false, eq-eqb, ne_eqb, lt-ltb, le-ltb, not-true}
use Rattle.format.specs.Slot.{Fits, byte}
use Rattle.format.specs.Number.{Order, msf, lsf}
use Rattle.format.specs.Grammar.{Sect, within, idle, number, fixed, raw, ruled, seq, times, walk, told, coded, tag, between, same_at, row, row_width}
use Rattle.format.specs.Edition.{opening, closing, n_data, n_strls, t_gso}
use Rattle.format.specs.Variables.{VarType, text_type, strl_type, byte_type, int_type, long_type, float_type, double_type}
use Rattle.format.specs.Data.{Cell, bits, chars, link, bits_of, chars_of, link_by, link_of, bit_cell, cell, cell_width, observations, LongString, linked, long_next, LongHead, long_head, long_by, long_of, long_record, strls}
use Rattle.format.proofs.Good.{Good, idle_good, number_good, fixed_good, raw_good, tag_good, within_good, ruled_good, told_good, coded_good, seq_good, row_good}
use Rattle.format.proofs.RowLaws.{rows_good}
use Rattle.format.proofs.WalkLaws.{walk_good}
use Rattle.format.proofs.TagLaws.{bytes_of, opening_good, closing_good, part_good}

module _ (o : Order) (vw ow : ℕ) where
  pub cell_good : (t : VarType) → Good (cell_width vw ow t) ◌≤◌ (cell o vw ow t)
  cell_good (text_type w) = coded_good _ (fixed_good w) chars chars_of (λ a r. refl)
  cell_good strl_type = coded_good _ (row_good _ _ (λ a r. refl) (number_good o vw) λ v. number_good o ow) link_by link_of (λ a r. refl)
  cell_good byte_type = coded_good _ (number_good o 1) bits bits_of (λ a r. refl)
  cell_good int_type = coded_good _ (number_good o 2) bits bits_of (λ a r. refl)
  cell_good long_type = coded_good _ (number_good o 4) bits bits_of (λ a r. refl)
  cell_good float_type = coded_good _ (number_good o 4) bits bits_of (λ a r. refl)
  cell_good double_type = coded_good _ (number_good o 8) bits bits_of (λ a r. refl)

  pub cell_wide : (t : VarType) (c : Cell) → (cell o vw ow t).Right c → (cell o vw ow t).size c ≡ cell_width vw ow t
  cell_wide (text_type w) c r = refl
  cell_wide strl_type c r = refl
  cell_wide byte_type c r = refl
  cell_wide int_type c r = refl
  cell_wide long_type c r = refl
  cell_wide float_type c r = refl
  cell_wide double_type c r = refl

  pub data_good : (t : Bool) (l : List VarType) (n : ℕ) → Good 0 ◌≤◌ (observations t o vw ow l n)
  unfolding observations
  data_good t l n = part_good t n_data _ refl (rows_good (cell o vw ow) (cell_width vw ow) cell_wide cell_good l n)

module _ (t : Bool) (o : Order) (ow : ℕ) where
  pub record_good : Good 0 ◌≤◌ (long_record t o ow)
  unfolding long_record long_head
  record_good =
      ruled_good _
      (told_good _
      (seq_good _ _ (tag_good t_gso 4 (bytes_of t_gso refl) (omega arith)) λ a.
      seq_good _ _
      (within_good _
      (row_good _ _ (λ a r. refl) (number_good o 4) λ v. row_good _ _ (λ a r. refl) (number_good o ow) λ x.
      row_good _ _ (λ a r. refl) (number_good o 1) λ k. number_good o 4)
      (λ a r. refl)) λ h.
      within_good _ (raw_good h.1.1.1) (λ a r. r.0))
      long_by long_of (λ r. refl) (λ a r. (λ i. (tt, ((a.1.0.0, (a.1.0.1.0, (a.1.0.1.1.0, r.1.1.0 i))), a.1.1)))))
      (λ r. t) 4 (omega arith)

  goes : (f : List ℕ) (p : ℕ) (a : LongString) → (long_record t o ow).Right a → Fits f p ((long_record t o ow).slots a) → long_next t f p ≡ true
  unfolding long_record long_head tag
  goes f p a r m = rw (r.1, m.0, m.1.0, m.1.1.0)

  pub record_some : (a : LongString) → 0 < (long_record t o ow).size a
  unfolding long_record long_head tag
  record_some a = omega arith

stops : (t : Bool) (f : List ℕ) (p : ℕ) → Fits f p (map byte (closing t n_strls)) → long_next t f p ≡ false
stops true f p m = rw m.0
stops false f p m = refl

pub strls_good : (t : Bool) (o : Order) (ow : ℕ) (d : List (List Cell)) → Good 0 ◌≤◌ (strls t o ow d)
unfolding strls tag
strls_good t o ow d =
    told_good _
    (seq_good _ _ (opening_good t n_strls refl) λ a.
    walk_good (long_next t) (long_record t o ow) _ (goes t o ow) (λ f p l b r m z. stops t f p m) (record_some t o ow) (record_good t o ow)
    λ l. seq_good _ _ (ruled_good _ (idle_good 0 0 (omega arith)) (λ u. linked d l) 11 (omega arith)) λ u. closing_good t n_strls refl)
    (λ v. v.1.0) (λ l. (tt, (l, (tt, tt)))) (λ l. refl) (λ a r. refl)
