use Rattle.std.proofs.Common.{◌≡◌, ◌^◌, ◌<◌, true, false, ℤ, sym, ap, ◌∙◌, subst, arith, w32, w64}
use lib.Signed.{mag}
use lib.Ieee.{Float, of_bits, neg, eq, of_int, binary64}
use mir.ValLaws.{to_z-of_z}
use Rattle.format.specs.Cells.{seeks}
use Rattle.cell.proofs.KeyLaws.{low_no, high_no, not_whole, is_whole, small, asks_low, asks_high}
use Rattle.cell.proofs.double_key.Goals.{else-x-via-then-x+else-x-2, else-x-via-else-x}
use Rattle.cell.proofs.double_key.Goals as goal

pub truncating_f64_to_i64-t-requires : goal.truncating_f64_to_i64-t-requires
unfolding of_bits neg
truncating_f64_to_i64-t-requires c =
    record { lower_bound = asks_low _ c.if-x.true; upper_bound = asks_high _ _ (omega arith) c.if-x.true c.if-x-2.true }

pub overflow_cast-result : goal.overflow_cast-result
unfolding of_bits neg
overflow_cast-result c =
    let t = to_z-of_z w64 c.truncating_f64_to_i64-t.result (record { sfits = c.truncating_f64_to_i64-t.type_inv }) ∙ c.truncating_f64_to_i64-t.ensures in
    let h = small _ _ (omega arith) c.if-x.true c.if-x-2.true in
    record { sfits = subst (λ (z : ℤ). mag z < 2 ^ 31) (sym t) h }

pub returns-then-nearest_i64_to_f64-x : goal.returns-then-nearest_i64_to_f64-x
unfolding of_bits neg
returns-then-nearest_i64_to_f64-x c =
    let t = to_z-of_z w64 c.truncating_f64_to_i64-t.result (record { sfits = c.truncating_f64_to_i64-t.type_inv }) ∙ c.truncating_f64_to_i64-t.ensures in
    let w = subst (λ (y : Float). eq y c.args.x ≡ true) ((c.nearest_i64_to_f64.ensures ∙ ap (of_int binary64) t)) c.if-nearest_i64_to_f64-x.true in
    ap seeks (to_z-of_z w32 _ (record { sfits = subst (λ (z : ℤ). mag z < 2 ^ 31) (sym t) (small _ _ (omega arith) c.if-x.true c.if-x-2.true) }) ∙ t)
    ∙ sym (is_whole _ c.if-x.true c.if-x-2.true w)

pub returns-else-nearest_i64_to_f64-x : goal.returns-else-nearest_i64_to_f64-x
unfolding of_bits neg
returns-else-nearest_i64_to_f64-x c =
    let t = to_z-of_z w64 c.truncating_f64_to_i64-t.result (record { sfits = c.truncating_f64_to_i64-t.type_inv }) ∙ c.truncating_f64_to_i64-t.ensures in
    let w = subst (λ (y : Float). eq y c.args.x ≡ false) ((c.nearest_i64_to_f64.ensures ∙ ap (of_int binary64) t)) c.if-nearest_i64_to_f64-x.false in
    sym (not_whole _ c.if-x.true c.if-x-2.true w)

pub returns-else-x : goal.returns-else-x
unfolding of_bits neg
returns-else-x c =
    elim c.else-x.branch [
      | else-x-via-then-x+else-x-2 w ↦ sym (high_no _ w.if-x-2.false)
      | else-x-via-else-x w ↦ sym (low_no _ w.if-x.false)
    ]
