-- The label blocks are good.
use mathlib.Core.Path.{◌≡◌, refl, sym, ap, ◌∙◌, subst}
use Prim.Native.Nat.{ℕ, zero, suc, ◌+◌, ◌-◌, ◌*◌, ◌%◌, ◌^◌, ◌≤◌, ◌<◌}
use native.Mathlib.Omega.{arith}
use mathlib.Core.List.{List, [], ◌∷◌, ◌++◌, map}
use mathlib.Core.Bool.{Bool, true, false, cond, not, ◌&&◌, ◌||◌}
use lib.ListN.{length, get_or}
use lib.Dec.{eqb, leb, ltb}
use borrow.Author.Tests.{eqb-true, eqb-false, eq-eqb, ne_eqb, lt-ltb, le-ltb, not-true}
use Rattle.format.specs.Slot.{Fits, byte}
use Rattle.format.specs.Number.{Order, msf, lsf}
use Rattle.format.specs.Grammar.{Sect, within, idle, number, ruled, seq, times, sizes, walk, told, area, tag, same_at}
use Rattle.format.specs.Edition.{opening, closing, n_value_labels, n_lbl, n_stata_dta}
use Rattle.format.specs.Variables.{name}
use Rattle.format.specs.Labels.{Table, ascending, table_sizes, table_head, table_body, table_by, table_of, table, table_size, LabelBlock, block_head, block_by, block_of, block, block_next, blocks}
use Rattle.format.proofs.Good.{Good, and_left, good_bound, idle_good, number_good, within_good, ruled_good, told_good, room_good, seq_good, row_good, times_size, times_good}
use Rattle.format.proofs.AreaLaws.{area_good}
use Rattle.format.proofs.WalkLaws.{walk_good}
use Rattle.format.proofs.VariableLaws.{name_good}
use Rattle.format.proofs.TagLaws.{opening_good, closing_good}

pub table_head_good : (o : Order) (w : ℕ) → Good 0 ◌≤◌ (table_head o w)
unfolding table_head
table_head_good o w =
    within_good _ (ruled_good _ (row_good _ _ (λ a r. refl) (number_good o 4) λ n. number_good o 4) (table_sizes w) 12 (omega arith)) (λ a r. refl)

pub numbers_wide : (o : Order) (n : ℕ) (l : List ℕ) → (times (number o 4) n).Right l → sizes (number o 4) l ≡ n * 4
numbers_wide o n l r = times_size (number o 4) (λ a r. refl) (number_good o 4) l r.1 ∙ ap (λ (x : ℕ). x * 4) r.0

pub table_body_good : (o : Order) (h : ℕ × ℕ) → Good 0 ◌≤◌ (table_body o h)
unfolding table_body
table_body_good o h =
    within_good _
    (row_good _ _ (numbers_wide o h.0) (times_good (number o 4) (λ a r. refl) (number_good o 4) h.0) λ a.
    row_good _ _ (λ v r. numbers_wide o h.0 v r.0) (ruled_good _ (times_good (number o 4) (λ a r. refl) (number_good o 4) h.0) ascending 12 (omega arith)) λ v.
    area_good a h.1 12 (omega arith))
    (λ v r. omega (arith, numbers_wide o h.0 v.0 r.0, numbers_wide o h.0 v.1.0 r.1.0.0))

-- a right table of w bytes has the size that its counts say
pub table_says : (o : Order) (w : ℕ) (t : Table) → (table o w).Right t → w ≡ table_size t
unfolding table table_head table_body
table_says o w t r =
    eqb-true w (table_size t) (and_left (eqb w (table_size t)) (leb (length t.offsets) 65536 && leb (length t.texts) 5308416) r.1.0.1)

pub table_good : (o : Order) (w : ℕ) → Good 0 ◌≤◌ (table o w)
unfolding table table_head table_body
table_good o w =
    told_good _
    (within_good _
    (room_good w (omega arith)
    (seq_good _ _ (ruled_good _ (idle_good 0 0 (omega arith)) (λ u. leb 8 w) 12 (omega arith)) λ u.
    seq_good _ _ (table_head_good o w) (table_body_good o)))
    (λ v r.
    (let q = eqb-true w _ (and_left (eqb w (8 + (8 * v.1.0.0 + v.1.0.1))) (leb v.1.0.0 65536 && leb v.1.0.1 5308416) r.1.0.1) in
    omega (arith, q, numbers_wide o v.1.0.0 v.1.1.0 r.1.1.0, numbers_wide o v.1.0.0 v.1.1.1.0 r.1.1.1.0.0))))
    table_by table_of (λ t. refl) (λ v r. (λ i. (tt, ((r.1.1.0.0 i, r.1.1.1.1.long i), v.1.1))))

pub block_head_good : (o : Order) (w : ℕ) → Good 0 ◌≤◌ (block_head o w)
unfolding block_head name
block_head_good o w =
    within_good _ (row_good _ _ (λ a r. refl) (number_good o 4) λ n. row_good _ _ (λ a r. refl) (name_good w) λ t. idle_good 3 0 (omega arith)) (λ a r. refl)

module _ (t : Bool) (o : Order) (w : ℕ) where
  pub block_good : Good 0 ◌≤◌ (block t o w)
  unfolding block
  block_good =
      told_good _
      (seq_good _ _ (opening_good t n_lbl refl) λ a.
      seq_good _ _ (block_head_good o w) λ h.
      seq_good _ _ (table_good o h.0) λ b.
      closing_good t n_lbl refl)
      block_by block_of (λ b. refl)
      (λ v r. (λ i. (tt, ((sym (table_says o v.1.0.0 v.1.1.0 r.1.1.0) i, v.1.0.1), v.1.1))))

  pub block_some : (b : LabelBlock) → 0 < (block t o w).size b
  unfolding block block_head name tag
  block_some b = omega arith

goes : (t : Bool) (o : Order) (w : ℕ) (f : List ℕ) (p : ℕ) (b : LabelBlock) → Fits f p ((block t o w).slots b) → block_next t f p ≡ true
unfolding block tag
goes true o w f p b m = rw (m.0, m.1.0, m.1.1.0, m.1.1.1.0, m.1.1.1.1.0)
goes false o w f p b m = lt-ltb p (length f) (omega (arith, good_bound (block false o w) (block_good false o w) f p b m, block_some false o w b))

-- the blocks are good where their end is: in an untagged edition it must be the file's
module _ (R : ℕ → ℕ → Type 0) (end : Sect (Unit {0})) (G : Good 0 R end) (none : (u : Unit {0}) → end.size u ≡ 0) where
  stops : (t : Bool) → (t ≡ false → (a b : ℕ) → R a b → a ≡ b) → (f : List ℕ) (p : ℕ) (u : Unit {0})
      → Fits f p (map byte (closing t n_value_labels) ++ (map byte (closing t n_stata_dta) ++ end.slots u))
      → R (p + (length (closing t n_value_labels) + (length (closing t n_stata_dta) + end.size u))) (length f) → block_next t f p ≡ false
  stops true closed f p u m z = rw (m.0, m.1.0)
  stops false closed f p u m z = le-ltb p (length f) (let y = closed refl _ _ z in omega (arith, none u))

  pub blocks_good : (t : Bool) (o : Order) (w : ℕ) → (t ≡ false → (a b : ℕ) → R a b → a ≡ b) → Good 0 R (blocks t o w end)
  unfolding blocks tag
  blocks_good t o w closed =
      told_good _
      (seq_good _ _ (opening_good t n_value_labels refl) λ a.
      walk_good (block_next t) (block t o w) _ (λ f p b r m. goes t o w f p b m) (λ f p l b r m z. stops t closed f p b.1.1 m z) (block_some t o w) (block_good t o w)
      λ l. seq_good _ _ (closing_good t n_value_labels refl) λ b. seq_good _ _ (closing_good t n_stata_dta refl) λ c. G)
      (λ v. v.1.0) (λ l. (tt, (l, (tt, (tt, tt))))) (λ l. refl) (λ a r. refl)
