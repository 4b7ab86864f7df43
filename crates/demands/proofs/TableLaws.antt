-- Label tables: number 12.
use mathlib.Core.Path.{◌≡◌, refl, sym, ◌∙◌, subst}
use Prim.Native.Nat.{ℕ, zero, suc, ◌+◌, ◌*◌, ◌≤◌, ◌<◌}
use native.Mathlib.Nat.{add-zero}
use native.Mathlib.Omega.{arith}
use mathlib.Core.List.{List, [], ◌∷◌, ◌++◌}
use mathlib.Core.Logic.{◌⊎◌, inl, inr}
use mathlib.Core.Bool.{Bool, true, false, not, ◌&&◌, true≢false}
use lib.ListN.{length, get_or}
use lib.Dec.{eqb, leb, ltb}
use borrow.Author.Tests.{eq-eqb, leb-true, le-leb, ltb-true, lt-ltb}
use Rattle.format.specs.Number.{Order, num}
use Rattle.format.specs.Grammar.{Sect, also, unless, need, next, number, read_times, all_below, past_zero, tag, done, same_at}
use Rattle.format.specs.Edition.{Edition, start, opening, closing, n_value_labels, n_lbl, n_stata_dta}
use Rattle.format.specs.Variables.{name}
use Rattle.format.specs.Labels.{ascending, table_sizes, table_head, table, LabelBlock, block_head, block, block_next, blocks}
use Rattle.format.specs.Dta.{sections, edition_of, order_of, verdict}
use Rattle.format.proofs.Good.{and_left, and_right, also_left, also_right, need_fits, need_room}
use Rattle.format.proofs.AreaLaws.{past_holds, past_gives}
use Rattle.format.proofs.LabelLaws.{block_some}
use Rattle.labels.proofs.TableLaws.{body_judge, sizes_say}
use Rattle.demands.specs.Logic.{Iff}
use Rattle.demands.specs.Places.{blocks_at, BeforeHeader, BeforeBlocks}
use Rattle.demands.specs.Reasons.{Stands, TableRight, BlocksTo, block_table, TableBroken}
use Rattle.demands.proofs.NumberLaws.{need_listed, also_listed, tag_numbered, name_numbered, done_numbered}
use Rattle.demands.proofs.PlaceLaws.{Own, own, but, other, second, first, first_is, from_blocks, to_blocks}
use Rattle.demands.proofs.PartLaws.{tag_met, tag_stands, unless_false}
use Rattle.demands.proofs.PassedLaws.{passed_judge, at_next, Stops, stops}
use Rattle.demands.proofs.ReasonLaws.{reason}
use Rattle.demands.proofs.MapLaws.{numbers_long, numbers_at}
use Rattle.demands.proofs.EndLaws.{block_inside, tail_of, blocks_judge, tail_judge, stands_met, met_stands}

-- each number of a list is below b
all_below_lem : (b : ℕ) (l : List ℕ) (i : ℕ) → all_below b l ≡ true → i < length l → get_or l i 0 < b
all_below_lem b [] i h c = absurd (omega arith)
all_below_lem b (x ∷ l) zero h c = ltb-true x b (and_left (ltb x b) (all_below b l) h)
all_below_lem b (x ∷ l) (suc i) h c = all_below_lem b l i (and_right (ltb x b) (all_below b l) h) (omega arith)

below_all : (b : ℕ) (l : List ℕ) → ((i : ℕ) → i < length l → get_or l i 0 < b) → all_below b l ≡ true
below_all b [] h = refl
below_all b (x ∷ l) h = rw (lt-ltb x b (h 0 (omega arith))) (below_all b l (λ i c. h (suc i) (omega arith)))

two_rules : (a b : Bool) → also (unless a 12) (unless b 12) ≡ unless (a && b) 12
two_rules true b = refl
two_rules false b = refl

module _ (o : Order) (w : ℕ) (f : List ℕ) (p : ℕ) where
  -- the values, and the offsets, by one past the last zero
  abbrev ordered : Bool
  ordered = ascending (read_times (number o 4) (num o 4 f p) f (p + 8 + num o 4 f p * 4))

  abbrev reaches : Bool
  reaches = all_below (past_zero (λ i. get_or f (p + 8 + num o 4 f p * 4 + num o 4 f p * 4 + i) 0) (num o 4 f (p + 4))) (read_times (number o 4) (num o 4 f p) f (p + 8))

  abbrev rule : Bool
  rule = leb 8 w && (table_sizes w (num o 4 f p, num o 4 f (p + 4)) && (ordered && reaches))

  -- with its bytes there, a table is refused by its rule alone
  table_judge : p + w ≤ length f → (table o w).judge f p ≡ unless rule 12
  unfolding table table_head
  table_judge b = go (leb 8 w) refl (table_sizes w (num o 4 f p, num o 4 f (p + 4))) refl
    where
      go : (t : Bool) → leb 8 w ≡ t → (u : Bool) → table_sizes w (num o 4 f p, num o 4 f (p + 4)) ≡ u → (table o w).judge f p ≡ unless rule 12
      go false q u r = rw (need_fits w f p b, q)
      go true q false r = rw (need_fits w f p b, q, add-zero p, need_fits 8 f p (omega (arith, leb-true 8 w q)), r)
      go true q true r =
          let s = sizes_say w (num o 4 f p) (num o 4 f (p + 4)) r in
          rw (need_fits w f p b, q, add-zero p, need_fits 8 f p (omega (arith, leb-true 8 w q)), r)
          (body_judge o (num o 4 f p) (num o 4 f (p + 4)) f (p + 8) (omega (arith, s)) ∙ two_rules ordered reaches)

  -- the rule is document 01's
  right_of : rule ≡ true → TableRight o w f p
  right_of h =
      let a = and_right (leb 8 w) (table_sizes w (num o 4 f p, num o 4 f (p + 4)) && (ordered && reaches)) h in
      let s = and_left (table_sizes w (num o 4 f p, num o 4 f (p + 4))) (ordered && reaches) a in
      let r = and_right (table_sizes w (num o 4 f p, num o 4 f (p + 4))) (ordered && reaches) a in
      let y = and_right (eqb w (8 + (8 * num o 4 f p + num o 4 f (p + 4)))) (leb (num o 4 f p) 65536 && leb (num o 4 f (p + 4)) 5308416) s in
      record {
        sizes = sizes_say w (num o 4 f p) (num o 4 f (p + 4)) s;
        few = leb-true (num o 4 f p) 65536 (and_left (leb (num o 4 f p) 65536) (leb (num o 4 f (p + 4)) 5308416) y);
        short = leb-true (num o 4 f (p + 4)) 5308416 (and_right (leb (num o 4 f p) 65536) (leb (num o 4 f (p + 4)) 5308416) y);
        ascends = and_left ordered reaches r;
        ended = λ i b. past_gives _ (num o 4 f (p + 4)) (num o 4 f (p + 8 + i * 4))
            (subst (λ (x : ℕ). x < past_zero (λ j. get_or f (p + 8 + num o 4 f p * 4 + num o 4 f p * 4 + j) 0) (num o 4 f (p + 4))) (numbers_at o 4 (num o 4 f p) f (p + 8) i b)
            (all_below_lem _ (read_times (number o 4) (num o 4 f p) f (p + 8)) i (and_right ordered reaches r) (omega (arith, numbers_long o 4 (num o 4 f p) f (p + 8)))));
      }

  of_right : TableRight o w f p → rule ≡ true
  of_right t =
      rw (
        le-leb 8 w (omega (arith, t.sizes)),
        eq-eqb w (8 + (8 * num o 4 f p + num o 4 f (p + 4))) t.sizes,
        le-leb (num o 4 f p) 65536 t.few,
        le-leb (num o 4 f (p + 4)) 5308416 t.short,
        t.ascends,
      )
      (below_all _ (read_times (number o 4) (num o 4 f p) f (p + 8)) below)
    where
      below : (i : ℕ) → i < length (read_times (number o 4) (num o 4 f p) f (p + 8))
          → get_or (read_times (number o 4) (num o 4 f p) f (p + 8)) i 0 < past_zero (λ j. get_or f (p + 8 + num o 4 f p * 4 + num o 4 f p * 4 + j) 0) (num o 4 f (p + 4))
      below i c =
          let b : i < num o 4 f p = omega (arith, numbers_long o 4 (num o 4 f p) f (p + 8)) in
          let z = t.ended i b in
          rw (numbers_at o 4 (num o 4 f p) f (p + 8) i b) (past_holds _ (num o 4 f (p + 4)) (num o 4 f (p + 8 + i * 4)) z.0 z.1 z.2 z.3)

  pub table_broken_of : p + w ≤ length f → (table o w).judge f p ≡ 12 → TableRight o w f p → ⊥
  table_broken_of b h t = true≢false (sym (of_right t) ∙ unless_false rule 12 refl (sym (table_judge b) ∙ h))

  pub of_table_broken : p + w ≤ length f → (TableRight o w f p → ⊥) → (table o w).judge f p ≡ 12
  of_table_broken b n = table_judge b ∙ go rule refl
    where
      go : (t : Bool) → rule ≡ t → unless t 12 ≡ 12
      go true q = absurd (n (right_of q))
      go false q = refl

-- ---- the block

module _ (t : Bool) (o : Order) (w : ℕ) (f : List ℕ) (p : ℕ) where
  abbrev in_block : ℕ
  in_block = p + length (opening t n_lbl)

  abbrev table_at : ℕ
  table_at = p + length (opening t n_lbl) + (4 + (w + 3))

  pub block_judge : (block t o w).judge f p
      ≡ also ((tag (opening t n_lbl) 4).judge f p)
      (also (also (need (4 + (w + 3)) f in_block) (also ((name w).judge f (in_block + 4)) 0))
      (also ((table o (num o 4 f in_block)).judge f table_at) ((tag (closing t n_lbl) 4).judge f (next (table o (num o 4 f in_block)) f table_at))))
  unfolding block block_head name tag
  block_judge = refl

-- ---- a number of a label block

module _ (e : Edition) (o : Order) (f : List ℕ) (c : ℕ) (w : Own c) where
  abbrev more : List ℕ → ℕ → Bool
  more = block_next e.tagged

  abbrev E : Sect LabelBlock
  E = block e.tagged o e.name_width

  abbrev T : List LabelBlock → Sect (Unit {0} × (Unit {0} × Unit {0}))
  T = tail_of e.tagged (done 13)

  -- what comes after the blocks doesn't give it
  tail_other : not (eqb 13 c) ≡ true → (l : List LabelBlock) (q : ℕ) → (T l).judge f q ≡ c → ⊥
  tail_other h13 l q h =
      let P = but c w in
      let a = length (closing e.tagged n_value_labels) in
      let b = length (closing e.tagged n_stata_dta) in
      other c ((T l).judge f q)
      (subst (λ (x : ℕ). not (eqb x c) ≡ true) (sym (tail_judge e.tagged (done 13) l f q))
      (also_listed P ((tag (closing e.tagged n_value_labels) 4).judge f q) _ ((tag_numbered P (closing e.tagged n_value_labels) 4 (rw w.tags)).given f q)
      (also_listed P ((tag (closing e.tagged n_stata_dta) 4).judge f (q + a)) _ ((tag_numbered P (closing e.tagged n_stata_dta) 4 (rw w.tags)).given f (q + a))
      ((done_numbered P 13 h13).given f (q + a + b))))) h

  -- so it is due in the first block that is not right
  pub to_block : not (eqb 13 c) ≡ true → BeforeBlocks e o f → (blocks e.tagged o e.name_width (done 13)).judge f (blocks_at e o f) ≡ c
      → (p : ℕ) × (BlocksTo e o f p) × (more f p ≡ true) × (E.judge f p ≡ c)
  to_block h13 b h =
      let P = but c w in
      let a = second ((tag (opening e.tagged n_value_labels) 4).judge f (blocks_at e o f)) _ c
      ((tag_numbered P (opening e.tagged n_value_labels) 4 (rw w.tags)).given f (blocks_at e o f))
      (sym (blocks_judge e.tagged o e.name_width (done 13) f (blocks_at e o f)) ∙ h) in
      go (met_stands (opening e.tagged n_value_labels) f (blocks_at e o f) a.0)
      (stops more E T (block_inside e.tagged) (block_some e.tagged o e.name_width) f (blocks_at e o f + length (opening e.tagged n_value_labels)) [] c a.1)
    where
      go : Stands (opening e.tagged n_value_labels) f (blocks_at e o f)
          → Stops more E T (block_inside e.tagged) (block_some e.tagged o e.name_width) f (blocks_at e o f + length (opening e.tagged n_value_labels)) [] c
          → (p : ℕ) × (BlocksTo e o f p) × (more f p ≡ true) × (E.judge f p ≡ c)
      go s r = pick r.why
        where
          pick : ((more f r.at ≡ true) × (E.judge f r.at ≡ c) × (c ≡ 0 → ⊥)) ⊎ ((more f r.at ≡ false) × ((T ([] ++ r.list)).judge f r.at ≡ c))
              → (p : ℕ) × (BlocksTo e o f p) × (more f p ≡ true) × (E.judge f p ≡ c)
          pick (inl y) = (r.at, record { before = b; opened = s; label_blocks = r.list; passed = r.passed }, y.0, y.1)
          pick (inr y) = absurd (tail_other h13 r.list r.at y.1)

  pub of_block : (p : ℕ) → BlocksTo e o f p → more f p ≡ true → E.judge f p ≡ c → (sections e o (done 13)).judge f 0 ≡ c
  of_block p x m h =
      from_blocks e o (done 13) f x.before
      ∙ blocks_judge e.tagged o e.name_width (done 13) f (blocks_at e o f)
      ∙ rw (stands_met (opening e.tagged n_value_labels) f (blocks_at e o f) x.opened)
      (passed_judge more E T (block_inside e.tagged) (block_some e.tagged o e.name_width) f _ x.label_blocks p x.passed []
      ∙ at_next more E T (block_inside e.tagged) (block_some e.tagged o e.name_width) f p x.label_blocks m
      ∙ first_is (E.judge f p) _ c (rw w.none) h)

-- ---- 12

twelve : Own 12
twelve = own 12 (omega arith)

table_room : (o : Order) (w : ℕ) (f : List ℕ) (p : ℕ) → (table o w).judge f p ≡ 12 → p + w ≤ length f
unfolding table
table_room o w f p h = need_room w f p (second (need w f p) _ 12 (need_listed (but 12 twelve) w f p) h).0

module _ (e : Edition) (o : Order) (f : List ℕ) where
  -- in the block at p
  block_broken : (p : ℕ) → BlocksTo e o f p → block_next e.tagged f p ≡ true → (block e.tagged o e.name_width).judge f p ≡ 12 → TableBroken e o f
  block_broken p x m h =
      let P = but 12 twelve in
      let l = opening e.tagged n_lbl in
      let q = p + length l in
      let u = second ((tag l 4).judge f p) _ 12 ((tag_numbered P l 4 refl).given f p) (sym (block_judge e.tagged o e.name_width f p) ∙ h) in
      let name_free = also_listed P ((name e.name_width).judge f (q + 4)) 0 ((name_numbered P refl e.name_width).given f (q + 4)) refl in
      let head-free = also_listed P (need (4 + (e.name_width + 3)) f q) _ (need_listed P (4 + (e.name_width + 3)) f q) name_free in
      let v = second (also (need (4 + (e.name_width + 3)) f q) (also ((name e.name_width).judge f (q + 4)) 0)) _ 12 head-free u.1 in
      let y = first ((table o (num o 4 f q)).judge f (block_table e o f p)) _ 12
      ((tag_numbered P (closing e.tagged n_lbl) 4 refl).given f (next (table o (num o 4 f q)) f (block_table e o f p))) v.1 in
      let r = table_room o (num o 4 f q) f (block_table e o f p) y in
      record {
        at = p;
        reached = x;
        more = m;
        opened = record { tag = (tag_stands l 3 f p u.0).0; room = need_room (4 + (e.name_width + 3)) f q (also_left (need (4 + (e.name_width + 3)) f q) _ v.0) };
        named = also_left ((name e.name_width).judge f (q + 4)) 0 (also_right (need (4 + (e.name_width + 3)) f q) _ v.0);
        room = r;
        broken = table_broken_of o (num o 4 f q) f (block_table e o f p) r y;
      }

  broken_of : BeforeHeader e o f → same_at (start e) f 0 ≡ true → (sections e o (done 13)).judge f 0 ≡ 12 → TableBroken e o f
  broken_of b s h =
      let a = to_blocks e o (done 13) f 12 twelve refl s refl refl refl refl refl b h in
      let x = to_block e o f 12 twelve refl a.0 a.1 in
      block_broken x.0 x.1 x.2 x.3

  of_broken : TableBroken e o f → (sections e o (done 13)).judge f 0 ≡ 12
  of_broken x =
      let p = x.at in
      let l = opening e.tagged n_lbl in
      let q = p + length l in
      of_block e o f 12 twelve p x.reached x.more
      (block_judge e.tagged o e.name_width f p
      ∙ rw (tag_met l 4 f p x.opened.tag (omega (arith, x.opened.room)), need_fits (4 + (e.name_width + 3)) f q x.opened.room, x.named)
      (first_is _ _ 12 refl (of_table_broken o (num o 4 f q) f (block_table e o f p) x.room x.broken)))

pub table_broken : (f : List ℕ) → Iff (verdict f ≡ 12) (TableBroken (edition_of f) (order_of f) f)
table_broken f =
    reason f 12 twelve refl (broken_of (edition_of f) (order_of f) f) (λ x. x.reached.before.0.0.0.0.0.0.0.0.0.0.0) (of_broken (edition_of f) (order_of f) f)
