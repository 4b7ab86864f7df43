-- All parts of a file and what comes after them: numbers 13 and 10.
use mathlib.Core.Path.{◌≡◌, refl, sym, ◌∙◌}
use Prim.Native.Nat.{ℕ, ◌+◌, ◌<◌}
use native.Mathlib.Omega.{arith}
use mathlib.Core.List.{List, [], ◌++◌}
use mathlib.Core.Logic.{◌⊎◌, inl, inr}
use mathlib.Core.Bool.{Bool, true, false}
use lib.ListN.{length, get_or}
use lib.Dec.{eqb}
use borrow.Author.Tests.{eqb-true, eqb-false, ne_eqb, ltb-true}
use Rattle.format.specs.Number.{Order}
use Rattle.format.specs.Grammar.{Sect, also, unless, seq, judge_walk, read_walk, tag, done, same_at}
use Rattle.format.specs.Edition.{Edition, start, opening, closing, n_value_labels, n_stata_dta}
use Rattle.format.specs.Labels.{LabelBlock, block, block_next, blocks}
use Rattle.format.specs.Dta.{sections, edition_of, order_of, verdict}
use Rattle.format.proofs.Good.{and_left}
use Rattle.format.proofs.LabelLaws.{block_some}
use Rattle.section.proofs.TagLaws.{byte_inside}
use Rattle.demands.specs.Logic.{Iff}
use Rattle.demands.specs.Places.{blocks_at, BeforeHeader, BeforeBlocks}
use Rattle.demands.specs.Reasons.{Stands, AllParts, end_at, past_end, BytesLeft}
use Rattle.demands.proofs.NumberLaws.{tag_numbered, block_numbered}
use Rattle.demands.proofs.PlaceLaws.{Own, own, but, other, second, from_blocks, to_blocks}
use Rattle.demands.proofs.PartLaws.{tag_met, tag_stands, unless_false}
use Rattle.demands.proofs.PassedLaws.{passed_judge, at_end, Stops, stops}
use Rattle.demands.proofs.ReasonLaws.{reason}

-- a label block that is next is in the file
pub block_inside : (t : Bool) (f : List ℕ) (p : ℕ) → block_next t f p ≡ true → p < length f
block_inside true f p h = byte_inside 60 f p (eqb-true (get_or f p 0) 60 (and_left (eqb (get_or f p 0) 60) _ h)) (λ y. (let z : ◌≡◌ {A = ℕ} 60 0 = y in omega arith))
block_inside false f p h = ltb-true p (length f) h

-- what comes after the label blocks
abbrev pub tail_of : Bool → Sect (Unit {0}) → List LabelBlock → Sect (Unit {0} × (Unit {0} × Unit {0}))
tail_of t end l = seq (tag (closing t n_value_labels) 4) λ b. seq (tag (closing t n_stata_dta) 4) λ c. end

pub blocks_judge : (t : Bool) (o : Order) (w : ℕ) (end : Sect (Unit {0})) (f : List ℕ) (p : ℕ)
    → (blocks t o w end).judge f p
    ≡ also ((tag (opening t n_value_labels) 4).judge f p)
    (judge_walk (block_next t) (block t o w) (tail_of t end) (length f) [] f (p + length (opening t n_value_labels)))
unfolding blocks tag
blocks_judge t o w end f p = refl

pub blocks_read : (t : Bool) (o : Order) (w : ℕ) (end : Sect (Unit {0})) (f : List ℕ) (p : ℕ)
    → (blocks t o w end).read f p ≡ (read_walk (block_next t) (block t o w) (tail_of t end) (length f) [] f (p + length (opening t n_value_labels))).0
unfolding blocks tag
blocks_read t o w end f p = refl

pub tail_judge : (t : Bool) (end : Sect (Unit {0})) (l : List LabelBlock) (f : List ℕ) (q : ℕ)
    → (tail_of t end l).judge f q
    ≡ also ((tag (closing t n_value_labels) 4).judge f q)
    (also ((tag (closing t n_stata_dta) 4).judge f (q + length (closing t n_value_labels)))
    (end.judge f (q + length (closing t n_value_labels) + length (closing t n_stata_dta))))
unfolding tag
tail_judge t end l f q = refl

pub stands_met : (l : List ℕ) (f : List ℕ) (p : ℕ) → Stands l f p → (tag l 4).judge f p ≡ 0
stands_met l f p s = tag_met l 4 f p s.same s.room

pub met_stands : (l : List ℕ) (f : List ℕ) (p : ℕ) → (tag l 4).judge f p ≡ 0 → Stands l f p
met_stands l f p h = let s = tag_stands l 3 f p h in record { same = s.0; room = s.1 }

module _ (e : Edition) (o : Order) (f : List ℕ) where
  abbrev more : List ℕ → ℕ → Bool
  more = block_next e.tagged

  abbrev E : Sect LabelBlock
  E = block e.tagged o e.name_width

  abbrev T : List LabelBlock → Sect (Unit {0} × (Unit {0} × Unit {0}))
  T = tail_of e.tagged (done 13)

  -- where all parts are right, the sections' number is that of the end
  pub of_parts : (x : AllParts e o f) → (sections e o (done 13)).judge f 0 ≡ unless (eqb (past_end e o f x) (length f)) 13
  of_parts x =
      from_blocks e o (done 13) f x.reached.before
      ∙ blocks_judge e.tagged o e.name_width (done 13) f (blocks_at e o f)
      ∙ rw (stands_met (opening e.tagged n_value_labels) f (blocks_at e o f) x.reached.opened)
      (passed_judge more E T (block_inside e.tagged) (block_some e.tagged o e.name_width) f _ x.reached.label_blocks x.at x.reached.passed []
      ∙ at_end more E T (block_inside e.tagged) (block_some e.tagged o e.name_width) f x.at x.reached.label_blocks x.last
      ∙ tail_judge e.tagged (done 13) x.reached.label_blocks f x.at
      ∙ rw (stands_met (closing e.tagged n_value_labels) f x.at x.closed, stands_met (closing e.tagged n_stata_dta) f (end_at e o f x) x.ended) refl)

  -- a number that no tag and no block gives is the end's, and all parts are right
  module _ (c : ℕ) (tags : (l : List ℕ) (p b : ℕ) → also ((tag l 4).judge f p) b ≡ c → ((tag l 4).judge f p ≡ 0) × (b ≡ c))
      (inner : (q : ℕ) → E.judge f q ≡ c → (c ≡ 0 → ⊥) → ⊥) where
    pub to_parts : BeforeBlocks e o f → (blocks e.tagged o e.name_width (done 13)).judge f (blocks_at e o f) ≡ c
        → (x : AllParts e o f) × (unless (eqb (past_end e o f x) (length f)) 13 ≡ c)
    to_parts b h =
        let a = tags (opening e.tagged n_value_labels) (blocks_at e o f) _ (sym (blocks_judge e.tagged o e.name_width (done 13) f (blocks_at e o f)) ∙ h) in
        go (met_stands (opening e.tagged n_value_labels) f (blocks_at e o f) a.0)
        (stops more E T (block_inside e.tagged) (block_some e.tagged o e.name_width) f (blocks_at e o f + length (opening e.tagged n_value_labels)) [] c a.1)
      where
        go : Stands (opening e.tagged n_value_labels) f (blocks_at e o f)
            → Stops more E T (block_inside e.tagged) (block_some e.tagged o e.name_width) f (blocks_at e o f + length (opening e.tagged n_value_labels)) [] c
            → (x : AllParts e o f) × (unless (eqb (past_end e o f x) (length f)) 13 ≡ c)
        go s r = pick r.why
          where
            pick : ((more f r.at ≡ true) × (E.judge f r.at ≡ c) × (c ≡ 0 → ⊥)) ⊎ ((more f r.at ≡ false) × ((T ([] ++ r.list)).judge f r.at ≡ c))
                → (x : AllParts e o f) × (unless (eqb (past_end e o f x) (length f)) 13 ≡ c)
            pick (inl y) = absurd (inner r.at y.1 y.2)
            pick (inr y) =
                let u = tags (closing e.tagged n_value_labels) r.at _ (sym (tail_judge e.tagged (done 13) r.list f r.at) ∙ y.1) in
                let v = tags (closing e.tagged n_stata_dta) (r.at + length (closing e.tagged n_value_labels)) _ u.1 in (
                  record {
                    at = r.at;
                    reached = record { before = b; opened = s; label_blocks = r.list; passed = r.passed };
                    last = y.0;
                    closed = met_stands (closing e.tagged n_value_labels) f r.at u.0;
                    ended = met_stands (closing e.tagged n_stata_dta) f (r.at + length (closing e.tagged n_value_labels)) v.0;
                  },
                  v.1,
                )

-- ---- 13

thirteen : Own 13
thirteen = own 13 (omega arith)

module _ (e : Edition) (o : Order) (f : List ℕ) where
  left_of : BeforeHeader e o f → same_at (start e) f 0 ≡ true → (sections e o (done 13)).judge f 0 ≡ 13 → BytesLeft e o f
  left_of b s h =
      let P = but 13 thirteen in
      let a = to_blocks e o (done 13) f 13 thirteen refl s refl refl refl refl refl b h in
      let x = to_parts e o f 13 (λ l p c. second ((tag l 4).judge f p) c 13 ((tag_numbered P l 4 refl).given f p))
      (λ q y n. other 13 ((block e.tagged o e.name_width).judge f q) ((block_numbered P refl refl e.tagged o e.name_width).given f q) y) a.0 a.1 in
      let n = eqb-false (past_end e o f x.0) (length f) (unless_false (eqb (past_end e o f x.0) (length f)) 13 refl x.1) in
      record { parts = x.0; left = go x.0 n }
    where
      go : (x : AllParts e o f) → (past_end e o f x ≡ length f → ⊥) → past_end e o f x < length f
      go x n = omega (arith, x.ended.room, n)

  of_left : BytesLeft e o f → (sections e o (done 13)).judge f 0 ≡ 13
  of_left x = of_parts e o f x.parts ∙ rw (ne_eqb (past_end e o f x.parts) (length f) (λ q. omega (arith, x.left, q)))

pub bytes_left : (f : List ℕ) → Iff (verdict f ≡ 13) (BytesLeft (edition_of f) (order_of f) f)
bytes_left f =
    reason f 13 thirteen refl (left_of (edition_of f) (order_of f) f) (λ x. x.parts.reached.before.0.0.0.0.0.0.0.0.0.0.0) (of_left (edition_of f) (order_of f) f)
