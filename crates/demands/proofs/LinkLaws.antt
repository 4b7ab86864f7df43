-- Long strings: number 11.
use mathlib.Core.Path.{◌≡◌, refl, sym, ◌∙◌}
use Prim.Native.Nat.{ℕ, ◌+◌, ◌<◌}
use native.Mathlib.Omega.{arith}
use mathlib.Core.List.{List, [], ◌++◌}
use mathlib.Core.Logic.{◌⊎◌, inl, inr}
use mathlib.Core.Bool.{Bool, true, false}
use lib.ListN.{length}
use Rattle.format.specs.Number.{Order}
use Rattle.format.specs.Grammar.{Sect, also, unless, ruled, idle, seq, judge_walk, tag, done, same_at}
use Rattle.format.specs.Edition.{Edition, start, opening, closing, n_strls}
use Rattle.format.specs.Data.{Cell, LongString, linked, long_next, long_record, strls}
use Rattle.format.specs.Dta.{sections, edition_of, order_of, verdict}
use Rattle.format.proofs.DataLaws.{record_some}
use Rattle.strls.proofs.RecordLaws.{next_in}
use Rattle.demands.specs.Logic.{Iff}
use Rattle.demands.specs.Places.{cells_in, strls_at, blocks_at, BeforeHeader, BeforeStrls}
use Rattle.demands.specs.Reasons.{Stands, LinkBroken}
use Rattle.demands.proofs.NumberLaws.{tag_numbered, record_numbered, done_numbered, blocks_on}
use Rattle.demands.proofs.PlaceLaws.{Own, own, but, other, second, first, first_is, cut_strls, from_strls_lem, to_strls}
use Rattle.demands.proofs.PartLaws.{unless_false}
use Rattle.demands.proofs.PassedLaws.{passed_judge, at_end, Stops, stops}
use Rattle.demands.proofs.ReasonLaws.{reason}
use Rattle.demands.proofs.EndLaws.{stands_met, met_stands}

-- what comes after the records: number 11's rule, then the closing tag
abbrev link_tail : Bool → List (List Cell) → List LongString → Sect (Unit {0} × Unit {0})
link_tail t d l = seq (ruled (idle 0 0) (λ u. linked d l) 11) λ u. tag (closing t n_strls) 4

strls_judge : (t : Bool) (o : Order) (w : ℕ) (d : List (List Cell)) (f : List ℕ) (p : ℕ)
    → (strls t o w d).judge f p
    ≡ also ((tag (opening t n_strls) 4).judge f p) (judge_walk (long_next t) (long_record t o w) (link_tail t d) (length f) [] f (p + length (opening t n_strls)))
unfolding strls tag
strls_judge t o w d f p = refl

pub record_inside : (t : Bool) (f : List ℕ) (p : ℕ) → long_next t f p ≡ true → p < length f
record_inside t f p h = omega (arith, next_in t f p h)

eleven : Own 11
eleven = own 11 (omega arith)

module _ (e : Edition) (o : Order) (f : List ℕ) where
  abbrev more : List ℕ → ℕ → Bool
  more = long_next e.tagged

  abbrev E : Sect LongString
  E = long_record e.tagged o e.record_width

  abbrev T : List LongString → Sect (Unit {0} × Unit {0})
  T = link_tail e.tagged (cells_in e o f)

  -- in the part of the long strings
  part_broken : BeforeStrls e o f → (strls e.tagged o e.record_width (cells_in e o f)).judge f (strls_at e o f) ≡ 11 → LinkBroken e o f
  part_broken b h =
      let P = but 11 eleven in
      let a = second ((tag (opening e.tagged n_strls) 4).judge f (strls_at e o f)) _ 11 ((tag_numbered P (opening e.tagged n_strls) 4 refl).given f (strls_at e o f))
      (sym (strls_judge e.tagged o e.record_width (cells_in e o f) f (strls_at e o f)) ∙ h) in
      go (met_stands (opening e.tagged n_strls) f (strls_at e o f) a.0)
      (stops more E T (record_inside e.tagged) (record_some e.tagged o e.record_width) f (strls_at e o f + length (opening e.tagged n_strls)) [] 11 a.1)
    where
      go : Stands (opening e.tagged n_strls) f (strls_at e o f)
          → Stops more E T (record_inside e.tagged) (record_some e.tagged o e.record_width) f (strls_at e o f + length (opening e.tagged n_strls)) [] 11
          → LinkBroken e o f
      go s r = pick r.why
        where
          pick : ((more f r.at ≡ true) × (E.judge f r.at ≡ 11) × (◌≡◌ {A = ℕ} 11 0 → ⊥)) ⊎ ((more f r.at ≡ false) × ((T ([] ++ r.list)).judge f r.at ≡ 11))
              → LinkBroken e o f
          pick (inl y) = absurd (other 11 (E.judge f r.at) ((record_numbered (but 11 eleven) e.tagged o e.record_width).given f r.at) y.1)
          pick (inr y) =
              record {
                before = b;
                opened = s;
                records = r.list;
                at = r.at;
                passed = r.passed;
                last = y.0;
                broken = unless_false (linked (cells_in e o f) r.list) 11 refl
                    (first (unless (linked (cells_in e o f) r.list) 11) _ 11
                    ((tag_numbered (but 11 eleven) (closing e.tagged n_strls) 4 refl).given f (r.at + 0)) y.1);
              }

  link_of : BeforeHeader e o f → same_at (start e) f 0 ≡ true → (sections e o (done 13)).judge f 0 ≡ 11 → LinkBroken e o f
  link_of b s h =
      let P = but 11 eleven in
      let a = to_strls e o (done 13) f 11 eleven refl s refl refl refl refl b h in
      part_broken a.0
      (first ((strls e.tagged o e.record_width (cells_in e o f)).judge f (strls_at e o f)) _ 11
      ((blocks_on P e o (done 13) (done_numbered P 13 refl) refl refl).given f (blocks_at e o f)) (sym (cut_strls e o (done 13) f) ∙ a.1))

  of_link : LinkBroken e o f → (sections e o (done 13)).judge f 0 ≡ 11
  of_link x =
      from_strls_lem e o (done 13) f x.before ∙ cut_strls e o (done 13) f
      ∙ first_is _ _ 11 refl
      (strls_judge e.tagged o e.record_width (cells_in e o f) f (strls_at e o f)
      ∙ rw (stands_met (opening e.tagged n_strls) f (strls_at e o f) x.opened)
      (passed_judge more E T (record_inside e.tagged) (record_some e.tagged o e.record_width) f _ x.records x.at x.passed []
      ∙ at_end more E T (record_inside e.tagged) (record_some e.tagged o e.record_width) f x.at x.records x.last
      ∙ rw x.broken))

pub link_broken : (f : List ℕ) → Iff (verdict f ≡ 11) (LinkBroken (edition_of f) (order_of f) f)
link_broken f =
    reason f 11 eleven refl (link_of (edition_of f) (order_of f) f) (λ x. x.before.0.0.0.0.0.0.0.0.0.0) (of_link (edition_of f) (order_of f) f)
