-- Expansion blocks and characteristics are good.
use mathlib.Core.Path.{◌≡◌, refl, sym, ap, ◌∙◌, subst}
use Prim.Native.Nat.{ℕ, zero, suc, ◌+◌, ◌-◌, ◌*◌, ◌%◌, ◌^◌, ◌≤◌, ◌<◌}
use native.Mathlib.Omega.{arith}
use mathlib.Core.List.{List, [], ◌∷◌, ◌++◌, map}
use mathlib.Core.Bool.{Bool, true, false, cond, not, ◌&&◌, ◌||◌}
use lib.ListN.{length, get_or}
use lib.Dec.{eqb, leb, ltb}
use borrow.Author.Tests.{eqb-true, eqb-false, eq-eqb, ne_eqb, lt-ltb, le-ltb, not-true}
use Rattle.format.specs.Slot.{Fits, byte}
use Rattle.format.specs.Number.{Order, msf, lsf}
use Rattle.format.specs.Grammar.{Sect, within, idle, number, ruled, seq, walk, told, tag, same_at}
use Rattle.format.specs.Edition.{kind_width, blocks_end, opening, closing, n_characteristics, n_ch}
use Rattle.format.specs.Expansion.{Expansion, expansion_next, expansion_head, expansion_body, expansion, expansions}
use Rattle.format.proofs.Good.{Good, idle_good, number_good, tag_good, within_good, ruled_good, told_good, seq_good, row_good}
use Rattle.format.proofs.WalkLaws.{walk_good}
use Rattle.format.proofs.TagLaws.{end_bytes, opening_good, closing_good}

pub expansion_good : (t : Bool) (o : Order) → Good 0 ◌≤◌ (expansion t o)
unfolding expansion expansion_head expansion_body
expansion_good t o =
    told_good _
    (seq_good _ _ (opening_good t n_ch refl) λ a.
    seq_good _ _
    (within_good _
    (ruled_good _ (row_good _ _ (λ a r. refl) (number_good msf (kind_width t)) λ c. number_good o 4) (λ h. t || not (eqb h.0 0)) 9 (omega arith))
    (λ a r. refl)) λ h.
    seq_good _ _ (within_good _ (idle_good h.1 0 (omega arith)) (λ a r. refl)) λ c.
    closing_good t n_ch refl)
    (λ v. v.1.0) (λ h. (tt, (h, (tt, tt)))) (λ h. refl) (λ a r. refl)

goes : (t : Bool) (o : Order) (f : List ℕ) (p : ℕ) (a : Expansion) → (expansion t o).Right a → Fits f p ((expansion t o).slots a) → expansion_next t f p ≡ true
unfolding expansion expansion_head expansion_body tag
goes true o f p a r m = rw (m.0, m.1.0, m.1.1.0, m.1.1.1.0)
goes false o f p a r m =
    let z : eqb a.0 0 ≡ false = not-true (eqb a.0 0) r.1.0.1 in
    let s : a.0 < 256 = r.1.0.0.0 in
    let y : get_or f p 0 ≡ a.0 % 256 = m.0 in
    rw (ne_eqb (get_or f p 0) 0 (λ x. (let w : get_or f p 0 ≡ 0 = x in eqb-false a.0 0 z (omega arith))))

stops : (t : Bool) (f : List ℕ) (p : ℕ) → Fits f p (map byte (blocks_end t) ++ map byte (closing t n_characteristics)) → expansion_next t f p ≡ false
stops true f p m = rw (m.0, m.1.0)
stops false f p m = rw m.0

pub expansion_some : (t : Bool) (o : Order) (a : Expansion) → 0 < (expansion t o).size a
unfolding expansion expansion_head expansion_body tag
expansion_some t o a = omega arith

pub expansions_good : (t : Bool) (o : Order) → Good 0 ◌≤◌ (expansions t o)
unfolding expansions tag
expansions_good t o =
    told_good _
    (seq_good _ _ (opening_good t n_characteristics refl) λ a.
    walk_good (expansion_next t) (expansion t o) _ (goes t o) (λ f p l b r m z. stops t f p m) (expansion_some t o) (expansion_good t o)
    λ l. seq_good _ _ (tag_good (blocks_end t) 9 (end_bytes t) (omega arith)) λ b. closing_good t n_characteristics refl)
    (λ v. v.1.0) (λ l. (tt, (l, (tt, tt)))) (λ l. refl) (λ a r. refl)
