-- Expansion blocks: number 9.
use mathlib.Core.Path.{◌≡◌, refl, sym, ◌∙◌, subst}
use Prim.Native.Nat.{ℕ, suc, ◌+◌, ◌≤◌}
use native.Mathlib.Nat.{add-zero, zero-add}
use native.Mathlib.Omega.{arith}
use mathlib.Core.List.{List, [], ◌∷◌, ◌++◌}
use mathlib.Core.Logic.{◌⊎◌, inl, inr}
use mathlib.Core.Bool.{Bool, true, false, not, ◌||◌, true≢false}
use lib.ListN.{length, get_or}
use lib.Dec.{eqb}
use borrow.Author.Tests.{eqb-true, not-false}
use Rattle.format.specs.Number.{Order, msf, lsf, num}
use Rattle.format.specs.Grammar.{Sect, also, unless, need, seq, judge_walk, tag, done, same_at}
use Rattle.format.specs.Edition.{Edition, start, kind_width, blocks_end, opening, closing, n_characteristics, n_ch}
use Rattle.format.specs.Expansion.{Expansion, expansion_next, expansion_head, expansion_body, expansion, expansions}
use Rattle.format.specs.Dta.{sections, edition_of, order_of, verdict}
use Rattle.format.proofs.Good.{and_left, and_right, need_fits, need_room}
use Rattle.format.proofs.ExpansionLaws.{expansion_some}
use Rattle.expansion.proofs.BlockLaws.{next_inside}
use Rattle.demands.specs.Logic.{Iff}
use Rattle.demands.specs.Places.{n_in, types_in, expansions_at, data_at, BeforeHeader}
use Rattle.demands.specs.Reasons.{Passed, LengthOfNone}
use Rattle.demands.proofs.NumberLaws.{need_listed, also_listed, tag_numbered, done_numbered, data_on}
use Rattle.demands.proofs.PlaceLaws.{Own, own, but, other, second, first, first_is, cut_expansions, from_expansions_lem, to_expansions}
use Rattle.demands.proofs.PartLaws.{tag_met, unless_false}
use Rattle.demands.proofs.PassedLaws.{passed_judge, passed_sizes, at_end, Stops, stops}
use Rattle.demands.proofs.ReasonLaws.{reason}

nine : Own 9
nine = own 9 (omega arith)

-- ---- type 0 with length 0

one_byte : (f : List ℕ) (p : ℕ) → num msf 1 f p ≡ get_or f p 0
one_byte f p = rw (add-zero, zero-add)

-- five zeros are a zero, and a number of four bytes that is 0
module _ (f : List ℕ) (q : ℕ) where
  record FourZeros : Type 0 where
    a : get_or f (suc q) 0 ≡ 0
    b : get_or f (suc (suc q)) 0 ≡ 0
    c : get_or f (suc (suc (suc q))) 0 ≡ 0
    d : get_or f (suc (suc (suc (suc q)))) 0 ≡ 0

  places : (q + 1 + 0 ≡ suc q) × (q + 1 + 1 ≡ suc (suc q)) × (q + 1 + 2 ≡ suc (suc (suc q))) × (q + 1 + 3 ≡ suc (suc (suc (suc q))))
  places = (omega arith, omega arith, omega arith, omega arith)

  four_of : (o : Order) → num o 4 f (q + 1) ≡ 0 → FourZeros
  four_of msf h =
      let p = places in
      let y = rw (p.0, p.1, p.2, p.3) at h in
      record { a = omega (arith, y); b = omega (arith, y); c = omega (arith, y); d = omega (arith, y) }
  four_of lsf h =
      let p = places in
      let y = rw (p.0, p.1, p.2, p.3) at h in
      record { a = omega (arith, y); b = omega (arith, y); c = omega (arith, y); d = omega (arith, y) }

  of_four : (o : Order) → FourZeros → num o 4 f (q + 1) ≡ 0
  of_four msf z = let p = places in rw (p.0, p.1, p.2, p.3, z.a, z.b, z.c, z.d) refl
  of_four lsf z = let p = places in rw (p.0, p.1, p.2, p.3, z.a, z.b, z.c, z.d) refl

  zeros_of : (o : Order) → get_or f q 0 ≡ 0 → num o 4 f (q + 1) ≡ 0 → same_at (blocks_end false) f q ≡ true
  zeros_of o k h = let z = four_of o h in rw (k, z.a, z.b, z.c, z.d) refl

  of_zeros : (o : Order) → same_at (blocks_end false) f q ≡ true → num o 4 f (q + 1) ≡ 0
  of_zeros o h =
      let r = and_right (eqb (get_or f q 0) 0) (same_at (0 ∷ 0 ∷ 0 ∷ 0 ∷ []) f (suc q)) h in
      let s = and_right (eqb (get_or f (suc q) 0) 0) (same_at (0 ∷ 0 ∷ 0 ∷ []) f (suc (suc q))) r in
      let t = and_right (eqb (get_or f (suc (suc q)) 0) 0) (same_at (0 ∷ 0 ∷ []) f (suc (suc (suc q)))) s in
      let u = and_right (eqb (get_or f (suc (suc (suc q))) 0) 0) (same_at (0 ∷ []) f (suc (suc (suc (suc q))))) t in
      of_four o
      (record {
        a = eqb-true _ 0 (and_left _ _ r);
        b = eqb-true _ 0 (and_left _ _ s);
        c = eqb-true _ 0 (and_left _ _ t);
        d = eqb-true _ 0 (and_left _ _ u);
      })

-- ---- a block that is next doesn't give 9

head_right : (t : Bool) (f : List ℕ) (p : ℕ) → expansion_next t f p ≡ true → (t || not (eqb (num msf (kind_width t) f (p + length (opening t n_ch))) 0)) ≡ true
head_right true f p h = refl
head_right false f p h = rw (add-zero p, one_byte f p) h

expansion_judge : (t : Bool) (o : Order) (f : List ℕ) (p : ℕ)
    → (let q = p + length (opening t n_ch) in
    let n = num o 4 f (q + kind_width t) in
    (expansion t o).judge f p
    ≡ also ((tag (opening t n_ch) 4).judge f p)
    (also (also (need (kind_width t + 4) f q) (unless (t || not (eqb (num msf (kind_width t) f q) 0)) 9))
    (also (also (need n f (q + (kind_width t + 4))) 0) ((tag (closing t n_ch) 4).judge f (q + (kind_width t + 4) + n)))))
unfolding expansion expansion_head expansion_body tag
expansion_judge t o f p = refl

expansion_other : (t : Bool) (o : Order) (f : List ℕ) (p : ℕ) → expansion_next t f p ≡ true → (expansion t o).judge f p ≡ 9 → ⊥
expansion_other t o f p g h =
    let P = but 9 nine in
    let q = p + length (opening t n_ch) in
    let n = num o 4 f (q + kind_width t) in
    other 9 ((expansion t o).judge f p)
    (rw (expansion_judge t o f p, head_right t f p g)
    (also_listed P ((tag (opening t n_ch) 4).judge f p) _ ((tag_numbered P (opening t n_ch) 4 refl).given f p)
    (also_listed P (also (need (kind_width t + 4) f q) 0) _ (also_listed P (need (kind_width t + 4) f q) 0 (need_listed P (kind_width t + 4) f q) refl)
    (also_listed P (also (need n f (q + (kind_width t + 4))) 0) _ (also_listed P (need n f (q + (kind_width t + 4))) 0 (need_listed P n f (q + (kind_width t + 4))) refl)
    ((tag_numbered P (closing t n_ch) 4 refl).given f (q + (kind_width t + 4) + n)))))) h

-- ---- the part

abbrev expansion_tail : Bool → List Expansion → Sect (Unit {0} × Unit {0})
expansion_tail t l = seq (tag (blocks_end t) 9) λ b. tag (closing t n_characteristics) 4

expansions_judge : (t : Bool) (o : Order) (f : List ℕ) (p : ℕ)
    → (expansions t o).judge f p
    ≡ also ((tag (opening t n_characteristics) 4).judge f p)
    (judge_walk (expansion_next t) (expansion t o) (expansion_tail t) (length f) [] f (p + length (opening t n_characteristics)))
unfolding expansions tag
expansions_judge t o f p = refl

tail_judge : (t : Bool) (l : List Expansion) (f : List ℕ) (q : ℕ)
    → (expansion_tail t l).judge f q ≡ also ((tag (blocks_end t) 9).judge f q) ((tag (closing t n_characteristics) 4).judge f (q + length (blocks_end t)))
unfolding tag
tail_judge t l f q = refl

-- the end gives 9: five bytes that are not all zero, in an untagged edition
end_wrong : (t : Bool) (f : List ℕ) (q : ℕ) → (tag (blocks_end t) 9).judge f q ≡ 9 → (t ≡ false) × (q + 5 ≤ length f) × (same_at (blocks_end t) f q ≡ false)
unfolding tag
end_wrong true f q h = absurd (other 9 (also (need 0 f q) 0) (also_listed (but 9 nine) (need 0 f q) 0 (need_listed (but 9 nine) 0 f q) refl) h)
end_wrong false f q h =
    let s = second (need 5 f q) _ 9 (need_listed (but 9 nine) 5 f q) h in
    (refl, need_room 5 f q s.0, unless_false (same_at (blocks_end false) f q) 9 refl s.1)

wrong_end : (f : List ℕ) (q : ℕ) → q + 5 ≤ length f → same_at (blocks_end false) f q ≡ false → (tag (blocks_end false) 9).judge f q ≡ 9
unfolding tag
wrong_end f q b h = rw (need_fits 5 f q b, h)

-- what was passed before it, from p on
record EndWrong (o : Order) (f : List ℕ) (p : ℕ) : Type 0 where
  list : List Expansion
  at : ℕ
  passed : Passed (expansion_next false) (expansion false o) f p list at
  room : at + 5 ≤ length f
  kind : get_or f at 0 ≡ 0
  long : num o 4 f (at + 1) ≡ 0 → ⊥

module _ (t : Bool) (o : Order) (f : List ℕ) (p : ℕ) where
  abbrev from : ℕ
  from = p + length (opening t n_characteristics)

  abbrev Walked : Type 0
  Walked = Stops (expansion_next t) (expansion t o) (expansion_tail t) (next_inside t) (expansion_some t o) f from [] 9

  stopped : (expansions t o).judge f p ≡ 9
      → (l : List Expansion) × (q : ℕ) × (Passed (expansion_next t) (expansion t o) f from l q) × (expansion_next t f q ≡ false) × ((tag (blocks_end t) 9).judge f q ≡ 9)
  stopped h =
      let a = second ((tag (opening t n_characteristics) 4).judge f p) _ 9 ((tag_numbered (but 9 nine) (opening t n_characteristics) 4 refl).given f p) (sym (expansions_judge t o f p) ∙ h) in
      go (stops (expansion_next t) (expansion t o) (expansion_tail t) (next_inside t) (expansion_some t o) f from [] 9 a.1)
    where
      go : Walked
          → (l : List Expansion) × (q : ℕ) × (Passed (expansion_next t) (expansion t o) f from l q) × (expansion_next t f q ≡ false) × ((tag (blocks_end t) 9).judge f q ≡ 9)
      go r = pick r.why
        where
          pick : ((expansion_next t f r.at ≡ true) × ((expansion t o).judge f r.at ≡ 9) × (◌≡◌ {A = ℕ} 9 0 → ⊥))
              ⊎ ((expansion_next t f r.at ≡ false) × ((expansion_tail t ([] ++ r.list)).judge f r.at ≡ 9))
              → (l : List Expansion) × (q : ℕ) × (Passed (expansion_next t) (expansion t o) f from l q) × (expansion_next t f q ≡ false) × ((tag (blocks_end t) 9).judge f q ≡ 9)
          pick (inl y) = absurd (expansion_other t o f r.at y.0 y.1)
          pick (inr y) = (
            r.list,
            r.at,
            r.passed,
            y.0,
            first ((tag (blocks_end t) 9).judge f r.at) _ 9 ((tag_numbered (but 9 nine) (closing t n_characteristics) 4 refl).given f (r.at + length (blocks_end t)))
                (sym (tail_judge t r.list f r.at) ∙ y.1),
          )

part_wrong : (t : Bool) (o : Order) (f : List ℕ) (p : ℕ) → (expansions t o).judge f p ≡ 9 → (t ≡ false) × (EndWrong o f p)
part_wrong true o f p h = let s = stopped true o f p h in absurd (true≢false (end_wrong true f s.1 s.4).0)
part_wrong false o f p h =
    let s = stopped false o f p h in
    let w = end_wrong false f s.1 s.4 in
    let k = eqb-true (get_or f s.1 0) 0 (not-false (eqb (get_or f s.1 0) 0) s.3) in (
      refl,
      record {
        list = s.0;
        at = s.1;
        passed = subst (λ (x : ℕ). Passed (expansion_next false) (expansion false o) f x s.0 s.1) (add-zero p) s.2;
        room = w.1;
        kind = k;
        long = λ z. true≢false (sym (zeros_of f s.1 o k z) ∙ w.2);
      },
    )

-- the whole part, in an untagged edition
wrong_part : (t : Bool) (o : Order) (f : List ℕ) (p : ℕ) → t ≡ false → p ≤ length f → EndWrong o f p → (expansions t o).judge f p ≡ 9
wrong_part true o f p q b x = absurd (true≢false q)
wrong_part false o f p q b x =
    expansions_judge false o f p
    ∙ rw (tag_met [] 4 f p refl (omega (arith, b)), add-zero p)
    (passed_judge (expansion_next false) (expansion false o) (expansion_tail false) (next_inside false) (expansion_some false o) f p x.list x.at x.passed []
    ∙ at_end (expansion_next false) (expansion false o) (expansion_tail false) (next_inside false) (expansion_some false o) f x.at x.list (rw x.kind)
    ∙ tail_judge false x.list f x.at
    ∙ first_is ((tag (blocks_end false) 9).judge f x.at) _ 9 refl (wrong_end f x.at x.room (differs (same_at (blocks_end false) f x.at) refl)))
  where
    differs : (t : Bool) → same_at (blocks_end false) f x.at ≡ t → same_at (blocks_end false) f x.at ≡ false
    differs true e = absurd (x.long (of_zeros f x.at o e))
    differs false e = e

-- what was passed goes forward
forward : (o : Order) (f : List ℕ) (p : ℕ) (l : List Expansion) (q : ℕ) → Passed (expansion_next false) (expansion false o) f p l q → p ≤ q
forward o f p l q r =
    omega (arith, passed_sizes (expansion_next false) (expansion false o) (expansion_tail false) (next_inside false) (expansion_some false o) f p l q r)

module _ (e : Edition) (o : Order) (f : List ℕ) where
  none_of : BeforeHeader e o f → same_at (start e) f 0 ≡ true → (sections e o (done 13)).judge f 0 ≡ 9 → LengthOfNone e o f
  none_of b s h =
      let P = but 9 nine in
      let a = to_expansions e o (done 13) f 9 nine refl s refl refl refl b h in
      let j = first ((expansions e.tagged o).judge f (expansions_at e o f)) _ 9
      ((data_on P e o (done 13) (done_numbered P 13 refl) refl refl refl (n_in e o f) (types_in e o f)).given f (data_at e o f)) (sym (cut_expansions e o (done 13) f) ∙ a.1) in
      let x = part_wrong e.tagged o f (expansions_at e o f) j in
      record { before = a.0; untagged = x.0; blocks = x.1.list; at = x.1.at; passed = x.1.passed; room = x.1.room; kind = x.1.kind; long = x.1.long }

  of_none : LengthOfNone e o f → (sections e o (done 13)).judge f 0 ≡ 9
  of_none x =
      from_expansions_lem e o (done 13) f x.before ∙ cut_expansions e o (done 13) f
      ∙ first_is _ _ 9 refl
      (wrong_part e.tagged o f (expansions_at e o f) x.untagged (omega (arith, forward o f (expansions_at e o f) x.blocks x.at x.passed, x.room))
      (record { list = x.blocks; at = x.at; passed = x.passed; room = x.room; kind = x.kind; long = x.long }))

pub length_of_none : (f : List ℕ) → Iff (verdict f ≡ 9) (LengthOfNone (edition_of f) (order_of f) f)
length_of_none f =
    reason f 9 nine refl (none_of (edition_of f) (order_of f) f) (λ x. x.before.0.0.0.0.0.0.0.0) (of_none (edition_of f) (order_of f) f)
