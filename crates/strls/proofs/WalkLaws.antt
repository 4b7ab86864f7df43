-- The walk over the records: what a loop over it uses, and what it leaves for number 11's rule.
use mathlib.Core.Path.{◌≡◌, refl, sym, ap, ◌∙◌, subst}
use Prim.Native.Nat.{ℕ, zero, suc, ◌+◌, ◌-◌, ◌≤◌, ◌<◌}
use native.Mathlib.Nat.{add-zero}
use native.Mathlib.Omega.{arith}
use mathlib.Core.List.{List, [], ◌∷◌, ◌++◌, append_assoc, append-nil}
use mathlib.Core.Bool.{Bool, true, false}
use lib.ListN.{length}
use Rattle.format.specs.Grammar.{Sect, also, next, idle, judge_walk, read_walk}
use Rattle.format.specs.Data.{LongString, long_next}
use Rattle.format.proofs.Good.{also_left, also_right}
use Rattle.std.specs.Prelude.{Ok}
use Rattle.section.specs.Judged.{Judged}
use Rattle.section.proofs.WalkSteps.{Walked, walked_start, walked_turn, walked_less, walked_last}
use Rattle.strls.specs.declared.Frame.{Frame}
use Rattle.strls.specs.Records.{head_size, len_at, longs}
use Rattle.strls.proofs.RecordLaws.{Lo, long_at, next_in, long_some, long_read, long_next_lem, long_there}

-- ---- the loop

module _ (f : List ℕ) (d : Frame) where
  abbrev more : List ℕ → ℕ → Bool
  more = long_next d.tagged

  more_in : (g : List ℕ) (p : ℕ) → more g p ≡ true → p < length g
  more_in g p m = omega (arith, next_in d.tagged g p m)

  -- the loop stands at q: what follows is judged as the whole is, and ends where it ends
  abbrev pub Walking : ℕ → ℕ → Type 0
  Walking start q = Walked (longs d) f start q

  pub walk_starts : (start : ℕ) → start ≤ length f → Walking start start
  walk_starts start b = walked_start (longs d) f start b

  module _ {start q : ℕ} (w : Walking start q) where
    module _ (g : more f q ≡ true) where
      module _ {s : ℕ} (j : Judged (Lo d) f q (Ok s)) where
        pub walk_goes : Walking start s
        walk_goes = walked_turn more (Lo d) (idle 0 0) more_in (long_some f d) f start q w g j

        pub walk_less : length f - s < length f - q
        walk_less = walked_less more (Lo d) (idle 0 0) more_in (long_some f d) f start q w g j

    pub walk_ends : more f q ≡ false → Judged (longs d) f start (Ok q)
    walk_ends g =
        walked_last more (Lo d) (idle 0 0) more_in (long_some f d) f start q w g (Ok q)
        (record { code = refl; ends = sym (add-zero q); inside = w.inside })

  -- ---- what was walked over

  -- the records from q on are these, whole, and no other follows them
  pub data Recs : ℕ → List LongString → Type 0 where
    none : {q : ℕ} → more f q ≡ false → Recs q []
    some : {q : ℕ} {L : List LongString} → more f q ≡ true → q + head_size d + len_at f d q ≤ length f
        → Recs (q + (head_size d + len_at f d q)) L → Recs q (long_at f d q ∷ L)

  abbrev stays : List LongString → Sect (Unit {0})
  stays l = idle 0 0

  out : (q : ℕ) → length f ≤ q → more f q ≡ false
  out q b = go (more f q) refl
    where
      go : (t : Bool) → more f q ≡ t → more f q ≡ false
      go true h = absurd (omega (arith, more_in f q h))
      go false h = h

  read_recs : (k : ℕ) (l : List LongString) (q : ℕ) → length f ≤ q + k → judge_walk more (Lo d) stays k l f q ≡ 0
      → (M : List LongString) × (((read_walk more (Lo d) stays k l f q).0 ≡ l ++ M) × (Recs q M))
  read_recs zero l q b h = ([], (sym (append-nil l), none (out q (omega arith))))
  read_recs (suc k) l q b h = go (more f q) refl (read_recs k (l ++ (Lo d).read f q ∷ []) (next (Lo d) f q) (omega (arith, long_some f d ((Lo d).read f q))))
    where
      go : (t : Bool) → more f q ≡ t
          → (judge_walk more (Lo d) stays k (l ++ (Lo d).read f q ∷ []) f (next (Lo d) f q) ≡ 0
          → (M : List LongString) × (((read_walk more (Lo d) stays k (l ++ (Lo d).read f q ∷ []) f (next (Lo d) f q)).0 ≡ (l ++ (Lo d).read f q ∷ []) ++ M) × (Recs (next (Lo d) f q) M)))
          → (M : List LongString) × (((read_walk more (Lo d) stays (suc k) l f q).0 ≡ l ++ M) × (Recs q M))
      go true e ih =
          let i : also ((Lo d).judge f q) (judge_walk more (Lo d) stays k (l ++ (Lo d).read f q ∷ []) f (next (Lo d) f q)) ≡ 0 = rw e at h in
          let r = ih (also_right ((Lo d).judge f q) (judge_walk more (Lo d) stays k (l ++ (Lo d).read f q ∷ []) f (next (Lo d) f q)) i) in
          let j = also_left ((Lo d).judge f q) (judge_walk more (Lo d) stays k (l ++ (Lo d).read f q ∷ []) f (next (Lo d) f q)) i in (
            long_at f d q ∷ r.0,
            (
              rw e (r.1.0 ∙ append_assoc l ((Lo d).read f q ∷ []) r.0 ∙ ap (λ (x : LongString). l ++ x ∷ r.0) (long_read f d q)),
              some e (long_there f d q e j) (subst (λ (x : ℕ). Recs x r.0) (long_next_lem f d q) r.1.1),
            ),
          )
      go false e ih = ([], (rw e (sym (append-nil l)), none e))

  -- the records that the grammar reads stand there, where they are right
  pub recs_read : (q : ℕ) → (longs d).judge f q ≡ 0 → Recs q ((longs d).read f q).0
  recs_read q h =
      let r = read_recs (length f) [] q (omega arith) h in
      subst (Recs q) (sym r.1.0) r.1.1
