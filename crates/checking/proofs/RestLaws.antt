-- The sections from the expansion blocks on, one after another.
use mathlib.Core.Path.{◌≡◌, refl, sym, ap, ◌∙◌}
use Prim.Native.Nat.{ℕ, ◌-◌, ◌≤◌}
use native.Mathlib.Omega.{arith}
use mathlib.Core.List.{List, [], ◌∷◌}
use mathlib.Core.Bool.{Bool, true, false, cond}
use lib.ListN.{length, get_or}
use Rattle.format.specs.Slot.{Bytes}
use Rattle.format.specs.Number.{Order}
use Rattle.format.specs.Grammar.{Sect, seq, next, done}
use Rattle.format.specs.Edition.{Edition, closing, n_stata_dta}
use Rattle.format.specs.Variables.{VarType}
use Rattle.format.specs.Expansion.{Expansion, expansions}
use Rattle.format.specs.Data.{Cell, LongString, observations, strls}
use Rattle.format.specs.Labels.{LabelBlock, blocks}
use Rattle.format.specs.Dta.{from_strls, from_data, from_expansions}
use Rattle.format.proofs.Good.{done_good}
use Rattle.format.proofs.LabelLaws.{blocks_good}
use Rattle.format.proofs.StepLaws.{stop, on}
use Rattle.std.specs.Prelude.{Ok, Err}
use Rattle.refusal.specs.declared.Refusal.{Refusal}
use Rattle.refusal.specs.Refusals.{number_of}
use Rattle.section.specs.Judged.{Judged}
use Rattle.section.proofs.StepLaws.{some_number}
use Rattle.checking.specs.Walks.{rest_places, Rested}
use Rattle.checking.proofs.PlaceLaws.{blocks_next}

pub end_tag : (t : Bool) → cond t 12 0 ≡ length (closing t n_stata_dta)
end_tag true = refl
end_tag false = refl

-- label blocks that are right end where the file does
whole : (t : Bool) (o : Order) (w : ℕ) (f : List ℕ) (p : ℕ) → Bytes f → p ≤ length f → (blocks t o w (done 13)).judge f p ≡ 0 → next (blocks t o w (done 13)) f p ≡ length f
whole t o w f p u b h = ((blocks_good ◌≡◌ (done 13) (done_good 13 (omega arith)) (λ v. refl) t o w (λ z x y q. q)).sound f p u (omega arith) h).ends

module _ (e : Edition) (o : Order) (n : ℕ) (t : List VarType) (f : List ℕ) (p : ℕ) where
  abbrev X : Sect (List Expansion)
  X = expansions e.tagged o

  abbrev O : Sect (List (List Cell))
  O = observations e.tagged o e.v_width e.o_width t n

  abbrev L : List (List Cell) → Sect (List LongString)
  L d = strls e.tagged o e.record_width d

  abbrev B : Sect (List LabelBlock)
  B = blocks e.tagged o e.name_width (done 13)

  -- S at q decides
  abbrev At : {A : Type 0} → Sect A → ℕ → Type 0
  At S q = (from_expansions e o (done 13) n t).judge f p ≡ S.judge f q

  -- a section there is refused
  refuse : {A C : Type 0} (S : Sect A) (U : A → Sect C) {q : ℕ} → At (seq S U) q → {c : Refusal} → Judged S f q (Err c) → Rested e o n t f p (Err c)
  refuse S U here {c} j = record { code = sym (stop S U f here (number_of c) j.code (some_number c)); met = tt }

  at_expansions : At (seq X (λ a. from_data e o (done 13) n t)) p
  unfolding from_expansions
  at_expansions = refl

  pub expansions_refused : {c : Refusal} → Judged X f p (Err c) → Rested e o n t f p (Err c)
  expansions_refused j = refuse X (λ a. from_data e o (done 13) n t) at_expansions j

  module _ {x : ℕ} (Jx : Judged X f p (Ok x)) where
    at_data : At (seq O (from_strls e o (done 13))) x
    unfolding from_data
    at_data = on X (λ a. from_data e o (done 13) n t) f at_expansions x Jx.code Jx.ends

    pub data_refused : {c : Refusal} → Judged O f x (Err c) → Rested e o n t f p (Err c)
    data_refused j = refuse O (from_strls e o (done 13)) at_data j

    module _ {d : ℕ} (Jd : Judged O f x (Ok d)) where
      at_strls : At (seq (L (O.read f x)) (λ a. B)) d
      unfolding from_strls
      at_strls = on O (from_strls e o (done 13)) f at_data d Jd.code Jd.ends

      pub strls_refused : {c : Refusal} → Judged (L (O.read f x)) f d (Err c) → Rested e o n t f p (Err c)
      strls_refused j = refuse (L (O.read f x)) (λ a. B) at_strls j

      module _ {s : ℕ} (Js : Judged (L (O.read f x)) f d (Ok s)) where
        at_blocks : At B s
        at_blocks = on (L (O.read f x)) (λ a. B) f at_strls s Js.code Js.ends

        pub blocks_refused : {c : Refusal} → Judged B f s (Err c) → Rested e o n t f p (Err c)
        blocks_refused j = record { code = j.code ∙ sym at_blocks; met = tt }

        module _ {b : ℕ} (Jb : Judged B f s (Ok b)) (by : Bytes f) where
          ending : next B f s ≡ length f
          ending = whole e.tagged o e.name_width f s by Js.inside (sym Jb.code)

          -- the file is at least as long as its last tag
          pub end_room : length (closing e.tagged n_stata_dta) ≤ length f
          end_room = omega (arith, ending, blocks_next e o f s)

          -- the five places
          placed : x ∷ d ∷ s ∷ (length f - length (closing e.tagged n_stata_dta)) ∷ length f ∷ [] ≡ rest_places e o n t f p
          unfolding rest_places
          placed = rw (Js.ends, Jd.ends, Jx.ends)

          pub rest_met : (q : ℕ) → q ≡ length f - length (closing e.tagged n_stata_dta) → Rested e o n t f p (Ok (x ∷ d ∷ s ∷ q ∷ length f ∷ []))
          rest_met q h =
              record {
                code = Jb.code ∙ sym at_blocks;
                met =
                    record {
                      places = ap (λ (a : ℕ). x ∷ d ∷ s ∷ a ∷ length f ∷ []) h ∙ placed;
                      blocks_end = ap (λ (l : List ℕ). next B f (get_or l 2 0)) (sym placed) ∙ ending;
                    };
              }
