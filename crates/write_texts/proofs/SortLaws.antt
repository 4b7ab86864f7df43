-- Numbers up to the first zero, put one after another in another byte order.
use mathlib.Core.Path.{◌≡◌, refl, sym, ap, ◌∙◌}
use Prim.Native.Nat.{ℕ, suc, ◌+◌, ◌-◌, ◌*◌, ◌≤◌, ◌<◌}
use native.Mathlib.Nat.{sub-zero, add-zero}
use native.Mathlib.Omega.{arith}
use mathlib.Core.List.{List, [], ◌∷◌, ◌++◌, append_assoc}
use borrow.Author.Tests.{ne_eqb}
use borrow.Rule.Slice.PartMut.{put_mid}
use lib.ListN.{length, take, drop, replicate, length-replicate}
use Rattle.format.specs.Slot.{spare, fill}
use Rattle.format.specs.Number.{Order, msf, lsf, num, num_slots}
use Rattle.format.specs.Grammar.{ended_at, ended_slots}
use Rattle.format.proofs.WriteLaws.{fill_append, fill_idle}
use Rattle.text.proofs.Lay.{Laid, laid_none, laid_part, laid_as}
use Rattle.writing.specs.Writes.{Puts}
use Rattle.writing.proofs.Chain.{puts_of}

abbrev zeros : ℕ → List ℕ
zeros n = replicate n 0

zeros_more : (m : ℕ) → suc (suc (m * 2)) ≡ suc m * 2
zeros_more m = omega arith

-- a zero, and zeros after it
zeros_put : (z : Order) (m : ℕ) → fill (num_slots z 2 0 ++ replicate (m * 2) (spare 0)) ≡ zeros (suc m * 2)
zeros_put msf m = ap (λ (l : List ℕ). 0 ∷ 0 ∷ l) (fill_idle (m * 2) 0) ∙ ap zeros (zeros_more m)
zeros_put lsf m = ap (λ (l : List ℕ). 0 ∷ 0 ∷ l) (fill_idle (m * 2) 0) ∙ ap zeros (zeros_more m)

left : (n i : ℕ) → i < n → n - i ≡ suc (n - (i + 1))
left n i b = omega arith

module _ (o z : Order) (f : List ℕ) where
  -- what is put for the m numbers at q
  abbrev pub sort_rest : ℕ → ℕ → List ℕ
  sort_rest m q = fill (ended_slots z 2 m (ended_at o 2 m f q))

  module _ (n i p : ℕ) (b : i < n) (x : ℕ) (e : x ≡ num o 2 f (p + i * 2)) where
    rest_turn : (x ≡ 0 → ⊥) → sort_rest (n - i) (p + i * 2) ≡ fill (num_slots z 2 x) ++ sort_rest (n - (i + 1)) (p + (i + 1) * 2)
    rest_turn h =
        let step : p + i * 2 + 2 ≡ p + (i + 1) * 2 = omega arith in
        rw (left n i b, ne_eqb (num o 2 f (p + i * 2)) 0 (λ y. h (e ∙ y)), e)
        (fill_append (num_slots z 2 (num o 2 f (p + i * 2))) (ended_slots z 2 (n - (i + 1)) (ended_at o 2 (n - (i + 1)) f (p + i * 2 + 2)))
        ∙ ap (λ (q : ℕ). fill (num_slots z 2 (num o 2 f (p + i * 2))) ++ sort_rest (n - (i + 1)) q) step)

    rest_zeros : x ≡ 0 → sort_rest (n - i) (p + i * 2) ≡ zeros ((n - i) * 2)
    rest_zeros h = let y : num o 2 f (p + i * 2) ≡ 0 = sym e ∙ h in rw (left n i b, y) (zeros_put z (n - (i + 1)))

  module _ (p n : ℕ) where
    -- the first i numbers are put, none of them zero: w was d
    pub record Sorting (i : ℕ) (d w : List ℕ) : Type 0 where
      pub front : List ℕ
      pub laid : Laid front (i * 2) d w
      pub whole : front ++ sort_rest (n - i) (p + i * 2) ≡ sort_rest n p

    pub sort_none : (d : List ℕ) → Sorting 0 d d
    sort_none d = record { front = []; laid = laid_none d; whole = rw (sub-zero, add-zero) refl }

    module _ {i : ℕ} {d w : List ℕ} (s : Sorting i d w) where
      module _ (b : i < n) (room : n * 2 ≤ length d) (x : ℕ) (e : x ≡ num o 2 f (p + i * 2)) (g : List ℕ) where
        -- one more
        pub sort_turn : (x ≡ 0 → ⊥) → g ≡ fill (num_slots z 2 x) ++ drop 2 (take (length w - i * 2) (drop (i * 2) w))
            → Sorting (i + 1) d (put_mid (i * 2) (length w - i * 2) w g)
        sort_turn h r =
            record {
              front = s.front ++ fill (num_slots z 2 x);
              laid =
                  laid_as (laid_part s.laid (fill (num_slots z 2 x)) g 2 refl (omega arith) r) refl (omega arith);
              whole =
                  append_assoc s.front (fill (num_slots z 2 x)) (sort_rest (n - (i + 1)) (p + (i + 1) * 2))
                  ∙ ap (λ (l : List ℕ). s.front ++ l) (sym (rest_turn n i p b x e h))
                  ∙ s.whole;
            }

        -- a zero, and zeros to the end
        pub sort_stop : x ≡ 0 → g ≡ zeros ((n - i) * 2) ++ drop ((n - i) * 2) (take (length w - i * 2) (drop (i * 2) w))
            → Puts (sort_rest n p) d (put_mid (i * 2) (length w - i * 2) w g) (n * 2)
        sort_stop h r =
            puts_of
            (laid_as (laid_part s.laid (zeros ((n - i) * 2)) g ((n - i) * 2) (length-replicate ((n - i) * 2) 0) (omega arith) r)
            (ap (λ (l : List ℕ). s.front ++ l) (sym (rest_zeros n i p b x e h)) ∙ s.whole)
            (omega arith))
