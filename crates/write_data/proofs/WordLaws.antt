-- A text that is copied byte by byte up to its end, with zeros after it.
use mathlib.Core.Path.{◌≡◌, refl, sym, ap, ◌∙◌}
use mathlib.Core.List.{List, ◌++◌, append-nil}
use Prim.Native.Nat.{ℕ, ◌+◌, ◌-◌, ◌≤◌, ◌<◌}
use native.Mathlib.Omega.{arith}
use borrow.Rule.Slice.PartMut.{put_mid}
use lib.ListN.{length, get_or, take, drop, set, replicate, length-replicate}
use Rattle.format.specs.Slot.{fill}
use Rattle.format.specs.Grammar.{text_at, text_slots}
use Rattle.text.proofs.Lay.{Laid, laid_byte, laid_part, laid_as}
use Rattle.text.proofs.TextLaws.{text_stop, text_turn, text_none, bytes_turn, text_put}

-- i bytes of the text are copied
pub record Copied (f : List ℕ) (q w i : ℕ) (d u : List ℕ) : Type 0 where
  pub within : i ≤ w
  pub length_is : length (text_at w f q) ≡ i + length (text_at (w - i) f (q + i))
  pub laid : Laid (take i (drop q f)) i d u

module _ (f : List ℕ) (q w : ℕ) (inside : q + w ≤ length f) where
  module _ (i : ℕ) {d u : List ℕ} (C : Copied f q w i d u) (room : w ≤ length d) where
    pub word_more : i < w → (get_or f (q + i) 0 ≡ 0 → ⊥) → Copied f q w (i + 1) d (set u i (get_or f (q + i) 0))
    word_more b z =
        record {
          within = omega arith;
          length_is = omega (arith, C.length_is, text_turn w f q i b z);
          laid = laid_as (laid_byte C.laid (get_or f (q + i) 0) (omega arith)) (bytes_turn f q i (omega arith)) refl;
        }

    pub word_zeros : i < w → get_or f (q + i) 0 ≡ 0 → (p : List ℕ) → p ≡ replicate (w - i) 0 ++ drop (w - i) (take (length u - i) (drop i u))
        → Laid (fill (text_slots w (text_at w f q))) w d (put_mid i (length u - i) u p)
    word_zeros b z p e =
        let n : i ≡ length (text_at w f q) = omega (arith, C.length_is, text_stop w f q i b z) in
        laid_as (laid_part C.laid (replicate (w - i) 0) p (w - i) (length-replicate (w - i) 0) (omega arith) e) (text_put f w q i w inside n C.within) (omega arith)

    pub word_full : w ≤ i → u ≡ fill (text_slots w (text_at w f q)) ++ drop w d
    word_full b =
        let c = C.within in
        let n : i ≡ length (text_at w f q) = omega (arith, C.length_is, text_none w f q i b) in
        let e : i ≡ w = omega arith in
        let k : w - i ≡ 0 = omega arith in
        let t = text_put f w q i w inside n c in
        (laid_as C.laid (sym (append-nil (take i (drop q f))) ∙ ap (λ (y : ℕ). take i (drop q f) ++ replicate y 0) (sym k) ∙ t) e).is
