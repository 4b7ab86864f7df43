-- Text fields, tested and put one after another.
use mathlib.Core.Path.{◌≡◌, refl, sym, ap, ◌∙◌}
use Prim.Native.Nat.{ℕ, ◌+◌, ◌-◌, ◌*◌, ◌≤◌, ◌<◌}
use mathlib.Core.List.{List, ◌++◌}
use mathlib.Core.Bool.{true, false}
use borrow.Author.Tests.{ltb-true, lt-ltb, le-ltb}
use borrow.Rule.Slice.PartMut.{put_mid}
use lib.ListN.{length, take, drop}
use lib.Dec.{ltb}
use Rattle.format.specs.Slot.{fill}
use Rattle.format.specs.Grammar.{text, text_at, text_slots, read_times, all_slots}
use Rattle.format.specs.Dta.{all_shorter}
use Rattle.format.proofs.Good.{text_length}
use Rattle.text.proofs.Lay.{Laid}
use Rattle.write_texts.proofs.TimesLaws.{all_more, all_at, all_stop, put_turn}

module _ (w to : ℕ) (f : List ℕ) (p : ℕ) where
  abbrev pub texts : ℕ → List (List ℕ)
  texts i = read_times (text w 7) i f p

  -- a text of m bytes fits, or doesn't
  pub texts_more : (i m : ℕ) → all_shorter to (texts i) ≡ true → m ≡ length (text_at w f (p + i * w)) → m < to → all_shorter to (texts (i + 1)) ≡ true
  texts_more i m h e b =
      all_more (text w 7) w (λ t. refl) f (λ t. ltb (length t) to) (all_shorter to) refl (λ t l. refl) i p h (ap (λ (x : ℕ). ltb x to) (sym e) ∙ lt-ltb m to b)

  pub texts_stop : (k i m : ℕ) → i < k → m ≡ length (text_at w f (p + i * w)) → to ≤ m → all_shorter to (texts k) ≡ false
  texts_stop k i m b e h =
      all_stop (text w 7) w (λ t. refl) f (λ t. ltb (length t) to) (all_shorter to) refl (λ t l. refl) k p i b (ap (λ (x : ℕ). ltb x to) (sym e) ∙ le-ltb m to h)

  -- each fits
  pub texts_fit : (k i : ℕ) → i < k → all_shorter to (texts k) ≡ true → length (text_at w f (p + i * w)) < to
  texts_fit k i b h = ltb-true (length (text_at w f (p + i * w))) to (all_at (text w 7) w (λ t. refl) f (λ t. ltb (length t) to) (all_shorter to) refl (λ t l. refl) k p i b h)

  -- what is put for i of them
  abbrev pub put_texts : ℕ → List ℕ
  put_texts i = fill (all_slots (text to 7) (texts i))

  pub texts_turn : {d v : List ℕ} (i k : ℕ) → Laid (put_texts i) (i * to) d v → i < k → k * to ≤ length d → (g : List ℕ)
      → g ≡ fill (text_slots to (text_at w f (p + i * w))) ++ drop to (take (length v - i * to) (drop (i * to) v))
      → Laid (put_texts (i + 1)) ((i + 1) * to) d (put_mid (i * to) (length v - i * to) v g)
  texts_turn i k l b room g h = put_turn (text w 7) w (λ t. refl) f (text to 7) to (text_length to) p i k l b room g h
