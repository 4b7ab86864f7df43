-- A part between tags: three writers, one after another.
use mathlib.Core.Path.{◌≡◌, refl, sym, ap, ◌∙◌, subst}
use Prim.Native.Nat.{ℕ, zero, suc, ◌+◌, ◌-◌, ◌*◌, ◌≤◌}
use native.Mathlib.Omega.{arith}
use mathlib.Core.List.{List, [], ◌∷◌, ◌++◌, append_assoc}
use mathlib.Core.Bool.{Bool, true, false, cond}
use borrow.Rule.Slice.PartMut.{put_mid}
use lib.ListN.{length, take, drop, length-append, length-drop}
use lib.Seq.{length-take-le}
use native.Mathlib.Nat.{suc-mul, zero-mul}
use Rattle.format.specs.Slot.{Slot, fill}
use Rattle.format.specs.Number.{Order}
use Rattle.format.specs.Grammar.{Sect, sizes, text, read_times, all_slots, ended_at, ended_slots}
use Rattle.format.specs.Edition.{code_width, opening, closing, blocks_end, n_characteristics}
use Rattle.format.specs.Variables.{type_code}
use Rattle.format.proofs.SlotLaws.{length_fill}
use Rattle.format.proofs.Good.{Good, all_sized, text_good}
use Rattle.format.proofs.EndedLaws.{ended_good}
use Rattle.format.proofs.VariableLaws.{code_good}
use Rattle.write_parts.specs.Enclosed.{text_bytes, sort_bytes, type_bytes}
use Rattle.text.proofs.Lay.{Laid}
use Rattle.writing.specs.Writes.{Puts}
use Rattle.writing.proofs.Chain.{puts_first, puts_part, puts_of}

-- what three parts need
pub three_room : (l g r : List ℕ) (n : ℕ) → length (l ++ (g ++ r)) ≤ n → length l + (length g + length r) ≤ n
three_room l g r n h = rw (length-append l (g ++ r), length-append g r) at h

-- how long the tail from a on is
pub tail_length : (w : List ℕ) (a : ℕ) → length (take (length w - a) (drop a w)) ≡ length w - a
tail_length w a = length-take-le (length w - a) (drop a w) (simp length-drop (omega arith))

-- after l there is room for g
pub content_room : (l g r d w : List ℕ) (a : ℕ) → length (l ++ (g ++ r)) ≤ length d → Puts l d w a → length w ≡ length d
    → length g ≤ length (take (length w - a) (drop a w))
content_room l g r d w a room L e = omega (arith, tail_length w a, L.long, three_room l g r (length d) room)

-- l, g and r are put one after another
module _ (l g r d : List ℕ) (room : length (l ++ (g ++ r)) ≤ length d) {w : List ℕ} {a : ℕ} (L : Puts l d w a) {x : List ℕ} {b : ℕ}
    (G : Puts g (take (length w - a) (drop a w)) x b) where
  first : Laid l a d w
  first = puts_first L (omega (arith, L.long, three_room l g r (length d) room))

  two : Laid (l ++ g) (a + b) d (put_mid a (length w - a) w x)
  two = puts_part first g x b G (omega (arith, L.long, G.long, three_room l g r (length d) room))

  pub enclosed_long : length (put_mid a (length w - a) w x) ≡ length d
  enclosed_long = two.whole

  -- l and g alone
  pub two_put : Puts (l ++ g) d (put_mid a (length w - a) w x) (a + b)
  two_put = puts_of two

  pub enclosed_put : (y : List ℕ) (c : ℕ)
      → Puts r (take (length (put_mid a (length w - a) w x) - (a + b)) (drop (a + b) (put_mid a (length w - a) w x))) y c
      → Puts (l ++ (g ++ r)) d (put_mid (a + b) (length (put_mid a (length w - a) w x) - (a + b)) (put_mid a (length w - a) w x) y) (a + b + c)
  enclosed_put y c R =
      let q = puts_of (puts_part two r y c R (omega (arith, L.long, G.long, R.long, three_room l g r (length d) room))) in
      record { is = q.is ∙ ap (λ (z : List ℕ). z ++ drop (a + b + c) d) (append_assoc l g r); long = q.long ∙ ap length (append_assoc l g r) }

  -- there is room for r
  pub last_room : length r ≤ length (take (length (put_mid a (length w - a) w x) - (a + b)) (drop (a + b) (put_mid a (length w - a) w x)))
  last_room =
      let e = tail_length (put_mid a (length w - a) w x) (a + b) in
      omega (arith, e, two.whole, L.long, G.long, three_room l g r (length d) room)

-- ---- how long contents are

module _ {A : Type 0} (S : Sect A) (x : ℕ) (wide : (a : A) → S.size a ≡ x) where
  sizes_flat : (l : List A) → sizes S l ≡ length l * x
  sizes_flat [] = sym (zero-mul x)
  sizes_flat (a ∷ l) = rw suc-mul (omega (arith, wide a, sizes_flat l))

length_read : {A : Type 0} (S : Sect A) (k : ℕ) (f : List ℕ) (p : ℕ) → length (read_times S k f p) ≡ k
length_read S zero f p = refl
length_read S (suc k) f p = ap suc (length_read S k f (p + S.size (S.read f p)))

module _ {A : Type 0} {n : ℕ} (S : Sect A) (G : Good n ◌≤◌ S) (x : ℕ) (wide : (a : A) → S.size a ≡ x) where
  flat_long : (l : List A) → length (fill (all_slots S l)) ≡ length l * x
  flat_long l = length_fill (all_slots S l) ∙ all_sized S G l ∙ sizes_flat S x wide l

pub text_long : (x k w : ℕ) (f : List ℕ) (p : ℕ) → length (text_bytes x k w f p) ≡ k * x
text_long x k w f p =
    flat_long (text x 7) (text_good x 7 (omega arith)) x (λ a. refl) (read_times (text w 7) k f p) ∙ ap (λ (n : ℕ). n * x) (length_read (text w 7) k f p)

pub sort_long : (z : Order) (n : ℕ) (o : Order) (f : List ℕ) (p : ℕ) → length (sort_bytes z n o f p) ≡ n * 2
sort_long z n o f p = length_fill (ended_slots z 2 n (ended_at o 2 n f p)) ∙ (ended_good z 2 n 8 (omega arith)).sized (ended_at o 2 n f p)

pub type_long : (u : Bool) (z : Order) (k : ℕ) (t : Bool) (o : Order) (f : List ℕ) (p : ℕ) → length (type_bytes u z k t o f p) ≡ k * code_width u
unfolding type_code
type_long u z k t o f p =
    flat_long (type_code u z) (code_good u z) (code_width u) (λ a. refl) (read_times (type_code t o) k f p) ∙ ap (λ (n : ℕ). n * code_width u) (length_read (type_code t o) k f p)

-- ---- no expansion blocks, no characteristics

abbrev pub extra_bytes : Bool → List ℕ
extra_bytes t = opening t n_characteristics ++ (blocks_end t ++ closing t n_characteristics)

pub extra_room : (t b : Bool) (n : ℕ) → t ≡ b → length (extra_bytes t) ≤ n → length (extra_bytes b) ≤ n
extra_room t b n e h = rw e at h

pub extra_put : (t b : Bool) (d w : List ℕ) (r : ℕ) → t ≡ b → Puts (extra_bytes b) d w r → Puts (extra_bytes t) d w r
extra_put t b d w r e h = rw e h
