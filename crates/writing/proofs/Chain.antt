-- One writer after another.
use mathlib.Core.Path.{◌≡◌, refl, sym, ap, ◌∙◌}
use mathlib.Core.List.{List, [], ◌∷◌, ◌++◌}
use mathlib.Core.Bool.{Bool, true, false, cond}
use Prim.Native.Nat.{ℕ, ◌+◌, ◌-◌, ◌≤◌}
use borrow.Rule.Slice.PartMut.{put_mid}
use lib.ListN.{length, take, drop}
use lib.Seq.{take_all}
use native.Mathlib.Omega.{arith}
use Rattle.text.proofs.Lay.{Laid, laid_first, laid_part}
use Rattle.writing.specs.Writes.{Puts}

-- the first
pub puts_first : {g d w : List ℕ} {b : ℕ} → Puts g d w b → b ≤ length d → Laid g b d w
puts_first {g} {d} {w} {b} h n = laid_first g d w b h.is (sym h.long) n

-- one more, into the tail
pub puts_part : {t : List ℕ} {a : ℕ} {d w : List ℕ} → Laid t a d w → (g p : List ℕ) (b : ℕ) → Puts g (take (length w - a) (drop a w)) p b → a + b ≤ length d
    → Laid (t ++ g) (a + b) d (put_mid a (length w - a) w p)
puts_part l g p b h room = laid_part l g p b (sym h.long) room h.is

-- the answer
pub puts_of : {t : List ℕ} {a : ℕ} {d w : List ℕ} → Laid t a d w → Puts t d w a
puts_of l = record { is = l.is; long = sym l.long }

-- a tag that is there
pub tag_room : (b : Bool) (t : List ℕ) (n : ℕ) → b ≡ true → length (cond b t []) ≤ n → length t ≤ n
tag_room b t n e h = rw e at h

pub tag_put : (b : Bool) (t d w : List ℕ) → b ≡ true → w ≡ take (length t) (drop 0 t) ++ drop (length t) d → Puts (cond b t []) d w (length t)
tag_put b t d w e h = rw e (record { is = h ∙ ap (λ (x : List ℕ). x ++ drop (length t) d) (take_all (length t) t (omega arith)); long = refl })
