-- A label block that stands at a place: what is read of it, how long it is and what is put for it.
use mathlib.Core.Path.{◌≡◌, refl, sym, ap, ◌∙◌, subst}
use Prim.Native.Nat.{ℕ, ◌+◌, ◌*◌, ◌≤◌}
use native.Mathlib.Omega.{arith}
use mathlib.Core.List.{List, [], ◌∷◌, ◌++◌, map, append_assoc}
use mathlib.Core.Bool.{Bool, true, false, cond}
use lib.ListN.{length, replicate, length-map, length-append}
use Rattle.format.specs.Slot.{byte, spare, Fits, fill}
use Rattle.format.specs.Number.{Order, num, num_slots}
use Rattle.format.specs.Grammar.{number, text_at, text_slots, area, tag, all_slots, sizes}
use Rattle.format.specs.Edition.{opening, closing, n_lbl}
use Rattle.format.specs.Variables.{name}
use Rattle.format.specs.Labels.{Table, table, table_head, table_body, table_size, LabelBlock, block_head, block}
use Rattle.format.proofs.SlotLaws.{fits_left, fits_right, fits_after}
use Rattle.format.proofs.NumberLaws.{num_read}
use Rattle.format.proofs.Good.{text_read, text_length, good_bound}
use Rattle.format.proofs.LabelLaws.{block_head_good, block_good, table_good}
use Rattle.format.proofs.WriteLaws.{fill_append, fill_bytes, fill_length}
use Rattle.write_tables.specs.Tables.{TableAt, TableRoom, PutsTable}
use Rattle.writing.specs.Writes.{Puts}
use Rattle.write_labels.specs.Blocks.{BlockAt, BlockRoom, PutsBlock}

numbers_size : (z : Order) (l : List ℕ) → sizes (number z 4) l ≡ length l * 4
numbers_size z [] = refl
numbers_size z (x ∷ l) = omega (arith, numbers_size z l)

-- a block's bytes but its table's
abbrev pub frame : Bool → ℕ → ℕ
frame t w = length (opening t n_lbl) + (4 + (w + 3)) + length (closing t n_lbl)

-- how long it is, where it has as many values as offsets
pub block_size : (t : Bool) (o : Order) (w : ℕ) (b : LabelBlock) → length b.entries.values ≡ length b.entries.offsets
    → (block t o w).size b ≡ frame t w + table_size b.entries
unfolding block block_head name table table_head table_body tag
block_size t o w b e = omega (arith, numbers_size o b.entries.offsets, numbers_size o b.entries.values)

module _ (t : Bool) (o : Order) (w : ℕ) where
  -- a right block has
  pub block_even : (b : LabelBlock) → (block t o w).Right b → length b.entries.values ≡ length b.entries.offsets
  unfolding block table table_head table_body
  block_even b r = r.1.1.0.1.1.1.0.0.0

  head_at : (s : ℕ) (u : Table) (f : List ℕ) (q : ℕ) → (table o s).Right u → Fits f q ((table o s).slots u) → (num o 4 f q ≡ length u.offsets) × (num o 4 f (q + 4) ≡ length u.texts)
  unfolding table table_head table_body
  head_at s u f q r m =
      let n = length u.offsets in
      let x = length u.texts in
      let N = num_slots o 4 n in
      let X = num_slots o 4 x in
      let h = fits_left f q (N ++ X) (all_slots (number o 4) u.offsets ++ (all_slots (number o 4) u.values ++ (area u.offsets x 12).slots u.texts)) m in
      (num_read o 4 n f q r.1.0.0.0 (fits_left f q N X h), num_read o 4 x f (q + 4) r.1.0.0.1 (fits_right f q N X h))

  -- what is read of a block at p, whose tag has s bytes
  pub record BlockRead (f : List ℕ) (p s : ℕ) (b : LabelBlock) : Type 0 where
    pub inside : p + (s + (4 + (w + 3)) + length (closing t n_lbl) + table_size b.entries) ≤ length f
    pub head : (block_head o w).read f (p + s) ≡ (table_size b.entries, (b.set_name, tt))
    pub wide : num o 4 f (p + s) ≡ table_size b.entries
    pub called : text_at w f (p + s + 4) ≡ b.set_name
    pub numbered : num o 4 f (p + s + (4 + (w + 3))) ≡ length b.entries.offsets
    pub texted : num o 4 f (p + s + (4 + (w + 3)) + 4) ≡ length b.entries.texts
    pub tabled : (n m : ℕ) → n ≡ length b.entries.offsets → m ≡ length b.entries.texts → TableAt o f (p + s + (4 + (w + 3))) n m b.entries

  module _ (f : List ℕ) (p : ℕ) (b : LabelBlock) (B : BlockAt t o w f p b) where
    open_read : BlockRead f p (length (opening t n_lbl)) b
    unfolding block block_head name tag
    open_read =
        let r = B.right in
        let x = table_size b.entries in
        let q = p + length (opening t n_lbl) in
        let X = num_slots o 4 x in
        let N = text_slots w b.set_name in
        let Z = replicate 3 (spare 0) in
        let T = (table o x).slots b.entries in
        let C = map byte (closing t n_lbl) in
        let a = fits_after f p (length (opening t n_lbl)) (map byte (opening t n_lbl)) ((X ++ (N ++ Z)) ++ (T ++ C)) (length-map (opening t n_lbl) byte) B.fits in
        let h = fits_left f q (X ++ (N ++ Z)) (T ++ C) a in
        let n = fits_left f (q + 4) N Z (fits_right f q X (N ++ Z) h) in
        let z : length (X ++ (N ++ Z)) ≡ 4 + (w + 3) = omega (arith, length-append X (N ++ Z), length-append N Z, text_length w b.set_name) in
        let c = fits_left f (q + (4 + (w + 3))) T C (fits_after f q (4 + (w + 3)) (X ++ (N ++ Z)) (T ++ C) z a) in
        let k = r.1.0.1.0.0 in
        let g = head_at x b.entries f (q + (4 + (w + 3))) r.1.1.0 c in
        let wide : num o 4 f q ≡ x = num_read o 4 x f q r.1.0.0 (fits_left f q X (N ++ Z) h) in
        let called : text_at w f (q + 4) ≡ b.set_name = text_read w b.set_name f (q + 4) (omega (arith, k.0)) k.1 n in
        record {
          inside = omega (arith, good_bound (block t o w) (block_good t o w) f p b B.fits, block_size t o w b (block_even b r));
          head = λ i. (wide i, (called i, tt));
          wide = wide;
          called = called;
          numbered = g.0;
          texted = g.1;
          tabled = λ i j d e. record { right = r.1.1.0; fits = c; entries = d; chars = e };
        }

    pub block_read : (s : ℕ) → s ≡ length (opening t n_lbl) → BlockRead f p s b
    block_read s e = subst (λ (x : ℕ). BlockRead f p x b) (sym e) open_read

    block_back : (block t o w).read f p ≡ b
    block_back = ((block_good t o w).complete f p b B.right B.fits (good_bound (block t o w) (block_good t o w) f p b B.fits)).read_back

  -- two blocks that stand at p are one
  pub block_same : (f : List ℕ) (p : ℕ) (a b : LabelBlock) → BlockAt t o w f p a → BlockAt t o w f p b → a ≡ b
  block_same f p a b A B = sym (block_back f p a A) ∙ block_back f p b B

-- ---- what is put for a block

-- a tag that is there, or no bytes
pub open_is : (u : Bool) → cond u (opening true n_lbl) [] ≡ opening u n_lbl
open_is true = refl
open_is false = refl

pub close_is : (u : Bool) → cond u (closing true n_lbl) [] ≡ closing u n_lbl
close_is true = refl
close_is false = refl

module _ (z : Order) (v : ℕ) where
  head_fill : (s : ℕ) (l : List ℕ) → fill ((block_head z v).slots (s, (l, tt))) ≡ (fill (num_slots z 4 s) ++ fill (text_slots v l)) ++ replicate 3 0
  unfolding block_head name
  head_fill s l =
      fill_append (num_slots z 4 s) (text_slots v l ++ replicate 3 (spare 0))
      ∙ ap (λ (x : List ℕ). fill (num_slots z 4 s) ++ x) (fill_append (text_slots v l) (replicate 3 (spare 0)))
      ∙ sym (append_assoc (fill (num_slots z 4 s)) (fill (text_slots v l)) (replicate 3 0))

  -- the head that stands at p, whose table length is s
  pub head_put : (o : Order) (w : ℕ) (f : List ℕ) (p s : ℕ) → s ≡ num o 4 f p
      → (fill (num_slots z 4 s) ++ fill (text_slots v (text_at w f (p + 4)))) ++ replicate 3 0 ≡ fill ((block_head z v).slots ((block_head o w).read f p))
  unfolding block_head name
  head_put o w f p s e = sym (head_fill s (text_at w f (p + 4))) ∙ ap (λ (x : ℕ). fill ((block_head z v).slots (x, (text_at w f (p + 4), tt)))) e

  pub head_long : (s : ℕ) (l : List ℕ) → length (fill ((block_head z v).slots (s, (l, tt)))) ≡ 4 + (v + 3)
  unfolding block_head name
  head_long s l = fill_length (block_head z v) (block_head_good z v) (s, (l, tt))

  pub table_long : (s : ℕ) (t : Table) → length t.values ≡ length t.offsets → length (fill ((table z s).slots t)) ≡ table_size t
  unfolding table table_head table_body
  table_long s t e = fill_length (table z s) (table_good z s) t ∙ omega (arith, numbers_size z t.offsets, numbers_size z t.values)

  pub block_fill : (u : Bool) (b : LabelBlock) → fill ((block u z v).slots b)
      ≡ ((opening u n_lbl ++ fill ((block_head z v).slots (table_size b.entries, (b.set_name, tt)))) ++ fill ((table z (table_size b.entries)).slots b.entries)) ++ closing u n_lbl
  unfolding block tag
  block_fill u b =
      let O = opening u n_lbl in
      let C = closing u n_lbl in
      let H = (block_head z v).slots (table_size b.entries, (b.set_name, tt)) in
      let T = (table z (table_size b.entries)).slots b.entries in
      fill_append (map byte O) (H ++ (T ++ map byte C))
      ∙ ap (λ (x : List ℕ). x ++ fill (H ++ (T ++ map byte C))) (fill_bytes O)
      ∙ ap (λ (x : List ℕ). O ++ x) (fill_append H (T ++ map byte C) ∙ ap (λ (x : List ℕ). fill H ++ x) (fill_append T (map byte C) ∙ ap (λ (x : List ℕ). fill T ++ x) (fill_bytes C)))
      ∙ sym (append_assoc O (fill H) (fill T ++ C))
      ∙ sym (append_assoc (O ++ fill H) (fill T) C)

pub open_puts : (u : Bool) {d e : List ℕ} {r : ℕ} → Puts (cond u (opening true n_lbl) []) d e r → Puts (opening u n_lbl) d e r
open_puts u {d} {e} {r} = subst (λ (x : List ℕ). Puts x d e r) (open_is u)

pub close_puts : (u : Bool) {d e : List ℕ} {r : ℕ} → Puts (cond u (closing true n_lbl) []) d e r → Puts (closing u n_lbl) d e r
close_puts u {d} {e} {r} = subst (λ (x : List ℕ). Puts x d e r) (close_is u)

-- a block that stands at p, with room for what is put for it
module _ {t : Bool} {o : Order} {w : ℕ} {u : Bool} {z : Order} {v : ℕ} {f : List ℕ} {p n : ℕ} (K : BlockRoom t o w u z v f p n) where
  pub room_even : length K.this.entries.values ≡ length K.this.entries.offsets
  room_even = block_even t o w K.this K.stands.right

  pub room_wide : frame u v + table_size K.this.entries ≤ n
  room_wide = omega (arith, K.room, block_size u z v K.this room_even)

  pub room_read : (s : ℕ) → s ≡ length (opening t n_lbl) → BlockRead t o w f p s K.this
  room_read = block_read t o w f p K.this K.stands

  pub room_table : (s n m : ℕ) → s ≡ length (opening t n_lbl) → n ≡ num o 4 f (p + s + (4 + (w + 3))) → m ≡ num o 4 f (p + s + (4 + (w + 3)) + 4)
      → TableAt o f (p + s + (4 + (w + 3))) n m K.this.entries
  room_table s n m e a b = let R = room_read s e in R.tabled n m (a ∙ R.numbered) (b ∙ R.texted)

  -- the parts of the block are in the file, and there is room for what is put for them: its tag of g bytes, its table of k, its last tag of r
  module _ (s : ℕ) (S : s ≡ length (opening t n_lbl)) where
    pub room_inside : p + (s + (4 + (w + 3)) + 8) ≤ length f
    room_inside = omega (arith, (room_read s S).inside)

    pub room_tabled : TableAt o f (p + s + (4 + (w + 3))) (num o 4 f (p + s + (4 + (w + 3)))) (num o 4 f (p + s + (4 + (w + 3)) + 4)) K.this.entries
    room_tabled = room_table s (num o 4 f (p + s + (4 + (w + 3)))) (num o 4 f (p + s + (4 + (w + 3)) + 4)) S refl refl

    module _ {d e : List ℕ} {k : ℕ} (P : PutsTable o z f (p + s + (4 + (w + 3))) (num o 4 f (p + s + (4 + (w + 3)))) (num o 4 f (p + s + (4 + (w + 3)) + 4)) d e k) where
      pub table_puts : Puts (fill ((table z (table_size K.this.entries)).slots K.this.entries)) d e k
      table_puts = P.all K.this.entries room_tabled

      pub room_last : (g : ℕ) → g ≡ length (cond u (opening true n_lbl) []) → (r : ℕ) → r ≡ length (cond u (closing true n_lbl) []) → g + (4 + (v + 3)) + k + r ≤ n
      room_last g G r R =
          omega (arith, G, R, table_puts.long, table_long z v (table_size K.this.entries) K.this.entries room_even, ap length (open_is u), ap length (close_is u), room_wide)

  pub room_open : length (cond u (opening true n_lbl) []) ≤ n
  room_open = omega (arith, ap length (open_is u), room_wide)

  pub room_after : (g : ℕ) → g ≡ length (cond u (opening true n_lbl) []) → g + (4 + (v + 3)) + table_size K.this.entries ≤ n
  room_after g G = omega (arith, G, ap length (open_is u), room_wide)

  -- what is put for it is put for any that stands there
  pub room_puts : {d e : List ℕ} {r : ℕ} → Puts (fill ((block u z v).slots K.this)) d e r → PutsBlock t o w u z v f p d e r
  room_puts {d} {e} {r} P = record { all = λ b B. subst (λ (x : LabelBlock). Puts (fill ((block u z v).slots x)) d e r) (block_same t o w f p K.this b K.stands B) P }

-- a table by its numbers as they are read
module _ {o : Order} {f : List ℕ} {p n m x y : ℕ} (e : n ≡ x) (d : m ≡ y) where
  pub room_by : {r : ℕ} → TableRoom o f p x y r → TableRoom o f p n m r
  room_by K = rw (e, d) K

  pub puts_by : {z : Order} {a b : List ℕ} {r : ℕ} → PutsTable o z f p n m a b r → PutsTable o z f p x y a b r
  puts_by P = rw (e, d) at P
