-- Records of long strings: their size, what is put for them, and what is read where one stands.
use mathlib.Core.Path.{◌≡◌, refl, sym, ap, ◌∙◌, subst}
use Prim.Native.Nat.{ℕ, suc, ◌+◌, ◌≤◌, ◌<◌}
use native.Mathlib.Omega.{arith}
use mathlib.Core.List.{List, [], ◌∷◌, ◌++◌, map, append_assoc}
use mathlib.Core.Bool.{Bool}
use lib.ListN.{length, take, drop, length-append}
use lib.Seq.{drop-cons}
use Rattle.format.specs.Slot.{Slot, byte, Fits, fill}
use Rattle.format.specs.Number.{Order, num, num_slots}
use Rattle.format.specs.Grammar.{tag}
use Rattle.format.specs.Edition.{t_gso}
use Rattle.format.specs.Data.{LongString, long_head, long_record}
use Rattle.format.proofs.SlotLaws.{fits_bound, fits_left, fits_right, fits_after, length_tab, length_fill}
use Rattle.format.proofs.NumberLaws.{num_read}
use Rattle.format.proofs.WriteLaws.{fill_append, fill_bytes}
use Rattle.format.proofs.DataLaws.{record_good}
use Rattle.format.proofs.Good.{good_bound}
use Rattle.write_strls.specs.Records.{head_bytes, record_bytes}

-- bytes that stand at p
bytes_at : (l f : List ℕ) (p : ℕ) → Fits f p (map byte l) → take (length l) (drop p f) ≡ l
bytes_at [] f p m = refl
bytes_at (x ∷ l) f p m =
    let b : p < length f = omega (arith, fits_bound f p (map byte (x ∷ l)) m) in
    rw (drop-cons f p 0 b) (λ j. m.0 j ∷ bytes_at l f (suc p) m.1 j)

number_length : (o : Order) (w n : ℕ) → length (num_slots o w n) ≡ w
number_length o w n = length_tab w _

pub number_fills : (o : Order) (w n : ℕ) → length (fill (num_slots o w n)) ≡ w
number_fills o w n = length_fill (num_slots o w n) ∙ number_length o w n

-- where a number ends
past : (o : Order) (w n : ℕ) (f : List ℕ) (p : ℕ) (B : List Slot) → Fits f p (num_slots o w n ++ B) → Fits f (p + w) B
past o w n f p B m = fits_after f p w (num_slots o w n) B (number_length o w n) m

parts : (g : List ℕ) (A B C D : List Slot) → (((g ++ fill A) ++ fill B) ++ fill C) ++ fill D ≡ g ++ fill (A ++ (B ++ (C ++ D)))
parts g A B C D = simp (fill_append, append_assoc)

-- what is put before the contents, a field at a time
pub head_parts : (o : Order) (w v x k n : ℕ)
    → (((t_gso ++ fill (num_slots o 4 v)) ++ fill (num_slots o w x)) ++ fill (num_slots o 1 k)) ++ fill (num_slots o 4 n) ≡ head_bytes o w v x k n
unfolding head_bytes long_head
head_parts o w v x k n = parts t_gso (num_slots o 4 v) (num_slots o w x) (num_slots o 1 k) (num_slots o 4 n)

module _ (t : Bool) (o : Order) (w : ℕ) where
  pub record_size_lem : (r : LongString) → (long_record t o w).size r ≡ 12 + w + length r.contents
  unfolding long_record long_head tag
  record_size_lem r = omega arith

  -- what is put for a record
  pub record_fill : (r : LongString) → fill ((long_record t o w).slots r) ≡ head_bytes o w r.v r.o r.kind (length r.contents) ++ r.contents
  unfolding long_record long_head tag head_bytes
  record_fill r =
      let H = (long_head o w).slots (r.v, (r.o, (r.kind, length r.contents))) in
      ap (λ (l : List ℕ). t_gso ++ l) (fill_append H (map byte r.contents) ∙ ap (λ (l : List ℕ). fill H ++ l) (fill_bytes r.contents))

-- the tags do not change its bytes
pub record_slots : (t u : Bool) (o : Order) (w : ℕ) (r : LongString) → (long_record t o w).slots r ≡ (long_record u o w).slots r
unfolding long_record
record_slots t u o w r = refl

-- what is read of a record that stands at p
module _ (o : Order) (w : ℕ) (f : List ℕ) (p : ℕ) where
  pub record Facts (r : LongString) : Type 0 where
    pub read_v : num o 4 f (p + 3) ≡ r.v
    pub read_o : num o w f (p + 7) ≡ r.o
    pub read_kind : num o 1 f (p + (7 + w)) ≡ r.kind
    pub read_length : num o 4 f (p + (8 + w)) ≡ length r.contents
    pub bytes : take (length r.contents) (drop (p + (12 + w)) f) ≡ r.contents
    pub inside : p + (12 + w + length r.contents) ≤ length f

  pub record_facts : (t : Bool) (r : LongString) → (long_record t o w).Right r → Fits f p ((long_record t o w).slots r) → Facts r
  unfolding long_record long_head tag
  record_facts t r h m =
      let n = length r.contents in
      let D = num_slots o 4 n in
      let C = num_slots o 1 r.kind ++ D in
      let B = num_slots o w r.o ++ C in
      let A = num_slots o 4 r.v ++ B in
      let a : Fits f (p + 3) (A ++ map byte r.contents) = fits_right f p (map byte t_gso) (A ++ map byte r.contents) m in
      let g = fits_left f (p + 3) A (map byte r.contents) a in
      let b = past o 4 r.v f (p + 3) B g in
      let c = past o w r.o f (p + 3 + 4) C b in
      let d = past o 1 r.kind f (p + 3 + 4 + w) D c in
      let k = fits_right f (p + 3) A (map byte r.contents) a in
      let pb : p + 3 + 4 ≡ p + 7 = omega arith in
      let pc : p + 3 + 4 + w ≡ p + (7 + w) = omega arith in
      let pd : p + 3 + 4 + w + 1 ≡ p + (8 + w) = omega arith in
      let z : p + 3 + length A ≡ p + (12 + w) =
      omega (arith, length-append (num_slots o 4 r.v) B, length-append (num_slots o w r.o) C, length-append (num_slots o 1 r.kind) D, number_length o w r.o) in
      record {
        read_v = num_read o 4 r.v f (p + 3) h.0.1.0.0 (fits_left f (p + 3) (num_slots o 4 r.v) B g);
        read_o = rw pb at (num_read o w r.o f (p + 3 + 4) h.0.1.0.1.0 (fits_left f (p + 3 + 4) (num_slots o w r.o) C b));
        read_kind = rw pc at (num_read o 1 r.kind f (p + 3 + 4 + w) h.0.1.0.1.1.0 (fits_left f (p + 3 + 4 + w) (num_slots o 1 r.kind) D c));
        read_length = rw pd at (num_read o 4 n f (p + 3 + 4 + w + 1) h.0.1.0.1.1.1 d);
        bytes = bytes_at r.contents f (p + (12 + w)) (subst (λ (x : ℕ). Fits f x (map byte r.contents)) z k);
        inside = omega (arith, good_bound (long_record t o w) (record_good t o w) f p r m);
      }

  -- it in another form
  pub record_parts : (z : Order) (x a b c n : ℕ) → a ≡ num o 4 f (p + 3) → b ≡ num o w f (p + 7) → c ≡ num o 1 f (p + (7 + w))
      → head_bytes z x a b c n ++ take n (drop (p + (12 + w)) f) ≡ record_bytes o w z x f p n
  unfolding record_bytes
  record_parts z x a b c n i j k = rw (i, j, k)

  pub record_bytes_lem : (t : Bool) (z : Order) (x n : ℕ) (r : LongString) → Facts r → n ≡ length r.contents → record_bytes o w z x f p n ≡ fill ((long_record t z x).slots r)
  unfolding record_bytes
  record_bytes_lem t z x n r d e = rw (e, d.read_v, d.read_o, d.read_kind, d.bytes) (sym (record_fill t z x r))
