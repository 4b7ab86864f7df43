-- Long strings of an accepted file.
use mathlib.Core.Path.{◌≡◌, refl, ap, subst}
use Prim.Native.Nat.{ℕ, zero, suc, ◌+◌, ◌-◌, ◌≤◌, ◌<◌}
use native.Mathlib.Omega.{arith}
use mathlib.Core.List.{List, [], ◌∷◌, ◌++◌, map}
use mathlib.Core.Bool.{Bool, cond, ◌&&◌}
use lib.ListN.{length, length-map, length-append}
use lib.Dec.{eqb}
use borrow.Author.Tests.{le-leb, lt-leb}
use Rattle.format.specs.Slot.{Slot, byte, Fits}
use Rattle.format.specs.Number.{Order, num_slots}
use Rattle.format.specs.Grammar.{Sect, tag, all_slots, sizes, AllRight}
use Rattle.format.specs.Edition.{Edition, opening, closing, n_strls, t_gso}
use Rattle.format.specs.Data.{Cell, LongString, long_head, long_record, strls}
use Rattle.format.proofs.SlotLaws.{fits_left, fits_right, fits_after, length_tab}
use Rattle.format.proofs.Good.{good_bound, good_right}
use Rattle.format.proofs.DataLaws.{record_good}
use Rattle.questions.specs.Readings.{Try, got, number_in}
use Rattle.questions.specs.Ask.{Answer, long, slice, record_head, records_in}
use Rattle.questions.specs.Fact.{records_fact}
use Rattle.questions.proofs.ReadLaws.{room_is, number_is, bytes_at}

-- where a number ends
past : (o : Order) (w n : ℕ) (f : List ℕ) (p : ℕ) (B : List Slot) → Fits f p (num_slots o w n ++ B) → Fits f (p + w) B
past o w n f p B m = fits_after f p w (num_slots o w n) B (length_tab w _) m

number_length : (o : Order) (w n : ℕ) → length (num_slots o w n) ≡ w
number_length o w n = length_tab w _

module _ (t : Bool) (o : Order) (w : ℕ) where
  pub long_size : (r : LongString) → (long_record t o w).size r ≡ record_head w + length r.contents
  unfolding long_record long_head tag
  long_size r = omega arith

  -- what is read of a record that stands at p
  pub record LongFacts (f : List ℕ) (p : ℕ) (r : LongString) : Type 0 where
    pub read_v : number_in o 4 f (p + 3) ≡ got r.v
    pub read_o : number_in o w f (p + 3 + 4) ≡ got r.o
    pub read_kind : number_in o 1 f (p + 3 + 4 + w) ≡ got r.kind
    pub read_length : number_in o 4 f (p + 3 + 4 + w + 1) ≡ got (length r.contents)
    pub bytes : slice f (p + record_head w) (length r.contents) ≡ r.contents

  pub long_facts : (f : List ℕ) (p : ℕ) (r : LongString) → (long_record t o w).Right r → Fits f p ((long_record t o w).slots r) → LongFacts f p r
  unfolding long_record long_head tag
  long_facts f p r h m =
      let n = length r.contents in
      let D = num_slots o 4 n in
      let C = num_slots o 1 r.kind ++ D in
      let B = num_slots o w r.o ++ C in
      let A = num_slots o 4 r.v ++ B in
      let a : Fits f (p + 3) (A ++ map byte r.contents) = fits_right f p (map byte t_gso) (A ++ map byte r.contents) m in
      let g = fits_left f (p + 3) A (map byte r.contents) a in
      let b = past o 4 r.v f (p + 3) B g in
      let c = past o w r.o f (p + 3 + 4) C b in
      let d = past o 1 r.kind f (p + 3 + 4 + w) D c in
      let k = fits_right f (p + 3) A (map byte r.contents) a in
      let z : p + 3 + length A ≡ p + record_head w =
      omega (arith, length-append (num_slots o 4 r.v) B, length-append (num_slots o w r.o) C, length-append (num_slots o 1 r.kind) D, number_length o w r.o) in
      record {
        read_v = number_is o 4 r.v f (p + 3) h.0.1.0.0 (fits_left f (p + 3) (num_slots o 4 r.v) B g);
        read_o = number_is o w r.o f (p + 3 + 4) h.0.1.0.1.0 (fits_left f (p + 3 + 4) (num_slots o w r.o) C b);
        read_kind = number_is o 1 r.kind f (p + 3 + 4 + w) h.0.1.0.1.1.0 (fits_left f (p + 3 + 4 + w) (num_slots o 1 r.kind) D c);
        read_length = number_is o 4 n f (p + 3 + 4 + w + 1) h.0.1.0.1.1.1 d;
        bytes = bytes_at r.contents f (p + record_head w) (subst (λ (x : ℕ). Fits f x (map byte r.contents)) z k);
      }

module _ (e : Edition) (o : Order) where
  abbrev one : Sect LongString
  one = long_record e.tagged o e.record_width

  abbrev head : ℕ
  head = record_head e.record_width

  -- the walk over the records is the search in the dataset's list
  module _ (f : List ℕ) (v x z : ℕ) where
    records_at : (l : List LongString) (k p : ℕ) → length f < p + k → z ≡ p + sizes one l → AllRight one l → Fits f p (all_slots one l)
        → records_in e.record_width o f v x z k p ≡ records_fact e v x l p
    records_at [] zero p b q r m = refl
    records_at [] (suc k) p b q r m = rw (lt-leb (p + head) z (omega arith))
    records_at (a ∷ l) zero p b q r m =
        absurd (omega (arith, good_bound one (record_good e.tagged o e.record_width) f p a (fits_left f p (one.slots a) (all_slots one l) m)))
    records_at (a ∷ l) (suc k) p b q r m =
        let n = length a.contents in
        let h = fits_left f p (one.slots a) (all_slots one l) m in
        let s = long_size e.tagged o e.record_width a in
        let y : p + one.size a ≡ p + head + n = omega (arith, s) in
        let g = good_right one (record_good e.tagged o e.record_width) f p a (all_slots one l) m in
        let d = long_facts e.tagged o e.record_width f p a r.0 h in
        let c : p + head + n ≤ length f = omega (arith, good_bound one (record_good e.tagged o e.record_width) f p a h) in
        let i = records_at l k (p + head + n) (omega arith) (omega (arith, q, y)) r.1 (rw y at g) in
        rw (le-leb (p + head) z (omega (arith, q, s)), d.read_v, d.read_o, d.read_kind, d.read_length, le-leb (p + head + n) z (omega (arith, q, s)), room_is f (p + head) n c)
        (ap (λ (u : Try Answer). cond (eqb a.v v && eqb a.o x) (got (long a.kind (p + head) n)) u) i)

  -- the records of a part that stands at p
  pub longs_fit : (d : List (List Cell)) (f : List ℕ) (p : ℕ) (l : List LongString) → Fits f p ((strls e.tagged o e.record_width d).slots l)
      → Fits f (p + length (opening e.tagged n_strls)) (all_slots one l)
  unfolding strls tag
  longs_fit d f p l m =
      let A = map byte (opening e.tagged n_strls) in
      let E = map byte (closing e.tagged n_strls) in
      fits_left f (p + length (opening e.tagged n_strls)) (all_slots one l) E
      (fits_after f p (length (opening e.tagged n_strls)) A (all_slots one l ++ E) (length-map (opening e.tagged n_strls) byte) m)

  pub longs_right : (d : List (List Cell)) (l : List LongString) → (strls e.tagged o e.record_width d).Right l → AllRight one l
  unfolding strls tag
  longs_right d l r = r.1.0

  longs_size : (d : List (List Cell)) (l : List LongString) → (strls e.tagged o e.record_width d).size l ≡ length (opening e.tagged n_strls) + (sizes one l + length (closing e.tagged n_strls))
  unfolding strls tag
  longs_size d l = omega arith

  pub own_records : (d : List (List Cell)) (f : List ℕ) (p : ℕ) (l : List LongString) (v x : ℕ) → (strls e.tagged o e.record_width d).Right l → Fits f p ((strls e.tagged o e.record_width d).slots l)
      → records_in e.record_width o f v x (p + (strls e.tagged o e.record_width d).size l - length (closing e.tagged n_strls)) (suc (length f)) (p + length (opening e.tagged n_strls))
      ≡ records_fact e v x l (p + length (opening e.tagged n_strls))
  own_records d f p l v x r m =
      records_at f v x (p + (strls e.tagged o e.record_width d).size l - length (closing e.tagged n_strls)) l (suc (length f)) (p + length (opening e.tagged n_strls)) (omega arith)
      (omega (arith, longs_size d l)) (longs_right d l r) (longs_fit d f p l m)
