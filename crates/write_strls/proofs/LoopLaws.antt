-- The loops over records of long strings.
use mathlib.Core.Path.{◌≡◌, ap, ◌∙◌, subst}
use Prim.Native.Nat.{ℕ, ◌+◌, ◌-◌, ◌≤◌, ◌<◌}
use native.Mathlib.Omega.{arith}
use mathlib.Core.List.{List}
use mathlib.Core.Bool.{Bool}
use borrow.Rule.Slice.PartMut.{put_mid}
use lib.ListN.{length, take, drop}
use Rattle.format.specs.Slot.{fill}
use Rattle.format.specs.Number.{Order, num}
use Rattle.format.specs.Data.{long_record}
use Rattle.format.proofs.DataLaws.{record_good, record_some}
use Rattle.writing.specs.Writes.{Puts, Room}
use Rattle.writing.proofs.StandLaws.{Next}
use Rattle.write_strls.specs.Records.{RecordsSize, RecordsPut, record_bytes}
use Rattle.write_strls.proofs.TurnLaws.{Counted, counted_none, counted_on, counted_all, next_of, next_room, Done, done_none, done_on, done_all}
use Rattle.write_strls.proofs.RecordLaws.{record_size_lem, Facts, record_facts, record_bytes_lem}
use Rattle.write_strls.proofs.RoomLaws.{sizes_same, slots_same}

module _ (t : Bool) (o : Order) (ow : ℕ) (z : Order) (w : ℕ) (f : List ℕ) (p q : ℕ) where
  -- the records before `at` take n bytes; all take at most m
  pub record LongsCounted (m at n : ℕ) : Type 0 where
    pub so : Counted (long_record t o ow) (record_good t o ow) (record_some t o ow) (long_record t z w) f p q m at n

  -- the records before `at` are put over d, in n bytes
  pub record LongsDone (d u : List ℕ) (at n : ℕ) : Type 0 where
    pub so : Done (long_record t o ow) (record_good t o ow) (record_some t o ow) (long_record t z w) f p q d u at n

  -- a record with r bytes of contents is next
  pub record Turn (m at n r : ℕ) : Type 0 where
    pub inside : at + (12 + ow + r) ≤ length f
    pub room : n + (12 + w + r) ≤ m
    pub on : LongsCounted m (at + (12 + ow + r)) (n + (12 + w + r))

module _ {t : Bool} {o : Order} {ow : ℕ} {z : Order} {w : ℕ} {f : List ℕ} {p q : ℕ} where
  pub longs_counted : {m : ℕ} → Room (long_record t o ow) (long_record t z w) f p q m → LongsCounted t o ow z w f p q m p 0
  longs_counted r = record { so = counted_none (long_record t o ow) (record_good t o ow) (record_some t o ow) (long_record t z w) f p q r }

  pub longs_done : {d : List ℕ} → Room (long_record t o ow) (long_record t z w) f p q (length d) → LongsDone t o ow z w f p q d d p 0
  longs_done r = record { so = done_none (long_record t o ow) (record_good t o ow) (record_some t o ow) (long_record t z w) f p q r }

  pub counted_of : {d u : List ℕ} {at n : ℕ} → LongsDone t o ow z w f p q d u at n → LongsCounted t o ow z w f p q (length d) at n
  counted_of h = record { so = h.so.counted }

  -- a turn
  module _ {m at n : ℕ} (h : LongsCounted t o ow z w f p q m at n) (b : at < q) where
    next : Next (long_record t o ow) (record_good t o ow) (record_some t o ow) f at q h.so.left
    next = next_of (long_record t o ow) (record_good t o ow) (record_some t o ow) (long_record t z w) f p q h.so b

    facts : Facts o ow f at next.first
    facts = record_facts o ow f at t next.first next.right next.fits

    -- what stands before the contents is in the file
    pub turn_head : at + (12 + ow) ≤ length f
    turn_head = omega (arith, facts.inside)

    module _ (r : ℕ) (e : r ≡ num o 4 f (at + (8 + ow))) where
      here : r ≡ length next.first.contents
      here = e ∙ facts.read_length

      from : at + (12 + ow + r) ≡ at + (long_record t o ow).size next.first
      from = omega (arith, here, record_size_lem t o ow next.first)

      to : 12 + w + r ≡ (long_record t z w).size next.first
      to = omega (arith, here, record_size_lem t z w next.first)

      pub turn : Turn t o ow z w f p q m at n r
      turn =
          record {
            inside = omega (arith, here, facts.inside);
            room = omega (arith, to, next_room (long_record t o ow) (record_good t o ow) (record_some t o ow) (long_record t z w) f p q h.so b next);
            on = record { so = counted_on (long_record t o ow) (record_good t o ow) (record_some t o ow) (long_record t z w) f p q h.so b next (at + (12 + ow + r)) (12 + w + r) from to };
          }

  -- a turn that puts
  pub turn_puts : {d u : List ℕ} {at n : ℕ} (h : LongsDone t o ow z w f p q d u at n) (b : at < q) (r : ℕ) (v : List ℕ) → r ≡ num o 4 f (at + (8 + ow))
      → Puts (record_bytes o ow z w f at r) (take (length u - n) (drop n u)) v (12 + w + r)
      → LongsDone t o ow z w f p q d (put_mid n (length u - n) u v) (at + (12 + ow + r)) (n + (12 + w + r))
  unfolding counted_of
  turn_puts {d} {u} {at} {n} h b r v e y =
      let c = counted_of h in
      let x = record_bytes_lem o ow f at t z w r (next c b).first (facts c b) (here c b r e) in
      let k = subst (λ (l : List ℕ). Puts l (take (length u - n) (drop n u)) v (12 + w + r)) x y in
      record {
        so =
            done_on (long_record t o ow) (record_good t o ow) (record_some t o ow) (long_record t z w) f p q h.so b (next c b) v (at + (12 + ow + r)) (12 + w + r)
            (from c b r e) (to c b r e) k;
      }

  -- the end
  pub longs_size : {m at n : ℕ} → LongsCounted t o ow z w f p q m at n → q ≤ at → RecordsSize t o ow w f p q n
  longs_size h b =
      let k = counted_all (long_record t o ow) (record_good t o ow) (record_some t o ow) (long_record t z w) f p q h.so b in
      record { all = λ u y. record { all = λ l s. k.all l s ∙ sizes_same t u z y w l } }

  pub longs_put : {d u : List ℕ} {at n : ℕ} → LongsDone t o ow z w f p q d u at n → q ≤ at → RecordsPut t o ow z w f p q d u n
  longs_put {d} {u} {at} {n} h b =
      let k = done_all (long_record t o ow) (record_good t o ow) (record_some t o ow) (long_record t z w) f p q h.so b in
      record { all = λ x. record { all = λ l s. subst (λ (y : List ℕ). Puts y d u n) (ap fill (slots_same t x z w l)) (k.all l s) } }
