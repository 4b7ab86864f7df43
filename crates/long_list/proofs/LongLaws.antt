-- The loops over records of long strings, told as numbers.
use mathlib.Core.Path.{◌≡◌, refl, ap, ◌∙◌, subst}
use Prim.Native.Nat.{ℕ, ◌+◌, ◌-◌, ◌≤◌, ◌<◌}
use native.Mathlib.Omega.{arith}
use mathlib.Core.List.{List, ◌++◌}
use mathlib.Core.Bool.{Bool}
use borrow.Rule.Slice.PartMut.{put_mid}
use lib.ListN.{length, take, drop}
use Rattle.format.specs.Number.{Order, num}
use Rattle.format.specs.Data.{LongString, long_record}
use Rattle.format.proofs.DataLaws.{record_good, record_some}
use Rattle.questions.specs.Ask.{record_head}
use Rattle.writing.specs.Writes.{Puts}
use Rattle.write_strls.proofs.RecordLaws.{record_size_lem, Facts, record_facts}
use Rattle.long_list.specs.Told.{ToldRoom, ToldCount, ToldPut}
use Rattle.long_list.specs.Longs.{long_numbers, longs_from, long_read}
use Rattle.long_list.proofs.TellLaws.{Teller, TellCounted, TellDone, tell_counted, tell_done, next_of, next_room, counted_on, done_on, counted_all, done_all}

-- where the next record stands
past : (t : Bool) (o : Order) (w p k : ℕ) (r : LongString) → k ≡ length r.contents → p + (12 + w + k) ≡ p + (long_record t o w).size r
past t o w p k r e = omega (arith, e, record_size_lem t o w r)

-- a record is told by its five numbers
abbrev pub long_teller : Bool → Order → ℕ → Teller LongString
long_teller t o w =
    record {
      E = long_record t o w;
      G = record_good t o w;
      some = record_some t o w;
      F = longs_from w;
      N = long_numbers w;
      none = λ p. refl;
      more = λ p r l.
          (let e : p + record_head w + length r.contents ≡ p + (long_record t o w).size r = omega (arith, record_size_lem t o w r) in
          ap (λ (x : ℕ). long_numbers w p r ++ longs_from w x l) e);
      small = λ p r. omega (arith, record_size_lem t o w r);
    }

module _ (t : Bool) (o : Order) (w : ℕ) (f : List ℕ) (p q : ℕ) where
  -- the records before `at` are n numbers; all are at most m
  pub record LongsCounted (m at n : ℕ) : Type 0 where
    pub so : TellCounted (long_teller t o w) f p q m at n

  -- the records before `at` are put over d, as n numbers
  pub record LongsDone (d u : List ℕ) (at n : ℕ) : Type 0 where
    pub so : TellDone (long_teller t o w) f p q d u at n

module _ {t : Bool} {o : Order} {w : ℕ} {f : List ℕ} {p q : ℕ} where
  pub longs_counted : {m : ℕ} → ToldRoom (long_record t o w) (longs_from w) f p q m → LongsCounted t o w f p q m p 0
  longs_counted r = record { so = tell_counted r }

  pub longs_done : {d : List ℕ} → ToldRoom (long_record t o w) (longs_from w) f p q (length d) → LongsDone t o w f p q d d p 0
  longs_done r = record { so = tell_done r }

  pub counted_of : {d u : List ℕ} {at n : ℕ} → LongsDone t o w f p q d u at n → LongsCounted t o w f p q (length d) at n
  counted_of h = record { so = h.so.counted }

  -- a turn
  module _ {m at n : ℕ} (h : LongsCounted t o w f p q m at n) (b : at < q) where
    abbrev first : LongString
    first = (next_of h.so b).first

    facts : Facts o w f at first
    facts = record_facts o w f at t first (next_of h.so b).right (next_of h.so b).fits

    -- what stands before the contents is in the file
    pub turn_head : at + (12 + w) ≤ length f
    turn_head = omega (arith, facts.inside)

    pub turn_room : n + 5 ≤ m
    turn_room = next_room h.so b

    module _ (k : ℕ) (e : k ≡ num o 4 f (at + (8 + w))) where
      pub turn_inside : at + (12 + w + k) ≤ length f
      turn_inside = omega (arith, e, facts.read_length, facts.inside)

      pub turn_on : LongsCounted t o w f p q m (at + (12 + w + k)) (n + 5)
      turn_on = record { so = counted_on h.so b (at + (12 + w + k)) 5 (past t o w at k first (e ∙ facts.read_length)) refl }

      told : long_read o w f at k ≡ long_numbers w at first
      told =
          let z : at + (12 + w) ≡ at + record_head w = omega arith in
          rw (facts.read_v, facts.read_o, facts.read_kind, z, e ∙ facts.read_length)

  -- a turn that puts
  pub turn_puts : {d u : List ℕ} {at n : ℕ} (h : LongsDone t o w f p q d u at n) (b : at < q) (k : ℕ) (v : List ℕ) → k ≡ num o 4 f (at + (8 + w))
      → Puts (long_read o w f at k) (take (length u - n) (drop n u)) v 5 → LongsDone t o w f p q d (put_mid n (length u - n) u v) (at + (12 + w + k)) (n + 5)
  unfolding counted_of
  turn_puts {d} {u} {at} {n} h b k v e y =
      let c = counted_of h in
      let x = subst (λ (l : List ℕ). Puts l (take (length u - n) (drop n u)) v 5) (told c b k e) y in
      record { so = done_on h.so b v (at + (12 + w + k)) 5 (past t o w at k (first c b) (e ∙ (facts c b).read_length)) x }

  -- the end
  pub longs_count_lem : {m at n : ℕ} → LongsCounted t o w f p q m at n → q ≤ at → ToldCount (long_record t o w) (longs_from w) f p q n
  longs_count_lem h b = counted_all h.so b

  pub longs_put : {d u : List ℕ} {at n : ℕ} → LongsDone t o w f p q d u at n → q ≤ at → ToldPut (long_record t o w) (longs_from w) f p q d u n
  longs_put h b = done_all h.so b
