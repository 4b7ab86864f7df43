-- A loop over sections that stand one after another: those that are counted, or put in another form, and those that are left.
use mathlib.Core.Path.{◌≡◌, refl, sym, ap, ◌∙◌, subst}
use Prim.Native.Nat.{ℕ, ◌+◌, ◌-◌, ◌≤◌, ◌<◌}
use native.Mathlib.Omega.{arith}
use mathlib.Core.List.{List, [], ◌++◌, append_assoc, append-nil}
use borrow.Rule.Slice.PartMut.{put_mid}
use lib.ListN.{length, take, drop}
use Rattle.format.specs.Slot.{fill}
use Rattle.format.specs.Grammar.{Sect, all_slots, sizes}
use Rattle.format.proofs.Good.{Good}
use Rattle.format.proofs.WriteLaws.{fill_all}
use Rattle.text.proofs.Lay.{Laid, laid_none}
use Rattle.writing.specs.Writes.{Puts, Stand, Room, Sizes, PutsAll}
use Rattle.writing.proofs.Chain.{puts_part, puts_of}
use Rattle.writing.proofs.StandLaws.{Next, stand_next, stand_end, stand_same}

module _ {A : Type 0} {g : ℕ} (E : Sect A) (G : Good g ◌≤◌ E) (some : (a : A) → 0 < E.size a) (T : Sect A) (f : List ℕ) (p q : ℕ) where
  -- those before `at` take n bytes; all take at most m
  pub record Counted (m at n : ℕ) : Type 0 where
    pub list : List A
    pub stand : Stand E f p q list
    pub room : sizes T list ≤ m
    pub left : List A
    pub rest : Stand E f at q left
    pub count : n + sizes T left ≡ sizes T list

  pub counted_none : {m : ℕ} → Room E T f p q m → Counted m p 0
  counted_none r = record { list = r.list; stand = r.stand; room = r.room; left = r.list; rest = r.stand; count = omega arith }

  -- those before `at` are put over d, in n bytes
  pub record Done (d w : List ℕ) (at n : ℕ) : Type 0 where
    pub counted : Counted (length d) at n
    pub bytes : List ℕ
    pub whole : bytes ++ fill (all_slots T counted.left) ≡ fill (all_slots T counted.list)
    pub laid : Laid bytes n d w

  pub done_none : {d : List ℕ} → Room E T f p q (length d) → Done d d p 0
  unfolding counted_none
  done_none {d} r = record { counted = counted_none r; bytes = []; whole = refl; laid = laid_none d }

  -- the next
  module _ {m at n : ℕ} (h : Counted m at n) (b : at < q) where
    pub next_of : Next E G some f at q h.left
    next_of = stand_next E G some f at q h.left h.rest b

    module _ (x : Next E G some f at q h.left) where
      next_sizes : sizes T h.left ≡ T.size x.first + sizes T x.others
      next_sizes = ap (sizes T) x.is

      pub next_room : n + T.size x.first ≤ m
      next_room = omega (arith, next_sizes, h.count, h.room)

      pub counted_on : (at' k : ℕ) → at' ≡ at + E.size x.first → k ≡ T.size x.first → Counted m at' (n + k)
      counted_on at' k e z =
          record {
            list = h.list;
            stand = h.stand;
            room = h.room;
            left = x.others;
            rest = subst (λ (y : ℕ). Stand E f y q x.others) (sym e) x.rest;
            count = omega (arith, next_sizes, h.count, z);
          }

  pub done_on : {d w : List ℕ} {at n : ℕ} (h : Done d w at n) (b : at < q) (x : Next E G some f at q h.counted.left) (t : List ℕ) (at' k : ℕ)
      → at' ≡ at + E.size x.first → k ≡ T.size x.first → Puts (fill (T.slots x.first)) (take (length w - n) (drop n w)) t k
      → Done d (put_mid n (length w - n) w t) at' (n + k)
  unfolding counted_on
  done_on {d} {w} {at} {n} h b x t at' k e z y =
      let first = fill (T.slots x.first) in
      record {
        counted = counted_on h.counted b x at' k e z;
        bytes = h.bytes ++ first;
        whole =
            append_assoc h.bytes first (fill (all_slots T x.others))
            ∙ ap (λ (u : List ℕ). h.bytes ++ u) (sym (fill_all T x.first x.others) ∙ ap (λ (l : List A). fill (all_slots T l)) (sym x.is))
            ∙ h.whole;
        laid = puts_part h.laid first t k y (omega (arith, next_room h.counted b x, z));
      }

  -- the end
  module _ {m at n : ℕ} (h : Counted m at n) (b : q ≤ at) where
    none_left : h.left ≡ []
    none_left = stand_end E G some f at q h.left h.rest (omega (arith, h.rest.ends))

    same : (l : List A) → Stand E f p q l → h.list ≡ l
    same l s = stand_same E G some f p q h.list l h.stand s

    pub counted_all : Sizes E T f p q n
    counted_all = record { all = λ l s. omega (arith, h.count, ap (sizes T) none_left, ap (sizes T) (same l s)) }

  pub done_all : {d w : List ℕ} {at n : ℕ} → Done d w at n → q ≤ at → PutsAll E T f p q d w n
  done_all {d} {w} {at} {n} h b =
      record {
        all = λ l s.
            (let e : h.bytes ≡ fill (all_slots T l) =
            sym (append-nil h.bytes)
            ∙ ap (λ (k : List A). h.bytes ++ fill (all_slots T k)) (sym (none_left h.counted b))
            ∙ h.whole
            ∙ ap (λ (k : List A). fill (all_slots T k)) (same h.counted b l s) in
            subst (λ (t : List ℕ). Puts t d w n) e (puts_of h.laid));
      }
