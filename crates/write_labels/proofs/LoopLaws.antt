-- Label blocks one after another: the next, and what is left.
use mathlib.Core.Path.{◌≡◌, refl, sym, ap, ◌∙◌, subst}
use Prim.Native.Nat.{ℕ, ◌+◌, ◌-◌, ◌*◌, ◌≤◌, ◌<◌}
use native.Mathlib.Omega.{arith}
use mathlib.Core.List.{List, [], ◌∷◌, ◌++◌}
use mathlib.Core.Bool.{Bool, true, false, ◌&&◌}
use borrow.Rule.Slice.PartMut.{put_mid}
use lib.ListN.{length, take, drop}
use lib.Dec.{ltb}
use borrow.Author.Tests.{ltb-true, lt-ltb, le-ltb}
use Rattle.format.specs.Slot.{fill}
use Rattle.format.specs.Number.{Order, num}
use Rattle.format.specs.Grammar.{Sect, text_at, all_slots, sizes}
use Rattle.format.specs.Edition.{opening, n_lbl}
use Rattle.format.specs.Labels.{table_size, LabelBlock, block}
use Rattle.format.specs.Dta.{all_shorter, block_names}
use Rattle.format.proofs.SlotLaws.{length_fill}
use Rattle.format.proofs.Good.{and_left, and_right, all_sized}
use Rattle.format.proofs.LabelLaws.{block_good, block_some}
use Rattle.format.proofs.WriteLaws.{fill_all, fill_length}
use Rattle.writing.specs.Writes.{Puts, Stand, PutsAll}
use Rattle.writing.proofs.StandLaws.{stand_next, stand_end, stand_same}
use Rattle.write_tables.proofs.Lay.{Lay, lay_start, lay_part, lay_as, lay_close}
use Rattle.write_labels.specs.Blocks.{BlockAt, BlocksSize, NamesHeld, BlockRoom, BlocksRoom, PutsBlock}
use Rattle.write_labels.proofs.BlockLaws.{frame, block_size, block_even, block_read}

module _ (t : Bool) (o : Order) (w : ℕ) (f : List ℕ) where
  abbrev pub Own : Sect LabelBlock
  Own = block t o w

  -- the next block at p, and the others up to q
  pub record Turn (p q : ℕ) (l : List LabelBlock) : Type 0 where
    pub first : LabelBlock
    pub others : List LabelBlock
    pub is : l ≡ first ∷ others
    pub here : BlockAt t o w f p first
    pub inside : p + (frame t w + table_size first.entries) ≤ length f
    pub wide : num o 4 f (p + length (opening t n_lbl)) ≡ table_size first.entries
    pub even : length first.entries.values ≡ length first.entries.offsets
    pub rest : Stand Own f (p + (frame t w + table_size first.entries)) q others

  pub turn : (p q : ℕ) (l : List LabelBlock) → Stand Own f p q l → p < q → Turn p q l
  turn p q l s b =
      let n = stand_next Own (block_good t o w) (block_some t o w) f p q l s b in
      let B : BlockAt t o w f p n.first = record { right = n.right; fits = n.fits } in
      let R = block_read t o w f p n.first B (length (opening t n_lbl)) refl in
      let e = block_even t o w n.first n.right in
      record {
        first = n.first;
        others = n.others;
        is = n.is;
        here = B;
        inside = R.inside;
        wide = R.wide;
        even = e;
        rest = subst (λ (x : ℕ). Stand Own f (p + x) q n.others) (block_size t o w n.first e) n.rest;
      }

  blocks_end : (p q : ℕ) (l : List LabelBlock) → Stand Own f p q l → q ≤ p → l ≡ []
  blocks_end p q l s b = stand_end Own (block_good t o w) (block_some t o w) f p q l s (omega (arith, s.ends))

  blocks_same : (p q : ℕ) (l m : List LabelBlock) → Stand Own f p q l → Stand Own f p q m → l ≡ m
  blocks_same = stand_same Own (block_good t o w) (block_some t o w) f

  -- ---- their size

  module _ (u : Bool) (v : ℕ) (p q : ℕ) where
    -- up to i they take n bytes in the form u, v
    pub record Counted (i n : ℕ) : Type 0 where
      pub all : List LabelBlock
      pub whole : Stand Own f p q all
      pub left : List LabelBlock
      pub stand : Stand Own f i q left
      pub sum : (z : Order) → n + sizes (block u z v) left ≡ sizes (block u z v) all
      pub low : n ≤ 39 * i

    pub counted_start : (l : List LabelBlock) → Stand Own f p q l → Counted p 0
    counted_start l s = record { all = l; whole = s; left = l; stand = s; sum = λ z. omega arith; low = omega arith }

    module _ {i n : ℕ} (C : Counted i n) where
      pub counted_turn : i < q → Turn i q C.left
      counted_turn b = turn i q C.left C.stand b

      pub counted_next : (b : i < q) (x y k : ℕ) → x ≡ frame t w → y ≡ frame u v → y ≤ 273 → k ≡ table_size (counted_turn b).first.entries → Counted (i + (x + k)) (n + (y + k))
      unfolding counted_turn
      counted_next b x y k dx dy my dk =
          let N = counted_turn b in
          record {
            all = C.all;
            whole = C.whole;
            left = N.others;
            stand = subst (λ (j : ℕ). Stand Own f (i + j) q N.others) (sym (λ j. dx j + dk j)) N.rest;
            sum = λ z. (let e = ap (sizes (block u z v)) N.is in omega (arith, C.sum z, e, block_size u z v N.first N.even));
            low = omega (arith, C.low);
          }

      pub counted_end : q ≤ i → BlocksSize t o w u v f p q n
      counted_end b =
          record {
            in_order = λ z. record {
              all = λ l s.
                  (let e = ap (sizes (block u z v)) (blocks_end i q C.left C.stand b) in
                  let g = ap (sizes (block u z v)) (blocks_same p q C.all l C.whole s) in
                  omega (arith, C.sum z, e, g));
            };
          }

  -- ---- whether their names are short

  module _ (v : ℕ) (p q : ℕ) where
    -- up to i they are: all names are shorter than v if those from i on are
    pub record Holding (i : ℕ) : Type 0 where
      pub all : List LabelBlock
      pub whole : Stand Own f p q all
      pub left : List LabelBlock
      pub stand : Stand Own f i q left
      pub same : all_shorter v (block_names all) ≡ all_shorter v (block_names left)

    pub holding_start : (l : List LabelBlock) → Stand Own f p q l → Holding p
    holding_start l s = record { all = l; whole = s; left = l; stand = s; same = refl }

    module _ {i : ℕ} (H : Holding i) where
      -- what is told of these blocks is told of any that stand there
      held_as : (r : Bool) → all_shorter v (block_names H.left) ≡ r → NamesHeld t o w v f p q r
      held_as r e =
          record { all = λ l s. sym (H.same ∙ e) ∙ ap (λ (x : List LabelBlock). all_shorter v (block_names x)) (blocks_same p q H.all l H.whole s) }

      pub holding_end : q ≤ i → NamesHeld t o w v f p q true
      holding_end b = held_as true (ap (λ (x : List LabelBlock). all_shorter v (block_names x)) (blocks_end i q H.left H.stand b))

      module _ (b : i < q) where
        pub holding_turn : Turn i q H.left
        holding_turn = turn i q H.left H.stand b

        -- the next name, of m bytes, stands at y
        module _ (y m : ℕ) (dy : y ≡ i + length (opening t n_lbl) + 4) (dm : m ≡ length (text_at w f y)) where
          name_long : m ≡ length holding_turn.first.set_name
          name_long =
              dm ∙ ap (λ (x : ℕ). length (text_at w f x)) dy ∙ ap length (block_read t o w f i holding_turn.first holding_turn.here (length (opening t n_lbl)) refl).called

          left_is : (r : Bool) → ltb m v ≡ r → all_shorter v (block_names H.left) ≡ (r && all_shorter v (block_names holding_turn.others))
          left_is r e =
              ap (λ (x : List LabelBlock). all_shorter v (block_names x)) holding_turn.is
              ∙ ap (λ (x : Bool). x && all_shorter v (block_names holding_turn.others)) (ap (λ (x : ℕ). ltb x v) (sym name_long) ∙ e)

          pub holding_stop : v ≤ m → NamesHeld t o w v f p q false
          holding_stop h = held_as false (left_is false (le-ltb m v h))

          pub holding_next : m < v → (x k : ℕ) → x ≡ frame t w → k ≡ table_size holding_turn.first.entries → Holding (i + (x + k))
          holding_next h x k dx dk =
              record {
                all = H.all;
                whole = H.whole;
                left = holding_turn.others;
                stand = subst (λ (j : ℕ). Stand Own f (i + j) q holding_turn.others) (sym (λ j. dx j + dk j)) holding_turn.rest;
                same = H.same ∙ left_is true (lt-ltb m v h);
              }

  -- ---- what is put for them

  module _ (u : Bool) (z : Order) (v : ℕ) (p q : ℕ) (d : List ℕ) where
    abbrev To : Sect LabelBlock
    To = block u z v

    -- up to i they are put in n bytes of the output e
    pub record Putting (e : List ℕ) (i n : ℕ) : Type 0 where
      pub all : List LabelBlock
      pub whole : Stand Own f p q all
      pub left : List LabelBlock
      pub stand : Stand Own f i q left
      pub sum : n + sizes To left ≡ sizes To all
      pub room : sizes To all ≤ length d
      pub laid : Lay d e n (fill (all_slots To left)) (fill (all_slots To all))
      pub named : all_shorter v (block_names left) ≡ true

    pub putting_start : BlocksRoom t o w u z v f p q (length d) → Putting d p 0
    putting_start K =
        record {
          all = K.list;
          whole = K.stand;
          left = K.list;
          stand = K.stand;
          sum = omega arith;
          room = K.room;
          laid = lay_start d (fill (all_slots To K.list));
          named = K.named;
        }

    module _ {e : List ℕ} {i n : ℕ} (P : Putting e i n) where
      pub putting_end : q ≤ i → PutsAll Own To f p q d e n
      putting_end b =
          let a = blocks_end i q P.left P.stand b in
          let s = ap (sizes To) a in
          record {
            all = λ l k. subst (λ (x : List LabelBlock). Puts (fill (all_slots To x)) d e n) (blocks_same p q P.all l P.whole k)
                (record {
                  is = lay_close d e n n (fill (all_slots To P.left)) (fill (all_slots To P.all)) _ P.laid refl (ap (λ (x : List LabelBlock). fill (all_slots To x)) a) refl;
                  long = omega (arith, P.sum, s, length_fill (all_slots To P.all), all_sized To (block_good u z v) P.all);
                });
          }

      module _ (b : i < q) where
        pub putting_turn : Turn i q P.left
        putting_turn = turn i q P.left P.stand b

        short : (ltb (length putting_turn.first.set_name) v && all_shorter v (block_names putting_turn.others)) ≡ true
        short = subst (λ (x : List LabelBlock). all_shorter v (block_names x) ≡ true) putting_turn.is P.named

        more : n + (To.size putting_turn.first + sizes To putting_turn.others) ≡ sizes To P.all
        more = let s = ap (sizes To) putting_turn.is in omega (arith, P.sum)

        pub putting_room : (m : ℕ) → length d - n ≤ m → BlockRoom t o w u z v f i m
        putting_room m h =
            record {
              this = putting_turn.first;
              stands = putting_turn.here;
              named = ltb-true (length putting_turn.first.set_name) v (and_left (ltb (length putting_turn.first.set_name) v) (all_shorter v (block_names putting_turn.others)) short);
              room = omega (arith, more, P.room);
            }

        module _ (x k r : ℕ) (g : List ℕ) (dx : x ≡ frame t w) (dk : k ≡ table_size putting_turn.first.entries) (J : PutsBlock t o w u z v f i (take (length e - n) (drop n e)) g r) where
          puts : Puts (fill (To.slots putting_turn.first)) (take (length e - n) (drop n e)) g r
          puts = J.all putting_turn.first putting_turn.here

          pub put_long : r ≡ To.size putting_turn.first
          put_long = puts.long ∙ fill_length To (block_good u z v) putting_turn.first

          pub put_inside : n + r ≤ length d
          put_inside = omega (arith, put_long, more, P.room)

          pub putting_next : Putting (put_mid n (length e - n) e g) (i + (x + k)) (n + r)
          putting_next =
              let N = putting_turn in
              let A = fill (all_slots To P.all) in
              let l = lay_as d e n n (fill (all_slots To P.left)) (fill (To.slots N.first) ++ fill (all_slots To N.others)) A P.laid refl
              (ap (λ (y : List LabelBlock). fill (all_slots To y)) N.is ∙ fill_all To N.first N.others) in
              record {
                all = P.all;
                whole = P.whole;
                left = N.others;
                stand = subst (λ (j : ℕ). Stand Own f (i + j) q N.others) (sym (λ j. dx j + dk j)) N.rest;
                sum = omega (arith, more, put_long);
                room = P.room;
                laid = lay_part d e n (fill (all_slots To N.others)) A (fill (To.slots N.first)) g r l (sym puts.long) put_inside puts.is;
                named = and_right (ltb (length N.first.set_name) v) (all_shorter v (block_names N.others)) short;
              }
