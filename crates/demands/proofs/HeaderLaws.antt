-- The header: number 5.
use mathlib.Core.Path.{◌≡◌, refl, sym, ap, ◌∙◌, subst}
use Prim.Native.Nat.{ℕ, zero, suc, ◌+◌, ◌≤◌, ◌<◌}
use native.Mathlib.Nat.{zero-add}
use native.Mathlib.Omega.{arith}
use mathlib.Core.List.{List}
use mathlib.Core.Logic.{◌⊎◌, inl, inr}
use mathlib.Core.Bool.{Bool, true, false, not, ◌&&◌, true≢false}
use lib.ListN.{length, get_or}
use lib.Dec.{eqb, leb, ltb}
use borrow.Author.Tests.{eqb-true}
use Rattle.format.specs.Number.{Order, num, tab}
use Rattle.format.specs.Grammar.{Sect, also, unless, need, next, no_zero, within, number, ruled, text_at, same_at, tag, between, done}
use Rattle.format.specs.Edition.{Edition, start, start_by, opening, closing, tagged_start, order_mark, order_text, n_byteorder, n_k, n_n, n_label, n_timestamp, n_header}
use Rattle.format.specs.Header.{Head, k_rule, n_rule, stamp_length, old_stamp, old_header, counted, new_facts, new_header, header_by, header}
use Rattle.format.specs.Dta.{sections, edition_of, order_of, verdict}
use Rattle.format.proofs.Good.{and_left, also_left, need_fits, need_room}
use Rattle.format.proofs.StepLaws.{between_judge, between_read}
use Rattle.demands.specs.Logic.{Iff}
use Rattle.demands.specs.Places.{Met, k_in, n_in, map_at, BeforeHeader}
use Rattle.demands.specs.Reasons.{Opened}
use Rattle.demands.specs.HeaderReasons.{CountedBroken, old_rules, order_part, k_part, n_part, label_part, order_at, k_at, n_at, label_at, stamp_at, BeforeOrder, BeforeK, BeforeN, BeforeLabel, BeforeStamp, HeaderBroken, in_old, in_order, in_k, in_n, in_label, in_stamp}
use Rattle.demands.proofs.NumberLaws.{need_listed, tag_numbered, tag_starts, known_begins, done_numbered, map_on}
use Rattle.demands.proofs.PlaceLaws.{Own, own, but, second, first, first_is, either, cut_header}
use Rattle.demands.proofs.PartLaws.{between_of, of_between, part_of, of_part, unless_false, tag_met, tag_stands}
use Rattle.demands.proofs.ReasonLaws.{reason}

five : Own 5
five = own 5 (omega arith)

-- ---- 113, 114 and 115

-- rules one after another
rules : (a b : Bool) → also (unless a 5) (unless b 5) ≡ unless (a && b) 5
rules true b = refl
rules false b = refl

seven_rules : (a b c d k m n : Bool)
    → also (unless a 5) (also (unless b 5) (also (unless c 5) (also (unless d 5) (also (unless k 5) (also (unless m 5) (unless n 5)))))) ≡ unless (a && (b && (c && (d && (k && (m && n)))))) 5
seven_rules a b c d k m n =
    rw (rules m n, rules k (m && n), rules d (k && (m && n)), rules c (d && (k && (m && n))), rules b (c && (d && (k && (m && n))))) (rules a (b && (c && (d && (k && (m && n))))))

module _ (e : Edition) (o : Order) (f : List ℕ) where
  old_judge : eqb (get_or f 0 0) e.number ≡ true
      → (old_header e.number o e.n_width e.label_max).judge f 0 ≡ also (need (6 + (e.n_width + (suc e.label_max + 18))) f 0) (unless (old_rules e o f) 5)
  unfolding old_header old_stamp
  old_judge h =
      let label = 6 + e.n_width in
      let stamp = label + suc e.label_max in
      rw h
      (ap (also (need (6 + (e.n_width + (suc e.label_max + 18))) f 0))
      (seven_rules (eqb (get_or f 1 0) (order_mark o)) (eqb (get_or f 2 0) 1) (k_rule (num o 2 f 4)) (n_rule (num o 2 f 4) (num o e.n_width f 6))
      (ltb (length (text_at (suc e.label_max) f label)) (suc e.label_max)) (stamp_length (length (text_at 17 f stamp))) (eqb (get_or f (stamp + 17) 0) 0)))

-- ---- a text after its length

zero_in : (n : ℕ) (s : ℕ → ℕ) → no_zero (tab n s) ≡ false → (i : ℕ) × (i < n) × (s i ≡ 0)
zero_in zero s h = absurd (true≢false h)
zero_in (suc n) s h = go (eqb (s 0) 0) refl (zero_in n (λ i. s (suc i)))
  where
    go : (t : Bool) → eqb (s 0) 0 ≡ t → (no_zero (tab n (λ i. s (suc i))) ≡ false → (i : ℕ) × (i < n) × (s (suc i) ≡ 0)) → (i : ℕ) × (i < suc n) × (s i ≡ 0)
    go true q ih = (0, omega arith, eqb-true (s 0) 0 q)
    go false q ih = let r = ih (rw q at h) in (suc r.0, omega (arith, r.1), r.2)

in_zero : (n : ℕ) (s : ℕ → ℕ) (i : ℕ) → i < n → s i ≡ 0 → no_zero (tab n s) ≡ false
in_zero zero s i b z = absurd (omega arith)
in_zero (suc n) s zero b z = rw z
in_zero (suc n) s (suc i) b z = go (not (eqb (s 0) 0)) (in_zero n (λ j. s (suc j)) i (omega arith) z)
  where
    go : (t : Bool) → no_zero (tab n (λ j. s (suc j))) ≡ false → (t && no_zero (tab n (λ j. s (suc j)))) ≡ false
    go true h = h
    go false h = refl

module _ (o : Order) (w : ℕ) (rule : ℕ → Bool) (f : List ℕ) (q : ℕ) where
  abbrev n : ℕ
  n = num o w f q

  abbrev clean : Bool
  clean = no_zero (tab (num o w f q) (λ i. get_or f (q + w + i) 0))

  counted_judge : (counted o w rule).judge f q ≡ also (also (need w f q) (unless (rule (num o w f q)) 5)) (also (need (num o w f q) f (q + w)) (unless clean 5))
  unfolding counted
  counted_judge = refl

  abbrev Wrong : Type 0
  Wrong = (rule (num o w f q) ≡ false) ⊎ ((q + w + num o w f q ≤ length f) × ((i : ℕ) × (i < num o w f q) × (get_or f (q + w + i) 0 ≡ 0)))

  counted_of : (counted o w rule).judge f q ≡ 5 → (q + w ≤ length f) × Wrong
  counted_of h = go (either {B = Unit {0}} _ (also (need w f q) (unless (rule (num o w f q)) 5)) _ 5 counted_judge (tt, h))
    where
      go : ((Unit {0}) × (also (need w f q) (unless (rule (num o w f q)) 5) ≡ 5))
          ⊎ (((Unit {0}) × (also (need w f q) (unless (rule (num o w f q)) 5) ≡ 0)) × (also (need (num o w f q) f (q + w)) (unless clean 5) ≡ 5))
          → (q + w ≤ length f) × Wrong
      go (inl y) =
          let s = second (need w f q) _ 5 (need_listed (but 5 five) w f q) y.1 in
          (need_room w f q s.0, inl (unless_false (rule (num o w f q)) 5 refl s.1))
      go (inr y) =
          let s = second (need (num o w f q) f (q + w)) _ 5 (need_listed (but 5 five) (num o w f q) f (q + w)) y.1 in (
            need_room w f q (also_left (need w f q) _ y.0.1),
            inr (need_room (num o w f q) f (q + w) s.0, zero_in (num o w f q) (λ i. get_or f (q + w + i) 0) (unless_false clean 5 refl s.1)),
          )

  of_counted : q + w ≤ length f → Wrong → (counted o w rule).judge f q ≡ 5
  of_counted b (inl h) = counted_judge ∙ rw (need_fits w f q b, h)
  of_counted b (inr h) =
      counted_judge
      ∙ rw (need_fits w f q b, need_fits (num o w f q) f (q + w) h.0, in_zero (num o w f q) (λ i. get_or f (q + w + i) 0) h.1.0 h.1.1 h.1.2) (go (rule (num o w f q)))
    where
      go : (t : Bool) → also (unless t 5) 5 ≡ 5
      go true = refl
      go false = refl

module _ (l r : List ℕ) (o : Order) (w : ℕ) (rule : ℕ → Bool) (f : List ℕ) (p : ℕ) where
  part_counted : (between l r (counted o w rule)).judge f p ≡ 5 → CountedBroken l o w rule f p
  part_counted h =
      let a = between_of l r (counted o w rule) f p 5 five h in
      let c = counted_of o w rule f (p + length l) a.1 in
      record { opened = record { tag = (tag_stands l 3 f p a.0).0; room = c.0 }; broken = c.1 }

  of_part_counted : CountedBroken l o w rule f p → (between l r (counted o w rule)).judge f p ≡ 5
  of_part_counted x =
      of_between l r (counted o w rule) f p 5 five (tag_met l 4 f p x.opened.tag (omega (arith, x.opened.room)))
      (of_counted o w rule f (p + length l) x.opened.room x.broken)

-- ---- 117 and 118

module _ (e : Edition) (o : Order) (f : List ℕ) where
  abbrev stamp_part : Sect (List ℕ)
  stamp_part = between (opening true n_timestamp) (closing true n_timestamp) (counted o 1 stamp_length)

  abbrev k : ℕ
  k = (k_part e o f).read f (k_at e o f)

  abbrev facts : Sect Head
  facts = new_facts o e.n_width e.label_length e.label_max

  new_judge : (new_header e.number o e.n_width e.label_length e.label_max).judge f 0
      ≡ also ((tag (tagged_start e.number) 2).judge f 0) (also ((order_part e o f).judge f (order_at e o f)) (facts.judge f (k_at e o f)))
  unfolding new_header order_at k_at
  new_judge = refl

  -- what follows the label, N and K
  abbrev past_label : ℕ
  past_label = also (stamp_part.judge f (stamp_at e o f)) ((tag (closing true n_header) 4).judge f (next stamp_part f (stamp_at e o f)))

  abbrev past_n : ℕ
  past_n = also ((label_part e o f).judge f (label_at e o f)) past_label

  abbrev past_k : ℕ
  past_k = also ((n_part e o f k).judge f (n_at e o f)) past_n

  facts_judge : facts.judge f (k_at e o f) ≡ also ((k_part e o f).judge f (k_at e o f)) past_k
  unfolding new_facts n_at label_at stamp_at
  facts_judge = refl

  k_read : (k_part e o f).read f (k_at e o f) ≡ num o 2 f (k_at e o f + length (opening true n_k))
  k_read = between_read (opening true n_k) (closing true n_k) (within 2 (ruled (number o 2) k_rule 5)) f (k_at e o f)

  -- ---- where each is wrong

  order_of_lem : (order_part e o f).judge f (order_at e o f) ≡ 5
      → Opened (opening true n_byteorder) (length (order_text o)) f (order_at e o f) × (same_at (order_text o) f (order_at e o f + length (opening true n_byteorder)) ≡ false)
  unfolding tag
  order_of_lem h =
      let x = part_of (opening true n_byteorder) (closing true n_byteorder) (length (order_text o)) _ f (order_at e o f) 5 five h in
      (x.0, unless_false (same_at (order_text o) f (order_at e o f + length (opening true n_byteorder))) 5 refl x.1)

  of_order : Opened (opening true n_byteorder) (length (order_text o)) f (order_at e o f) → same_at (order_text o) f (order_at e o f + length (opening true n_byteorder)) ≡ false
      → (order_part e o f).judge f (order_at e o f) ≡ 5
  unfolding tag
  of_order b h = of_part (opening true n_byteorder) (closing true n_byteorder) (length (order_text o)) _ f (order_at e o f) 5 five b (rw h)

  in_stamp_lem : BeforeStamp e o f × (past_label ≡ 5) → HeaderBroken e o f
  in_stamp_lem x =
      in_stamp x.0
      (part_counted (opening true n_timestamp) (closing true n_timestamp) o 1 stamp_length f (stamp_at e o f)
      (first (stamp_part.judge f (stamp_at e o f)) _ 5 ((tag_numbered (but 5 five) (closing true n_header) 4 refl).given f (next stamp_part f (stamp_at e o f))) x.1))

  in_label_lem : BeforeLabel e o f × (past_n ≡ 5) → HeaderBroken e o f
  in_label_lem x = go (either past_n ((label_part e o f).judge f (label_at e o f)) past_label 5 refl x)
    where
      go : (BeforeLabel e o f × ((label_part e o f).judge f (label_at e o f) ≡ 5)) ⊎ (BeforeStamp e o f × (past_label ≡ 5)) → HeaderBroken e o f
      go (inl y) = in_label y.0 (part_counted (opening true n_label) (closing true n_label) o e.label_length (λ z. leb z e.label_max) f (label_at e o f) y.1)
      go (inr y) = in_stamp_lem y

  in_n_lem : BeforeN e o f × (past_k ≡ 5) → HeaderBroken e o f
  in_n_lem x = go (either past_k ((n_part e o f k).judge f (n_at e o f)) past_n 5 refl x)
    where
      go : (BeforeN e o f × ((n_part e o f k).judge f (n_at e o f) ≡ 5)) ⊎ (BeforeLabel e o f × (past_n ≡ 5)) → HeaderBroken e o f
      go (inl y) =
          let q = n_at e o f + length (opening true n_n) in
          let z = part_of (opening true n_n) (closing true n_n) e.n_width (ruled (number o e.n_width) (n_rule k) 5) f (n_at e o f) 5 five y.1 in
          in_n y.0 z.0 (subst (λ (v : ℕ). n_rule v (num o e.n_width f q) ≡ false) k_read (unless_false (n_rule k (num o e.n_width f q)) 5 refl z.1))
      go (inr y) = in_label_lem y

  in_k_lem : BeforeK e o f × (facts.judge f (k_at e o f) ≡ 5) → HeaderBroken e o f
  in_k_lem x = go (either (facts.judge f (k_at e o f)) ((k_part e o f).judge f (k_at e o f)) past_k 5 facts_judge x)
    where
      go : (BeforeK e o f × ((k_part e o f).judge f (k_at e o f) ≡ 5)) ⊎ (BeforeN e o f × (past_k ≡ 5)) → HeaderBroken e o f
      go (inl y) =
          let z = part_of (opening true n_k) (closing true n_k) 2 (ruled (number o 2) k_rule 5) f (k_at e o f) 5 five y.1 in
          in_k y.0 z.0 (unless_false (k_rule (num o 2 f (k_at e o f + length (opening true n_k)))) 5 refl z.1)
      go (inr y) = in_n_lem y

  in_order_lem : BeforeOrder e o f × (also ((order_part e o f).judge f (order_at e o f)) (facts.judge f (k_at e o f)) ≡ 5) → HeaderBroken e o f
  in_order_lem x = go (either _ ((order_part e o f).judge f (order_at e o f)) (facts.judge f (k_at e o f)) 5 refl x)
    where
      go : (BeforeOrder e o f × ((order_part e o f).judge f (order_at e o f) ≡ 5)) ⊎ (BeforeK e o f × (facts.judge f (k_at e o f) ≡ 5)) → HeaderBroken e o f
      go (inl y) = let z = order_of_lem y.1 in in_order y.0 z.0 z.1
      go (inr y) = in_k_lem y

  -- ---- both headers

  header_of : (t : Bool) → e.tagged ≡ t → BeforeHeader e o f → same_at (start_by t e.number) f 0 ≡ true → (header_by t e o).judge f 0 ≡ 5 → HeaderBroken e o f
  header_of true q b s h =
      in_order_lem ((b, q), (second ((tag (tagged_start e.number) 2).judge f 0) _ 5 (tag_starts (but 5 five) (tagged_start e.number) f s) (sym new_judge ∙ h)).1)
  header_of false q b s h =
      let x = second (need (6 + (e.n_width + (suc e.label_max + 18))) f 0) _ 5 (need_listed (but 5 five) (6 + (e.n_width + (suc e.label_max + 18))) f 0)
      (sym (old_judge e o f (and_left (eqb (get_or f 0 0) e.number) true s)) ∙ h) in
      in_old b q (rw zero-add at (need_room (6 + (e.n_width + (suc e.label_max + 18))) f 0 x.0)) (unless_false (old_rules e o f) 5 refl x.1)

  broken_of : BeforeHeader e o f → same_at (start e) f 0 ≡ true → (sections e o (done 13)).judge f 0 ≡ 5 → HeaderBroken e o f
  broken_of b s h =
      let P = but 5 five in
      header_of e.tagged refl b s
      (first ((header e o).judge f 0) _ 5
      ((map_on P e o (done 13) (done_numbered P 13 refl) refl refl refl refl refl refl (k_in e o f) (n_in e o f)).given f (map_at e o f)) (sym (cut_header e o (done 13) f) ∙ h))

  -- ---- and back

  start_met : same_at (tagged_start e.number) f 0 ≡ true → order_at e o f ≤ length f → (tag (tagged_start e.number) 2).judge f 0 ≡ 0
  unfolding order_at tag
  start_met h b = tag_met (tagged_start e.number) 2 f 0 h b

  order_room : Met (order_part e o f) f (order_at e o f) → order_at e o f ≤ length f
  order_room h =
      let a = also_left ((tag (opening true n_byteorder) 4).judge f (order_at e o f)) _
      (sym (between_judge (opening true n_byteorder) (closing true n_byteorder) (tag (order_text o) 5) f (order_at e o f)) ∙ h) in
      omega (arith, (tag_stands (opening true n_byteorder) 3 f (order_at e o f) a).1)

  tagged_five : e.tagged ≡ true → same_at (start e) f 0 ≡ true → order_at e o f ≤ length f
      → also ((order_part e o f).judge f (order_at e o f)) (facts.judge f (k_at e o f)) ≡ 5 → (header e o).judge f 0 ≡ 5
  tagged_five q s b h =
      ap (λ (t : Bool). (header_by t e o).judge f 0) q ∙ new_judge
      ∙ rw (start_met (subst (λ (t : Bool). same_at (start_by t e.number) f 0 ≡ true) q s) b) h

  of_header : same_at (start e) f 0 ≡ true → HeaderBroken e o f → (header e o).judge f 0 ≡ 5
  of_header s (in_old b q r h) =
      ap (λ (t : Bool). (header_by t e o).judge f 0) q
      ∙ old_judge e o f (and_left (eqb (get_or f 0 0) e.number) true (subst (λ (t : Bool). same_at (start_by t e.number) f 0 ≡ true) q s))
      ∙ rw (need_fits (6 + (e.n_width + (suc e.label_max + 18))) f 0 (rw zero-add r), h)
  of_header s (in_order b u h) =
      tagged_five b.1 s (omega (arith, u.room)) (first_is ((order_part e o f).judge f (order_at e o f)) _ 5 refl (of_order u h))
  of_header s (in_k b u h) =
      tagged_five b.0.1 s (order_room b.1)
      (rw b.1
      (facts_judge ∙ first_is ((k_part e o f).judge f (k_at e o f)) _ 5 refl
      (of_part (opening true n_k) (closing true n_k) 2 (ruled (number o 2) k_rule 5) f (k_at e o f) 5 five u (rw h))))
  of_header s (in_n b u h) =
      let q = n_at e o f + length (opening true n_n) in
      let g : n_rule k (num o e.n_width f q) ≡ false = subst (λ (v : ℕ). n_rule v (num o e.n_width f q) ≡ false) (sym k_read) h in
      tagged_five b.0.0.1 s (order_room b.0.1)
      (rw b.0.1
      (facts_judge ∙ rw b.1
      (first_is ((n_part e o f k).judge f (n_at e o f)) _ 5 refl
      (of_part (opening true n_n) (closing true n_n) e.n_width (ruled (number o e.n_width) (n_rule k) 5) f (n_at e o f) 5 five u (rw g)))))
  of_header s (in_label b x) =
      tagged_five b.0.0.0.1 s (order_room b.0.0.1)
      (rw b.0.0.1
      (facts_judge ∙ rw (b.0.1, b.1)
      (first_is ((label_part e o f).judge f (label_at e o f)) _ 5 refl
      (of_part_counted (opening true n_label) (closing true n_label) o e.label_length (λ z. leb z e.label_max) f (label_at e o f) x))))
  of_header s (in_stamp b x) =
      tagged_five b.0.0.0.0.1 s (order_room b.0.0.0.1)
      (rw b.0.0.0.1
      (facts_judge ∙ rw (b.0.0.1, b.0.1, b.1)
      (first_is (stamp_part.judge f (stamp_at e o f)) _ 5 refl
      (of_part_counted (opening true n_timestamp) (closing true n_timestamp) o 1 stamp_length f (stamp_at e o f) x))))

  before_header : HeaderBroken e o f → BeforeHeader e o f
  before_header (in_old b q r h) = b
  before_header (in_order b u h) = b.0
  before_header (in_k b u h) = b.0.0
  before_header (in_n b u h) = b.0.0.0
  before_header (in_label b x) = b.0.0.0.0
  before_header (in_stamp b x) = b.0.0.0.0.0

  of_broken : same_at (start e) f 0 ≡ true → HeaderBroken e o f → (sections e o (done 13)).judge f 0 ≡ 5
  of_broken s x = cut_header e o (done 13) f ∙ first_is ((header e o).judge f 0) _ 5 refl (of_header s x)

pub header_broken : (f : List ℕ) → Iff (verdict f ≡ 5) (HeaderBroken (edition_of f) (order_of f) f)
header_broken f =
    reason f 5 five refl (broken_of (edition_of f) (order_of f) f) (before_header (edition_of f) (order_of f) f)
    (λ x. of_broken (edition_of f) (order_of f) f (known_begins f (before_header (edition_of f) (order_of f) f x).1) x)
