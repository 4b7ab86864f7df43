-- Dataset label and stamp of an accepted file.
use mathlib.Core.Path.{◌≡◌, refl, subst}
use Prim.Native.Nat.{ℕ, zero, suc, ◌+◌, ◌-◌, ◌≤◌, ◌<◌}
use native.Mathlib.Omega.{arith}
use mathlib.Core.List.{List, [], ◌∷◌, ◌++◌, map}
use mathlib.Core.Bool.{Bool, true, false, not}
use lib.ListN.{length, get_or, length-map, length-append}
use lib.Dec.{eqb, leb}
use borrow.Author.Tests.{eq-eqb, not-true}
use Rattle.format.specs.Slot.{byte, Fits}
use Rattle.format.specs.Number.{Order, msf, lsf, num_slots}
use Rattle.format.specs.Grammar.{Sect, number, within, ruled, no_zero, text, text_at, text_slots, tag, between}
use Rattle.format.specs.Edition.{Edition, tagged_start, opening, closing, order_text, n_byteorder, n_k, n_n, n_label, n_timestamp}
use Rattle.format.specs.Header.{Head, k_rule, n_rule, stamp_length, old_stamp, old_header, counted, new_facts, new_header, header_by, header}
use Rattle.format.specs.Dta.{Dataset, head_of}
use Rattle.format.proofs.SlotLaws.{fits_left, fits_bound, fits_after, length_tab}
use Rattle.format.proofs.Good.{Good, and_left, and_right, good_right, number_good, text_read, text_length, tag_good, between_fits, within_good, ruled_good}
use Rattle.format.proofs.TagLaws.{bytes_of, start_bytes, part_good}
use Rattle.format.proofs.HeaderLaws.{counted_good}
use Rattle.questions.specs.Readings.{Try, got, number_in}
use Rattle.questions.specs.Ask.{Answer, part, slice, text_part, counted_part, old_label_place, new_label_place, stamp_gap, label_in, stamp_in}
use Rattle.questions.specs.Fact.{label_place, stamp_place}
use Rattle.questions.proofs.ReadLaws.{room_is, number_is, text_in_lem, text_part_lem, bytes_at}

-- a part, by place and length, and its bytes
pub record PartIs (a : Try Answer) (f : List ℕ) (p : ℕ) (l : List ℕ) : Type 0 where
  pub answer : a ≡ got (part p (length l))
  pub bytes : slice f p (length l) ≡ l

-- ---- untagged

part_of : (w : ℕ) (f : List ℕ) (p : ℕ) (t : List ℕ) → text_at w f p ≡ t → p + w ≤ length f → PartIs (text_part w f p) f p t
part_of w f p t e b = record { answer = rw (text_in_lem w f p b, e); bytes = rw e at (text_part_lem w f p b) }

-- a text of fixed width with a zero after it
fixed_ended : (w : ℕ) (t : List ℕ) (f : List ℕ) (p : ℕ) → length t ≤ w → no_zero t ≡ true → Fits f p (text_slots w t ++ byte 0 ∷ []) → text_at (suc w) f p ≡ t
fixed_ended zero [] f p b z m = rw (eq-eqb (get_or f p 0) 0 m.0)
fixed_ended zero (c ∷ t) f p b z m = absurd (omega arith)
fixed_ended (suc w) [] f p b z m = rw (eq-eqb (get_or f p 0) 0 m.0)
fixed_ended (suc w) (c ∷ t) f p b z m =
    let n : eqb (get_or f p 0) 0 ≡ false = rw m.0 (not-true (eqb c 0) (and_left (not (eqb c 0)) (no_zero t) z)) in
    let i = fixed_ended w t f (suc p) (omega arith) (and_right (not (eqb c 0)) (no_zero t) z) m.1 in
    rw n (λ j. m.0 j ∷ i j)

fixed_room : (w : ℕ) (t : List ℕ) (f : List ℕ) (p : ℕ) → Fits f p (text_slots w t ++ byte 0 ∷ []) → p + suc w ≤ length f
fixed_room w t f p m = omega (arith, fits_bound f p (text_slots w t ++ byte 0 ∷ []) m, length-append (text_slots w t) (byte 0 ∷ []), text_length w t)

old_tail : (d : ℕ) (o : Order) (n l : ℕ) (f : List ℕ) (h : Head) → Fits f 0 ((old_header d o n l).slots h)
    → Fits f (4 + 2 + n) (text_slots (suc l) h.1.1.0 ++ (text_slots 17 h.1.1.1 ++ byte 0 ∷ []))
unfolding old_header old_stamp
old_tail d o n l f h m =
    let B = text_slots (suc l) h.1.1.0 ++ (text_slots 17 h.1.1.1 ++ byte 0 ∷ []) in
    good_right (number o n) (number_good o n) f (4 + 2) h.1.0 B (good_right (number o 2) (number_good o 2) f 4 h.0 (num_slots o n h.1.0 ++ B) m.1.1.1.1)

-- what the label and the stamp of an untagged header may be
record OldRight (l : ℕ) (h : Head) : Type 0 where
  pub label : (text (suc l) 5).Right h.1.1.0
  pub short : length h.1.1.1 ≤ 17
  pub clean : no_zero h.1.1.1 ≡ true

old_right : (d : ℕ) (o : Order) (n l : ℕ) (h : Head) → (old_header d o n l).Right h → OldRight l h
unfolding old_header old_stamp
old_right d o n l h r =
    let s = r.1.1.1.1.1.1 in
    record { label = s.0; short = s.1.0.0.0; clean = s.1.0.0.1 }

old_parts : (w p : ℕ) (f : List ℕ) (t s : List ℕ) → length t ≤ w → no_zero t ≡ true → length s ≤ 17 → no_zero s ≡ true
    → Fits f p (text_slots w t ++ (text_slots 17 s ++ byte 0 ∷ [])) → (PartIs (text_part w f p) f p t) × (PartIs (text_part 18 f (p + w)) f (p + w) s)
old_parts w p f t s b z c y m =
    let a = fits_left f p (text_slots w t) (text_slots 17 s ++ byte 0 ∷ []) m in
    let k = fits_after f p w (text_slots w t) (text_slots 17 s ++ byte 0 ∷ []) (text_length w t) m in
    (part_of w f p t (text_read w t f p b z a) (omega (arith, fits_bound f p (text_slots w t) a, text_length w t)), part_of 18 f (p + w) s (fixed_ended 17 s f (p + w) c y k) (fixed_room 17 s f (p + w) k))

-- ---- tagged

-- a length of w bytes, then that many bytes
record CountedIs (o : Order) (w : ℕ) (l : List ℕ) (f : List ℕ) (p : ℕ) : Type 0 where
  pub counts : number_in o w f p ≡ got (length l)
  pub is : PartIs (counted_part o w f p) f (p + w) l

counted_is : (o : Order) (w : ℕ) (t : ℕ → Bool) (l : List ℕ) (f : List ℕ) (p : ℕ) → (counted o w t).Right l → Fits f p ((counted o w t).slots l) → CountedIs o w l f p
unfolding counted
counted_is o w t l f p r m =
    let a = number_is o w (length l) f p r.0.0 (fits_left f p (num_slots o w (length l)) (map byte l) m) in
    let b = fits_after f p w (num_slots o w (length l)) (map byte l) (length_tab w _) m in
    let c : p + w + length l ≤ length f = omega (arith, fits_bound f (p + w) (map byte l) b, length-map l byte) in
    record { counts = a; is = record { answer = rw (a, room_is f (p + w) (length l) c); bytes = bytes_at l f (p + w) b } }

-- the parts of a tagged header
abbrev order_part : Order → Sect (Unit {0})
order_part o = between (opening true n_byteorder) (closing true n_byteorder) (tag (order_text o) 5)

abbrev k_part : Order → Sect ℕ
k_part o = between (opening true n_k) (closing true n_k) (within 2 (ruled (number o 2) k_rule 5))

abbrev n_part : Order → ℕ → ℕ → Sect ℕ
n_part o n k = between (opening true n_n) (closing true n_n) (within n (ruled (number o n) (n_rule k) 5))

abbrev label_part : Order → ℕ → ℕ → Sect (List ℕ)
label_part o w l = between (opening true n_label) (closing true n_label) (counted o w (λ x. leb x l))

abbrev stamp_part : Order → Sect (List ℕ)
stamp_part o = between (opening true n_timestamp) (closing true n_timestamp) (counted o 1 stamp_length)

-- where the label's part starts
abbrev label_start : ℕ → Order → ℕ → Head → ℕ
label_start d o n h = 0 + (tag (tagged_start d) 2).size tt + (order_part o).size tt + (k_part o).size h.0 + (n_part o n h.0).size h.1.0

order_good : (o : Order) → Good 0 ◌≤◌ (tag (order_text o) 5)
order_good msf = tag_good (order_text msf) 5 (bytes_of (order_text msf) refl) (omega arith)
order_good lsf = tag_good (order_text lsf) 5 (bytes_of (order_text lsf) refl) (omega arith)

new_parts : (d : ℕ) (o : Order) (n w l : ℕ) (f : List ℕ) (h : Head) → d < 1000 → Fits f 0 ((new_header d o n w l).slots h)
    → (Fits f (label_start d o n h) ((label_part o w l).slots h.1.1.0)) × (Fits f (label_start d o n h + (label_part o w l).size h.1.1.0) ((stamp_part o).slots h.1.1.1))
unfolding new_header new_facts
new_parts d o n w l f h z m =
    let a = good_right (tag (tagged_start d) 2) (tag_good (tagged_start d) 2 (start_bytes d z) (omega arith)) f 0 tt _ m in
    let b = good_right (order_part o) (part_good true n_byteorder _ refl (order_good o)) f _ tt _ a in
    let c = good_right (k_part o) (part_good true n_k _ refl (within_good _ (ruled_good _ (number_good o 2) k_rule 5 (omega arith)) (λ a r. refl))) f _ h.0 _ b in
    let e = good_right (n_part o n h.0) (part_good true n_n _ refl (within_good _ (ruled_good _ (number_good o n) (n_rule h.0) 5 (omega arith)) (λ a r. refl))) f _ h.1.0 _ c in
    let k = good_right (label_part o w l) (part_good true n_label _ refl (counted_good o w (λ x. leb x l))) f _ h.1.1.0 _ e in
    (fits_left f _ ((label_part o w l).slots h.1.1.0) _ e, fits_left f _ ((stamp_part o).slots h.1.1.1) _ k)

label_placed : (e : Edition) (o : Order) (h : Head) → label_start e.number o e.n_width h + length (opening true n_label) ≡ new_label_place e
unfolding between tag
label_placed e msf h = omega arith
label_placed e lsf h = omega arith

stamp_placed : (e : Edition) (o : Order) (l : ℕ) (h : Head)
    → label_start e.number o e.n_width h + (label_part o e.label_length l).size h.1.1.0 + length (opening true n_timestamp)
    ≡ new_label_place e + e.label_length + length h.1.1.0 + stamp_gap
unfolding between tag counted
stamp_placed e msf l h = omega arith
stamp_placed e lsf l h = omega arith

new_right : (d : ℕ) (o : Order) (n w l : ℕ) (h : Head) → (new_header d o n w l).Right h
    → ((counted o w (λ x. leb x l)).Right h.1.1.0) × ((counted o 1 stamp_length).Right h.1.1.1)
unfolding new_header new_facts between tag
new_right d o n w l h r = (r.1.1.1.1.0.1.0, r.1.1.1.1.1.0.1.0)

-- ---- both

-- label and stamp
pub record HeadFacts (t : Bool) (e : Edition) (o : Order) (f : List ℕ) (d : Dataset) : Type 0 where
  pub is_label : PartIs (label_in t e o f) f (label_place t e) d.label
  pub is_stamp : PartIs (stamp_in t e o f) f (stamp_place t e d) d.stamp

facts_by : (t : Bool) (e : Edition) (o : Order) (f : List ℕ) (d : Dataset) → e.number < 1000 → (header_by t e o).Right (head_of d) → Fits f 0 ((header_by t e o).slots (head_of d))
    → HeadFacts t e o f d
facts_by true e o f d z r m =
    let a = new_right e.number o e.n_width e.label_length e.label_max (head_of d) r in
    let b = new_parts e.number o e.n_width e.label_length e.label_max f (head_of d) z m in
    let L = counted o e.label_length (λ x. leb x e.label_max) in
    let S = counted o 1 stamp_length in
    let c = between_fits (opening true n_label) (closing true n_label) L d.label f _ b.0 in
    let k = between_fits (opening true n_timestamp) (closing true n_timestamp) S d.stamp f _ b.1 in
    let x = counted_is o e.label_length (λ x. leb x e.label_max) d.label f (new_label_place e) a.0
    (subst (λ (p : ℕ). Fits f p (L.slots d.label)) (label_placed e o (head_of d)) c) in
    let y = counted_is o 1 stamp_length d.stamp f (new_label_place e + e.label_length + length d.label + stamp_gap) a.1
    (subst (λ (p : ℕ). Fits f p (S.slots d.stamp)) (stamp_placed e o e.label_max (head_of d)) k) in
    record { is_label = x.is; is_stamp = record { answer = rw x.counts y.is.answer; bytes = y.is.bytes } }
facts_by false e o f d z r m =
    let a = old_right e.number o e.n_width e.label_max (head_of d) r in
    let b = old_parts (suc e.label_max) (old_label_place e) f d.label d.stamp (omega (arith, a.label.0)) a.label.1 a.short a.clean
    (old_tail e.number o e.n_width e.label_max f (head_of d) m) in
    record { is_label = b.0; is_stamp = b.1 }

pub head_facts : (e : Edition) (o : Order) (f : List ℕ) (d : Dataset) → e.number < 1000 → (header e o).Right (head_of d) → Fits f 0 ((header e o).slots (head_of d))
    → HeadFacts e.tagged e o f d
head_facts e o f d z r m = facts_by e.tagged e o f d z r m
