-- The parts of a tagged header: how long they are, and that one after another they are the header.
use mathlib.Core.Path.{◌≡◌, refl, sym, ap, ◌∙◌}
use Prim.Native.Nat.{ℕ, ◌+◌}
use native.Mathlib.Omega.{arith}
use mathlib.Core.List.{List, ◌++◌, map, append_assoc}
use mathlib.Core.Bool.{Bool, true, false}
use lib.ListN.{length}
use lib.Dec.{leb}
use Rattle.format.specs.Slot.{Slot, byte, fill}
use Rattle.format.specs.Number.{Order, msf, lsf, order_by, num_slots}
use Rattle.format.specs.Grammar.{Sect, number, within, ruled, between, tag}
use Rattle.format.specs.Edition.{opening, closing, tagged_start, digits, order_text, n_stata_dta, n_release, n_byteorder, n_k, n_n, n_label, n_timestamp, n_header}
use Rattle.format.specs.Header.{k_rule, n_rule, stamp_length, counted, new_facts, new_header}
use Rattle.format.proofs.SlotLaws.{length_fill, length_tab}
use Rattle.format.proofs.WriteLaws.{fill_append, fill_bytes, fill_between}
use Rattle.writing.specs.Writes.{Puts}
use Rattle.write_new_header.specs.Parts.{num_bytes, counted_bytes, tagged, order_bytes, start_bytes, count_bytes, text_bytes}

-- ---- lengths

pub num_length : (o : Order) (w n : ℕ) → length (num_bytes o w n) ≡ w
num_length o w n = length_fill (num_slots o w n) ∙ length_tab w _

-- ---- the parts

-- the byte order
pub order_msf : (b : Bool) (d w : List ℕ) (r : ℕ) → b ≡ true
    → Puts (closing true n_release ++ tagged (opening true n_byteorder) (closing true n_byteorder) (order_text msf)) d w r
    → (r ≡ 36) × (Puts (order_bytes (order_by b)) d w r)
unfolding order_bytes
order_msf b d w r e h = rw e (h.long, h)

pub order_lsf : (b : Bool) (d w : List ℕ) (r : ℕ) → b ≡ false
    → Puts (closing true n_release ++ tagged (opening true n_byteorder) (closing true n_byteorder) (order_text lsf)) d w r
    → (r ≡ 36) × (Puts (order_bytes (order_by b)) d w r)
unfolding order_bytes
order_lsf b d w r e h = rw e (h.long, h)

-- one law for what stands between tags
part : {A : Type 0} (l r : List ℕ) (S : Sect A) (a : A) {b : List ℕ} → fill (S.slots a) ≡ b → fill ((between l r S).slots a) ≡ tagged l r b
part l r S a e = fill_between l r S a ∙ ap (λ (k : List ℕ). tagged l r k) e

-- one for counted bytes
counted_fill : (o : Order) (w : ℕ) (t : ℕ → Bool) (l : List ℕ) → fill ((counted o w t).slots l) ≡ counted_bytes o w l
unfolding counted
counted_fill o w t l = fill_append (num_slots o w (length l)) (map byte l) ∙ ap (λ (k : List ℕ). num_bytes o w (length l) ++ k) (fill_bytes l)

tag_fill : (l : List ℕ) (c : ℕ) → fill ((tag l c).slots tt) ≡ l
unfolding tag
tag_fill l c = fill_bytes l

-- the parts as they are written
pub start_as : (d : ℕ) (o : Order)
    → ((opening true n_stata_dta ++ (opening true n_header ++ opening true n_release)) ++ digits d) ++ order_bytes o ≡ start_bytes d o
unfolding start_bytes order_bytes
start_as d o = refl

pub counts_as : (o : Order) (w k n : ℕ)
    → tagged (opening true n_k) (closing true n_k) (num_bytes o 2 k) ++ tagged (opening true n_n) (closing true n_n) (num_bytes o w n) ≡ count_bytes o w k n
unfolding count_bytes
counts_as o w k n = refl

-- a tag after what stands between tags
tag_after : (l b r h : List ℕ) → tagged l (r ++ h) b ≡ tagged l r b ++ h
tag_after l b r h = simp append_assoc

pub texts_as : (o : Order) (w : ℕ) (l s : List ℕ)
    → tagged (opening true n_label) (closing true n_label) (counted_bytes o w l) ++ tagged (opening true n_timestamp) (closing true n_timestamp ++ closing true n_header) (counted_bytes o 1 s)
    ≡ text_bytes o w l s
unfolding text_bytes
texts_as o w l s =
    ap (λ (t : List ℕ). tagged (opening true n_label) (closing true n_label) (counted_bytes o w l) ++ t)
    (tag_after (opening true n_timestamp) (counted_bytes o 1 s) (closing true n_timestamp) (closing true n_header))

seven : (A B C D E F G : List Slot) → fill (A ++ (B ++ (C ++ (D ++ (E ++ (F ++ G)))))) ≡ (fill A ++ fill B) ++ ((fill C ++ fill D) ++ (fill E ++ (fill F ++ fill G)))
seven A B C D E F G = simp (fill_append, append_assoc)

pub new_parts : (d : ℕ) (o : Order) (nw lw lm k n : ℕ) (l s : List ℕ)
    → start_bytes d o ++ (count_bytes o nw k n ++ text_bytes o lw l s) ≡ fill ((new_header d o nw lw lm).slots (k, (n, (l, s))))
unfolding new_header new_facts start_bytes count_bytes text_bytes
new_parts d o nw lw lm k n l s =
    let S0 = tag (tagged_start d) 2 in
    let S1 = between (opening true n_byteorder) (closing true n_byteorder) (tag (order_text o) 5) in
    let S2 = between (opening true n_k) (closing true n_k) (within 2 (ruled (number o 2) k_rule 5)) in
    let S3 = between (opening true n_n) (closing true n_n) (within nw (ruled (number o nw) (n_rule k) 5)) in
    let S4 = between (opening true n_label) (closing true n_label) (counted o lw (λ x. leb x lm)) in
    let S5 = between (opening true n_timestamp) (closing true n_timestamp) (counted o 1 stamp_length) in
    let S6 = tag (closing true n_header) 4 in
    let e0 = tag_fill (tagged_start d) 2 in
    let e1 = part (opening true n_byteorder) (closing true n_byteorder) (tag (order_text o) 5) tt (tag_fill (order_text o) 5) in
    let e2 = part (opening true n_k) (closing true n_k) (within 2 (ruled (number o 2) k_rule 5)) k refl in
    let e3 = part (opening true n_n) (closing true n_n) (within nw (ruled (number o nw) (n_rule k) 5)) n refl in
    let e4 = part (opening true n_label) (closing true n_label) (counted o lw (λ x. leb x lm)) l (counted_fill o lw (λ x. leb x lm) l) in
    let e5 = part (opening true n_timestamp) (closing true n_timestamp) (counted o 1 stamp_length) s (counted_fill o 1 stamp_length s) in
    let e6 = tag_fill (closing true n_header) 4 in
    sym
    (seven (S0.slots tt) (S1.slots tt) (S2.slots k) (S3.slots n) (S4.slots l) (S5.slots s) (S6.slots tt)
    ∙ λ i. (e0 i ++ e1 i) ++ ((e2 i ++ e3 i) ++ (e4 i ++ (e5 i ++ e6 i))))

pub new_size : (d : ℕ) (o : Order) (nw lw lm k n : ℕ) (l s : List ℕ) → (new_header d o nw lw lm).size (k, (n, (l, s))) ≡ 131 + (nw + (lw + (length l + length s)))
unfolding new_header new_facts between tag counted
new_size d msf nw lw lm k n l s = omega arith
new_size d lsf nw lw lm k n l s = omega arith
