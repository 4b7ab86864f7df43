-- The header is good.
use mathlib.Core.Path.{◌≡◌, refl, sym, ap, ◌∙◌, subst}
use Prim.Native.Nat.{ℕ, zero, suc, ◌+◌, ◌-◌, ◌*◌, ◌%◌, ◌^◌, ◌≤◌, ◌<◌}
use native.Mathlib.Omega.{arith}
use mathlib.Core.List.{List, [], ◌∷◌, ◌++◌, map}
use mathlib.Core.Bool.{Bool, true, false, cond, not, ◌&&◌, ◌||◌}
use lib.ListN.{length, get_or}
use lib.Dec.{eqb, leb, ltb}
use borrow.Author.Tests.{eqb-true, eqb-false, eq-eqb, ne_eqb, lt-ltb, le-ltb, not-true}
use Rattle.format.specs.Slot.{Fits, byte}
use Rattle.format.specs.Number.{Order, msf, lsf}
use Rattle.format.specs.Grammar.{Sect, within, lit, idle, number, text, fixed, raw, ruled, seq, told, tag, between, no_zero}
use Rattle.format.specs.Edition.{Edition, opening, closing, tagged_start, order_mark, order_text, n_byteorder, n_k, n_n, n_label, n_timestamp, n_header}
use Rattle.format.specs.Header.{Head, k_rule, n_rule, stamp_length, old_stamp, old_header, counted, new_facts, new_header, header_by, header}
use Rattle.format.proofs.Good.{Good, lit_good, idle_good, number_good, text_good, fixed_good, raw_good, tag_good, within_good, ruled_good, told_good, room_good, seq_good, row_good}
use Rattle.format.proofs.TagLaws.{bytes_of, start_bytes, closing_good, part_good}

stamp_good : Good 18 ◌≤◌ old_stamp
unfolding old_stamp
stamp_good =
    told_good _
    (row_good _ _ (λ a r. refl) (ruled_good _ (fixed_good 17) (λ t. stamp_length (length t)) 5 (omega arith)) λ t. lit_good 0 5 (omega arith) (omega arith))
    (λ v. v.0) (λ t. (t, tt)) (λ t. refl) (λ a r. refl)

mark_small : (o : Order) → order_mark o < 256
mark_small msf = omega arith
mark_small lsf = omega arith

pub old_good : (d : ℕ) (o : Order) (n l : ℕ) → d < 256 → Good 0 ◌≤◌ (old_header d o n l)
unfolding old_header old_stamp
old_good d o n l z =
    told_good _
    (within_good _
    (room_good (6 + (n + (suc l + 18))) (omega arith)
    (row_good _ _ (λ a r. refl) (lit_good d 2 z (omega arith)) λ a.
    row_good _ _ (λ a r. refl) (lit_good (order_mark o) 5 (mark_small o) (omega arith)) λ b.
    row_good _ _ (λ a r. refl) (lit_good 1 5 (omega arith) (omega arith)) λ c.
    row_good _ _ (λ a r. refl) (idle_good 1 1 (omega arith)) λ x.
    row_good _ _ (λ a r. refl) (ruled_good _ (number_good o 2) k_rule 5 (omega arith)) λ k.
    row_good _ _ (λ a r. refl) (ruled_good _ (number_good o n) (n_rule k) 5 (omega arith)) λ m.
    row_good _ _ (λ a r. refl) (text_good (suc l) 5 (omega arith)) λ t.
    stamp_good))
    (λ a r. omega arith))
    (λ v. v.1.1.1.1) (λ h. (tt, (tt, (tt, (tt, h))))) (λ h. refl) (λ a r. refl)

pub counted_good : (o : Order) (w : ℕ) (t : ℕ → Bool) → Good 0 ◌≤◌ (counted o w t)
unfolding counted
counted_good o w t =
    told_good _
    (seq_good _ _ (within_good _ (ruled_good _ (number_good o w) t 5 (omega arith)) (λ a r. refl)) λ n.
    within_good _ (ruled_good _ (raw_good n) no_zero 5 (omega arith)) (λ a r. r.0.0))
    (λ v. v.1) (λ l. (length l, l)) (λ l. refl) (λ a r. (λ i. (r.1.0.0 i, a.1)))

order_good : (o : Order) → Good 0 ◌≤◌ (tag (order_text o) 5)
order_good msf = tag_good (order_text msf) 5 (bytes_of (order_text msf) refl) (omega arith)
order_good lsf = tag_good (order_text lsf) 5 (bytes_of (order_text lsf) refl) (omega arith)

pub facts_good : (o : Order) (n w l : ℕ) → Good 0 ◌≤◌ (new_facts o n w l)
unfolding new_facts
facts_good o n w l =
    told_good _
    (seq_good _ _ (part_good true n_k _ refl (within_good _ (ruled_good _ (number_good o 2) k_rule 5 (omega arith)) (λ a r. refl))) λ k.
    seq_good _ _ (part_good true n_n _ refl (within_good _ (ruled_good _ (number_good o n) (n_rule k) 5 (omega arith)) (λ a r. refl))) λ m.
    seq_good _ _ (part_good true n_label _ refl (counted_good o w (λ x. leb x l))) λ t.
    seq_good _ _ (part_good true n_timestamp _ refl (counted_good o 1 stamp_length)) λ s.
    closing_good true n_header refl)
    (λ v. (v.0, (v.1.0, (v.1.1.0, v.1.1.1.0)))) (λ h. (h.0, (h.1.0, (h.1.1.0, (h.1.1.1, tt))))) (λ h. refl) (λ a r. refl)

pub new_good : (d : ℕ) (o : Order) (n w l : ℕ) → d < 1000 → Good 0 ◌≤◌ (new_header d o n w l)
unfolding new_header
new_good d o n w l z =
    told_good _
    (seq_good _ _ (tag_good (tagged_start d) 2 (start_bytes d z) (omega arith)) λ a.
    seq_good _ _ (part_good true n_byteorder _ refl (order_good o)) λ b.
    facts_good o n w l)
    (λ v. v.1.1) (λ h. (tt, (tt, h))) (λ h. refl) (λ a r. refl)

by_good : (t : Bool) (e : Edition) (o : Order) → e.number < 256 → Good 0 ◌≤◌ (header_by t e o)
by_good true e o z = new_good e.number o e.n_width e.label_length e.label_max (omega arith)
by_good false e o z = old_good e.number o e.n_width e.label_max z

pub header_good : (e : Edition) (o : Order) → e.number < 256 → Good 0 ◌≤◌ (header e o)
header_good e o z = by_good e.tagged e o z
