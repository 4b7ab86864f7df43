-- The header: K, N, dataset label, stamp.
use Rattle.std.specs.Prelude.{ℕ, zero, suc, ◌+◌, List, [], ◌∷◌, Bool, true, false, not, ◌&&◌, ◌||◌, length, eqb, leb}
use Rattle.format.specs.Number.{Order}
use Rattle.format.specs.Grammar.{Sect, within, lit, idle, number, text, fixed, raw, ruled, seq, told, tag, between, no_zero}
use Rattle.format.specs.Edition.{Edition, opening, closing, tagged_start, order_mark, order_text, n_byteorder, n_k, n_n, n_label, n_timestamp, n_header}

-- K, N, dataset label, stamp
abbrev pub Head : Type 0
Head = ℕ × (ℕ × (List ℕ × List ℕ))

-- K is at most 32,767
abbrev pub k_rule : ℕ → Bool
k_rule k = leb k 32767

-- N is at most 2,147,483,647, and K = 0 only with N = 0
abbrev pub n_rule : ℕ → ℕ → Bool
n_rule k n = leb n 2147483647 && (not (eqb k 0) || eqb n 0)

-- a stamp has 0 or 17 bytes
abbrev pub stamp_length : ℕ → Bool
stamp_length n = eqb n 0 || eqb n 17

-- an old stamp, 18 bytes: empty (first byte zero) or 17 bytes that are not zero; then a zero
unfoldable pub old_stamp : Sect (List ℕ)
old_stamp = told (λ v. v.0) (λ t. (t, tt)) (seq (ruled (fixed 17) (λ t. stamp_length (length t)) 5) λ t. lit 0 5)

-- the header of an untagged edition, 109 bytes where N has 4 and the label at most 80: edition, byte order, file type 1, an unused
-- byte, K, N, label, stamp. All its bytes must be there before anything else is judged
unfoldable pub old_header : ℕ → Order → ℕ → ℕ → Sect Head
old_header edition o n_width label_max =
    told (λ v. v.1.1.1.1) (λ h. (tt, (tt, (tt, (tt, h)))))
    (within (6 + (n_width + (suc label_max + 18)))
    (seq (lit edition 2) λ a.
    seq (lit (order_mark o) 5) λ b.
    seq (lit 1 5) λ c.
    seq (idle 1 1) λ d.
    seq (ruled (number o 2) k_rule 5) λ k.
    seq (ruled (number o n_width) (n_rule k) 5) λ n.
    seq (text (suc label_max) 5) λ l.
    old_stamp))

-- a length of w bytes with a rule, then that many bytes, none zero: 3 and 5 for the length, then 3 and 5 for the bytes
unfoldable pub counted : Order → ℕ → (ℕ → Bool) → Sect (List ℕ)
counted o w t =
    told (λ v. v.1) (λ l. (length l, l))
    (seq (within w (ruled (number o w) t 5)) λ n. within n (ruled (raw n) no_zero 5))

-- the header of a tagged edition from K on
unfoldable pub new_facts : Order → ℕ → ℕ → ℕ → Sect Head
new_facts o n_width label_length label_max =
    told (λ v. (v.0, (v.1.0, (v.1.1.0, v.1.1.1.0)))) (λ h. (h.0, (h.1.0, (h.1.1.0, (h.1.1.1, tt)))))
    (seq (between (opening true n_k) (closing true n_k) (within 2 (ruled (number o 2) k_rule 5))) λ k.
    seq (between (opening true n_n) (closing true n_n) (within n_width (ruled (number o n_width) (n_rule k) 5))) λ n.
    seq (between (opening true n_label) (closing true n_label) (counted o label_length (λ x. leb x label_max))) λ l.
    seq (between (opening true n_timestamp) (closing true n_timestamp) (counted o 1 stamp_length)) λ s.
    tag (closing true n_header) 4)

-- the header of a tagged edition: the tags of its start, the byte order, K, N, label, stamp, </header>
unfoldable pub new_header : ℕ → Order → ℕ → ℕ → ℕ → Sect Head
new_header edition o n_width label_length label_max =
    told (λ v. v.1.1) (λ h. (tt, (tt, h)))
    (seq (tag (tagged_start edition) 2) λ a.
    seq (between (opening true n_byteorder) (closing true n_byteorder) (tag (order_text o) 5)) λ b.
    new_facts o n_width label_length label_max)

-- the header of a tagged or an untagged edition
abbrev pub header_by : Bool → Edition → Order → Sect Head
header_by true e o = new_header e.number o e.n_width e.label_length e.label_max
header_by false e o = old_header e.number o e.n_width e.label_max

-- the header
abbrev pub header : Edition → Order → Sect Head
header e o = header_by e.tagged e o
