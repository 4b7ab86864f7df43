-- Number 5: byte order, file type, K, N, dataset label or stamp breaks its rule.
use Rattle.std.specs.Prelude.{◌≡◌, ℕ, suc, ◌+◌, ◌≤◌, ◌<◌, List, ◌⊎◌, Bool, true, false, ◌&&◌, length, get_or, eqb, leb, ltb}
use Rattle.format.specs.Number.{Order, num}
use Rattle.format.specs.Grammar.{Sect, next, within, number, ruled, text_at, same_at, tag, between}
use Rattle.format.specs.Edition.{Edition, opening, closing, tagged_start, order_mark, order_text, n_byteorder, n_k, n_n, n_label, n_timestamp}
use Rattle.format.specs.Header.{k_rule, n_rule, stamp_length, counted}
use Rattle.demands.specs.Places.{Met, BeforeHeader}
use Rattle.demands.specs.Reasons.{Opened}

-- a text after its length, a number of w bytes, between tags: the length breaks its rule, or that many bytes are there and one is zero
pub record CountedBroken (l : List ℕ) (o : Order) (w : ℕ) (rule : ℕ → Bool) (f : List ℕ) (p : ℕ) : Type 0 where
  pub opened : Opened l w f p
  pub broken : let q = p + length l in
      let n = num o w f q in
      (rule n ≡ false) ⊎ ((q + w + n ≤ length f) × ((i : ℕ) × (i < n) × (get_or f (q + w + i) 0 ≡ 0)))

module _ (e : Edition) (o : Order) (f : List ℕ) where
  -- ---- 113, 114 and 115

  -- the header's rules: byte order, file type 1, K, N, a label with a zero, a stamp that is empty or 17 bytes, and a zero. (o is LSF where the byte
  -- is not MSF's, so the first rule is broken by all bytes but these two)
  abbrev pub old_rules : Bool
  old_rules =
      let label = 6 + e.n_width in
      let stamp = label + suc e.label_max in
      eqb (get_or f 1 0) (order_mark o)
      && (eqb (get_or f 2 0) 1
      && (k_rule (num o 2 f 4)
      && (n_rule (num o 2 f 4) (num o e.n_width f 6)
      && (ltb (length (text_at (suc e.label_max) f label)) (suc e.label_max)
      && (stamp_length (length (text_at 17 f stamp)) && eqb (get_or f (stamp + 17) 0) 0)))))

  -- ---- 117 and 118: the parts of the header, each between its tags, where they start, and those before them

  abbrev pub order_part : Sect (Unit {0})
  order_part = between (opening true n_byteorder) (closing true n_byteorder) (tag (order_text o) 5)

  abbrev pub k_part : Sect ℕ
  k_part = between (opening true n_k) (closing true n_k) (within 2 (ruled (number o 2) k_rule 5))

  abbrev pub n_part : ℕ → Sect ℕ
  n_part k = between (opening true n_n) (closing true n_n) (within e.n_width (ruled (number o e.n_width) (n_rule k) 5))

  abbrev pub label_part : Sect (List ℕ)
  label_part = between (opening true n_label) (closing true n_label) (counted o e.label_length (λ x. leb x e.label_max))

  unfoldable pub order_at : ℕ
  order_at = next (tag (tagged_start e.number) 2) f 0

  unfoldable pub k_at : ℕ
  k_at = next order_part f order_at

  unfoldable pub n_at : ℕ
  n_at = next k_part f k_at

  unfoldable pub label_at : ℕ
  label_at = next (n_part (k_part.read f k_at)) f n_at

  unfoldable pub stamp_at : ℕ
  stamp_at = next label_part f label_at

  abbrev pub BeforeOrder : Type 0
  BeforeOrder = BeforeHeader e o f × (e.tagged ≡ true)

  abbrev pub BeforeK : Type 0
  BeforeK = BeforeOrder × Met order_part f order_at

  abbrev pub BeforeN : Type 0
  BeforeN = BeforeK × Met k_part f k_at

  abbrev pub BeforeLabel : Type 0
  BeforeLabel = BeforeN × Met (n_part (k_part.read f k_at)) f n_at

  abbrev pub BeforeStamp : Type 0
  BeforeStamp = BeforeLabel × Met label_part f label_at

  -- ---- 5

  pub data HeaderBroken : Type 0 where
    -- 113, 114 and 115: all bytes of the header are there, 109
    in_old : BeforeHeader e o f → e.tagged ≡ false → 6 + (e.n_width + (suc e.label_max + 18)) ≤ length f → old_rules ≡ false → HeaderBroken
    -- 117 and 118: neither MSF nor LSF (o is LSF where it is not MSF)
    in_order : BeforeOrder → Opened (opening true n_byteorder) (length (order_text o)) f order_at → same_at (order_text o) f (order_at + length (opening true n_byteorder)) ≡ false → HeaderBroken
    in_k : BeforeK → Opened (opening true n_k) 2 f k_at → k_rule (num o 2 f (k_at + length (opening true n_k))) ≡ false → HeaderBroken
    in_n : BeforeN → Opened (opening true n_n) e.n_width f n_at
        → n_rule (num o 2 f (k_at + length (opening true n_k))) (num o e.n_width f (n_at + length (opening true n_n))) ≡ false → HeaderBroken
    in_label : BeforeLabel → CountedBroken (opening true n_label) o e.label_length (λ x. leb x e.label_max) f label_at → HeaderBroken
    in_stamp : BeforeStamp → CountedBroken (opening true n_timestamp) o 1 stamp_length f stamp_at → HeaderBroken
