-- The header of a tagged edition, part by part.
use mathlib.Core.Path.{◌≡◌, refl, sym, ap, ◌∙◌, subst}
use Prim.Native.Nat.{ℕ, ◌+◌, ◌≤◌}
use native.Mathlib.Omega.{arith}
use mathlib.Core.List.{List}
use mathlib.Core.Bool.{Bool, true, false, ◌&&◌}
use lib.ListN.{length}
use lib.Dec.{eqb, leb}
use borrow.Author.Tests.{eqb-true, eqb-false, le-leb, lt-leb}
use Rattle.std.specs.Prelude.{Result, Ok, Err}
use Rattle.std.proofs.lemmas.Result.{IfOk-weaker}
use Rattle.refusal.specs.declared.Refusal.{Refusal}
use Rattle.format.specs.Number.{Order, num}
use Rattle.format.specs.Grammar.{Sect, also, unless, need, next, number, within, ruled, seq, tag, between, same_at}
use Rattle.format.specs.Edition.{opening, closing, start_by, tagged_start, order_text, n_byteorder, n_k, n_n}
use Rattle.format.specs.Header as Format
use Rattle.format.specs.Header.{n_rule, new_facts, new_header}
use Rattle.format.proofs.Good.{also_right, also_left, unless_true}
use Rattle.format.proofs.StepLaws.{between_judge, between_read, between_next}
use Rattle.section.specs.Judged.{Judged}
use Rattle.section.proofs.StepLaws.{need_there}
use Rattle.section.proofs.SeqLaws.{seq_refused, seq_on}
use Rattle.header.specs.declared.Rule.{Rule}
use Rattle.header.specs.declared.Rule.TheVariants.{Most}
use Rattle.header.specs.Rules.{holds, rows_max, held, new_texts}
use Rattle.header.specs.Numbers.{Valued}
use Rattle.header.specs.Heads.{Begun, Headed}
use Rattle.header.proofs.NumberLaws.{refused_value, judged_value}
use Rattle.editions.specs.declared.Edition.{Edition}

-- ---- answers of a whole header

pub head_refused : {S : Sect Format.Head} {f : List ℕ} {e : Refusal} → Judged S f 0 (Err e) → Headed S f (Err e)
head_refused j = record { code = j.code; says = tt }

pub head_right : {S : Sect Format.Head} {f : List ℕ} {at : ℕ} → Judged S f 0 (Ok at) → (k n : ℕ) → k ≡ (S.read f 0).0 → n ≡ (S.read f 0).1.0 → k ≤ 32767
    → n ≤ 2147483647 → Headed S f (Ok (record { at = at; k = k; n = n }))
head_right j k n e g a b = record { code = j.code; says = record { ends = j.ends; inside = j.inside; count = e; rows = g; few = a; bounded = b } }

-- ---- N's rule as a greatest number

pub rows_rule : (k n : ℕ) → leb n (rows_max k) ≡ n_rule k n
rows_rule k n = go (eqb k 0) refl (eqb n 0) refl
  where
    and-false : (x : Bool) → (x && false) ≡ false
    and-false true = refl
    and-false false = refl

    and-true : (x : Bool) → (x && true) ≡ x
    and-true true = refl
    and-true false = refl

    go : (a : Bool) → eqb k 0 ≡ a → (b : Bool) → eqb n 0 ≡ b → leb n (rows_max k) ≡ n_rule k n
    go true h true i =
        let e : n ≡ 0 = eqb-true n 0 i in
        rw (h, i, le-leb n 0 (omega arith), le-leb n 2147483647 (omega arith))
    go true h false i =
        let e : n ≡ 0 → ⊥ = eqb-false n 0 i in
        rw (h, i, lt-leb n 0 (omega arith)) (sym (and-false (leb n 2147483647)))
    go false h b i = rw h (sym (and-true (leb n 2147483647)))

pub rows_few : (k n : ℕ) → n ≤ rows_max k → n ≤ 2147483647
rows_few k n h = go (eqb k 0) refl
  where
    go : (a : Bool) → eqb k 0 ≡ a → n ≤ 2147483647
    go true e = let b : n ≤ 0 = rw e at h in omega arith
    go false e = rw e at h

-- ---- a number between tags

-- one rule for another that says the same
rule_by : (l r : List ℕ) (f : List ℕ) (p : ℕ) {A : Type 0} (w : ℕ) (S : Sect A) (t u : A → Bool) → ((x : A) → t x ≡ u x) → {s : Result ℕ Refusal}
    → Judged (between l r (within w (ruled S t 5))) f p s → Judged (between l r (within w (ruled S u 5))) f p s
rule_by l r f p w S t u h {s} j =
    record {
      code = j.code ∙ between_judge l r (within w (ruled S t 5)) f p ∙ rw (h (S.read f (p + length l))) (sym (between_judge l r (within w (ruled S u 5)) f p));
      ends = IfOk-weaker s _ _ (λ q z. z ∙ between_next l r (within w (ruled S t 5)) f p ∙ sym (between_next l r (within w (ruled S u 5)) f p)) j.ends;
      inside = j.inside;
    }

-- one that is right: it is in the file, and keeps to its rule
module _ (l r : List ℕ) (f : List ℕ) (p : ℕ) (o : Order) (w : ℕ) (t : Rule) {b n : ℕ} (v : Valued (between l r (held o w t)) f p (Ok (b, n))) where
  pub part_room : p + length l + w ≤ length f
  part_room = omega (arith, v.inside, v.ends, between_next l r (held o w t) f p)

  pub part_rule : holds t (num o w f (p + length l)) ≡ true
  part_rule =
      let q = p + length l in
      let u = unless (holds t (num o w f q)) 5 in
      let x = (tag r 4).judge f (next (held o w t) f q) in
      let all : also ((tag l 4).judge f p) (also (also (need w f q) u) x) ≡ 0 = sym (between_judge l r (held o w t) f p) ∙ sym v.code in
      unless_true (holds t (num o w f q)) 5 (omega arith)
      (also_right (need w f q) u (also_left (also (need w f q) u) x (also_right ((tag l 4).judge f p) (also (also (need w f q) u) x) all)))

-- ---- the header

abbrev order_part : Order → Sect (Unit {0})
order_part o = between (opening true n_byteorder) (closing true n_byteorder) (tag (order_text o) 5)

abbrev k_part : Order → Sect ℕ
k_part o = between (opening true n_k) (closing true n_k) (held o 2 (Most 32767))

abbrev n_part : Order → ℕ → (ℕ → Bool) → Sect ℕ
n_part o w t = between (opening true n_n) (closing true n_n) (within w (ruled (number o w) t 5))

abbrev head : Edition → Order → Sect Format.Head
head e o = new_header e.number o e.n_width e.label_length e.label_max

-- what follows the byte order, and what follows K
abbrev facts : Edition → Order → Sect Format.Head
facts e o = new_facts o e.n_width e.label_length e.label_max

abbrev texts : Edition → Order → Sect (List ℕ × (List ℕ × Unit {0}))
texts e o = new_texts o e.label_length e.label_max

abbrev from_n : Edition → Order → ℕ → Sect (ℕ × (List ℕ × (List ℕ × Unit {0})))
from_n e o k = seq (n_part o e.n_width (n_rule k)) λ n. texts e o

-- how a file of a tagged edition begins
module _ (f : List ℕ) (e : Edition) (b : Begun f e) (t : e.tagged ≡ true) where
  pub tagged_room : 41 ≤ length f
  tagged_room = subst (λ (x : Bool). length (start_by x e.number) ≤ length f) t b.room

  start_judged : Judged (tag (tagged_start e.number) 2) f 0 (Ok 41)
  unfolding tag
  start_judged =
      let same : same_at (tagged_start e.number) f 0 ≡ true = subst (λ (x : Bool). same_at (start_by x e.number) f 0 ≡ true) t b.starts in
      record { code = rw (need_there 41 f 0 (omega (arith, tagged_room)), same); ends = refl; inside = tagged_room }

-- the header's sections, with what they say told in another way or not
facts_by : (e : Edition) (o : Order) (f : List ℕ) (p : ℕ) {r : Result ℕ Refusal} → Judged (seq (k_part o) (from_n e o)) f p r → Judged (facts e o) f p r
unfolding new_facts new_texts
facts_by e o f p j = record { code = j.code; ends = j.ends; inside = j.inside }

head_by : (e : Edition) (o : Order) (f : List ℕ) {r : Result ℕ Refusal} → Judged (seq (tag (tagged_start e.number) 2) λ a. seq (order_part o) λ b. facts e o) f 0 r
    → Judged (head e o) f 0 r
unfolding new_header
head_by e o f j = record { code = j.code; ends = j.ends; inside = j.inside }

k_says : (e : Edition) (o : Order) (f : List ℕ) → ((head e o).read f 0).0 ≡ (k_part o).read f (next (order_part o) f 41)
unfolding new_header new_facts tag
k_says e o f = refl

n_says : (e : Edition) (o : Order) (f : List ℕ) → ((head e o).read f 0).1.0
    ≡ (n_part o e.n_width (n_rule ((k_part o).read f (next (order_part o) f 41)))).read f (next (k_part o) f (next (order_part o) f 41))
unfolding new_header new_facts tag
n_says e o f = refl

-- the first part is refused, or right, as the ones after it
module _ (e : Edition) (o : Order) (f : List ℕ) (begun : Begun f e) (tagged : e.tagged ≡ true) where
  past_start : {s : Result ℕ Refusal} → Judged (seq (order_part o) λ b. facts e o) f 41 s → Judged (head e o) f 0 s
  past_start {s} j = head_by e o f (seq_on (tag (tagged_start e.number) 2) (λ a. seq (order_part o) λ b. facts e o) f 0 41 (start_judged f e begun tagged) s j)

  pub order_refused : {x : Refusal} → Judged (order_part o) f 41 (Err x) → Headed (head e o) f (Err x)
  order_refused {x} j = head_refused (past_start (seq_refused (order_part o) (λ b. facts e o) f 41 x j))

  module _ {a : ℕ} (order : Judged (order_part o) f 41 (Ok a)) where
    past_order : {s : Result ℕ Refusal} → Judged (seq (k_part o) (from_n e o)) f a s → Judged (head e o) f 0 s
    past_order {s} j = past_start (seq_on (order_part o) (λ b. facts e o) f 41 a order s (facts_by e o f a j))

    pub k_refused : {x : Refusal} → Valued (k_part o) f a (Err x) → Headed (head e o) f (Err x)
    k_refused {x} v = head_refused (past_order (seq_refused (k_part o) (from_n e o) f a x (refused_value v)))

    module _ {b k : ℕ} (count : Valued (k_part o) f a (Ok (b, k))) where
      pub k_room : a + 3 + 2 ≤ length f
      k_room = part_room (opening true n_k) (closing true n_k) f a o 2 (Most 32767) count

      -- the greatest N in place of its rule
      ruled_rows : {s : Result ℕ Refusal} → Judged (n_part o e.n_width (holds (Most (rows_max k)))) f b s → Judged (n_part o e.n_width (n_rule ((k_part o).read f a))) f b s
      ruled_rows {s} j =
          subst (λ (y : ℕ). Judged (n_part o e.n_width (n_rule y)) f b s) count.is
          (rule_by (opening true n_n) (closing true n_n) f b e.n_width (number o e.n_width) (holds (Most (rows_max k))) (n_rule k) (rows_rule k) j)

      past_k : {s : Result ℕ Refusal} → Judged (from_n e o ((k_part o).read f a)) f b s → Judged (head e o) f 0 s
      past_k {s} j = past_order (seq_on (k_part o) (from_n e o) f a b (judged_value count) s j)

      pub n_refused : {x : Refusal} → Valued (n_part o e.n_width (holds (Most (rows_max k)))) f b (Err x) → Headed (head e o) f (Err x)
      n_refused {x} v =
          head_refused (past_k (seq_refused (n_part o e.n_width (n_rule ((k_part o).read f a))) (λ n. texts e o) f b x (ruled_rows (refused_value v))))

      module _ {c n : ℕ} (rows : Valued (n_part o e.n_width (holds (Most (rows_max k)))) f b (Ok (c, n))) where
        pub n_room : b + 3 + e.n_width ≤ length f
        n_room = part_room (opening true n_n) (closing true n_n) f b o e.n_width (Most (rows_max k)) rows

        past_n : {s : Result ℕ Refusal} → Judged (texts e o) f c s → Judged (head e o) f 0 s
        past_n {s} j = past_k (seq_on (n_part o e.n_width (n_rule ((k_part o).read f a))) (λ n. texts e o) f b c (ruled_rows (judged_value rows)) s j)

        pub texts_refused : {x : Refusal} → Judged (texts e o) f c (Err x) → Headed (head e o) f (Err x)
        texts_refused j = head_refused (past_n j)

        pub new_right : k ≤ 32767 → n ≤ rows_max k → {d : ℕ} → Judged (texts e o) f c (Ok d) → Headed (head e o) f (Ok (record { at = d; k = k; n = n }))
        new_right x y j =
            head_right (past_n j) k n (count.is ∙ ap (λ (p : ℕ). (k_part o).read f p) order.ends ∙ sym (k_says e o f)) read x (rows_few k n y)
          where
            g : b ≡ next (k_part o) f (next (order_part o) f 41)
            g = count.ends ∙ ap (λ (y : ℕ). next (k_part o) f y) order.ends

            read : n ≡ ((head e o).read f 0).1.0
            read =
                let q = next (order_part o) f 41 in
                rows.is ∙ between_read (opening true n_n) (closing true n_n) (within e.n_width (ruled (number o e.n_width) (holds (Most (rows_max k))) 5)) f b
                ∙ ap (λ (y : ℕ). (number o e.n_width).read f (y + 3)) g
                ∙ sym (between_read (opening true n_n) (closing true n_n) (within e.n_width (ruled (number o e.n_width) (n_rule ((k_part o).read f q)) 5)) f (next (k_part o) f q))
                ∙ sym (n_says e o f)
