-- The header of an untagged edition, part by part.
use mathlib.Core.Path.{◌≡◌, refl, sym, ◌∙◌, subst}
use Prim.Native.Nat.{ℕ, zero, suc, ◌+◌, ◌≤◌, ◌<◌}
use native.Mathlib.Omega.{arith}
use mathlib.Core.List.{List}
use mathlib.Core.Bool.{Bool, true, false}
use lib.ListN.{length, get_or}
use lib.Dec.{eqb}
use borrow.Author.Tests.{eqb-true, eq-eqb, ne_eqb, le-leb, lt-leb, le-ltb, lt-ltb}
use Rattle.std.specs.Prelude.{Ok, Err}
use Rattle.refusal.specs.declared.Refusal.{Refusal}
use Rattle.refusal.specs.declared.Refusal.TheVariants.{CutShort, WrongHeader}
use Rattle.refusal.specs.Refusals.{number_of}
use Rattle.format.specs.Number.{Order, num}
use Rattle.format.specs.Grammar.{Sect, also, unless, next, lit, text, seq, text_at, same_at}
use Rattle.format.specs.Edition.{start_by, order_mark}
use Rattle.format.specs.Header as Format
use Rattle.format.specs.Header.{k_rule, n_rule, stamp_length, old_stamp, old_header}
use Rattle.format.proofs.Good.{and_left}
use Rattle.editions.specs.declared.Edition.{Edition}
use Rattle.section.specs.Judged.{Judged}
use Rattle.section.proofs.StepLaws.{refused, need_short, need_there, some_number}
use Rattle.section.proofs.SeqLaws.{also_first}
use Rattle.header.specs.Rules.{rows_max}
use Rattle.header.specs.Heads.{Begun, Headed}
use Rattle.header.proofs.NewLaws.{head_refused, head_right, rows_rule, rows_few}

-- ---- the stamp

module _ (f : List ℕ) (q : ℕ) (n : ℕ) (e : n ≡ length (text_at 17 f q)) where
  stamp_judge : old_stamp.judge f q ≡ also (unless (stamp_length n) 5) (unless (eqb (get_or f (q + 17) 0) 0) 5)
  unfolding old_stamp
  stamp_judge = rw e

  pub stamp_right : true ≡ stamp_length n → get_or f (q + 17) 0 ≡ 0 → 0 ≡ old_stamp.judge f q
  stamp_right h z = sym (stamp_judge ∙ rw (sym h, eq-eqb (get_or f (q + 17) 0) 0 z))

  pub stamp_unended : true ≡ stamp_length n → (get_or f (q + 17) 0 ≡ 0 → ⊥) → 5 ≡ old_stamp.judge f q
  stamp_unended h z = sym (stamp_judge ∙ rw (sym h, ne_eqb (get_or f (q + 17) 0) 0 z))

  pub stamp_wrong : false ≡ stamp_length n → 5 ≡ old_stamp.judge f q
  stamp_wrong h = sym (stamp_judge ∙ rw (sym h))

-- ---- the header

abbrev head : Edition → Order → Sect Format.Head
head e o = old_header e.number o e.n_width e.label_max

abbrev marks : Order → Sect (Unit {0} × Unit {0})
marks o = seq (lit (order_mark o) 5) λ b. lit 1 5

-- its bytes, where the label has one more than the most
abbrev size : Edition → ℕ
size e = 6 + (e.n_width + (e.label_max + 1 + 18))

-- label and stamp
abbrev texts : Edition → Sect (List ℕ × List ℕ)
texts e = seq (text (e.label_max + 1) 5) λ l. old_stamp

-- a label without its zero, and with it
module _ (f : List ℕ) (q w n : ℕ) (e : n ≡ length (text_at w f q)) (b : n ≤ w) where
  pub label_full : n ≡ w → 5 ≡ (seq (text w 5) (λ l. old_stamp)).judge f q
  label_full h = rw (le-ltb (length (text_at w f q)) w (omega arith))

  pub label_ended : (n ≡ w → ⊥) → old_stamp.judge f (q + w) ≡ (seq (text w 5) (λ l. old_stamp)).judge f q
  label_ended h = rw (lt-ltb (length (text_at w f q)) w (omega arith))

-- the marks
module _ (f : List ℕ) (o : Order) where
  pub marks_right : get_or f 1 0 ≡ order_mark o → get_or f 2 0 ≡ 1 → 0 ≡ (marks o).judge f 1
  marks_right a b = rw (eq-eqb (get_or f 1 0) (order_mark o) a, eq-eqb (get_or f 2 0) 1 b)

  pub type_wrong : get_or f 1 0 ≡ order_mark o → (get_or f 2 0 ≡ 1 → ⊥) → 5 ≡ (marks o).judge f 1
  type_wrong a b = rw (eq-eqb (get_or f 1 0) (order_mark o) a, ne_eqb (get_or f 2 0) 1 b)

  pub order_wrong : (get_or f 1 0 ≡ order_mark o → ⊥) → 5 ≡ (marks o).judge f 1
  order_wrong a = rw (ne_eqb (get_or f 1 0) (order_mark o) a)

k_says : (e : Edition) (o : Order) (f : List ℕ) → ((head e o).read f 0).0 ≡ num o 2 f 4
unfolding old_header
k_says e o f = refl

n_says : (e : Edition) (o : Order) (f : List ℕ) → ((head e o).read f 0).1.0 ≡ num o e.n_width f 6
unfolding old_header
n_says e o f = refl

module _ (e : Edition) (o : Order) (f : List ℕ) (begun : Begun f e) (untagged : e.tagged ≡ false) where
  -- a refusal
  stopped : (x : Refusal) → number_of x ≡ (head e o).judge f 0 → Headed (head e o) f (Err x)
  stopped x h = head_refused (refused (head e o) f 0 x h)

  short : length f < size e → 3 ≡ (head e o).judge f 0
  unfolding old_header
  short h = rw (need_short (6 + (e.n_width + (suc e.label_max + 18))) f 0 (omega arith))

  pub old_short : length f < size e → Headed (head e o) f (Err CutShort)
  old_short h = stopped CutShort (short h)

  starts : get_or f 0 0 ≡ e.number
  starts =
      let h : same_at (start_by false e.number) f 0 ≡ true = subst (λ (x : Bool). same_at (start_by x e.number) f 0 ≡ true) untagged begun.starts in
      eqb-true (get_or f 0 0) e.number (and_left (eqb (get_or f 0 0) e.number) true h)

  ends : size e ≡ next (head e o) f 0
  unfolding old_header old_stamp
  ends = omega arith

  module _ (room : size e ≤ length f) where
    parts : (head e o).judge f 0
        ≡ also ((marks o).judge f 1)
        (also (unless (k_rule (num o 2 f 4)) 5) (also (unless (n_rule (num o 2 f 4) (num o e.n_width f 6)) 5) ((texts e).judge f (6 + e.n_width))))
    unfolding old_header
    parts =
        let s : e.label_max + 1 ≡ suc e.label_max = omega arith in
        rw (need_there (6 + (e.n_width + (suc e.label_max + 18))) f 0 (omega arith), eq-eqb (get_or f 0 0) e.number starts, s)
        (nested (unless (eqb (get_or f 1 0) (order_mark o)) 5) (unless (eqb (get_or f 2 0) 1) 5) _)
      where
        nested : (a b c : ℕ) → also a (also b c) ≡ also (also a b) c
        nested zero b c = refl
        nested (suc a) b c = refl

    pub marks_refused : {x : Refusal} → number_of x ≡ (marks o).judge f 1 → Headed (head e o) f (Err x)
    marks_refused {x} h = stopped x (also_first (number_of x) ((marks o).judge f 1) _ h (some_number x) ∙ sym parts)

    module _ (marked : 0 ≡ (marks o).judge f 1) (k n : ℕ) (count : k ≡ num o 2 f 4) (rows : n ≡ num o e.n_width f 6) where
      past_marks : (head e o).judge f 0 ≡ also (unless (k_rule k) 5) (also (unless (n_rule k n) 5) ((texts e).judge f (6 + e.n_width)))
      past_marks = parts ∙ rw (sym marked, count, rows)

      pub k_refused : 32767 < k → Headed (head e o) f (Err WrongHeader)
      k_refused b = stopped WrongHeader (sym (past_marks ∙ rw (lt-leb k 32767 b)))

      module _ (few : k ≤ 32767) where
        pub n_refused : rows_max k < n → Headed (head e o) f (Err WrongHeader)
        n_refused b = stopped WrongHeader (sym (past_marks ∙ rw (le-leb k 32767 few, sym (rows_rule k n), lt-leb n (rows_max k) b)))

        module _ (most : n ≤ rows_max k) where
          past_n : (head e o).judge f 0 ≡ (texts e).judge f (6 + e.n_width)
          past_n = past_marks ∙ rw (le-leb k 32767 few, sym (rows_rule k n), le-leb n (rows_max k) most)

          pub texts_refused : {x : Refusal} → number_of x ≡ (texts e).judge f (6 + e.n_width) → Headed (head e o) f (Err x)
          texts_refused {x} h = stopped x (h ∙ sym past_n)

          pub old_right : 0 ≡ (texts e).judge f (6 + e.n_width) → Headed (head e o) f (Ok (record { at = size e; k = k; n = n }))
          old_right h =
              let whole : Judged (head e o) f 0 (Ok (size e)) = record { code = h ∙ sym past_n; ends = ends; inside = room } in
              head_right whole k n (count ∙ sym (k_says e o f)) (rows ∙ sym (n_says e o f)) few (rows_few k n most)
