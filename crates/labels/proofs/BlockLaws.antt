-- Laws of label blocks.
use mathlib.Core.Path.{◌≡◌, refl, sym, ◌∙◌, subst}
use Prim.Native.Nat.{ℕ, ◌+◌, ◌≤◌, ◌<◌}
use native.Mathlib.Omega.{arith}
use mathlib.Core.Bool.{Bool, true, false, not, ◌||◌}
use mathlib.Core.List.{List}
use lib.ListN.{length, get_or}
use lib.Dec.{eqb}
use borrow.Author.Tests.{eq-eqb, ne_eqb, eqb-true, ltb-true, lt-leb}
use Rattle.format.specs.Number.{Order, num}
use Rattle.format.specs.Grammar.{Sect, also, unless, next, text_at, seq, tag, done}
use Rattle.format.specs.Edition.{opening, closing, n_lbl, n_value_labels}
use Rattle.format.specs.Variables.{name}
use Rattle.format.specs.Labels.{Table, table, table_head, table_body, block_head, block, block_next, blocks}
use Rattle.format.proofs.Good.{need_fits, and_left}
use Rattle.std.specs.Prelude.{Result, Ok, Err}
use Rattle.refusal.specs.declared.Refusal.{Refusal}
use Rattle.refusal.specs.declared.Refusal.TheVariants.{CutShort, WrongText}
use Rattle.section.specs.Judged.{Judged}
use Rattle.section.proofs.FieldLaws.{field_judge}
use Rattle.section.proofs.StepLaws.{refused}
use Rattle.section.proofs.SeqLaws.{seq_on}
use Rattle.section.proofs.TagLaws.{byte_inside}
use Rattle.labels.specs.Parts.{block_walk}

-- the head of a block
module _ (o : Order) (w : ℕ) (f : List ℕ) (p : ℕ) where
  short : length f < p + (4 + (w + 3)) → 3 ≡ (block_head o w).judge f p
  unfolding block_head
  short h = rw (lt-leb (p + (4 + (w + 3))) (length f) h)

  pub head_short : length f < p + (4 + (w + 3)) → Judged (block_head o w) f p (Err CutShort)
  head_short h = refused (block_head o w) f p CutShort (short h)

  pub head_size : next (block_head o w) f p ≡ p + (4 + (w + 3))
  unfolding block_head name
  head_size = refl

  module _ (h : p + (4 + (w + 3)) ≤ length f) (n : ℕ) (e : n ≡ length (text_at w f (p + 4))) (b : n ≤ w) where
    head_judge : (block_head o w).judge f p ≡ also ((name w).judge f (p + 4)) 0
    unfolding block_head
    head_judge = rw (need_fits (4 + (w + 3)) f p h)

    named : (name w).judge f (p + 4) ≡ unless (not (eqb n w || eqb n 0)) 7
    named = field_judge true w f (p + 4) n e b

    pub head_full : n ≡ w → Judged (block_head o w) f p (Err WrongText)
    head_full q = refused (block_head o w) f p WrongText (sym (head_judge ∙ rw (named, eq-eqb n w q)))

    pub head_empty : (n ≡ w → ⊥) → n ≡ 0 → Judged (block_head o w) f p (Err WrongText)
    head_empty u q = refused (block_head o w) f p WrongText (sym (head_judge ∙ rw (named, ne_eqb n w u, eq-eqb n 0 q)))

    pub head_passed : (n ≡ w → ⊥) → (n ≡ 0 → ⊥) → Judged (block_head o w) f p (Ok (p + (4 + (w + 3))))
    head_passed u q = record { code = sym (head_judge ∙ rw (named, ne_eqb n w u, ne_eqb n 0 q)); ends = sym head_size; inside = h }

  pub head_room : {q : ℕ} → Judged (block_head o w) f p (Ok q) → p + (4 + (w + 3)) ≤ length f
  head_room J = omega (arith, J.inside, J.ends, head_size)

  pub head_says : ((block_head o w).read f p).0 ≡ num o 4 f p
  unfolding block_head
  head_says = refl

-- a block: what follows each of its parts
module _ (t : Bool) (o : Order) (w : ℕ) where
  abbrev pub from_table : ℕ → Sect (Table × Unit {0})
  from_table n = seq (table o n) λ b. tag (closing t n_lbl) 4

  abbrev pub from_head : Sect ((ℕ × (List ℕ × Unit {0})) × (Table × Unit {0}))
  from_head = seq (block_head o w) λ h. from_table h.0

  module _ (f : List ℕ) (p : ℕ) where
    pub block_told : (r : Result ℕ Refusal) → Judged (seq (tag (opening t n_lbl) 4) λ a. from_head) f p r → Judged (block t o w) f p r
    unfolding block block_head name table table_head table_body tag
    block_told r j = record { code = j.code; ends = j.ends; inside = j.inside }

    -- the head is right: the table of the length that it says decides, and what follows it
    pub head_on : {h : ℕ} → Judged (block_head o w) f p (Ok h) → (n : ℕ) → n ≡ num o 4 f p → (r : Result ℕ Refusal) → Judged (from_table n) f h r → Judged from_head f p r
    head_on {h} j n e r k =
        seq_on (block_head o w) (λ x. from_table x.0) f p h j r (subst (λ (x : ℕ). Judged (from_table x) f h r) (e ∙ sym (head_says o w f p)) k)

    pub list_told : (r : Result ℕ Refusal) → Judged (seq (tag (opening t n_value_labels) 4) λ a. block_walk t o w) f p r → Judged (blocks t o w (done 13)) f p r
    unfolding blocks tag
    list_told r j = record { code = j.code; ends = j.ends; inside = j.inside }

-- a block that is next is in the file
pub next_inside : (t : Bool) (f : List ℕ) (p : ℕ) → block_next t f p ≡ true → p < length f
next_inside true f p h = byte_inside 60 f p (eqb-true (get_or f p 0) 60 (and_left (eqb (get_or f p 0) 60) _ h)) (λ y. (let z : ◌≡◌ {A = ℕ} 60 0 = y in omega arith))
next_inside false f p h = ltb-true p (length f) h
