-- A label block that stands at a place, and label blocks one after another, told as numbers.
use mathlib.Core.Path.{◌≡◌, refl, sym, ap, ◌∙◌, subst}
use Prim.Native.Nat.{ℕ, ◌+◌, ◌*◌, ◌≤◌, ◌<◌}
use native.Mathlib.Omega.{arith}
use mathlib.Core.List.{List, [], ◌∷◌}
use mathlib.Core.Bool.{Bool, true, false, cond}
use lib.ListN.{length}
use Rattle.format.specs.Number.{Order, num}
use Rattle.format.specs.Grammar.{number, text_at, tag, sizes}
use Rattle.format.specs.Edition.{opening, closing, n_lbl}
use Rattle.format.specs.Variables.{name}
use Rattle.format.specs.Labels.{Table, table, table_head, table_body, LabelBlock, block_head, block}
use Rattle.format.proofs.LabelLaws.{block_good, block_some}
use Rattle.writing.specs.Writes.{Puts}
use Rattle.write_tables.specs.Tables.{TableAt, TableRoom}
use Rattle.write_labels.specs.Blocks.{BlockAt}
use Rattle.write_labels.proofs.BlockLaws.{BlockRead, block_read, block_size, block_even}
use Rattle.long_list.proofs.TellLaws.{Teller, TellCounted, next_of, next_room, counted_on}
use Rattle.set_list.specs.declared.Block.{Block}
use Rattle.set_list.specs.Sets.{table_place, set_numbers, block_numbers, sets_from}
use Rattle.set_list.specs.Reads.{PutsOf, BlockHere, Says, ReadsBlock}
use Rattle.set_list.proofs.EntryLaws.{puts_as, entries_long}

-- ---- one block

-- the bytes of its tags
pub open_long : (t : Bool) {s : ℕ} → s ≡ cond t 5 0 → s ≡ length (opening t n_lbl)
open_long true e = e
open_long false e = e

pub close_long : (t : Bool) {s : ℕ} → s ≡ cond t 6 0 → s ≡ length (closing t n_lbl)
close_long true e = e
close_long false e = e

module _ {t : Bool} {o : Order} {w : ℕ} {f : List ℕ} {p : ℕ} (B : BlockHere t o w f p) {s : ℕ} (S : s ≡ length (opening t n_lbl)) where
  -- its table starts in the file
  pub here_starts : p + s + (4 + (w + 3)) + 8 ≤ length f
  here_starts = omega (arith, (block_read t o w f p B.this B.stands s S).inside)

  module _ {n x : ℕ} (N : n ≡ num o 4 f (p + s + (4 + (w + 3)))) (X : x ≡ num o 4 f (p + s + (4 + (w + 3)) + 4)) where
    -- it ends there
    pub here_ends : p + s + (4 + (w + 3)) + (8 + (8 * n + x)) + length (closing t n_lbl) ≤ length f
    here_ends = let R = block_read t o w f p B.this B.stands s S in omega (arith, R.inside, R.numbered, R.texted, N, X)

    pub here_reads : {k : ℕ} → k ≡ length (closing t n_lbl)
        → ReadsBlock t o w f p (record { name = p + s + 4; table = p + s + (4 + (w + 3)); entries = n; chars = x; next = p + s + (4 + (w + 3)) + (8 + (8 * n + x)) + k })
    here_reads K =
        record {
          all = λ b A.
              (let R = block_read t o w f p b A s S in
              record {
                name = ap (λ (y : ℕ). p + y + 4) S;
                table = ap (λ (y : ℕ). p + y + (4 + (w + 3))) S;
                entries = N ∙ R.numbered;
                chars = X ∙ R.texted;
                next = omega (arith, S, K, R.numbered, R.texted, N, X, block_size t o w b (block_even t o w b A.right));
              });
        }

-- ---- blocks one after another

numbers_size : (o : Order) (l : List ℕ) → sizes (number o 4) l ≡ length l * 4
numbers_size o [] = refl
numbers_size o (x ∷ l) = omega (arith, numbers_size o l)

-- a block is no more numbers than bytes
pub block_small : (t : Bool) (o : Order) (w p : ℕ) (b : LabelBlock) → length (block_numbers t w p b) ≤ (block t o w).size b
unfolding block block_head name table table_head table_body tag
block_small t o w p b =
    omega (arith, entries_long b.entries (table_place t w p + 8 + length b.entries.offsets * 4 + length b.entries.offsets * 4) (length b.entries.offsets), numbers_size o b.entries.offsets)

abbrev pub set_teller : Bool → Order → ℕ → Teller LabelBlock
set_teller t o w =
    record {
      E = block t o w;
      G = block_good t o w;
      some = block_some t o w;
      F = sets_from t o w;
      N = block_numbers t w;
      none = λ p. refl;
      more = λ p b l. refl;
      small = block_small t o w;
    }

module _ {t : Bool} {o : Order} {w : ℕ} {f : List ℕ} {p q m at n : ℕ} (h : TellCounted (set_teller t o w) f p q m at n) (b : at < q) where
  stands : BlockAt t o w f at (next_of h b).first
  stands = record { right = (next_of h b).right; fits = (next_of h b).fits }

  -- a block is next
  pub next_here : BlockHere t o w f at
  next_here = record { this = (next_of h b).first; stands = stands }

  -- as code reads it
  module _ {r : Block} (R : ReadsBlock t o w f at r) where
    says : Says t o w f at r (next_of h b).first
    says = R.all (next_of h b).first stands

    read : BlockRead t o w f at (length (opening t n_lbl)) (next_of h b).first
    read = block_read t o w f at (next_of h b).first stands (length (opening t n_lbl)) refl

    pub next_long_lem : 3 + r.entries * 3 ≡ length (block_numbers t w at (next_of h b).first)
    next_long_lem =
        let k = length (next_of h b).first.entries.offsets in
        omega (arith, says.entries, entries_long (next_of h b).first.entries (table_place t w at + 8 + k * 4 + k * 4) k)

    pub next_fits : n + (3 + r.entries * 3) ≤ m
    next_fits = omega (arith, next_long_lem, next_room h b)

    pub next_far : r.next ≡ at + (block t o w).size (next_of h b).first
    next_far = says.next

    pub next_on : at < r.next
    next_on = omega (arith, says.next, block_some t o w (next_of h b).first)

    pub next_counted : TellCounted (set_teller t o w) f p q m r.next (n + (3 + r.entries * 3))
    next_counted = counted_on h b r.next (3 + r.entries * 3) says.next next_long_lem

    table_here : TableAt o f r.table r.entries r.chars (next_of h b).first.entries
    table_here = subst (λ (y : ℕ). TableAt o f y r.entries r.chars (next_of h b).first.entries) (sym says.table) (read.tabled r.entries r.chars says.entries says.chars)

    -- its table and its name are in the file
    pub next_table : TableRoom o f r.table r.entries r.chars (length f)
    next_table = record { this = (next_of h b).first.entries; stands = table_here; room = omega (arith, read.inside) }

    pub next_name : r.name + w ≤ length f
    next_name = omega (arith, read.inside, says.name)

    -- what is put for it
    pub next_puts : {d e : List ℕ} {k : ℕ}
        → PutsOf o f r.table r.entries r.chars (λ (u : Table). set_numbers r.name (length (text_at w f r.name)) r.table r.entries u) d e k
        → Puts (block_numbers t w at (next_of h b).first) d e k
    next_puts P =
        let long : length (text_at w f r.name) ≡ length (next_of h b).first.set_name = ap (λ (y : ℕ). length (text_at w f y)) says.name ∙ ap length read.called in
        puts_as (λ i. set_numbers (says.name i) (long i) (says.table i) (says.entries i) (next_of h b).first.entries) (P.all (next_of h b).first.entries table_here)
