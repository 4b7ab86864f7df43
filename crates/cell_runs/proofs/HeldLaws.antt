-- A column with what its cells are read with.
use mathlib.Core.Path.{◌≡◌, refl, sym, ap, ◌∙◌}
use Prim.Native.Nat.{ℕ, ◌+◌, ◌*◌, ◌≤◌}
use native.Mathlib.Nat.{add-zero}
use native.Mathlib.Omega.{arith}
use mathlib.Core.List.{List}
use mathlib.Core.Bool.{true, false≢true}
use lib.ListN.{length}
use Rattle.std.specs.Prelude.{Some, Result, Ok, Err}
use Rattle.refusal.specs.declared.Refusal.{Refusal}
use Rattle.format.specs.Number.{order_by}
use Rattle.format.specs.Edition.{code_width, n_variable_types}
use Rattle.format.specs.Dta.{Layout}
use Rattle.editions.specs.Editions.{numbers_of}
use Rattle.data.specs.Places.{field_at}
use Rattle.questions.specs.Ask.{in_range, among, start_of, answer_of, ask_column, ask_cell}
use Rattle.reading.specs.declared.Opened.{Opened}
use Rattle.reading.specs.Reads.{opened_by, edition_in}
use Rattle.answers.specs.Answers.{opened_if}
use Rattle.answers.proofs.TellLaws.{is_read, tells_refused}
use Rattle.columns.specs.declared.Column.{Column}
use Rattle.columns.specs.Columns.{capped, column_by}
use Rattle.cells.specs.Cells.{said_by}
use Rattle.cells.proofs.CellLaws.{cell_unread}
use Rattle.cell_runs.specs.declared.Held.{Held}
use Rattle.cell_runs.specs.Held.{both, held}
use Rattle.asking.specs.Asking.{answer_by, by_cell}
use Rattle.asking.proofs.AskLaws.{cell_means}
use Rattle.coded.specs.Coded as Coded
use Rattle.cell_runs.specs.Next.{column_after}
use Rattle.cell_runs.proofs.NextLaws.{in_among, refused_as, code_inside, column_next}

both_is : (x : Result Opened Refusal) (y : Result Column Refusal) (h : Held) → Ok h ≡ both x y → (Ok h.o ≡ x) × (Ok h.c ≡ y)
both_is (Err d) y h H = absurd (false≢true (cc H))
both_is (Ok o) (Err d) h H = absurd (false≢true (cc H))
both_is (Ok o) (Ok c) h H = let z : h ≡ record { o = o; c = c } = cc H in (ap (λ (k : Held). Ok k.o) z, ap (λ (k : Held). Ok k.c) z)

both_out : {P : Type 0} (x : Result Opened Refusal) (y : Result Column Refusal) (d : Refusal) → Err d ≡ both x y
    → (Err d ≡ x → P) → ((o : Opened) → Ok o ≡ x → Err d ≡ y → P) → P
both_out (Err a) y d D p q = let z : d ≡ a = cc D in p (ap Err z)
both_out (Ok o) (Err a) d D p q = let z : d ≡ a = cc D in q o refl (ap Err z)
both_out (Ok o) (Ok c) d D p q = absurd (false≢true (cc D))

module _ (f : List ℕ) (l : Layout) (i : ℕ) where
  abbrev opens : Result Opened Refusal
  opens = opened_if true (edition_in l.release l.order)

  abbrev column : Result Column Refusal
  column = column_by (answer_of f l (ask_column i))

  pub held_is : (h : Held) → Ok h ≡ held f l i → (Ok h.o ≡ opens) × (Ok h.c ≡ column)
  held_is h H = both_is opens column h H

  -- the first of a row
  pub held_start : (h : Result Held Refusal) → h ≡ held f l i → h ≡ held f l (i + 0)
  held_start h H = H ∙ ap (held f l) (sym (add-zero i))

  -- what is opened is read
  pub held_open : (h : Held) → Ok h ≡ held f l i → Some h.o ≡ opened_by (edition_in l.release l.order)
  held_open h H = is_read h.o (opened_by (edition_in l.release l.order)) (held_is h H).0

  -- ---- a cell that is there
  module _ (j : ℕ) (e : in_range l (ask_cell i j) ≡ true) where
    pub opens_there : (x : Result Opened Refusal) → x ≡ opens → x ≡ opened_if (in_range l (ask_cell i j)) (edition_in l.release l.order)
    opens_there x X = rw e X

    -- a column that is refused is its cells' refusal
    pub held_unread : (d : Refusal) → Err d ≡ held f l i → Err d ≡ said_by (answer_of f l (ask_cell i j))
    held_unread d D =
        both_out opens column d D
        (λ a. tells_refused f l (ask_cell i j) said_by (λ n. refl) d (opens_there (Err d) a))
        (λ o O c. cell_unread f l i j o (opens_there (Ok o) O) d c)

  -- a refusal is that of all variables
  pub held_as : (k : ℕ) → among i l.variables ≡ true → among k l.variables ≡ true → (d : Refusal) → Err d ≡ held f l i → Err d ≡ held f l k
  held_as k a b d D =
      both_out opens column d D
      (λ x. ap (λ (y : Result Opened Refusal). both y (column_by (answer_of f l (ask_column k)))) x)
      (λ o O c. ap (λ (y : Result Column Refusal). both (Ok o) y) (refused_as f l i k a b d c) ∙ ap (λ (y : Result Opened Refusal). both y (column_by (answer_of f l (ask_column k)))) O)

  -- ---- the next column
  module _ (low : 1 ≤ i) (high : i + 1 ≤ l.variables) where
    here : among i l.variables ≡ true
    here = in_among i l.variables low (omega arith)

    there : among (i + 1) l.variables ≡ true
    there = in_among (i + 1) l.variables (omega arith) high

    -- a refusal stays
    pub held_stays : (d : Refusal) → Err d ≡ held f l i → Err d ≡ held f l (i + 1)
    held_stays = held_as (i + 1) here there

    module _ (h : Held) (H : Ok h ≡ held f l i) (n : length f ≤ 18446744073709551615) (p : ℕ) (P : p ≡ capped (start_of (numbers_of h.o.e).tagged l 2 n_variable_types)) where
      -- the type code of the next is in the file, and says its column
      pub held_inside : p + i * code_width (numbers_of h.o.e).tagged + code_width (numbers_of h.o.e).tagged ≤ length f
      held_inside = code_inside f l i h.o (held_open h H) here h.c (held_is h H).1 n p P i (omega arith)

      pub held_next : (c : Column) → c ≡ column_after (field_at (numbers_of h.o.e).tagged (order_by h.o.msf) f p i) h.c → Ok (record { o = h.o; c = c }) ≡ held f l (i + 1)
      held_next c C =
          let k = ap Ok C ∙ column_next f l i h.o (held_open h H) here h.c (held_is h H).1 n p P low high in
          ap (λ (y : Result Column Refusal). both (Ok h.o) y) k ∙ ap (λ (x : Result Opened Refusal). both x (column_by (answer_of f l (ask_column (i + 1))))) (held_is h H).0

-- what a refused column's cells say, as numbers
module _ (f : List ℕ) (l : Layout) (i j : ℕ) (a : among i l.variables ≡ true) (d : Refusal) (D : Err d ≡ held f l i) where
  pub refused_cell : (k x : ℕ) → among k l.variables ≡ true → among x l.rows ≡ true
      → Coded.numbers_of (answer_by (by_cell (Err d))) ≡ Coded.numbers_of (answer_of f l (ask_cell k x))
  refused_cell k x b c = ap Coded.numbers_of (cell_means f l k x (held_unread f l k x (rw (b, c)) d (held_as f l i k a b d D)))
