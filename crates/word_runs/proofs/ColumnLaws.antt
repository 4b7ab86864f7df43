-- The label words of a column, by a label set whose length is not told.
use mathlib.Core.Path.{◌≡◌, refl, sym, ap, subst, ◌∙◌}
use Prim.Native.Nat.{ℕ, ◌+◌, ◌≤◌}
use mathlib.Core.List.{List, []}
use mathlib.Core.Bool.{Bool, true, false, cond, false≢true}
use lib.ListN.{length}
use lib.IntN.{ℤ}
use Rattle.std.specs.Prelude.{Option, Some, None, Result, Ok, Err}
use Rattle.refusal.specs.declared.Refusal.{Refusal}
use Rattle.refusal.specs.declared.Refusal.TheVariants.{NotThere}
use Rattle.format.specs.Number.{Order, order_by}
use Rattle.format.specs.Dta.{Layout}
use Rattle.questions.specs.Ask.{in_range, place, start_of, answer_of, ask_table, ask_cell, ask_words}
use Rattle.answers.specs.declared.Part.{Part}
use Rattle.reading.specs.declared.Opened.{Opened}
use Rattle.reading.specs.Reads.{opened_by, edition_in}
use Rattle.reading.proofs.AnswerLaws.{answer_out}
use Rattle.cell.specs.declared.Cell.{Cell}
use Rattle.cells.specs.Cells.{said_by, row_in, RowRead, RowSaid}
use Rattle.cells.proofs.RowLaws.{can_read, said_in_lem, read_is}
use Rattle.codes.specs.Fields.{type_of}
use Rattle.editions.specs.Editions.{numbers_of}
use Rattle.format.specs.Edition.{n_data}
use Rattle.reading.proofs.PlaceLaws.{start_is}
use Rattle.cell_runs.specs.declared.Held.{Held}
use Rattle.cell_runs.specs.Held.{held}
use Rattle.cell_runs.proofs.HeldLaws.{held_is, held_open, held_unread}
use Rattle.walks.specs.declared.LabelSet.{LabelSet}
use Rattle.walks.specs.Answers.{words_by, set_by, lenless}
use Rattle.label_words.specs.Words.{said_in, cell_words}
use Rattle.label_words.proofs.WordLaws.{words_are, words_opened, words_refused, words_of, words_lent}
use Rattle.word_runs.specs.Words.{GapGiven}

-- what a value in a set says does not stand by the set's length
said_lenless : (o : Order) (f : List ℕ) (s : Result (Option LabelSet) Refusal) → said_in o f (lenless s) ≡ said_in o f s
said_lenless o f (Ok (Some s)) = refl
said_lenless o f (Ok None) = refl
said_lenless o f (Err e) = refl

module _ (f : List ℕ) (l : Layout) (i j : ℕ) where
  -- a cell that says something has a column
  pub said_held : (c : Cell) → Ok c ≡ said_by (answer_of f l (ask_cell i j)) → (d : Refusal) → Err d ≡ held f l i → ⊥
  said_held c C d D = go (in_range l (ask_cell i j)) refl
    where
      go : (b : Bool) → in_range l (ask_cell i j) ≡ b → ⊥
      go true e = false≢true (cc (held_unread f l i j e d D ∙ sym C))
      go false e = let k : Ok c ≡ Err NotThere = C ∙ ap said_by (answer_out f l (ask_cell i j) e) in false≢true (cc k)

  -- the words of a cell and of a set that are those of the layout, in an edition and a byte order that are read
  pub words_read : (q : Opened) → Some q ≡ opened_by (edition_in l.release l.order) → (x : Result Cell Refusal) → x ≡ said_by (answer_of f l (ask_cell i j))
      → (s : Result (Option LabelSet) Refusal) → lenless s ≡ lenless (set_by (answer_of f l (ask_table i)))
      → cell_words (said_in (order_by q.msf) f s) x ≡ words_by (answer_of f l (ask_words i j []))
  words_read q Q (Ok c) C s S =
      let o = order_by q.msf in
      let k = set_by (answer_of f l (ask_table i)) in
      let e : said_in o f s ≡ said_in o f k = sym (said_lenless o f s) ∙ ap (said_in o f) S ∙ said_lenless o f k in
      ap (λ (g : ℤ → Result (Option Part) Refusal). cell_words g (Ok c)) e ∙ words_are f l i j k refl c C q Q
  words_read q Q (Err d) D s S = words_refused f l i j _ refl d D

  -- .. where neither is read, by any set
  pub words_unread : None ≡ opened_by (edition_in l.release l.order) → (x : Result Cell Refusal) → x ≡ said_by (answer_of f l (ask_cell i j))
      → (g : ℤ → Result (Option Part) Refusal) → cell_words g x ≡ words_by (answer_of f l (ask_words i j []))
  words_unread n (Ok c) C g = absurd (words_opened f l i j _ refl c C n)
  words_unread n (Err d) D g = words_refused f l i j _ refl d D

  -- the answer itself, for every lent text
  pub words_by_lem : (q : Opened) → Some q ≡ opened_by (edition_in l.release l.order) → (x : Result Cell Refusal) → x ≡ said_by (answer_of f l (ask_cell i j))
      → (s : Result (Option LabelSet) Refusal) → lenless s ≡ lenless (set_by (answer_of f l (ask_table i)))
      → (t : List ℕ) → words_of t (cell_words (said_in (order_by q.msf) f s) x) ≡ answer_of f l (ask_words i j t)
  words_by_lem q Q x X s S = words_lent f l i j _ (words_read q Q x X s S)

  -- by the column that is held
  pub words_all : (x : Result Cell Refusal) → x ≡ said_by (answer_of f l (ask_cell i j)) → (h : Held) → Ok h ≡ held f l i
      → (s : Result (Option LabelSet) Refusal) → lenless s ≡ lenless (set_by (answer_of f l (ask_table i))) → cell_words (said_in (order_by h.o.msf) f s) x ≡ words_by (answer_of f l (ask_words i j []))
  words_all x X h H = words_read h.o (held_open f l i h H) x X

-- a cell by its row
module _ (f : List ℕ) (l : Layout) (i j : ℕ) (h : Held) (r : Result Held Refusal) (e : Ok h ≡ r) (E : r ≡ held f l i) (g : ℕ) (G : GapGiven r g)
    (x : Result ℕ Refusal) (X : x ≡ row_in f (Ok h.c.row) j l.rows (place l 9 + g)) where
  H : Ok h ≡ held f l i
  H = e ∙ E

  gap : g ≡ cond h.o.e.tagged 6 0
  gap = subst (λ (y : Result Held Refusal). GapGiven y g) (sym e) G

  row_given : x ≡ row_in f (Ok h.c.row) j l.rows (start_of h.o.e.tagged l 9 n_data)
  row_given = X ∙ ap (row_in f (Ok h.c.row) j l.rows) (start_is h.o.e.tagged n_data 6 (place l 9) g refl gap)

  pub row_reads : RowRead f x h.c.field.kind h.c.field.width (numbers_of h.o.e).v_width (numbers_of h.o.e).o_width
  row_reads = can_read f l i j h.o (read_is (held_open f l i h H)) (Ok h.c) (held_is f l i h H).1 h.c refl x row_given

  pub row_says : length f ≤ 18446744073709551615 → (c : Result Cell Refusal)
      → RowSaid (numbers_of h.o.e).v_width (numbers_of h.o.e).o_width (order_by h.o.msf) f x (type_of h.c.field.kind h.c.field.width) h.c.offset c → c ≡ said_by (answer_of f l (ask_cell i j))
  row_says n c C = said_in_lem f l i j h.o (read_is (held_open f l i h H)) (Ok h.c) (held_is f l i h H).1 h.c refl x row_given n c C
