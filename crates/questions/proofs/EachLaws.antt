-- What holds of the refusals 16 and 17, and of each answer of the kind that a question has, holds of its answer.
use mathlib.Core.Path.{◌≡◌, refl, sym, subst}
use Prim.Native.Nat.{ℕ, zero, suc, ◌+◌, ◌-◌, ◌*◌}
use mathlib.Core.List.{List}
use mathlib.Core.Bool.{Bool, true, false, cond, ◌&&◌}
use lib.ListN.{length}
use lib.Dec.{eqb, leb, ltb}
use lib.IntN.{ℤ}
use Rattle.format.specs.Number.{Order}
use Rattle.format.specs.Edition.{Edition, edition, code_width, n_variable_types, n_varnames, n_sortlist, n_formats, n_value_label_names, n_variable_labels, n_strls}
use Rattle.format.specs.Variables.{VarType, byte_type}
use Rattle.format.specs.Cells.{Says, whole, single, double, letter, between, outside, words, reference, Key, nothing, seeks, key_of}
use Rattle.format.specs.Search.{Slot, found, missing, lost, search_at}
use Rattle.format.specs.Dta.{Layout}
use Rattle.questions.specs.Readings.{Try, none, got, bind, test, room, number_in, text_in}
use Rattle.questions.specs.Ask.{Question, ask_edition, ask_order, ask_k, ask_n, ask_label, ask_stamp, ask_type, ask_name, ask_format, ask_set, ask_var_label, ask_date, ask_sort, ask_column, ask_table, ask_cell, ask_long, ask_words, Labels, unlabelled, labelled, Answer, refused, count, mark, typed, part, column, labels, cell, plain, long, release_in, order_in, start_of, end_of, field_place, in_range, text_part, counted_part, old_label_place, new_label_place, stamp_gap, type_in, sort_in, layout_types, label_in, stamp_in, cell_in, slot_in, table_in, set_in, labels_in, sought_in, set_words, records_in, record_head, long_by, answer_in, or_refused, answer_of}

-- what a question's answers must meet, by their kind
abbrev pub Kinds : (Answer → Type 0) → Question → Type 0
Kinds P ask_edition = (n : ℕ) → P (count n)
Kinds P ask_order = (n : ℕ) → P (count n)
Kinds P ask_k = (n : ℕ) → P (count n)
Kinds P ask_n = (n : ℕ) → P (count n)
Kinds P ask_label = (p n : ℕ) → P (part p n)
Kinds P ask_stamp = (p n : ℕ) → P (part p n)
Kinds P (ask_type i) = (t : VarType) → P (typed t)
Kinds P (ask_name i) = (p n : ℕ) → P (part p n)
Kinds P (ask_format i) = (p n : ℕ) → P (part p n)
Kinds P (ask_set i) = (p n : ℕ) → P (part p n)
Kinds P (ask_var_label i) = (p n : ℕ) → P (part p n)
Kinds P (ask_date i) = (b : Bool) → P (mark b)
Kinds P (ask_sort i) = (n : ℕ) → P (count n)
Kinds P (ask_column i) = (t : VarType) (p n : ℕ) → P (column t p n)
Kinds P (ask_table i) = (s : Labels) → P (labels s)
Kinds P (ask_cell i j) = (s : Says) → P (cell s)
Kinds P (ask_long i j) = (k p n : ℕ) → P (long k p n)
Kinds P (ask_words i j t) = ((p n : ℕ) → P (part p n)) × P (plain t)

module _ (P : Answer → Type 0) where
  abbrev OrNone : Try Answer → Type 0
  OrNone none = Unit {0}
  OrNone (got a) = P a

  -- nothing is read, or an answer that meets P
  pub record Each (t : Try Answer) : Type 0 where
    pub each : OrNone t

  each_bind : {A : Type 0} (t : Try A) (k : A → Try Answer) → ((a : A) → Each (k a)) → Each (bind t k)
  each_bind none k h = record { each = tt }
  each_bind (got a) k h = h a

  each_if : (t : Bool) (x y : Try Answer) → Each x → Each y → Each (cond t x y)
  each_if true x y a b = a
  each_if false x y a b = b

  -- ---- parts

  module _ (h : (p n : ℕ) → P (part p n)) where
    each_text : (w : ℕ) (f : List ℕ) (p : ℕ) → Each (text_part w f p)
    each_text w f p = each_bind (text_in w f p) _ λ t. record { each = h p (length t) }

    each_counted : (o : Order) (w : ℕ) (f : List ℕ) (p : ℕ) → Each (counted_part o w f p)
    each_counted o w f p = each_bind (number_in o w f p) _ λ n. each_bind (room f (p + w) n) _ λ u. record { each = h (p + w) n }

    each_label : (t : Bool) (e : Edition) (o : Order) (f : List ℕ) → Each (label_in t e o f)
    each_label true e o f = each_counted o e.label_length f (new_label_place e)
    each_label false e o f = each_text (suc e.label_max) f (old_label_place e)

    each_stamp : (t : Bool) (e : Edition) (o : Order) (f : List ℕ) → Each (stamp_in t e o f)
    each_stamp true e o f =
        each_bind (number_in o e.label_length f (new_label_place e)) _ λ n. each_counted o 1 f (new_label_place e + e.label_length + n + stamp_gap)
    each_stamp false e o f = each_text 18 f (old_label_place e + suc e.label_max)

    -- ---- label words

    module _ (lent : List ℕ) (g : P (plain lent)) where
      each_slot : (o : Order) (f : List ℕ) (p n x : ℕ) (s : Slot) → Each (slot_in o f lent p n x s)
      each_slot o f p n x (found m) =
          each_bind (number_in o 4 f (p + 8 + m * 4)) _ λ y.
          each_bind (test (ltb y x)) _ λ u.
          each_bind (text_in (x - y) f (p + 8 + n * 4 + n * 4 + y)) _ λ t.
          each_bind (test (ltb (length t) (x - y))) _ λ u. record { each = h (p + 8 + n * 4 + n * 4 + y) (length t) }
      each_slot o f p n x missing = record { each = g }
      each_slot o f p n x lost = record { each = tt }

      each_table : (o : Order) (f : List ℕ) (q : ℤ) (p : ℕ) → Each (table_in o f lent q p)
      each_table o f q p =
          each_bind (number_in o 4 f p) _ λ n.
          each_bind (number_in o 4 f (p + 4)) _ λ x. each_slot o f p n x (search_at o f (p + 8 + n * 4) (length f) n q).slot

      each_labels : (o : Order) (f : List ℕ) (q : ℤ) (s : Labels) → Each (labels_in o f lent q s)
      each_labels o f q unlabelled = record { each = g }
      each_labels o f q (labelled p n) = each_table o f q p

      each_sought : (k : Key) (r : ℤ → Try Answer) → ((q : ℤ) → Each (r q)) → Each (sought_in k lent r)
      each_sought nothing r w = record { each = g }
      each_sought (seeks q) r w = w q

  -- ---- long strings

  module _ (h : (k p n : ℕ) → P (long k p n)) where
    module _ (w : ℕ) (o : Order) (f : List ℕ) (v x : ℕ) (z : ℕ) where
      each_records : (k p : ℕ) → Each (records_in w o f v x z k p)
      each_records zero p = record { each = tt }
      each_records (suc k) p =
          each_bind (test (leb (p + record_head w) z)) _ λ u.
          each_bind (number_in o 4 f (p + 3)) _ λ a.
          each_bind (number_in o w f (p + 3 + 4)) _ λ b.
          each_bind (number_in o 1 f (p + 3 + 4 + w)) _ λ c.
          each_bind (number_in o 4 f (p + 3 + 4 + w + 1)) _ λ n.
          each_bind (test (leb (p + record_head w + n) z)) _ λ u.
          each_if (eqb a v && eqb b x) _ _ (each_bind (room f (p + record_head w) n) _ λ u. record { each = h c (p + record_head w) n }) (each_records k (p + record_head w + n))

    each_long : (e : Edition) (o : Order) (f : List ℕ) (l : Layout) (s : Says) → Each (long_by e o f l s)
    each_long e o f l (whole z) = record { each = h 0 0 0 }
    each_long e o f l (single x) = record { each = h 0 0 0 }
    each_long e o f l (double x) = record { each = h 0 0 0 }
    each_long e o f l (letter k) = record { each = h 0 0 0 }
    each_long e o f l between = record { each = h 0 0 0 }
    each_long e o f l outside = record { each = h 0 0 0 }
    each_long e o f l (words p n) = record { each = h 0 0 0 }
    each_long e o f l (reference v x) =
        each_if (eqb v 0 && eqb x 0) _ _ (record { each = h 0 0 0 })
        (each_records e.record_width o f v x (end_of e.tagged l 10 n_strls) (suc (length f)) (start_of e.tagged l 10 n_strls))

  -- ---- the answer

  module _ (e : Edition) (o : Order) (f : List ℕ) (l : Layout) where
    each_answer : (q : Question) → Kinds P q → Each (answer_in e o f l q)
    each_answer ask_edition h = record { each = h l.release }
    each_answer ask_order h = record { each = h l.order }
    each_answer ask_k h = record { each = h l.variables }
    each_answer ask_n h = record { each = h l.rows }
    each_answer ask_label h = each_label h e.tagged e o f
    each_answer ask_stamp h = each_stamp h e.tagged e o f
    each_answer (ask_type i) h = each_bind (type_in e.tagged o f (field_place e.tagged l 2 n_variable_types (code_width e.tagged) i)) _ λ t. record { each = h t }
    each_answer (ask_name i) h = each_text h e.name_width f (field_place e.tagged l 3 n_varnames e.name_width i)
    each_answer (ask_format i) h = each_text h e.format_width f (field_place e.tagged l 5 n_formats e.format_width i)
    each_answer (ask_set i) h = each_text h e.name_width f (field_place e.tagged l 6 n_value_label_names e.name_width i)
    each_answer (ask_var_label i) h = each_text h e.var_label_width f (field_place e.tagged l 7 n_variable_labels e.var_label_width i)
    each_answer (ask_date i) h = each_bind (text_in e.format_width f (field_place e.tagged l 5 n_formats e.format_width i)) _ λ t. record { each = h _ }
    each_answer (ask_sort i) h = each_bind (sort_in o f i (suc l.variables) 0 (start_of e.tagged l 4 n_sortlist)) _ λ x. record { each = h x }
    each_answer (ask_column i) h = each_bind (layout_types e o f l) _ λ t. record { each = h _ _ _ }
    each_answer (ask_table i) h = each_bind (set_in e o f l i) _ λ s. record { each = h s }
    each_answer (ask_cell i j) h = each_bind (cell_in e o f l i j) _ λ s. record { each = h s }
    each_answer (ask_long i j) h = each_bind (cell_in e o f l i j) _ (each_long h e o f l)
    each_answer (ask_words i j t) h =
        each_bind (cell_in e o f l i j) _ λ c. each_sought h.0 t h.1 (key_of c) _ λ q. each_bind (set_in e o f l i) _ λ s. each_labels h.0 t h.1 o f q s

  -- what is read with the layout's edition and byte order
  pub each_read : (f : List ℕ) (l : Layout) (q : Question) → Kinds P q → Each (bind (release_in l.release) λ r. bind (order_in l.order) λ o. answer_in (edition r) o f l q)
  each_read f l q h = each_bind (release_in l.release) _ λ r. each_bind (order_in l.order) _ λ o. each_answer (edition r) o f l q h

  each_refused : (t : Try Answer) → P (refused 17) → Each t → P (or_refused t)
  each_refused none h e = h
  each_refused (got a) h e = e.each

  pub each_asked : (f : List ℕ) (l : Layout) (q : Question) → P (refused 16) → P (refused 17) → Kinds P q → P (answer_of f l q)
  unfolding answer_of
  each_asked f l q a b h = go (in_range l q) refl
    where
      go : (t : Bool) → in_range l q ≡ t → P (answer_of f l q)
      go true e = rw e (each_refused _ b (each_read f l q h))
      go false e = rw e a
