-- The numbers that each section may give, and so what a file may be refused with: 3 to 13, where it begins as its edition does.
use mathlib.Core.Path.{◌≡◌, refl}
use Prim.Native.Nat.{ℕ, zero, suc, ◌+◌, ◌*◌}
use mathlib.Core.List.{List, [], ◌∷◌, ◌++◌}
use mathlib.Core.Bool.{Bool, true, false, cond, not, ◌&&◌, ◌||◌}
use lib.ListN.{length, get_or}
use lib.Dec.{eqb, leb, ltb}
use Rattle.format.specs.Number.{Order, msf}
use Rattle.format.specs.Grammar.{Sect, also, unless, need, next, lit, idle, number, text, fixed, raw, within, ruled, seq, told, coded, tag, between, judge_times, times, judge_walk, walk, judge_row, row, ended, area, done, same_at, no_zero, text_at, ended_at, all_below, past_zero}
use Rattle.format.specs.Edition.{Edition, code_width, kind_width, map_count, blocks_end, opening, closing, tagged_start, start_by, start, order_mark, order_text, n_byteorder, n_k, n_n, n_label, n_timestamp, n_header, n_ch, n_characteristics, n_strls, n_lbl, n_value_labels, n_stata_dta, t_gso}
use Rattle.format.specs.Header.{k_rule, n_rule, stamp_length, old_stamp, old_header, counted, new_facts, new_header, header_by, header}
use Rattle.format.specs.Variables.{file_map, VarType, text_type, strl_type, byte_type, int_type, long_type, float_type, double_type, type_by, code_of, has_type, type_code, types, nonempty, name, names, fresh, sort_list, fields}
use Rattle.format.specs.Expansion.{expansion_next, expansion_head, expansion_body, expansion, expansions}
use Rattle.format.specs.Data.{Cell, cell, observations, linked, long_next, long_head, long_by, long_of, long_record, strls, chars, chars_of, link_by, link_of, bits, bits_of}
use Rattle.format.specs.Labels.{ascending, table_sizes, table_head, table_body, table_by, table_of, table, block_head, block_by, block_of, block, block_next, blocks}
use Rattle.format.specs.Dta.{map_rule, from_strls, from_data, from_expansions, from_var_labels, from_set_names, from_formats, from_sort_list, from_names, from_types, from_map, sections, file_to, file, begins, known, release_of, edition_of, order_of}
use Rattle.format.proofs.Good.{and_left}
use Rattle.format.proofs.EditionLaws.{found}

-- some numbers, 0 and those of every part among them: 3 and 4
pub record Numbers : Type 0 where
  pub has : ℕ → Bool
  pub none : has 0 ≡ true
  pub short : has 3 ≡ true
  pub tags : has 4 ≡ true

module _ (P : Numbers) where
  -- the section gives no other, at any place of any file
  pub record Numbered {A : Type 0} (S : Sect A) : Type 0 where
    pub given : (f : List ℕ) (p : ℕ) → P.has (S.judge f p) ≡ true

  pub also_listed : (a b : ℕ) → P.has a ≡ true → P.has b ≡ true → P.has (also a b) ≡ true
  also_listed zero b h k = k
  also_listed (suc a) b h k = h

  pub unless_listed : (t : Bool) (c : ℕ) → P.has c ≡ true → P.has (unless t c) ≡ true
  unless_listed true c h = P.none
  unless_listed false c h = h

  pub need_listed : (n : ℕ) (f : List ℕ) (p : ℕ) → P.has (need n f p) ≡ true
  need_listed n f p = unless_listed (leb (p + n) (length f)) 3 P.short

  -- ---- primitive sections

  lit_numbered : (b c : ℕ) → P.has c ≡ true → Numbered (lit b c)
  lit_numbered b c h = record { given = λ f p. unless_listed (eqb (get_or f p 0) b) c h }

  pub idle_numbered : (n v : ℕ) → Numbered (idle n v)
  idle_numbered n v = record { given = λ f p. P.none }

  number_numbered : (o : Order) (w : ℕ) → Numbered (number o w)
  number_numbered o w = record { given = λ f p. P.none }

  text_numbered : (w c : ℕ) → P.has c ≡ true → Numbered (text w c)
  text_numbered w c h = record { given = λ f p. unless_listed (ltb (length (text_at w f p)) w) c h }

  fixed_numbered : (w : ℕ) → Numbered (fixed w)
  fixed_numbered w = record { given = λ f p. P.none }

  raw_numbered : (n : ℕ) → Numbered (raw n)
  raw_numbered n = record { given = λ f p. P.none }

  pub done_numbered : (c : ℕ) → P.has c ≡ true → Numbered (done c)
  done_numbered c h = record { given = λ f p. unless_listed (eqb p (length f)) c h }

  ended_numbered : (o : Order) (w n c : ℕ) → P.has c ≡ true → Numbered (ended o w n c)
  ended_numbered o w n c h = record { given = λ f p. unless_listed (ltb (length (ended_at o w n f p)) n) c h }

  area_numbered : (offs : List ℕ) (n c : ℕ) → P.has c ≡ true → Numbered (area offs n c)
  area_numbered offs n c h = record { given = λ f p. unless_listed (all_below (past_zero (λ i. get_or f (p + i) 0) n) offs) c h }

  pub tag_numbered : (l : List ℕ) (c : ℕ) → P.has c ≡ true → Numbered (tag l c)
  unfolding tag
  tag_numbered l c h = record { given = λ f p. also_listed (need (length l) f p) _ (need_listed (length l) f p) (unless_listed (same_at l f p) c h) }

  -- ---- sections made of others

  module _ {A : Type 0} (S : Sect A) (G : Numbered S) where
    pub within_numbered : (n : ℕ) → Numbered (within n S)
    within_numbered n = record { given = λ f p. also_listed (need n f p) (S.judge f p) (need_listed n f p) (G.given f p) }

    ruled_numbered : (t : A → Bool) (c : ℕ) → P.has c ≡ true → Numbered (ruled S t c)
    ruled_numbered t c h =
        record { given = λ f p. also_listed (S.judge f p) _ (G.given f p) (unless_listed (t (S.read f p)) c h) }

    told_numbered : {B : Type 0} (to : A → B) (of : B → A) → Numbered (told to of S)
    told_numbered to of = record { given = G.given }

    coded_numbered : {B : Type 0} (to : A → B) (of : B → A) → Numbered (coded to of S)
    coded_numbered to of = record { given = G.given }

    times_judged : (n : ℕ) (f : List ℕ) (p : ℕ) → P.has (judge_times S n f p) ≡ true
    times_judged zero f p = P.none
    times_judged (suc n) f p = also_listed (S.judge f p) (judge_times S n f (next S f p)) (G.given f p) (times_judged n f (next S f p))

    times_numbered : (n : ℕ) → Numbered (times S n)
    times_numbered n = record { given = times_judged n }

  seq_numbered : {A B : Type 0} (S : Sect A) (T : A → Sect B) → Numbered S → ((a : A) → Numbered (T a)) → Numbered (seq S T)
  seq_numbered S T G H =
      record { given = λ f p. also_listed (S.judge f p) _ (G.given f p) ((H (S.read f p)).given f (next S f p)) }

  between_numbered : {A : Type 0} (l r : List ℕ) (S : Sect A) → Numbered S → Numbered (between l r S)
  unfolding between
  between_numbered l r S G =
      told_numbered _ (seq_numbered _ _ (tag_numbered l 4 P.tags) λ u. seq_numbered _ _ G λ a. tag_numbered r 4 P.tags) (λ v. v.1.0) (λ a. (tt, (a, tt)))

  module _ {A B : Type 0} (more : List ℕ → ℕ → Bool) (E : Sect A) (T : List A → Sect B) (G : Numbered E) (H : (l : List A) → Numbered (T l)) where
    walk_judged : (k : ℕ) (l : List A) (f : List ℕ) (p : ℕ) → P.has (judge_walk more E T k l f p) ≡ true
    walk_judged zero l f p = (H l).given f p
    walk_judged (suc k) l f p =
        go (more f p) _ ((T l).judge f p) (also_listed (E.judge f p) _ (G.given f p) (walk_judged k (l ++ E.read f p ∷ []) f (next E f p))) ((H l).given f p)
      where
        go : (t : Bool) (a b : ℕ) → P.has a ≡ true → P.has b ≡ true → P.has (cond t a b) ≡ true
        go true a b x y = x
        go false a b x y = y

    walk_numbered : Numbered (walk more E T)
    walk_numbered = record { given = λ f p. walk_judged (length f) [] f p }

  module _ {A B : Type 0} (S : A → Sect B) (G : (a : A) → Numbered (S a)) where
    row_judged : (k : List A) (f : List ℕ) (p : ℕ) → P.has (judge_row S k f p) ≡ true
    row_judged [] f p = P.none
    row_judged (a ∷ k) f p = also_listed ((S a).judge f p) _ ((G a).given f p) (row_judged k f (next (S a) f p))

    row_numbered : (k : List A) → Numbered (row S k)
    row_numbered k = record { given = row_judged k }

  -- ---- map and lists of variables

  pub map_numbered : (t : Bool) (o : Order) → Numbered (file_map t o)
  unfolding file_map
  map_numbered t o = between_numbered _ _ _ (within_numbered _ (times_numbered _ (number_numbered o 8) (map_count t)) _)

  pub types_numbered : (h6 : P.has 6 ≡ true) (t : Bool) (o : Order) (k : ℕ) → Numbered (types t o k)
  unfolding types type_code
  types_numbered h6 t o k =
      between_numbered _ _ _
      (within_numbered _ (times_numbered _ (ruled_numbered _ (coded_numbered _ (number_numbered o (code_width t)) (type_by t) (code_of t)) (has_type t) 6 h6) k) _)

  pub name_numbered : (h7 : P.has 7 ≡ true) (w : ℕ) → Numbered (name w)
  unfolding name
  name_numbered h7 w = ruled_numbered _ (text_numbered w 7 h7) nonempty 7 h7

  pub names_numbered : (h7 : P.has 7 ≡ true) (t : Bool) (w k : ℕ) → Numbered (names t w k)
  unfolding names
  names_numbered h7 t w k = between_numbered _ _ _ (within_numbered _ (times_numbered _ (name_numbered h7 w) k) _)

  pub sort_numbered : (h8 : P.has 8 ≡ true) (t : Bool) (o : Order) (k : ℕ) → Numbered (sort_list t o k)
  unfolding sort_list
  sort_numbered h8 t o k = between_numbered _ _ _ (within_numbered _ (ruled_numbered _ (ended_numbered o 2 (suc k) 8 h8) (fresh k []) 8 h8) _)

  pub fields_numbered : (h7 : P.has 7 ≡ true) (t : Bool) (n : List ℕ) (w k : ℕ) → Numbered (fields t n w k)
  unfolding fields
  fields_numbered h7 t n w k = between_numbered _ _ _ (within_numbered _ (times_numbered _ (text_numbered w 7 h7) k) _)

  -- ---- expansion blocks and characteristics

  expansion_numbered : (h9 : P.has 9 ≡ true) (t : Bool) (o : Order) → Numbered (expansion t o)
  unfolding expansion expansion_head expansion_body
  expansion_numbered h9 t o =
      told_numbered _
      (seq_numbered _ _ (tag_numbered (opening t n_ch) 4 P.tags) λ a.
      seq_numbered _ _
      (within_numbered _
      (ruled_numbered _ (seq_numbered _ _ (number_numbered msf (kind_width t)) λ c. number_numbered o 4) (λ h. t || not (eqb h.0 0)) 9 h9)
      (kind_width t + 4)) λ h.
      seq_numbered _ _ (within_numbered _ (idle_numbered h.1 0) h.1) λ c.
      tag_numbered (closing t n_ch) 4 P.tags)
      (λ v. v.1.0) (λ h. (tt, (h, (tt, tt))))

  pub expansions_numbered : (h9 : P.has 9 ≡ true) (t : Bool) (o : Order) → Numbered (expansions t o)
  unfolding expansions
  expansions_numbered h9 t o =
      told_numbered _
      (seq_numbered _ _ (tag_numbered (opening t n_characteristics) 4 P.tags) λ a.
      walk_numbered (expansion_next t) (expansion t o) _ (expansion_numbered h9 t o)
      λ l. seq_numbered _ _ (tag_numbered (blocks_end t) 9 h9) λ b. tag_numbered (closing t n_characteristics) 4 P.tags)
      (λ v. v.1.0) (λ l. (tt, (l, (tt, tt))))

  -- ---- data and long strings

  module _ (o : Order) (vw ow : ℕ) where
    cell_numbered : (t : VarType) → Numbered (cell o vw ow t)
    cell_numbered (text_type w) = coded_numbered _ (fixed_numbered w) chars chars_of
    cell_numbered strl_type = coded_numbered _ (seq_numbered _ _ (number_numbered o vw) λ v. number_numbered o ow) link_by link_of
    cell_numbered byte_type = coded_numbered _ (number_numbered o 1) bits bits_of
    cell_numbered int_type = coded_numbered _ (number_numbered o 2) bits bits_of
    cell_numbered long_type = coded_numbered _ (number_numbered o 4) bits bits_of
    cell_numbered float_type = coded_numbered _ (number_numbered o 4) bits bits_of
    cell_numbered double_type = coded_numbered _ (number_numbered o 8) bits bits_of

    pub data_numbered : (t : Bool) (l : List VarType) (n : ℕ) → Numbered (observations t o vw ow l n)
    unfolding observations
    data_numbered t l n =
        between_numbered _ _ _ (within_numbered _ (times_numbered _ (row_numbered (cell o vw ow) cell_numbered l) n) _)

  pub record_numbered : (t : Bool) (o : Order) (ow : ℕ) → Numbered (long_record t o ow)
  unfolding long_record long_head
  record_numbered t o ow =
      ruled_numbered _
      (told_numbered _
      (seq_numbered _ _ (tag_numbered t_gso 4 P.tags) λ a.
      seq_numbered _ _
      (within_numbered _
      (seq_numbered _ _ (number_numbered o 4) λ v. seq_numbered _ _ (number_numbered o ow) λ x. seq_numbered _ _ (number_numbered o 1) λ k. number_numbered o 4)
      (4 + (ow + (1 + 4)))) λ h.
      within_numbered _ (raw_numbered h.1.1.1) h.1.1.1)
      long_by long_of)
      (λ r. t) 4 P.tags

  pub strls_numbered : (h11 : P.has 11 ≡ true) (t : Bool) (o : Order) (ow : ℕ) (d : List (List Cell)) → Numbered (strls t o ow d)
  unfolding strls
  strls_numbered h11 t o ow d =
      told_numbered _
      (seq_numbered _ _ (tag_numbered (opening t n_strls) 4 P.tags) λ a.
      walk_numbered (long_next t) (long_record t o ow) _ (record_numbered t o ow)
      λ l. seq_numbered _ _ (ruled_numbered _ (idle_numbered 0 0) (λ u. linked d l) 11 h11) λ u. tag_numbered (closing t n_strls) 4 P.tags)
      (λ v. v.1.0) (λ l. (tt, (l, (tt, tt))))

  -- ---- label blocks

  pub table_numbered : (h12 : P.has 12 ≡ true) (o : Order) (w : ℕ) → Numbered (table o w)
  unfolding table table_head table_body
  table_numbered h12 o w =
      told_numbered _
      (within_numbered _
      (seq_numbered _ _ (ruled_numbered _ (idle_numbered 0 0) (λ u. leb 8 w) 12 h12) λ u.
      seq_numbered _ _
      (within_numbered _ (ruled_numbered _ (seq_numbered _ _ (number_numbered o 4) λ n. number_numbered o 4) (table_sizes w) 12 h12) 8) λ h.
      within_numbered _
      (seq_numbered _ _ (times_numbered _ (number_numbered o 4) h.0) λ a.
      seq_numbered _ _ (ruled_numbered _ (times_numbered _ (number_numbered o 4) h.0) ascending 12 h12) λ v.
      area_numbered a h.1 12 h12)
      (h.0 * 4 + (h.0 * 4 + h.1)))
      w)
      table_by table_of

  pub block_numbered : (h7 : P.has 7 ≡ true) (h12 : P.has 12 ≡ true) (t : Bool) (o : Order) (w : ℕ) → Numbered (block t o w)
  unfolding block block_head
  block_numbered h7 h12 t o w =
      told_numbered _
      (seq_numbered _ _ (tag_numbered (opening t n_lbl) 4 P.tags) λ a.
      seq_numbered _ _
      (within_numbered _ (seq_numbered _ _ (number_numbered o 4) λ n. seq_numbered _ _ (name_numbered h7 w) λ t. idle_numbered 3 0) (4 + (w + 3))) λ h.
      seq_numbered _ _ (table_numbered h12 o h.0) λ b.
      tag_numbered (closing t n_lbl) 4 P.tags)
      block_by block_of

  blocks_numbered : (h7 : P.has 7 ≡ true) (h12 : P.has 12 ≡ true) (t : Bool) (o : Order) (w : ℕ) (end : Sect (Unit {0})) → Numbered end → Numbered (blocks t o w end)
  unfolding blocks
  blocks_numbered h7 h12 t o w end G =
      told_numbered _
      (seq_numbered _ _ (tag_numbered (opening t n_value_labels) 4 P.tags) λ a.
      walk_numbered (block_next t) (block t o w) _ (block_numbered h7 h12 t o w)
      λ l. seq_numbered _ _ (tag_numbered (closing t n_value_labels) 4 P.tags) λ b. seq_numbered _ _ (tag_numbered (closing t n_stata_dta) 4 P.tags) λ c. G)
      (λ v. v.1.0) (λ l. (tt, (l, (tt, (tt, tt)))))

  -- ---- the header

  stamp_numbered : (h5 : P.has 5 ≡ true) → Numbered old_stamp
  unfolding old_stamp
  stamp_numbered h5 =
      told_numbered _ (seq_numbered _ _ (ruled_numbered _ (fixed_numbered 17) (λ t. stamp_length (length t)) 5 h5) λ t. lit_numbered 0 5 h5) (λ v. v.0) (λ t. (t, tt))

  counted_numbered : (h5 : P.has 5 ≡ true) (o : Order) (w : ℕ) (t : ℕ → Bool) → Numbered (counted o w t)
  unfolding counted
  counted_numbered h5 o w t =
      told_numbered _
      (seq_numbered _ _ (within_numbered _ (ruled_numbered _ (number_numbered o w) t 5 h5) w) λ n.
      within_numbered _ (ruled_numbered _ (raw_numbered n) no_zero 5 h5) n)
      (λ v. v.1) (λ l. (length l, l))

  facts_numbered : (h5 : P.has 5 ≡ true) (o : Order) (n w l : ℕ) → Numbered (new_facts o n w l)
  unfolding new_facts
  facts_numbered h5 o n w l =
      told_numbered _
      (seq_numbered _ _ (between_numbered (opening true n_k) (closing true n_k) _ (within_numbered _ (ruled_numbered _ (number_numbered o 2) k_rule 5 h5) 2)) λ k.
      seq_numbered _ _ (between_numbered (opening true n_n) (closing true n_n) _ (within_numbered _ (ruled_numbered _ (number_numbered o n) (n_rule k) 5 h5) n)) λ m.
      seq_numbered _ _ (between_numbered (opening true n_label) (closing true n_label) _ (counted_numbered h5 o w (λ x. leb x l))) λ t.
      seq_numbered _ _ (between_numbered (opening true n_timestamp) (closing true n_timestamp) _ (counted_numbered h5 o 1 stamp_length)) λ s.
      tag_numbered (closing true n_header) 4 P.tags)
      (λ v. (v.0, (v.1.0, (v.1.1.0, v.1.1.1.0)))) (λ h. (h.0, (h.1.0, (h.1.1.0, (h.1.1.1, tt)))))

  -- the start of a file that begins so: 3 at most
  pub tag_starts : (l : List ℕ) (f : List ℕ) → same_at l f 0 ≡ true → P.has ((tag l 2).judge f 0) ≡ true
  unfolding tag
  tag_starts l f h = also_listed (need (length l) f 0) (unless (same_at l f 0) 2) (need_listed (length l) f 0) (rw h P.none)

  lit_starts : (b : ℕ) (f : List ℕ) → same_at (b ∷ []) f 0 ≡ true → P.has ((lit b 2).judge f 0) ≡ true
  lit_starts b f h = rw (and_left (eqb (get_or f 0 0) b) true h) P.none

  -- a sequence at one place
  seq_starts : {A B : Type 0} (S : Sect A) (T : A → Sect B) (f : List ℕ) (p : ℕ) → P.has (S.judge f p) ≡ true → ((a : A) → Numbered (T a))
      → P.has ((seq S T).judge f p) ≡ true
  seq_starts S T f p h G = also_listed (S.judge f p) _ h ((G (S.read f p)).given f (next S f p))

  old_starts : (h5 : P.has 5 ≡ true) (d : ℕ) (o : Order) (n l : ℕ) (f : List ℕ) → same_at (d ∷ []) f 0 ≡ true → P.has ((old_header d o n l).judge f 0) ≡ true
  unfolding old_header
  old_starts h5 d o n l f h =
      also_listed (need (6 + (n + (suc l + 18))) f 0) _ (need_listed (6 + (n + (suc l + 18))) f 0)
      (seq_starts (lit d 2) _ f 0 (lit_starts d f h) λ a.
      seq_numbered _ _ (lit_numbered (order_mark o) 5 h5) λ b.
      seq_numbered _ _ (lit_numbered 1 5 h5) λ c.
      seq_numbered _ _ (idle_numbered 1 1) λ x.
      seq_numbered _ _ (ruled_numbered _ (number_numbered o 2) k_rule 5 h5) λ k.
      seq_numbered _ _ (ruled_numbered _ (number_numbered o n) (n_rule k) 5 h5) λ m.
      seq_numbered _ _ (text_numbered (suc l) 5 h5) λ t.
      stamp_numbered h5)

  new_starts : (h5 : P.has 5 ≡ true) (d : ℕ) (o : Order) (n w l : ℕ) (f : List ℕ) → same_at (tagged_start d) f 0 ≡ true → P.has ((new_header d o n w l).judge f 0) ≡ true
  unfolding new_header
  new_starts h5 d o n w l f h =
      seq_starts (tag (tagged_start d) 2) _ f 0 (tag_starts (tagged_start d) f h) λ a.
      seq_numbered _ _ (between_numbered (opening true n_byteorder) (closing true n_byteorder) _ (tag_numbered (order_text o) 5 h5)) λ b.
      facts_numbered h5 o n w l

  pub header_starts : (h5 : P.has 5 ≡ true) (t : Bool) (e : Edition) (o : Order) (f : List ℕ) → same_at (start_by t e.number) f 0 ≡ true → P.has ((header_by t e o).judge f 0) ≡ true
  header_starts h5 true e o f h = new_starts h5 e.number o e.n_width e.label_length e.label_max f h
  header_starts h5 false e o f h = old_starts h5 e.number o e.n_width e.label_max f h

  -- ---- the file, from each section on

  module _ (e : Edition) (o : Order) (end : Sect (Unit {0})) (G : Numbered end) (h7 : P.has 7 ≡ true) (h12 : P.has 12 ≡ true) where
    pub blocks_on : Numbered (blocks e.tagged o e.name_width end)
    blocks_on = blocks_numbered h7 h12 e.tagged o e.name_width end G

    module _ (h11 : P.has 11 ≡ true) where
      strls_on : (d : List (List Cell)) → Numbered (from_strls e o end d)
      unfolding from_strls
      strls_on d = seq_numbered _ _ (strls_numbered h11 e.tagged o e.record_width d) λ l. blocks_on

      pub data_on : (n : ℕ) (t : List VarType) → Numbered (from_data e o end n t)
      unfolding from_data
      data_on n t = seq_numbered _ _ (data_numbered o e.v_width e.o_width e.tagged t n) strls_on

      module _ (h9 : P.has 9 ≡ true) where
        expansions_on : (n : ℕ) (t : List VarType) → Numbered (from_expansions e o end n t)
        unfolding from_expansions
        expansions_on n t = seq_numbered _ _ (expansions_numbered h9 e.tagged o) λ x. data_on n t

        labels_on : (k n : ℕ) (t : List VarType) → Numbered (from_var_labels e o end k n t)
        unfolding from_var_labels
        labels_on k n t = seq_numbered _ _ (fields_numbered h7 e.tagged _ e.var_label_width k) λ l. expansions_on n t

        sets_on : (k n : ℕ) (t : List VarType) → Numbered (from_set_names e o end k n t)
        unfolding from_set_names
        sets_on k n t = seq_numbered _ _ (fields_numbered h7 e.tagged _ e.name_width k) λ v. labels_on k n t

        pub formats_on : (k n : ℕ) (t : List VarType) → Numbered (from_formats e o end k n t)
        unfolding from_formats
        formats_on k n t = seq_numbered _ _ (fields_numbered h7 e.tagged _ e.format_width k) λ d. sets_on k n t

        module _ (h8 : P.has 8 ≡ true) where
          sort_on : (k n : ℕ) (t : List VarType) → Numbered (from_sort_list e o end k n t)
          unfolding from_sort_list
          sort_on k n t = seq_numbered _ _ (sort_numbered h8 e.tagged o k) λ s. formats_on k n t

          pub names_on : (k n : ℕ) (t : List VarType) → Numbered (from_names e o end k n t)
          unfolding from_names
          names_on k n t = seq_numbered _ _ (names_numbered h7 e.tagged e.name_width k) λ m. sort_on k n t

          module _ (h6 : P.has 6 ≡ true) where
            types_on : (k n : ℕ) → Numbered (from_types e o end k n)
            unfolding from_types
            types_on k n = seq_numbered _ _ (types_numbered h6 e.tagged o k) (names_on k n)

            pub map_on : (k n : ℕ) → Numbered (from_map e o end k n)
            unfolding from_map
            map_on k n = seq_numbered _ _ (map_numbered e.tagged o) λ m. types_on k n

            pub sections_starts : P.has 5 ≡ true → (f : List ℕ) → same_at (start e) f 0 ≡ true → P.has ((sections e o end).judge f 0) ≡ true
            unfolding sections
            sections_starts h5 f h = seq_starts (header e o) _ f 0 (header_starts h5 e.tagged e o f h) (λ h. map_on h.0 h.1.0)

-- a known file begins as its edition does
pub known_begins : (f : List ℕ) → known f ≡ true → begins (release_of f) f ≡ true
known_begins f h = found (λ r. begins r f) h

-- 0, or one of the numbers that a section gives
abbrev pub listed : ℕ → Bool
listed c = eqb c 0 || (leb 3 c && leb c 13)

given : Numbers
given = record { has = listed; none = refl; short = refl; tags = refl }

-- a known file is refused by its sections with 3 to 13 only
pub known_listed : (f : List ℕ) → known f ≡ true → listed ((file (edition_of f) (order_of f)).judge f 0) ≡ true
unfolding file_to given
known_listed f h =
    also_listed given ((sections (edition_of f) (order_of f) (done 13)).judge f 0) _
    (sections_starts given (edition_of f) (order_of f) (done 13) (done_numbered given 13 refl) refl refl refl refl refl refl refl f (known_begins f h))
    (unless_listed given (map_rule (edition_of f) (order_of f) ((sections (edition_of f) (order_of f) (done 13)).read f 0)) 10 refl)
