-- A section that gives 3 or 4: where checking it comes to.
use mathlib.Core.Path.{◌≡◌, sym, ◌∙◌}
use Prim.Native.Nat.{ℕ, zero, suc, ◌+◌, ◌*◌, ◌≤◌, ◌<◌}
use native.Mathlib.Omega.{arith}
use mathlib.Core.List.{List, [], ◌∷◌, ◌++◌}
use mathlib.Core.Logic.{◌⊎◌, inl, inr}
use mathlib.Core.Bool.{Bool, true, false, not, ◌||◌}
use lib.ListN.{length, get_or}
use lib.Dec.{eqb, leb, ltb}
use Rattle.format.specs.Number.{Order, msf}
use Rattle.format.specs.Grammar.{Sect, also, unless, need, next, lit, idle, number, text, fixed, raw, within, ruled, seq, told, coded, tag, between, judge_times, times, walk, judge_row, row, ended, area, done, same_at, no_zero, text_at, ended_at, all_below, past_zero}
use Rattle.format.specs.Edition.{Edition, code_width, kind_width, map_count, blocks_end, opening, closing, tagged_start, order_mark, order_text, n_byteorder, n_k, n_n, n_label, n_timestamp, n_header, n_formats, n_value_label_names, n_variable_labels, n_ch, n_characteristics, n_strls, n_lbl, n_value_labels, n_stata_dta, t_gso}
use Rattle.format.specs.Header.{k_rule, n_rule, stamp_length, old_stamp, old_header, counted, new_facts, new_header, header_by}
use Rattle.format.specs.Variables.{file_map, VarType, text_type, strl_type, byte_type, int_type, long_type, float_type, double_type, type_by, code_of, has_type, type_code, types, nonempty, name, names, fresh, sort_list, fields}
use Rattle.format.specs.Expansion.{expansion_next, expansion_head, expansion_body, expansion, expansions}
use Rattle.format.specs.Data.{Cell, cell, observations, linked, long_next, long_head, long_by, long_of, long_record, strls, chars, chars_of, link_by, link_of, bits, bits_of}
use Rattle.format.specs.Labels.{ascending, table_sizes, table_head, table_body, table_by, table_of, table, block_head, block_by, block_of, block, block_next, blocks}
use Rattle.format.specs.Dta.{gather, spread, map_rule, from_strls, from_data, from_expansions, from_var_labels, from_set_names, from_formats, from_sort_list, from_names, from_types, from_map, sections, file_to, file}
use Rattle.format.proofs.Good.{and_left, need_room}
use Rattle.format.proofs.ExpansionLaws.{expansion_some}
use Rattle.format.proofs.DataLaws.{record_some}
use Rattle.format.proofs.LabelLaws.{block_some}
use Rattle.expansion.proofs.BlockLaws.{next_inside}
use Rattle.demands.specs.Comes.{here, first, second, content, before_rule, told_by, step, end, ComesTo}
use Rattle.demands.proofs.PlaceLaws.{one_of}
use Rattle.demands.proofs.PassedLaws.{Stops, stops}
use Rattle.demands.proofs.EndLaws.{block_inside}
use Rattle.demands.proofs.LinkLaws.{record_inside}

-- c is 3 or 4; W is what is known where it is given: bytes are missing, or a tag differs
module _ (c : ℕ) (low : 3 ≤ c) (high : c ≤ 4) (W : List ℕ → ℕ → (B : Type 0) → Sect B → Type 1)
    (lack : (f : List ℕ) (p n : ℕ) (A : Type 0) (S : Sect A) → need n f p ≡ c → W f p A (within n S))
    (differ : (l f : List ℕ) (p : ℕ) → p + length l ≤ length f → unless (same_at l f p) 4 ≡ c → W f p (Unit {0}) (tag l 4)) where
  -- ---- sections that never give it

  record Never {A : Type 0} (S : Sect A) : Type 0 where
    not_here : (f : List ℕ) (p : ℕ) → S.judge f p ≡ c → ⊥

  zero_not : 0 ≡ c → ⊥
  zero_not q = omega (arith, low, q)

  unless_not : (t : Bool) (d : ℕ) → (d ≡ c → ⊥) → unless t d ≡ c → ⊥
  unless_not true d n h = zero_not h
  unless_not false d n h = n h

  also_not : (a b : ℕ) → (a ≡ c → ⊥) → (b ≡ c → ⊥) → also a b ≡ c → ⊥
  also_not zero b n m h = m h
  also_not (suc a) b n m h = n h

  -- a number that is not 3 or 4
  far : (d : ℕ) → 5 ≤ d → d ≡ c → ⊥
  far d b q = omega (arith, high, b, q)

  two_not : 2 ≡ c → ⊥
  two_not q = omega (arith, low, q)

  never_lit : (b d : ℕ) → (d ≡ c → ⊥) → Never (lit b d)
  never_lit b d n = record { not_here = λ f p. unless_not (eqb (get_or f p 0) b) d n }

  never_idle : (n v : ℕ) → Never (idle n v)
  never_idle n v = record { not_here = λ f p. zero_not }

  never_number : (o : Order) (w : ℕ) → Never (number o w)
  never_number o w = record { not_here = λ f p. zero_not }

  never_text : (w d : ℕ) → (d ≡ c → ⊥) → Never (text w d)
  never_text w d n = record { not_here = λ f p. unless_not (ltb (length (text_at w f p)) w) d n }

  never_fixed : (w : ℕ) → Never (fixed w)
  never_fixed w = record { not_here = λ f p. zero_not }

  never_raw : (n : ℕ) → Never (raw n)
  never_raw n = record { not_here = λ f p. zero_not }

  never_done : (d : ℕ) → (d ≡ c → ⊥) → Never (done d)
  never_done d n = record { not_here = λ f p. unless_not (eqb p (length f)) d n }

  never_ended : (o : Order) (w n d : ℕ) → (d ≡ c → ⊥) → Never (ended o w n d)
  never_ended o w n d m = record { not_here = λ f p. unless_not (ltb (length (ended_at o w n f p)) n) d m }

  never_area : (offs : List ℕ) (n d : ℕ) → (d ≡ c → ⊥) → Never (area offs n d)
  never_area offs n d m = record { not_here = λ f p. unless_not (all_below (past_zero (λ i. get_or f (p + i) 0) n) offs) d m }

  module _ {A : Type 0} (S : Sect A) (G : Never S) where
    never_ruled : (t : A → Bool) (d : ℕ) → (d ≡ c → ⊥) → Never (ruled S t d)
    never_ruled t d n = record { not_here = λ f p. also_not (S.judge f p) _ (G.not_here f p) (unless_not (t (S.read f p)) d n) }

    never_coded : {B : Type 0} (to : A → B) (of : B → A) → Never (coded to of S)
    never_coded to of = record { not_here = G.not_here }

    never_told : {B : Type 0} (to : A → B) (of : B → A) → Never (told to of S)
    never_told to of = record { not_here = G.not_here }

    times_not : (n : ℕ) (f : List ℕ) (p : ℕ) → judge_times S n f p ≡ c → ⊥
    times_not zero f p = zero_not
    times_not (suc n) f p = also_not (S.judge f p) _ (G.not_here f p) (times_not n f (next S f p))

    never_times : (n : ℕ) → Never (times S n)
    never_times n = record { not_here = times_not n }

  never_seq : {A B : Type 0} (S : Sect A) (T : A → Sect B) → Never S → ((a : A) → Never (T a)) → Never (seq S T)
  never_seq S T G H = record { not_here = λ f p. also_not (S.judge f p) _ (G.not_here f p) ((H (S.read f p)).not_here f (next S f p)) }

  module _ {A B : Type 0} (S : A → Sect B) (G : (a : A) → Never (S a)) where
    row_not : (k : List A) (f : List ℕ) (p : ℕ) → judge_row S k f p ≡ c → ⊥
    row_not [] f p = zero_not
    row_not (a ∷ k) f p = also_not ((S a).judge f p) _ ((G a).not_here f p) (row_not k f (next (S a) f p))

    never_row : (k : List A) → Never (row S k)
    never_row k = record { not_here = row_not k }

  -- ---- sections that give it where checking comes to

  pub record Located {A : Type 0} (S : Sect A) : Type 1 where
    pub found : (f : List ℕ) (p : ℕ) → S.judge f p ≡ c → ComesTo (W f) f S p

  never : {A : Type 0} (S : Sect A) → Never S → Located S
  never S G = record { found = λ f p h. absurd (G.not_here f p h) }

  module _ {A : Type 0} (S : Sect A) where
    found_within : (n : ℕ) → Located S → (f : List ℕ) (p : ℕ) → (need n f p ≡ c) ⊎ ((need n f p ≡ 0) × (S.judge f p ≡ c)) → ComesTo (W f) f (within n S) p
    found_within n G f p (inl h) = record { B = A; T = within n S; at = p; comes = here; because = lack f p n A S h }
    found_within n G f p (inr h) =
        let x = G.found f p h.1 in
        record { B = x.B; T = x.T; at = x.at; comes = content S n (need_room n f p h.0) x.comes; because = x.because }

    in_within : (n : ℕ) → Located S → Located (within n S)
    in_within n G = record { found = λ f p h. found_within n G f p (one_of (need n f p) (S.judge f p) c h) }

    in_told : Located S → {B : Type 0} (to : A → B) (of : B → A) → Located (told to of S)
    in_told G to of =
        record {
          found = λ f p h. (let x = G.found f p h in
              record { B = x.B; T = x.T; at = x.at; comes = told_by S to of x.comes; because = x.because });
        }

    found_ruled : Located S → (t : A → Bool) (d : ℕ) (f : List ℕ) (p : ℕ) → (unless (t (S.read f p)) d ≡ c → ⊥)
        → (S.judge f p ≡ c) ⊎ ((S.judge f p ≡ 0) × (unless (t (S.read f p)) d ≡ c)) → ComesTo (W f) f (ruled S t d) p
    found_ruled G t d f p n (inl h) =
        let x = G.found f p h in
        record { B = x.B; T = x.T; at = x.at; comes = before_rule S t d x.comes; because = x.because }
    found_ruled G t d f p n (inr h) = absurd (n h.1)

    in_ruled : Located S → (t : A → Bool) (d : ℕ) → (d ≡ c → ⊥) → Located (ruled S t d)
    in_ruled G t d n = record { found = λ f p h. found_ruled G t d f p (unless_not (t (S.read f p)) d n) (one_of (S.judge f p) (unless (t (S.read f p)) d) c h) }

  module _ {A B : Type 0} (S : Sect A) (T : A → Sect B) (G : Located S) (H : (a : A) → Located (T a)) where
    found_seq : (f : List ℕ) (p : ℕ) → (S.judge f p ≡ c) ⊎ ((S.judge f p ≡ 0) × ((T (S.read f p)).judge f (next S f p) ≡ c)) → ComesTo (W f) f (seq S T) p
    found_seq f p (inl h) =
        let x = G.found f p h in
        record { B = x.B; T = x.T; at = x.at; comes = first S T x.comes; because = x.because }
    found_seq f p (inr h) =
        let x = (H (S.read f p)).found f (next S f p) h.1 in
        record { B = x.B; T = x.T; at = x.at; comes = second S T h.0 x.comes; because = x.because }

    in_seq : Located (seq S T)
    in_seq = record { found = λ f p h. found_seq f p (one_of (S.judge f p) ((T (S.read f p)).judge f (next S f p)) c h) }

  -- tags
  found_tag : (l f : List ℕ) (p : ℕ) → (need (length l) f p ≡ c) ⊎ ((need (length l) f p ≡ 0) × (unless (same_at l f p) 4 ≡ c)) → ComesTo (W f) f (tag l 4) p
  unfolding tag
  found_tag l f p (inl h) = record { B = Unit {0}; T = tag l 4; at = p; comes = here; because = lack f p (length l) (Unit {0}) _ h }
  found_tag l f p (inr h) = record { B = Unit {0}; T = tag l 4; at = p; comes = here; because = differ l f p (need_room (length l) f p h.0) h.1 }

  in_tag : (l : List ℕ) → Located (tag l 4)
  unfolding tag
  in_tag l = record { found = λ f p h. found_tag l f p (one_of (need (length l) f p) (unless (same_at l f p) 4) c h) }

  -- a tag with a number of its own
  own_tag : (l : List ℕ) (d : ℕ) → (d ≡ c → ⊥) → Located (tag l d)
  unfolding tag
  own_tag l d n = in_within _ (length l) (record { found = λ f p h. absurd (unless_not (same_at l f p) d n h) })

  in_between : {A : Type 0} (l r : List ℕ) (S : Sect A) → Located S → Located (between l r S)
  unfolding between
  in_between l r S G = in_told _ (in_seq _ _ (in_tag l) λ u. in_seq _ _ G λ a. in_tag r) (λ v. v.1.0) (λ a. (tt, (a, tt)))

  -- walks
  module _ {A B : Type 0} (more : List ℕ → ℕ → Bool) (E : Sect A) (T : List A → Sect B)
      (inside : (f : List ℕ) (p : ℕ) → more f p ≡ true → p < length f) (some : (a : A) → 0 < E.size a)
      (G : (f : List ℕ) (p : ℕ) → more f p ≡ true → E.judge f p ≡ c → ComesTo (W f) f E p) (H : (l : List A) → Located (T l)) where
    found_walk : (f : List ℕ) (p : ℕ) → Stops more E T inside some f p [] c → ComesTo (W f) f (walk more E T) p
    found_walk f p r = pick r.why
      where
        pick : ((more f r.at ≡ true) × (E.judge f r.at ≡ c) × (c ≡ 0 → ⊥)) ⊎ ((more f r.at ≡ false) × ((T ([] ++ r.list)).judge f r.at ≡ c))
            → ComesTo (W f) f (walk more E T) p
        pick (inl y) =
            let x = G f r.at y.0 y.1 in
            record { B = x.B; T = x.T; at = x.at; comes = step more E T inside some r.passed y.0 x.comes; because = x.because }
        pick (inr y) =
            let x = (H r.list).found f r.at y.1 in
            record { B = x.B; T = x.T; at = x.at; comes = end more E T inside some r.passed y.0 x.comes; because = x.because }

    in_walk : Located (walk more E T)
    in_walk = record { found = λ f p h. found_walk f p (stops more E T inside some f p [] c h) }

  -- ---- map and lists of variables

  in_map : (t : Bool) (o : Order) → Located (file_map t o)
  unfolding file_map
  in_map t o = in_between _ _ _ (in_within _ _ (never _ (never_times _ (never_number o 8) (map_count t))))

  in_types : (t : Bool) (o : Order) (k : ℕ) → Located (types t o k)
  unfolding types type_code
  in_types t o k =
      in_between _ _ _
      (in_within _ _ (never _ (never_times _ (never_ruled _ (never_coded _ (never_number o (code_width t)) (type_by t) (code_of t)) (has_type t) 6 (far 6 (omega arith))) k)))

  never_name : (w : ℕ) → Never (name w)
  unfolding name
  never_name w = never_ruled _ (never_text w 7 (far 7 (omega arith))) nonempty 7 (far 7 (omega arith))

  in_names_lem : (t : Bool) (w k : ℕ) → Located (names t w k)
  unfolding names
  in_names_lem t w k = in_between _ _ _ (in_within _ _ (never _ (never_times _ (never_name w) k)))

  in_sort : (t : Bool) (o : Order) (k : ℕ) → Located (sort_list t o k)
  unfolding sort_list
  in_sort t o k =
      in_between _ _ _ (in_within _ _ (never _ (never_ruled _ (never_ended o 2 (suc k) 8 (far 8 (omega arith))) (fresh k []) 8 (far 8 (omega arith)))))

  in_fields : (t : Bool) (n : List ℕ) (w k : ℕ) → Located (fields t n w k)
  unfolding fields
  in_fields t n w k = in_between _ _ _ (in_within _ _ (never _ (never_times _ (never_text w 7 (far 7 (omega arith))) k)))

  -- ---- expansion blocks and characteristics

  in_expansion : (t : Bool) (o : Order) → Located (expansion t o)
  unfolding expansion expansion_head expansion_body
  in_expansion t o =
      in_told _
      (in_seq _ _ (in_tag (opening t n_ch)) λ a.
      in_seq _ _
      (in_within _ (kind_width t + 4)
      (never _ (never_ruled _ (never_seq _ _ (never_number msf (kind_width t)) λ d. never_number o 4) (λ h. t || not (eqb h.0 0)) 9 (far 9 (omega arith))))) λ h.
      in_seq _ _ (in_within _ h.1 (never _ (never_idle h.1 0))) λ d.
      in_tag (closing t n_ch))
      (λ v. v.1.0) (λ h. (tt, (h, (tt, tt))))

  in_expansions : (t : Bool) (o : Order) → Located (expansions t o)
  unfolding expansions
  in_expansions t o =
      in_told _
      (in_seq _ _ (in_tag (opening t n_characteristics)) λ a.
      in_walk (expansion_next t) (expansion t o) _ (next_inside t) (expansion_some t o) (λ f p m h. (in_expansion t o).found f p h)
      λ l. in_seq _ _ (own_tag (blocks_end t) 9 (far 9 (omega arith))) λ b. in_tag (closing t n_characteristics))
      (λ v. v.1.0) (λ l. (tt, (l, (tt, tt))))

  -- ---- data and long strings

  module _ (o : Order) (vw ow : ℕ) where
    never_cell : (t : VarType) → Never (cell o vw ow t)
    never_cell (text_type w) = never_coded _ (never_fixed w) chars chars_of
    never_cell strl_type = never_coded _ (never_seq _ _ (never_number o vw) λ v. never_number o ow) link_by link_of
    never_cell byte_type = never_coded _ (never_number o 1) bits bits_of
    never_cell int_type = never_coded _ (never_number o 2) bits bits_of
    never_cell long_type = never_coded _ (never_number o 4) bits bits_of
    never_cell float_type = never_coded _ (never_number o 4) bits bits_of
    never_cell double_type = never_coded _ (never_number o 8) bits bits_of

    in_data : (t : Bool) (l : List VarType) (n : ℕ) → Located (observations t o vw ow l n)
    unfolding observations
    in_data t l n = in_between _ _ _ (in_within _ _ (never _ (never_times _ (never_row (cell o vw ow) never_cell l) n)))

  -- a record that is next is one of a tagged edition
  in_record : (t : Bool) (o : Order) (ow : ℕ) (f : List ℕ) (p : ℕ) → long_next t f p ≡ true → (long_record t o ow).judge f p ≡ c → ComesTo (W f) f (long_record t o ow) p
  unfolding long_record long_head
  in_record t o ow f p m h =
      found_ruled _
      (in_told _
      (in_seq _ _ (in_tag t_gso) λ a.
      in_seq _ _
      (in_within _ (4 + (ow + (1 + 4)))
      (never _ (never_seq _ _ (never_number o 4) λ v. never_seq _ _ (never_number o ow) λ x. never_seq _ _ (never_number o 1) λ k. never_number o 4))) λ g.
      in_within _ g.1.1.1 (never _ (never_raw g.1.1.1)))
      long_by long_of)
      (λ r. t) 4 f p (λ q. zero_not (sym (rw (and_left t (same_at t_gso f p) m)) ∙ q)) (one_of _ _ c h)

  in_strls : (t : Bool) (o : Order) (ow : ℕ) (d : List (List Cell)) → Located (strls t o ow d)
  unfolding strls
  in_strls t o ow d =
      in_told _
      (in_seq _ _ (in_tag (opening t n_strls)) λ a.
      in_walk (long_next t) (long_record t o ow) _ (record_inside t) (record_some t o ow) (in_record t o ow)
      λ l. in_seq _ _ (never _ (never_ruled _ (never_idle 0 0) (λ u. linked d l) 11 (far 11 (omega arith)))) λ u. in_tag (closing t n_strls))
      (λ v. v.1.0) (λ l. (tt, (l, (tt, tt))))

  -- ---- label blocks

  in_table : (o : Order) (w : ℕ) → Located (table o w)
  unfolding table table_head table_body
  in_table o w =
      in_told _
      (in_within _ w
      (in_seq _ _ (never _ (never_ruled _ (never_idle 0 0) (λ u. leb 8 w) 12 (far 12 (omega arith)))) λ u.
      in_seq _ _
      (in_within _ 8 (never _ (never_ruled _ (never_seq _ _ (never_number o 4) λ n. never_number o 4) (table_sizes w) 12 (far 12 (omega arith))))) λ h.
      in_within _ (h.0 * 4 + (h.0 * 4 + h.1))
      (never _
      (never_seq _ _ (never_times _ (never_number o 4) h.0) λ a.
      never_seq _ _ (never_ruled _ (never_times _ (never_number o 4) h.0) ascending 12 (far 12 (omega arith))) λ v.
      never_area a h.1 12 (far 12 (omega arith))))))
      table_by table_of

  in_block : (t : Bool) (o : Order) (w : ℕ) → Located (block t o w)
  unfolding block block_head
  in_block t o w =
      in_told _
      (in_seq _ _ (in_tag (opening t n_lbl)) λ a.
      in_seq _ _ (in_within _ (4 + (w + 3)) (never _ (never_seq _ _ (never_number o 4) λ n. never_seq _ _ (never_name w) λ x. never_idle 3 0))) λ h.
      in_seq _ _ (in_table o h.0) λ b.
      in_tag (closing t n_lbl))
      block_by block_of

  in_blocks : (t : Bool) (o : Order) (w : ℕ) → Located (blocks t o w (done 13))
  unfolding blocks
  in_blocks t o w =
      in_told _
      (in_seq _ _ (in_tag (opening t n_value_labels)) λ a.
      in_walk (block_next t) (block t o w) _ (block_inside t) (block_some t o w) (λ f p m h. (in_block t o w).found f p h)
      λ l. in_seq _ _ (in_tag (closing t n_value_labels)) λ b. in_seq _ _ (in_tag (closing t n_stata_dta)) λ d. never _ (never_done 13 (far 13 (omega arith))))
      (λ v. v.1.0) (λ l. (tt, (l, (tt, (tt, tt)))))

  -- ---- the header

  never_stamp : Never old_stamp
  unfolding old_stamp
  never_stamp =
      never_told _
      (never_seq _ _ (never_ruled _ (never_fixed 17) (λ t. stamp_length (length t)) 5 (far 5 (omega arith))) λ t. never_lit 0 5 (far 5 (omega arith)))
      (λ v. v.0) (λ t. (t, tt))

  in_old : (d : ℕ) (o : Order) (n l : ℕ) → Located (old_header d o n l)
  unfolding old_header
  in_old d o n l =
      in_told _
      (in_within _ (6 + (n + (suc l + 18)))
      (never _
      (never_seq _ _ (never_lit d 2 two_not) λ a.
      never_seq _ _ (never_lit (order_mark o) 5 (far 5 (omega arith))) λ b.
      never_seq _ _ (never_lit 1 5 (far 5 (omega arith))) λ x.
      never_seq _ _ (never_idle 1 1) λ y.
      never_seq _ _ (never_ruled _ (never_number o 2) k_rule 5 (far 5 (omega arith))) λ k.
      never_seq _ _ (never_ruled _ (never_number o n) (n_rule k) 5 (far 5 (omega arith))) λ m.
      never_seq _ _ (never_text (suc l) 5 (far 5 (omega arith))) λ t.
      never_stamp)))
      (λ v. v.1.1.1.1) (λ h. (tt, (tt, (tt, (tt, h)))))

  in_counted : (o : Order) (w : ℕ) (t : ℕ → Bool) → Located (counted o w t)
  unfolding counted
  in_counted o w t =
      in_told _
      (in_seq _ _ (in_within _ w (never _ (never_ruled _ (never_number o w) t 5 (far 5 (omega arith))))) λ n.
      in_within _ n (never _ (never_ruled _ (never_raw n) no_zero 5 (far 5 (omega arith)))))
      (λ v. v.1) (λ l. (length l, l))

  in_facts : (o : Order) (n w l : ℕ) → Located (new_facts o n w l)
  unfolding new_facts
  in_facts o n w l =
      in_told _
      (in_seq _ _ (in_between (opening true n_k) (closing true n_k) _ (in_within _ 2 (never _ (never_ruled _ (never_number o 2) k_rule 5 (far 5 (omega arith)))))) λ k.
      in_seq _ _ (in_between (opening true n_n) (closing true n_n) _ (in_within _ n (never _ (never_ruled _ (never_number o n) (n_rule k) 5 (far 5 (omega arith)))))) λ m.
      in_seq _ _ (in_between (opening true n_label) (closing true n_label) _ (in_counted o w (λ x. leb x l))) λ t.
      in_seq _ _ (in_between (opening true n_timestamp) (closing true n_timestamp) _ (in_counted o 1 stamp_length)) λ s.
      in_tag (closing true n_header))
      (λ v. (v.0, (v.1.0, (v.1.1.0, v.1.1.1.0)))) (λ h. (h.0, (h.1.0, (h.1.1.0, (h.1.1.1, tt)))))

  in_new : (d : ℕ) (o : Order) (n w l : ℕ) → Located (new_header d o n w l)
  unfolding new_header
  in_new d o n w l =
      in_told _
      (in_seq _ _ (own_tag (tagged_start d) 2 two_not) λ a.
      in_seq _ _ (in_between (opening true n_byteorder) (closing true n_byteorder) _ (own_tag (order_text o) 5 (far 5 (omega arith)))) λ b.
      in_facts o n w l)
      (λ v. v.1.1) (λ h. (tt, (tt, h)))

  in_header : (t : Bool) (e : Edition) (o : Order) → Located (header_by t e o)
  in_header true e o = in_new e.number o e.n_width e.label_length e.label_max
  in_header false e o = in_old e.number o e.n_width e.label_max

  -- ---- the file

  pub in_file : (e : Edition) (o : Order) → Located (file e o)
  unfolding file_to sections from_map from_types from_names from_sort_list from_formats from_set_names from_var_labels from_expansions from_data from_strls
  in_file e o =
      in_told _
      (in_ruled _
      (in_seq _ _ (in_header e.tagged e o) λ h.
      in_seq _ _ (in_map e.tagged o) λ m.
      in_seq _ _ (in_types e.tagged o h.0) λ t.
      in_seq _ _ (in_names_lem e.tagged e.name_width h.0) λ n.
      in_seq _ _ (in_sort e.tagged o h.0) λ s.
      in_seq _ _ (in_fields e.tagged n_formats e.format_width h.0) λ d.
      in_seq _ _ (in_fields e.tagged n_value_label_names e.name_width h.0) λ v.
      in_seq _ _ (in_fields e.tagged n_variable_labels e.var_label_width h.0) λ l.
      in_seq _ _ (in_expansions e.tagged o) λ x.
      in_seq _ _ (in_data o e.v_width e.o_width e.tagged t h.1.0) λ r.
      in_seq _ _ (in_strls e.tagged o e.record_width r) λ g.
      in_blocks e.tagged o e.name_width)
      (map_rule e o) 10 (far 10 (omega arith)))
      gather (spread e o)
