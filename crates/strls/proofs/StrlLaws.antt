-- The long strings of a file, from the answers for their parts.
use mathlib.Core.Path.{◌≡◌, refl, sym, ap, ◌∙◌, subst}
use Prim.Native.Nat.{ℕ, zero, suc, ◌+◌, ◌*◌, ◌≤◌}
use native.Mathlib.Nat.{add-zero}
use native.Mathlib.Omega.{arith}
use mathlib.Core.List.{List, []}
use mathlib.Core.Bool.{Bool, true, false, cond, ◌&&◌}
use lib.ListN.{length}
use lib.Dec.{leb}
use Rattle.format.specs.Grammar.{Sect, idle, ruled, seq, walk, tag, read_times, times, row, row_width, within}
use Rattle.format.specs.Edition.{opening, closing, n_data, n_strls}
use Rattle.format.specs.Variables.{VarType, text_type, strl_type, byte_type, int_type, long_type, float_type, double_type, type_by, has_type, type_code}
use Rattle.format.specs.Data.{Cell, cell, cell_width, LongString, long_next, linked, observations, strls}
use Rattle.format.proofs.StepLaws.{between_read}
use Rattle.codes.specs.Fields.{field_by, field_of, unknown}
use Rattle.data.specs.Places.{field_at, code_at}
use Rattle.std.specs.Prelude.{Ok, Err, IfOk, IsErr, is_err}
use Rattle.std.proofs.lemmas.Result.{IfOk-at_ok, IfOk-weaker, IfOk-from_err}
use Rattle.refusal.specs.declared.Refusal.{Refusal}
use Rattle.refusal.specs.Refusals.{code_of}
use Rattle.section.specs.Judged.{Judged}
use Rattle.section.proofs.SeqLaws.{seq_refused, seq_on, regroup, tag_none}
use Rattle.section.proofs.TagLaws.{opening_by, closing_by, tag_by}
use Rattle.strls.specs.declared.Frame.{Frame}
use Rattle.strls.specs.Records.{order_of, longs, linked_longs}
use Rattle.strls.specs.Links.{Turn, str_l, is_long, next_long, rule11, Framed, cells_of}
use Rattle.strls.proofs.RecordLaws.{Lo, next_none}
use Rattle.strls.proofs.TableLaws.{never}
use Rattle.strls.proofs.WalkLaws.{recs_read}
use Rattle.section.proofs.WalkOn.{walk_on}
use Rattle.strls.proofs.PassLaws.{stays}
use Rattle.strls.proofs.RuleLaws.{rule_is}
use Rattle.strls.proofs.EndLaws.{rule_ends}

-- ---- an untagged edition has no strL variable, so number 11 never refuses

none_long : (x : VarType) → str_l (cond (has_type false x) (field_by x) unknown).kind ≡ false
none_long (text_type w) = go (leb 1 w && leb w 244)
  where
    go : (b : Bool) → str_l (cond b (field_by (text_type w)) unknown).kind ≡ false
    go true = refl
    go false = refl
none_long strl_type = refl
none_long byte_type = refl
none_long int_type = refl
none_long long_type = refl
none_long float_type = refl
none_long double_type = refl

module _ (f : List ℕ) (d : Frame) where
  module _ (u : d.tagged ≡ false) where
    no_long_lem : (i : ℕ) → is_long f d i ≡ false
    unfolding is_long field_at
    no_long_lem i = subst (λ (t : Bool). str_l (field_of t (code_at t (order_of d) f d.types i)).kind ≡ false) (sym u) (none_long (type_by false (code_at false (order_of d) f d.types i)))

    no_next : (m i : ℕ) → next_long f d m i ≡ i + m
    no_next zero i = sym (add-zero i)
    no_next (suc m) i = rw (no_long_lem i) (no_next m (suc i) ∙ omega arith)

    no_rule : (q : ℕ) → Ok q ≡ rule11 f d q
    unfolding rule11
    no_rule q =
        let e : next_long f d d.k 0 ≡ d.k = no_next d.k 0 ∙ omega arith in
        rw (stays f d e d.n 0 q, ← next_none d.tagged f q u)

  -- ---- the parts in turn

  abbrev cells : List (List Cell)
  cells = cells_of f d

  abbrev whole : Sect (List LongString)
  whole = strls d.tagged (order_of d) d.rwidth cells

  abbrev first : Sect (Unit {0})
  first = tag (opening d.tagged n_strls) 4

  abbrev last : Sect (Unit {0})
  last = tag (closing d.tagged n_strls) 4

  abbrev rule : List LongString → Sect (Unit {0})
  rule l = ruled (idle 0 0) (λ u. linked cells l) 11

  abbrev end : List LongString → Sect (Unit {0} × Unit {0})
  end l = seq (rule l) λ u. last

  abbrev body : Sect (List LongString × (Unit {0} × Unit {0}))
  body = walk (long_next d.tagged) (Lo d) end

  told_of : (p : ℕ) (r : Turn) → Judged (seq first λ a. body) f p r → Judged whole f p r
  unfolding strls tag
  told_of p r j = record { code = j.code; ends = j.ends; inside = j.inside }

  -- ---- the records, then number 11

  module _ (p : ℕ) where
    module _ (F : Framed f d) where
      -- the records are right: number 11 decides
      eleven : (q : ℕ) → Judged (longs d) f p (Ok q) → (r : Turn) → r ≡ rule11 f d p → IfOk r (λ x. x ≡ q) → Judged (linked_longs d cells) f p r
      eleven q E r e h =
          seq_on (longs d) (λ v. rule v.0) f p q E r
          (record {
            code = ap code_of e ∙ rule_is f d F p ((longs d).read f p).0 (recs_read f d p (sym E.code));
            ends = IfOk-weaker r _ _ (λ x z. z ∙ sym (add-zero q)) h;
            inside = IfOk-weaker r _ _ (λ x z. omega (arith, z, E.inside)) h;
          })

      pub eleven_refused : {q : ℕ} → Judged (longs d) f p (Ok q) → (r : Turn) → r ≡ rule11 f d p → IsErr r → Judged (linked_longs d cells) f p r
      eleven_refused {q} E r e h = eleven q E r e (IfOk-from_err r _ h)

      -- it does not refuse: then the records are right
      pub eleven_passed : p ≤ length f → (r : Turn) → r ≡ rule11 f d p → is_err r ≡ false → Judged (linked_longs d cells) f p r
      eleven_passed b (Ok q) e h = eleven q (IfOk-at_ok (λ (x : ℕ). Judged (longs d) f p (Ok x)) (sym e) (rule_ends f d p b)) (Ok q) e refl
      eleven_passed b (Err x) e h = absurd (never (sym h))

  -- ---- between the tags

  module _ (p : ℕ) where
    pub first_refused : (e : Refusal) → Judged first f p (Err e) → Judged whole f p (Err e)
    first_refused e j = told_of p (Err e) (seq_refused first (λ u. body) f p e j)

    module _ {a : ℕ} (A : Judged first f p (Ok a)) where
      from_linked : (r : Turn) → Judged (seq (linked_longs d cells) λ v. last) f a r → Judged whole f p r
      from_linked r j =
          told_of p r (seq_on first (λ u. body) f p a A r (walk_on (long_next d.tagged) (Lo d) end f a r (regroup (longs d) (λ v. rule v.0) last f a r j)))

      pub linked_refused : (e : Refusal) → Judged (linked_longs d cells) f a (Err e) → Judged whole f p (Err e)
      linked_refused e j = from_linked (Err e) (seq_refused (linked_longs d cells) (λ v. last) f a e j)

      pub closed_judged : {b : ℕ} → Judged (linked_longs d cells) f a (Ok b) → (r : Turn) → Judged (tag (cond d.tagged (closing true n_strls) []) 4) f b r → Judged whole f p r
      closed_judged {b} j r k = from_linked r (seq_on (linked_longs d cells) (λ v. last) f a b j r (tag_by 4 f b r (closing_by d.tagged n_strls) k))

  -- the first tag, as it is asked for
  pub first_by : (p : ℕ) (r : Turn) → Judged (tag (cond d.tagged (opening true n_strls) []) 4) f p r → Judged first f p r
  first_by p r j = tag_by 4 f p r (opening_by d.tagged n_strls) j

  -- an untagged edition has no long strings
  pub none_there : Framed f d → d.tagged ≡ false → (p : ℕ) → p ≤ length f → Judged whole f p (Ok p)
  none_there F u p b =
      let A : Judged first f p (Ok p) = subst (λ (t : Bool). Judged (tag (opening t n_strls) 4) f p (Ok p)) (sym u) (tag_none 4 f p b) in
      let K : Judged (tag (cond d.tagged (closing true n_strls) []) 4) f p (Ok p) =
      subst (λ (t : Bool). Judged (tag (cond t (closing true n_strls) []) 4) f p (Ok p)) (sym u) (tag_none 4 f p b) in
      closed_judged p A (eleven_passed p F b (Ok p) (no_rule u p) refl) (Ok p) K

  -- the cells are those that the data section at q says
  pub cells_read : (q : ℕ) → d.data ≡ q + length (opening d.tagged n_data)
      → cells ≡ (observations d.tagged (order_of d) d.vwidth d.owidth (read_times (type_code d.tagged (order_of d)) d.k f d.types) d.n).read f q
  unfolding cells_of observations
  cells_read q e =
      ap (λ (x : ℕ). read_times (row (cell (order_of d) d.vwidth d.owidth) (read_times (type_code d.tagged (order_of d)) d.k f d.types)) d.n f x) e
      ∙ sym (between_read (opening d.tagged n_data) (closing d.tagged n_data) (within (d.n * row_width (cell_width d.vwidth d.owidth) (read_times (type_code d.tagged (order_of d)) d.k f d.types)) (times (row (cell (order_of d) d.vwidth d.owidth) (read_times (type_code d.tagged (order_of d)) d.k f d.types)) d.n)) f q)
