-- The walk over records, a step at a time.
use mathlib.Core.Path.{◌≡◌, refl, sym, ap, ◌∙◌}
use Prim.Native.Nat.{ℕ, zero, suc, ◌+◌, ◌-◌, ◌≤◌, ◌<◌}
use native.Mathlib.Omega.{arith}
use mathlib.Core.List.{List}
use mathlib.Core.Bool.{Bool, true, false, cond, and-false}
use lib.ListN.{length}
use lib.Dec.{eqb, leb}
use borrow.Author.Tests.{le-leb, lt-leb, leb-true, leb-false, eq-eqb, ne_eqb}
use Rattle.format.specs.Number.{Order, num}
use Rattle.questions.specs.Readings.{Try, none, got, bind, test, room}
use Rattle.questions.specs.Ask.{Answer, long, or_refused, record_head, records_in}
use Rattle.walks.specs.Answers.{long_by}
use Rattle.refusal.specs.declared.Refusal.TheVariants.{NotReadable}
use Rattle.std.specs.Prelude.{Some, None, Ok, Err}
use Rattle.std.proofs.lemmas.Option.{none-some, same_Some}
use mathlib.Core.Logic.{◌⊎◌, inl, inr}
use Rattle.walks.specs.Walks.{kind_at, length_at, record_end, record_size, IsSize, is_of, long_at, records_from}
use Rattle.reading.proofs.ReadLaws.{room_got, room_none, number_got, number_none}

module _ (w : ℕ) (o : Order) (f : List ℕ) (z p : ℕ) where
  -- the size, by the tests
  pub size_out : length f < record_end w o f p → None ≡ record_size w o f z p
  unfolding record_size
  size_out h = rw (lt-leb (record_end w o f p) (length f) h, and-false)

  pub size_past : z < record_end w o f p → None ≡ record_size w o f z p
  unfolding record_size
  size_past h = rw (lt-leb (record_end w o f p) z h)

  pub size_in : record_end w o f p ≤ z → record_end w o f p ≤ length f → Some (record_head w + length_at w o f p) ≡ record_size w o f z p
  unfolding record_size
  size_in a b = rw (le-leb (record_end w o f p) z a, le-leb (record_end w o f p) (length f) b)

  -- and back
  sized_some : (n : ℕ) → Some n ≡ record_size w o f z p → (record_end w o f p ≤ z) × (record_end w o f p ≤ length f) × (n ≡ record_head w + length_at w o f p)
  sized_some n e = go (leb (record_end w o f p) z) refl (leb (record_end w o f p) (length f)) refl
    where
      go : (a : Bool) → leb (record_end w o f p) z ≡ a → (b : Bool) → leb (record_end w o f p) (length f) ≡ b
          → (record_end w o f p ≤ z) × (record_end w o f p ≤ length f) × (n ≡ record_head w + length_at w o f p)
      go true a true b =
          let i = leb-true (record_end w o f p) z a in
          let j = leb-true (record_end w o f p) (length f) b in
          (i, j, same_Some n _ (e ∙ sym (size_in i j)))
      go false a b c = absurd (none-some n (size_past (leb-false (record_end w o f p) z a) ∙ sym e))
      go true a false b = absurd (none-some n (size_out (leb-false (record_end w o f p) (length f) b) ∙ sym e))

  sized_none : None ≡ record_size w o f z p → (z < record_end w o f p) ⊎ (length f < record_end w o f p)
  sized_none e = go (leb (record_end w o f p) z) refl (leb (record_end w o f p) (length f)) refl
    where
      go : (a : Bool) → leb (record_end w o f p) z ≡ a → (b : Bool) → leb (record_end w o f p) (length f) ≡ b → (z < record_end w o f p) ⊎ (length f < record_end w o f p)
      go true a true b = absurd (none-some _ (e ∙ sym (size_in (leb-true (record_end w o f p) z a) (leb-true (record_end w o f p) (length f) b))))
      go false a b c = inl (leb-false (record_end w o f p) z a)
      go true a false b = inr (leb-false (record_end w o f p) (length f) b)

module _ (w : ℕ) (o : Order) (f : List ℕ) (v x z : ℕ) where
  abbrev walk_in : ℕ → ℕ → Try Answer
  walk_in = records_in w o f v x z

  -- past the file nothing is found
  past_none : (k p : ℕ) → length f < p → walk_in k p ≡ none
  past_none zero p h = refl
  past_none (suc k) p h = go (leb (p + record_head w) z) refl
    where
      go : (b : Bool) → leb (p + record_head w) z ≡ b → walk_in (suc k) p ≡ none
      go true e = rw (e, number_none o 4 f (p + 3) (omega arith))
      go false e = rw e

  module _ (k p : ℕ) where
    -- where the head is not whole
    head_out : length f < p + record_head w → walk_in (suc k) p ≡ none
    head_out h = go (leb (p + record_head w) z) refl (leb (p + 3 + 4) (length f)) refl (leb (p + 3 + 4 + w) (length f)) refl (leb (p + 3 + 4 + w + 1) (length f)) refl
      where
        go : (b : Bool) → leb (p + record_head w) z ≡ b → (c : Bool) → leb (p + 3 + 4) (length f) ≡ c
            → (d : Bool) → leb (p + 3 + 4 + w) (length f) ≡ d → (e : Bool) → leb (p + 3 + 4 + w + 1) (length f) ≡ e → walk_in (suc k) p ≡ none
        go false b c c1 d d1 e e1 = rw b
        go true b false c d d1 e e1 = rw (b, c)
        go true b true c false d e e1 = rw (b, c, d)
        go true b true c true d false e = rw (b, c, d, e)
        go true b true c true d true e = rw (b, c, d, e, number_none o 4 f (p + 3 + 4 + w + 1) (omega arith))

    -- where it is
    abbrev here : Try Answer
    here = bind (room f (p + record_head w) (length_at w o f p)) λ u. got (long (kind_at w o f p) (p + record_head w) (length_at w o f p))

    headed : p + record_head w ≤ length f → p + record_head w ≤ z →
        walk_in (suc k) p ≡ bind (test (leb (record_end w o f p) z)) λ u. cond (is_of w o f v x p) here (walk_in k (record_end w o f p))
    unfolding is_of
    headed h a =
        rw (
          le-leb (p + record_head w) z a,
          number_got o 4 f (p + 3) (omega arith),
          number_got o w f (p + 3 + 4) (omega arith),
          number_got o 1 f (p + 3 + 4 + w) (omega arith),
          number_got o 4 f (p + 3 + 4 + w + 1) (omega arith),
        )

    -- a record that is not whole
    pub walk_past : z < record_end w o f p → walk_in (suc k) p ≡ none
    walk_past h = go (leb (p + record_head w) (length f)) refl (leb (p + record_head w) z) refl
      where
        go : (a : Bool) → leb (p + record_head w) (length f) ≡ a → (b : Bool) → leb (p + record_head w) z ≡ b → walk_in (suc k) p ≡ none
        go false a b c = head_out (leb-false (p + record_head w) (length f) a)
        go true a false b = rw b
        go true a true b = headed (leb-true (p + record_head w) (length f) a) (leb-true (p + record_head w) z b) ∙ (rw (lt-leb (record_end w o f p) z h))

    pub walk_out : length f < record_end w o f p → walk_in (suc k) p ≡ none
    walk_out h = go (leb (p + record_head w) (length f)) refl (leb (record_end w o f p) z) refl (is_of w o f v x p) refl
      where
        go : (a : Bool) → leb (p + record_head w) (length f) ≡ a → (b : Bool) → leb (record_end w o f p) z ≡ b
            → (c : Bool) → is_of w o f v x p ≡ c → walk_in (suc k) p ≡ none
        go false a b b1 c c1 = head_out (leb-false (p + record_head w) (length f) a)
        go true a false b c c1 = walk_past (leb-false (record_end w o f p) z b)
        go true a true b true c =
            let i = leb-true (record_end w o f p) z b in
            headed (leb-true (p + record_head w) (length f) a) (omega arith) ∙ (rw (b, c, room_none f (p + record_head w) (length_at w o f p) h))
        go true a true b false c =
            let i = leb-true (record_end w o f p) z b in
            headed (leb-true (p + record_head w) (length f) a) (omega arith) ∙ (rw (b, c, past_none k (record_end w o f p) h))

    -- a whole record
    module _ (a : record_end w o f p ≤ z) (b : record_end w o f p ≤ length f) where
      pub walk_here : true ≡ is_of w o f v x p → walk_in (suc k) p ≡ got (long (kind_at w o f p) (p + record_head w) (length_at w o f p))
      walk_here e = headed (omega arith) (omega arith) ∙ (rw (le-leb (record_end w o f p) z a, sym e, room_got f (p + record_head w) (length_at w o f p) b))

      pub walk_on : false ≡ is_of w o f v x p → walk_in (suc k) p ≡ walk_in k (record_end w o f p)
      walk_on e = headed (omega arith) (omega arith) ∙ (rw (le-leb (record_end w o f p) z a, sym e))

-- a walk that starts past its part or past the file
module _ (w : ℕ) (o : Order) (f : List ℕ) (v x z p : ℕ) where
  pub from_past : z ≤ p → records_from w o f v x z p ≡ none
  unfolding records_from
  from_past h = walk_past w o f v x z (length f) p (omega arith)

  pub from_out : length f < p → records_from w o f v x z p ≡ none
  unfolding records_from
  from_out h = walk_out w o f v x z (length f) p (omega arith)

-- a loop that looks for the record from `start` on has come to p
pub record Come (w : ℕ) (o : Order) (f : List ℕ) (v x z start p : ℕ) : Type 0 where
  pub inside : p ≤ length f
  pub turns : ℕ
  pub enough : length f < p + suc turns
  pub rest : records_from w o f v x z start ≡ records_in w o f v x z (suc turns) p

module _ (w : ℕ) (o : Order) (f : List ℕ) (v x z start : ℕ) where
  pub starts : start ≤ length f → Come w o f v x z start start
  unfolding records_from
  starts h = record { inside = h; turns = length f; enough = omega arith; rest = refl }

  module _ (p : ℕ) (c : Come w o f v x z start p) where
    pub come_none : IsSize w o f z p None → Err NotReadable ≡ long_by (or_refused (records_from w o f v x z start))
    come_none s = ap long_by (sym (ap or_refused (c.rest ∙ go (sized_none w o f z p s.is))))
      where
        go : (z < record_end w o f p) ⊎ (length f < record_end w o f p) → records_in w o f v x z (suc c.turns) p ≡ none
        go (inl a) = walk_past w o f v x z c.turns p a
        go (inr a) = walk_out w o f v x z c.turns p a

    module _ (n : ℕ) (s : IsSize w o f z p (Some n)) where
      pub come_here : true ≡ is_of w o f v x p → Ok (long_at w o f p n) ≡ long_by (or_refused (records_from w o f v x z start))
      come_here t =
          let a = sized_some w o f z p n s.is in
          let i : n - record_head w ≡ length_at w o f p = omega arith in
          rw i (ap long_by (sym (ap or_refused (c.rest ∙ walk_here w o f v x z c.turns p a.0 a.1 t))))

      pub come_on : false ≡ is_of w o f v x p → Come w o f v x z start (p + n)
      come_on t = go c.turns c.enough c.rest
        where
          go : (k : ℕ) → length f < p + suc k → records_from w o f v x z start ≡ records_in w o f v x z (suc k) p → Come w o f v x z start (p + n)
          go zero g r = absurd (omega (arith, s.inside))
          go (suc k) g r =
              let a = sized_some w o f z p n s.is in
              let i : record_end w o f p ≡ p + n = omega arith in
              record {
                inside = omega (arith, s.inside);
                turns = k;
                enough = omega (arith, s.inside);
                rest = r ∙ walk_on w o f v x z (suc k) p a.0 a.1 t ∙ ap (records_in w o f v x z (suc k)) i;
              }

-- ---- what code reads of a record

module _ (w : ℕ) (o : Order) (f : List ℕ) (p : ℕ) where
  seven : p + 7 ≡ p + 3 + 4
  seven = omega arith

  kind_place : p + (7 + w) ≡ p + 3 + 4 + w
  kind_place = omega arith

  length_place : p + (8 + w) ≡ p + 3 + 4 + w + 1
  length_place = omega arith

  pub length_is : (n : ℕ) → n ≡ num o 4 f (p + (8 + w)) → n ≡ length_at w o f p
  length_is n e = e ∙ ap (num o 4 f) length_place

  pub not_of : (v x a : ℕ) → a ≡ num o 4 f (p + 3) → (a ≡ v → ⊥) → false ≡ is_of w o f v x p
  unfolding is_of
  not_of v x a e n = rw (sym e, ne_eqb a v n)

  pub of_row : (v x a : ℕ) → a ≡ num o 4 f (p + 3) → a ≡ v → (b : ℕ) → b ≡ num o w f (p + 7) → eqb b x ≡ is_of w o f v x p
  unfolding is_of
  of_row v x a e h b q = let r = q ∙ ap (num o w f) seven in rw (sym e, eq-eqb a v h, sym r)

  pub long_is : (n k : ℕ) → k ≡ num o 1 f (p + (7 + w)) → record { kind = k; at = p + (12 + w); len = n - (12 + w) } ≡ long_at w o f p n
  long_is n k e =
      let a : p + (12 + w) ≡ p + record_head w = omega arith in
      let b : n - (12 + w) ≡ n - record_head w = omega arith in
      rw (e, kind_place, a, b)
