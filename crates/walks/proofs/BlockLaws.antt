-- The walk over label blocks, a step at a time.
use mathlib.Core.Path.{◌≡◌, refl, sym, ap, ◌∙◌}
use Prim.Native.Nat.{ℕ, zero, suc, ◌+◌, ◌-◌, ◌≤◌, ◌<◌}
use native.Mathlib.Omega.{arith}
use mathlib.Core.List.{List, [], ◌∷◌}
use mathlib.Core.Bool.{Bool, true, false, cond, ◌&&◌, and-false}
use lib.ListN.{length, get_or, take, drop, length-drop}
use lib.Seq.{length-take-le}
use native.Mathlib.Nat.{add-sub_cancel_left}
use lib.Dec.{eqb}
use borrow.Author.Tests.{le-leb, lt-leb, lt-ltb, le-ltb, eq-eqb, ne_eqb, eqb-true, eqb-false}
use Rattle.format.specs.Number.{Order}
use Rattle.format.specs.Grammar.{text_at, same_at}
use Rattle.format.specs.Dta.{same_list}
use Rattle.questions.specs.Readings.{Try, none, got, bind, number_in, text_in}
use Rattle.questions.specs.Ask.{Labels, unlabelled, labelled, Answer, refused, labels, or_refused, slice, sized_in, block_in, blocks_in}
use Rattle.reading.specs.Reads.{length_in}
use Rattle.refusal.specs.declared.Refusal.TheVariants.{NotReadable}
use Rattle.std.specs.Prelude.{Some, None, Ok, Err}
use Rattle.walks.specs.Answers.{set_by}
use Rattle.walks.specs.Walks.{open_size, close_size, name_at, table_at, is_sized, BlockGot, same_name, block_labels}
use Rattle.walks.proofs.TableLaws.{sized_got, sized_none}
use Rattle.walks.proofs.TextLaws.{text_none, text_got}

-- ---- one block

module _ (t : Bool) (w : ℕ) (o : Order) (f : List ℕ) (z p : ℕ) where
  pub block_short : z < table_at t w p → block_in t w o f z p ≡ none
  block_short h = rw (lt-leb (table_at t w p) z h)

  module _ (h : table_at t w p ≤ z) where
    pub block_out : number_in o 4 f (p + open_size t) ≡ none → block_in t w o f z p ≡ none
    block_out k = rw (le-leb (table_at t w p) z h, k)

    module _ (n : ℕ) (k : number_in o 4 f (p + open_size t) ≡ got n) where
      pub block_past : z < table_at t w p + n + close_size t → block_in t w o f z p ≡ none
      block_past b = rw (le-leb (table_at t w p) z h, k, lt-leb (table_at t w p + n + close_size t) z b)

      module _ (b : table_at t w p + n + close_size t ≤ z) where
        -- what is read after the table's length
        after : (x : Try (List ℕ)) (y : Try (Unit {0})) → text_in w f (name_at t p) ≡ x → sized_in o f n (table_at t w p) ≡ y
            → block_in t w o f z p ≡ bind x λ s. bind y λ u. got (n, s)
        after x y e d = rw (le-leb (table_at t w p) z h, k, le-leb (table_at t w p + n + close_size t) z b, e, d)

        pub block_unsized : is_sized o f n (table_at t w p) ≡ false → block_in t w o f z p ≡ none
        block_unsized d = go (text_in w f (name_at t p)) refl
          where
            go : (x : Try (List ℕ)) → text_in w f (name_at t p) ≡ x → block_in t w o f z p ≡ none
            go none e = after none none e (sized_none o f n (table_at t w p) d)
            go (got s) e = after (got s) none e (sized_none o f n (table_at t w p) d)

        module _ (d : is_sized o f n (table_at t w p) ≡ true) where
          named : (x : Try (List ℕ)) → text_in w f (name_at t p) ≡ x → block_in t w o f z p ≡ bind x λ s. got (n, s)
          named x e = after x (got tt) e (sized_got o f n (table_at t w p) d)

          pub block_got : (m : ℕ) → length_in w f (name_at t p) ≡ got m → BlockGot t w o f z p n m
          block_got m e =
              let g = text_got w f (name_at t p) m e in
              record { is = named (got (text_at w f (name_at t p))) g.is; name = g.long; fits = b; inside = g.inside }

          pub block_nameless : length_in w f (name_at t p) ≡ none → block_in t w o f z p ≡ none
          block_nameless e = named none (text_none w f (name_at t p) e)

-- ---- names

eqb_suc : (a b : ℕ) → eqb (suc a) (suc b) ≡ eqb a b
eqb_suc a b = go (eqb a b) refl
  where
    go : (t : Bool) → eqb a b ≡ t → eqb (suc a) (suc b) ≡ eqb a b
    go true e = eq-eqb (suc a) (suc b) (ap suc (eqb-true a b e)) ∙ sym e
    go false e = ne_eqb (suc a) (suc b) (λ q. eqb-false a b e (cc q)) ∙ sym e

empty_same : (s : List ℕ) (f : List ℕ) (p : ℕ) → (eqb 0 (length s) && same_at s f p) ≡ same_list [] s
empty_same [] f p = refl
empty_same (y ∷ s) f p = rw (ne_eqb 0 (suc (length s)) (λ q. omega arith))

same_text : (w : ℕ) (f : List ℕ) (p : ℕ) (s : List ℕ) → (eqb (length (text_at w f p)) (length s) && same_at s f p) ≡ same_list (text_at w f p) s
same_text zero f p s = empty_same s f p
same_text (suc w) f p s = go s (eqb (get_or f p 0) 0) refl (same_text w f (suc p))
  where
    go : (s : List ℕ) (b : Bool) → eqb (get_or f p 0) 0 ≡ b
        → ((s : List ℕ) → (eqb (length (text_at w f (suc p))) (length s) && same_at s f (suc p)) ≡ same_list (text_at w f (suc p)) s)
        → (eqb (length (text_at (suc w) f p)) (length s) && same_at s f p) ≡ same_list (text_at (suc w) f p) s
    go s true e h = rw e (empty_same s f p)
    go [] false e h = rw (e, ne_eqb (suc (length (text_at w f (suc p)))) 0 (λ q. omega arith))
    go (y ∷ s) false e h = rw (e, eqb_suc (length (text_at w f (suc p))) (length s)) (by (eqb (get_or f p 0) y) (eqb (length (text_at w f (suc p))) (length s)) (same_at s f (suc p)) (h s))
      where
        by : (a b c : Bool) {d : Bool} → (b && c) ≡ d → (b && (a && c)) ≡ (a && d)
        by true b c h = h
        by false b c h = and-false b

same_name_is : (w : ℕ) (f : List ℕ) (p n : ℕ) (s : List ℕ) (m : ℕ) → n ≡ length (text_at w f p) → m ≡ length s
    → (eqb n m && same_at s f p) ≡ same_list (text_at w f p) s
same_name_is w f p n s m a b = rw (a, b) (same_text w f p s)

module _ (f : List ℕ) (p n a m : ℕ) where
  pub name_other : (n ≡ m → ⊥) → false ≡ same_name f p n a m
  unfolding same_name
  name_other h = rw (ne_eqb n m h)

  pub name_same : n ≡ m → (b : Bool) → b ≡ same_at (take (a + m - a) (drop a f)) f p → b ≡ same_name f p n a m
  unfolding same_name
  name_same h b e = rw (eq-eqb n m h) (e ∙ ap (λ (k : ℕ). same_at (take k (drop a f)) f p) (add-sub_cancel_left a m))

  -- the name of a block is that text
  pub name_is : (w : ℕ) → n ≡ length (text_at w f p) → a + m ≤ length f → same_name f p n a m ≡ same_list (text_at w f p) (slice f a m)
  unfolding same_name
  name_is w e h = same_name_is w f p n (slice f a m) m e (sym (length-take-le m (drop a f) (simp length-drop (omega arith))))

-- ---- the walk

-- a loop that looks for the block from `start` on has come to p
pub record Come (t : Bool) (w : ℕ) (o : Order) (f s : List ℕ) (z start p : ℕ) : Type 0 where
  pub turns : ℕ
  pub enough : length f < p + suc turns
  pub rest : block_labels t w o f s z start ≡ or_refused (bind (blocks_in t w o f s z (suc turns) p) λ x. got (labels x))

module _ (t : Bool) (w : ℕ) (o : Order) (f s : List ℕ) (z start : ℕ) where
  abbrev as_answer : Try Labels → Answer
  as_answer r = or_refused (bind r λ x. got (labels x))

  pub starts : Come t w o f s z start start
  unfolding block_labels
  starts = record { turns = length f; enough = omega arith; rest = refl }

  module _ (p : ℕ) (c : Come t w o f s z start p) where
    pub come_plain : z ≤ p → Ok None ≡ set_by (block_labels t w o f s z start)
    come_plain h =
        let s : block_labels t w o f s z start ≡ labels unlabelled = c.rest ∙ (rw (le-ltb p z h)) in
        sym (ap set_by s)

    module _ (h : p < z) where
      pub come_gone : block_in t w o f z p ≡ none → Err NotReadable ≡ set_by (block_labels t w o f s z start)
      come_gone b =
          let s : block_labels t w o f s z start ≡ refused 17 = c.rest ∙ (rw (lt-ltb p z h, b)) in
          sym (ap set_by s)

      module _ (n k : ℕ) (g : BlockGot t w o f z p n k) where
        step : (k : ℕ) (b : Bool) → b ≡ same_list (text_at w f (name_at t p)) s → blocks_in t w o f s z (suc k) p
            ≡ cond b (got (labelled (table_at t w p) n)) (blocks_in t w o f s z k (table_at t w p + n + close_size t))
        step k b e = rw (lt-ltb p z h, g.is, sym e)

        pub come_here : true ≡ same_list (text_at w f (name_at t p)) s → (a : ℕ) → a ≡ table_at t w p
            → Ok (Some (record { at = a; len = n })) ≡ set_by (block_labels t w o f s z start)
        come_here e a A = ap (λ (x : ℕ). set_by (labels (labelled x n))) A ∙ sym (ap set_by (c.rest ∙ ap as_answer (step c.turns true e)))

        pub come_on : false ≡ same_list (text_at w f (name_at t p)) s → Come t w o f s z start (table_at t w p + n + close_size t)
        come_on e = go c.turns c.enough c.rest
          where
            go : (k : ℕ) → length f < p + suc k → block_labels t w o f s z start ≡ as_answer (blocks_in t w o f s z (suc k) p)
                → Come t w o f s z start (table_at t w p + n + close_size t)
            go zero b r = absurd (omega (arith, g.inside))
            go (suc k) b r = record { turns = k; enough = omega (arith, g.inside); rest = r ∙ ap as_answer (step (suc k) false e) }
