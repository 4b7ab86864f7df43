-- The words that a cell shows: those of its label, or the lent text.
use mathlib.Core.Path.{◌≡◌, refl, sym, ap, ◌∙◌}
use Prim.Native.Nat.{ℕ, zero, suc, ◌<◌}
use native.Mathlib.Nat.{not-suc-le-zero}
use native.Mathlib.Omega.{arith}
use mathlib.Core.List.{List, [], ◌∷◌}
use mathlib.Core.Logic.{◌⊎◌, inl, inr}
use mathlib.Core.Bool.{Bool, true, false, true≢false}
use lib.ListN.{length, get_or}
use lib.IntN.{ℤ}
use lib.Dec.{eqb}
use borrow.Author.Tests.{eqb-true}
use Rattle.format.specs.Labels.{LabelBlock}
use Rattle.format.specs.Variables.{nonempty}
use Rattle.format.specs.Cells.{signed_by, Key, nothing, seeks, key_of}
use Rattle.format.specs.Search.{Slot, found, missing, lost}
use Rattle.format.specs.Dta.{Dataset, same_list}
use Rattle.format.proofs.Good.{and_left, and_right}
use Rattle.format.proofs.FileLaws.{list_same}
use Rattle.format.proofs.SearchLaws.{Ends, search_ends}
use Rattle.questions.specs.Fact.{cell_says, cell_asked, type_asked, set_asked, label_at, slot_fact, blocks_bytes, words_bytes}
use Rattle.demands.specs.Demands.{value_at, block_at, LabelOf, WordsGiven}

same_list_lem : (l m : List ℕ) → same_list l m ≡ true → l ≡ m
same_list_lem [] [] h = refl
same_list_lem [] (y ∷ m) h = absurd (true≢false (sym h))
same_list_lem (x ∷ l) [] h = absurd (true≢false (sym h))
same_list_lem (x ∷ l) (y ∷ m) h =
    let a = eqb-true x y (and_left (eqb x y) (same_list l m) h) in
    let b = same_list_lem l m (and_right (eqb x y) (same_list l m) h) in
    λ i. a i ∷ b i

list_equal : (l m : List ℕ) → l ≡ m → same_list l m ≡ true
list_equal l m h = rw h (list_same m)

abbrev none : LabelBlock
none = record { set_name = []; entries = record { offsets = []; values = []; texts = [] } }

module _ (lent : List ℕ) (q : ℤ) (s : List ℕ) where
  -- slot m of block n of l: the first of the name s, with the value q
  record At (l : List LabelBlock) (n m : ℕ) : Type 0 where
    block : n < length l
    name : (get_or l n none).set_name ≡ s
    first : (k : ℕ) → k < n → (get_or l k none).set_name ≡ s → ⊥
    slot : m < length (get_or l n none).entries.offsets
    value : value_at (get_or l n none).entries m ≡ q

  -- .. and its label is shown
  record Shown (l : List LabelBlock) : Type 0 where
    n : ℕ
    m : ℕ
    at : At l n m
    shows : blocks_bytes lent q s l ≡ label_at (get_or l n none).entries m

  -- none before block n of l has the name, so none before block suc n of b ∷ l if b hasn't
  first_on : (b : LabelBlock) (l : List LabelBlock) (n : ℕ) → same_list b.set_name s ≡ false → ((k : ℕ) → k < n → (get_or l k none).set_name ≡ s → ⊥)
      → (k : ℕ) → k < suc n → (get_or (b ∷ l) k none).set_name ≡ s → ⊥
  first_on b l n e h zero c p = true≢false (sym (list_equal b.set_name s p) ∙ e)
  first_on b l n e h (suc k) c p = h k (omega arith) p

  blocks_shown : (l : List LabelBlock) → (blocks_bytes lent q s l ≡ lent) ⊎ Shown l
  blocks_shown [] = inl refl
  blocks_shown (b ∷ l) =
      go (same_list b.set_name s) refl (slot_fact q b.entries) refl
      (search_ends (λ i. signed_by 2147483648 (get_or b.entries.values i 0)) q (length b.entries.offsets)) (blocks_shown l)
    where
      go : (t : Bool) → same_list b.set_name s ≡ t → (z : Slot) → slot_fact q b.entries ≡ z
          → Ends (λ i. signed_by 2147483648 (get_or b.entries.values i 0)) q (length b.entries.offsets) z
          → (blocks_bytes lent q s l ≡ lent) ⊎ Shown l → (blocks_bytes lent q s (b ∷ l) ≡ lent) ⊎ Shown (b ∷ l)
      go true e (found m) k y h =
          inr (record {
            n = 0;
            m = m;
            at = record { block = omega arith; name = same_list_lem b.set_name s e; first = λ k c. absurd (not-suc-le-zero c); slot = y.0; value = y.1 };
            shows = rw (e, k) refl;
          })
      go true e missing k y h = inl (rw (e, k) refl)
      go true e lost k y h = absurd y
      go false e z k y (inl h) = inl (rw e h)
      go false e z k y (inr h) =
          inr (record {
            n = suc h.n;
            m = h.m;
            at = record {
              block = omega (arith, h.at.block);
              name = h.at.name;
              first = first_on b l h.n e h.at.first;
              slot = h.at.slot;
              value = h.at.value;
            };
            shows = rw e h.shows;
          })

  blocks_label : (l : List LabelBlock) (n m : ℕ) → At l n m → slot_fact q (get_or l n none).entries ≡ found m
      → blocks_bytes lent q s l ≡ label_at (get_or l n none).entries m
  blocks_label [] n m a h = absurd (not-suc-le-zero a.block)
  blocks_label (b ∷ l) zero m a h = rw (list_equal b.set_name s a.name, h) refl
  blocks_label (b ∷ l) (suc n) m a h = go (same_list b.set_name s) refl (blocks_label l n m)
    where
      go : (t : Bool) → same_list b.set_name s ≡ t → (At l n m → slot_fact q (get_or l n none).entries ≡ found m → blocks_bytes lent q s l ≡ label_at (get_or l n none).entries m)
          → blocks_bytes lent q s (b ∷ l) ≡ label_at (get_or l n none).entries m
      go true e i = absurd (a.first 0 (omega arith) (same_list_lem b.set_name s e))
      go false e i =
          rw e (i (record { block = omega (arith, a.block); name = a.name; first = λ k c. a.first (suc k) (omega arith); slot = a.slot; value = a.value }) h)

module _ (d : Dataset) (i j : ℕ) (lent : List ℕ)
    (finds : (n : ℕ) → n < length d.label_blocks → (m : ℕ) → m < length (block_at d n).entries.offsets
    → slot_fact (value_at (block_at d n).entries m) (block_at d n).entries ≡ found m) where
  -- what the cell seeks, and the words for it
  abbrev key : Key
  key = key_of (cell_says (type_asked d i) 0 (cell_asked d i j))

  abbrev shows : Key → List ℕ
  shows k = words_bytes lent k (set_asked d i) d.label_blocks

  named_shows : (q : ℤ) → nonempty (set_asked d i) ≡ true → shows (seeks q) ≡ blocks_bytes lent q (set_asked d i) d.label_blocks
  named_shows q h = rw h

  label : (n m : ℕ) → LabelOf d i j n m → shows key ≡ label_at (block_at d n).entries m
  label n m L =
      let q = value_at (block_at d n).entries m in
      ap shows L.value ∙ named_shows q L.named
      ∙ blocks_label lent q (set_asked d i) d.label_blocks n m
      (record { block = L.block; name = L.name; first = L.first; slot = L.slot; value = refl }) (finds n L.block m L.slot)

  plain : ((n m : ℕ) → LabelOf d i j n m → ⊥) → shows key ≡ lent
  plain unlabelled = go key refl
    where
      by : (q : ℤ) → key ≡ seeks q → nonempty (set_asked d i) ≡ true
          → (blocks_bytes lent q (set_asked d i) d.label_blocks ≡ lent) ⊎ Shown lent q (set_asked d i) d.label_blocks → shows (seeks q) ≡ lent
      by q e h (inl k) = named_shows q h ∙ k
      by q e h (inr k) =
          let a = k.at in
          absurd (unlabelled k.n k.m
          (record { named = h; block = a.block; name = a.name; first = a.first; slot = a.slot; value = e ∙ ap seeks (sym a.value) }))

      named : (q : ℤ) → key ≡ seeks q → (t : Bool) → nonempty (set_asked d i) ≡ t → shows (seeks q) ≡ lent
      named q e true h = by q e h (blocks_shown lent q (set_asked d i) d.label_blocks)
      named q e false h = rw h

      go : (k : Key) → key ≡ k → shows key ≡ lent
      go nothing e = ap shows e
      go (seeks q) e = ap shows e ∙ named q e (nonempty (set_asked d i)) refl

  pub words_given : WordsGiven d i j lent (shows key)
  words_given = record { label = label; plain = plain }
