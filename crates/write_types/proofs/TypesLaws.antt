-- Type codes, tested and put one after another.
use mathlib.Core.Path.{◌≡◌, refl, sym, ap, ◌∙◌}
use Prim.Native.Nat.{ℕ, ◌+◌, ◌-◌, ◌*◌, ◌≤◌, ◌<◌}
use mathlib.Core.List.{List, ◌++◌}
use mathlib.Core.Bool.{Bool, true, false}
use borrow.Rule.Slice.PartMut.{put_mid}
use lib.ListN.{length, take, drop}
use Rattle.format.specs.Slot.{fill}
use Rattle.format.specs.Number.{Order, num_slots}
use Rattle.format.specs.Grammar.{read_times, all_slots}
use Rattle.format.specs.Edition.{code_width}
use Rattle.format.specs.Variables.{VarType, code_of, has_type, type_code}
use Rattle.format.specs.Dta.{all_types}
use Rattle.format.proofs.SlotLaws.{length_tab}
use Rattle.codes.specs.declared.Field.{Field}
use Rattle.codes.specs.Fields.{type_of}
use Rattle.codes.proofs.Laws.{type_back}
use Rattle.data.specs.Places.{field_at, Typed}
use Rattle.data.proofs.PlaceLaws.{type_at, field_type}
use Rattle.text.proofs.Lay.{Laid}
use Rattle.write_texts.proofs.TimesLaws.{all_more, all_stop, put_turn}

code_size : (t : Bool) (o : Order) (x : VarType) → (type_code t o).size x ≡ code_width t
unfolding type_code
code_size t o x = refl

code_long : (t : Bool) (o : Order) (w : ℕ) → w ≡ code_width t → (x : VarType) → length ((type_code t o).slots x) ≡ w
unfolding type_code
code_long t o w e x = length_tab (code_width t) _ ∙ sym e

code_put : (t : Bool) (o : Order) (w c : ℕ) (x : VarType) → w ≡ code_width t → c ≡ code_of t x → fill (num_slots o w c) ≡ fill ((type_code t o).slots x)
unfolding type_code
code_put t o w c x e h = λ i. fill (num_slots o (e i) (h i))

module _ (t : Bool) (o : Order) (f : List ℕ) (p : ℕ) where
  type_read : (i : ℕ) → (type_code t o).read f (p + i * code_width t) ≡ type_at t o f p i
  unfolding type_code
  type_read i = refl

  abbrev pub types_at : ℕ → List VarType
  types_at i = read_times (type_code t o) i f p

  -- the type of variable i, by its field
  type_is : (k i : ℕ) → Typed t o f p k → i < k → (x : Field) → x ≡ field_at t o f p i → type_of x.kind x.width ≡ (type_code t o).read f (p + i * code_width t)
  type_is k i T b x e =
      ap (λ (y : Field). type_of y.kind y.width) (e ∙ field_type t o f p k T.right i b) ∙ type_back (type_at t o f p i) ∙ sym (type_read i)

  module _ (z : Bool) where
    -- the edition z has it, or hasn't
    pub types_more : (k i : ℕ) → Typed t o f p k → i < k → (x : Field) → x ≡ field_at t o f p i → has_type z (type_of x.kind x.width) ≡ true
        → all_types z (types_at i) ≡ true → all_types z (types_at (i + 1)) ≡ true
    types_more k i T b x e g h =
        all_more (type_code t o) (code_width t) (code_size t o) f (has_type z) (all_types z) refl (λ a l. refl) i p h (ap (has_type z) (sym (type_is k i T b x e)) ∙ g)

    pub types_stop : (k i : ℕ) → Typed t o f p k → i < k → (x : Field) → x ≡ field_at t o f p i → has_type z (type_of x.kind x.width) ≡ false
        → all_types z (types_at k) ≡ false
    types_stop k i T b x e g =
        all_stop (type_code t o) (code_width t) (code_size t o) f (has_type z) (all_types z) refl (λ a l. refl) k p i b (ap (has_type z) (sym (type_is k i T b x e)) ∙ g)

    -- what is put for i of them, as codes of z
    abbrev pub put_types : Order → ℕ → List ℕ
    put_types q i = fill (all_slots (type_code z q) (types_at i))

    -- in w bytes each
    module _ (q : Order) (w : ℕ) (wide : w ≡ code_width z) where
      pub types_turn : {d v : List ℕ} (k i : ℕ) → Typed t o f p k → i < k → (x : Field) → x ≡ field_at t o f p i
          → (c : ℕ) → c ≡ code_of z (type_of x.kind x.width) → Laid (put_types q i) (i * w) d v → k * w ≤ length d → (g : List ℕ)
          → g ≡ fill (num_slots q w c) ++ drop w (take (length v - i * w) (drop (i * w) v))
          → Laid (put_types q (i + 1)) ((i + 1) * w) d (put_mid (i * w) (length v - i * w) v g)
      types_turn {d} {v} k i T b x e c h l room g r =
          let a = code_put z q w c ((type_code t o).read f (p + i * code_width t)) wide (h ∙ ap (code_of z) (type_is k i T b x e)) in
          put_turn (type_code t o) (code_width t) (code_size t o) f (type_code z q) w (code_long z q w wide) p i k l b room g
          (r ∙ ap (λ (y : List ℕ). y ++ drop w (take (length v - i * w) (drop (i * w) v))) a)
