-- The runs of a row, variable by variable; and rows, one by one.
use mathlib.Core.Path.{◌≡◌, refl, sym, ap, ◌∙◌}
use mathlib.Core.List.{List, [], ◌++◌, append_assoc, append-nil}
use Prim.Native.Nat.{ℕ, zero, suc, ◌+◌, ◌/◌, ◌≤◌, ◌<◌}
use native.Mathlib.Nat.{add-zero, zero-add, mul-le-mul_right, div-le_self}
use native.Mathlib.Omega.{arith}
use native.Mathlib.Numerals.{add-one}
use lib.ListN.{length}
use Rattle.format.specs.Slot.{fill, Bytes}
use Rattle.format.specs.Number.{order_by}
use Rattle.format.specs.Grammar.{row_slots, read_row}
use Rattle.format.specs.Variables.{VarType, text_type, strl_type, byte_type, int_type, long_type, float_type, double_type}
use Rattle.format.specs.Data.{Cell}
use Rattle.format.proofs.WriteLaws.{fill_append}
use Rattle.codes.specs.declared.Field.{Field}
use Rattle.codes.specs.Fields.{field_by}
use Rattle.data.specs.Places.{field_at, off_at}
use Rattle.data.proofs.PlaceLaws.{off_small, field_small, type_at, field_type, RightFrom, types_from, right_next, right_field, types_step, types_first, first}
use Rattle.write_data.specs.declared.Source.{Source}
use Rattle.write_data.specs.declared.Forms.{Forms}
use Rattle.write_data.specs.Rows.{from, to, Eights, Sourced, row_bytes}
use Rattle.write_data.specs.Runs.{run_kind, run_step, run_size, run_bytes, runs_size, runs_bytes, Added, Planned}
use Rattle.write_data.proofs.CellLaws.{kind_small, size_is, cell_run}

-- a variable's cells start within 2 ^ 26 bytes
offset_small : (f : List ℕ) (g : Source) → g.k ≤ 32767 → (i : ℕ) → i < g.k → off_at g.tagged (order_by g.msf) f g.types i + 2045 ≤ 67108864
offset_small f g few i b =
    omega (arith, off_small g.tagged (order_by g.msf) f g.types i, mul-le-mul_right {m = i} {n = 32767} 2045 (omega arith))

module _ (f : List ℕ) (g : Source) (h : Forms) where
  abbrev pub type_of : ℕ → VarType
  type_of i = type_at g.tagged (order_by g.msf) f g.types i

  abbrev pub offset : ℕ → ℕ
  offset i = off_at g.tagged (order_by g.msf) f g.types i

  abbrev field : ℕ → Field
  field i = field_at g.tagged (order_by g.msf) f g.types i

  -- what is put for the first i cells of the row at q
  abbrev pub front : ℕ → ℕ → List ℕ
  front q zero = []
  front q (suc i) = front q i ++ fill ((to h (type_of i)).slots ((from h (type_of i)).read f (q + offset i)))

  -- the r runs of t are those of the first i variables
  pub record Planning (t : List ℕ) (r i : ℕ) : Type 0 where
    pub few : r ≤ i
    pub long : length t ≡ 32768
    pub size : runs_size t r ≡ offset i
    pub bytes : (q : ℕ) → q + offset i ≤ length f → runs_bytes t h r f q ≡ front q i

  -- a count fits the table
  pub plan_cast : (i : ℕ) (x : Field) → x ≡ field i → (b : ℕ) → x.width / b < 4294967296
  plan_cast i x e b =
      omega (arith, field_small g.tagged (order_by g.msf) f g.types i, ap (λ (y : Field). y.width) e, div-le_self x.width b)

  module _ (F : Sourced f g) (E : Eights h) where
    -- the field of a variable is that of its type
    type_field_lem : (i : ℕ) → i < g.k → field i ≡ field_by (type_of i)
    type_field_lem i b = field_type g.tagged (order_by g.msf) f g.types g.k F.typed.right i b

    plan_size : (i : ℕ) → i < g.k → (x : Field) → x ≡ field i → (s b c : ℕ) → s ≡ run_kind h x.kind → b ≡ run_step s → c ≡ x.width / b → run_size s c ≡ (field i).width
    plan_size i l x e s b c es eb ec =
        let y : x ≡ field_by (type_of i) = e ∙ type_field_lem i l in
        rw (ec, eb, es, y, type_field_lem i l) (size_is h (type_of i))

    -- there is room for one more
    pub plan_room : (t : List ℕ) (r i : ℕ) → i < g.k → Planning t r i → (x : Field) → x ≡ field i → (s b c : ℕ) → s ≡ run_kind h x.kind → b ≡ run_step s → c ≡ x.width / b
        → (length t ≡ 32768) × (r ≤ 32767) × (s < 16) × (runs_size t r + run_size s c ≤ 67108864)
    plan_room t r i l P x e s b c es eb ec =
        let few = F.typed.few in (
          P.long,
          omega (arith, P.few),
          rw es (kind_small h x.kind),
          omega (arith, plan_size i l x e s b c es eb ec, field_small g.tagged (order_by g.msf) f g.types i, P.size, offset_small f g few i l),
        )

    plan_cell : Bytes f → (p i : ℕ) → p + (field_by (type_of i)).width ≤ length f → (x : Field) → x ≡ field_by (type_of i) → (s b c : ℕ) → s ≡ run_kind h x.kind
        → b ≡ run_step s → c ≡ x.width / b → run_bytes h s c f p ≡ fill ((to h (type_of i)).slots ((from h (type_of i)).read f p))
    plan_cell u p i l x y s b c es eb ec = rw (ec, eb, es, y) (sym (cell_run h E f u p (type_of i) l))

    pub plan_more : Bytes f → (t w : List ℕ) (r n i : ℕ) → i < g.k → Planning t r i → (x : Field) → x ≡ field i
        → (s b c : ℕ) → s ≡ run_kind h x.kind → b ≡ run_step s → c ≡ x.width / b → Added t r s c w n → Planning w n (i + 1)
    plan_more u t w r n i l P x e s b c es eb ec A =
        let y : x ≡ field_by (type_of i) = e ∙ type_field_lem i l in
        let z : (field i).width ≡ (field_by (type_of i)).width = ap (λ (a : Field). a.width) (type_field_lem i l) in
        record {
          few = omega (arith, A.few, P.few);
          long = A.long;
          size = rw (add-one i) (A.size ∙ omega (arith, P.size, plan_size i l x e s b c es eb ec));
          bytes = rw (add-one i) (λ q m.
              A.bytes h E f q
              ∙ (λ k. P.bytes q (omega arith) k ++ run_bytes h s c f (q + P.size k))
              ∙ ap (λ (v : List ℕ). front q i ++ v) (plan_cell u (q + offset i) i (omega arith) x y s b c es eb ec));
        }

    -- a cell's size in either form
    from_size : (t : VarType) (c : Cell) → (from h t).size c ≡ (field_by t).width
    from_size (text_type w) c = refl
    from_size strl_type c = E.before
    from_size byte_type c = refl
    from_size int_type c = refl
    from_size long_type c = refl
    from_size float_type c = refl
    from_size double_type c = refl

    abbrev L : ℕ → ℕ → List VarType
    L m i = types_from g.tagged (order_by g.msf) f g.types m i

    abbrev rest : ℕ → ℕ → ℕ → List ℕ
    rest m i p = fill (row_slots (to h) (L m i) (read_row (from h) (L m i) f p))

    -- the cells before variable i, and the m others
    front_row : (q m i : ℕ) → RightFrom g.tagged (order_by g.msf) f g.types m i → front q i ++ rest m i (q + offset i) ≡ front q (i + m)
    front_row q zero i R = append-nil (front q i) ∙ rw add-zero
    front_row q (suc m) i R =
        let p = q + offset i in
        let c = (from h (type_of i)).read f p in
        let e : i + suc m ≡ suc i + m = omega arith in
        let w : p + (from h (type_of i)).size c ≡ q + offset (suc i) =
        omega (arith, from_size (type_of i) c, ap (λ (x : Field). x.width) (right_field g.tagged (order_by g.msf) f g.types m i R)) in
        let a : rest (suc m) i p ≡ fill ((to h (type_of i)).slots c) ++ rest m (suc i) (q + offset (suc i)) =
        ap (λ (l : List VarType). fill (row_slots (to h) l (read_row (from h) l f p))) (types_step g.tagged (order_by g.msf) f g.types m i)
        ∙ fill_append ((to h (type_of i)).slots c) (row_slots (to h) (L m (suc i)) (read_row (from h) (L m (suc i)) f (p + (from h (type_of i)).size c)))
        ∙ ap (λ (y : ℕ). fill ((to h (type_of i)).slots c) ++ rest m (suc i) y) w in
        ap (λ (l : List ℕ). front q i ++ l) a
        ∙ sym (append_assoc (front q i) (fill ((to h (type_of i)).slots c)) (rest m (suc i) (q + offset (suc i))))
        ∙ front_row q m (suc i) (right_next g.tagged (order_by g.msf) f g.types m i R)
        ∙ ap (front q) (sym e)

    pub front_all : (q : ℕ) → front q g.k ≡ row_bytes f g h q
    unfolding row_bytes
    front_all q =
        let e : 0 + g.k ≡ g.k = zero-add g.k in
        sym
        (ap (λ (l : List VarType). fill (row_slots (to h) l (read_row (from h) l f q))) (sym (types_first g.tagged (order_by g.msf) f g.types g.k))
        ∙ ap (rest g.k 0) (sym (add-zero q))
        ∙ front_row q g.k 0 (first g.tagged (order_by g.msf) f g.types g.k F.typed.right)
        ∙ ap (front q) e)

    pub plan_end : (t : List ℕ) (r i : ℕ) → Planning t r i → i ≡ g.k → Planned f g h t r
    plan_end t r i P e =
        let few = F.typed.few in
        record { few = omega (arith, P.few); size = P.size ∙ ap offset e; bytes = λ q b. P.bytes q (rw e b) ∙ ap (front q) e ∙ front_all q }
