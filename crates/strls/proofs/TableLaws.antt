-- The two tables: offsets of variables, and the strL variables.
use mathlib.Core.Path.{◌≡◌, refl, sym, ap, ◌∙◌, subst}
use Prim.Native.Nat.{ℕ, zero, suc, ◌+◌, ◌-◌, ◌*◌, ◌≤◌, ◌<◌}
use native.Mathlib.Nat.{mul-le-mul_right}
use native.Mathlib.Omega.{arith}
use mathlib.Core.List.{List}
use mathlib.Core.Bool.{Bool, true, false, cond}
use lib.ListN.{length, get_or, set}
use lib.Seq.{get_or-set_same, get_or-set_other}
use lib.Dec.{eqb}
use borrow.Author.Tests.{eqb-true, eqb-false, eq-eqb, ne_eqb}
use Rattle.format.specs.Variables.{VarType, text_type, strl_type, byte_type, int_type, long_type, float_type, double_type}
use Rattle.codes.specs.declared.Field.{Field}
use Rattle.codes.specs.declared.Kind.{Kind}
use Rattle.codes.specs.Fields.{field_by}
use Rattle.data.specs.Places.{field_at}
use Rattle.data.proofs.PlaceLaws.{type_at, field_type, off_small, off_more, cell_in}
use Rattle.strls.specs.declared.Frame.{Frame}
use Rattle.strls.specs.Records.{order_of}
use Rattle.strls.specs.Links.{str_l, offset_of, place_of, is_long, next_long, Framed, Offsets, Nexts, Tabled}

pub never : false ≡ true → ⊥
never z = subst (λ (b : Bool). cond b ⊥ (Unit {0})) z tt

-- a type whose kind is strL, and the width of its cells
pub long_type_lem : (x : VarType) → str_l (field_by x).kind ≡ true → x ≡ strl_type
long_type_lem (text_type w) h = absurd (never h)
long_type_lem strl_type h = refl
long_type_lem byte_type h = absurd (never h)
long_type_lem int_type h = absurd (never h)
long_type_lem long_type h = absurd (never h)
long_type_lem float_type h = absurd (never h)
long_type_lem double_type h = absurd (never h)

long_width : (x : VarType) → str_l (field_by x).kind ≡ true → (field_by x).width ≡ 8
long_width x h = ap (λ (y : VarType). (field_by y).width) (long_type_lem x h)

module _ (f : List ℕ) (d : Frame) where
  -- a field in hand, by its kind
  pub long_is : (i : ℕ) (x : Field) (k : Kind) → x ≡ field_at d.tagged (order_of d) f d.types i → x.kind ≡ k → str_l k ≡ is_long f d i
  unfolding is_long
  long_is i x k e h = ap str_l (sym h) ∙ ap (λ (y : Field). str_l y.kind) e

  -- the field of variable i is its type's
  pub type_field_lem : Framed f d → (i : ℕ) → i < d.k → field_at d.tagged (order_of d) f d.types i ≡ field_by (type_at d.tagged (order_of d) f d.types i)
  type_field_lem F i b = field_type d.tagged (order_of d) f d.types d.k F.typed.right i b

  wide : Framed f d → (i : ℕ) → i < d.k → is_long f d i ≡ true → (field_at d.tagged (order_of d) f d.types i).width ≡ 8
  unfolding is_long
  wide F i b h =
      let e = type_field_lem F i b in
      ap (λ (y : Field). y.width) e ∙ long_width (type_at d.tagged (order_of d) f d.types i) (ap (λ (y : Field). str_l y.kind) (sym e) ∙ h)

  -- ---- offsets

  pub offset_small : d.k ≤ 32767 → (i : ℕ) → i ≤ d.k → offset_of f d i ≤ 67008515
  offset_small few i h = omega (arith, off_small d.tagged (order_of d) f d.types i, mul-le-mul_right {m = i} {n = 32767} 2045 (omega arith))

  pub sum_small : Framed f d → (i s : ℕ) (x : Field) → i < d.k → s ≡ offset_of f d i → x ≡ field_at d.tagged (order_of d) f d.types i → s + x.width ≤ 67008515
  sum_small F i s x b e h = omega (arith, off_more d.tagged (order_of d) f d.types i s x e h, offset_small F.typed.few (i + 1) (omega arith))

  pub offsets_start : (t : List ℕ) → 0 < length t → Offsets f d 0 (set t 0 0)
  offsets_start t h i b = let e : i ≡ 0 = omega arith in rw e (get_or-set_same t 0 0 0 h)

  pub offsets_more : (t : List ℕ) (i s : ℕ) → i + 1 < length t → s ≡ offset_of f d (i + 1) → Offsets f d i t → Offsets f d (i + 1) (set t (i + 1) s)
  offsets_more t i s h e p j b = go (eqb j (i + 1)) refl
    where
      go : (r : Bool) → eqb j (i + 1) ≡ r → get_or (set t (i + 1) s) j 0 ≡ offset_of f d j
      go true q = rw (eqb-true j (i + 1) q) (get_or-set_same t (i + 1) s 0 h ∙ e)
      go false q = get_or-set_other t (i + 1) j s 0 (eqb-false j (i + 1) q) ∙ p j (omega (arith, eqb-false j (i + 1) q))

  -- ---- the next strL variable

  pub next_least : (m i : ℕ) → i ≤ next_long f d m i
  next_least zero i = omega arith
  next_least (suc m) i = go (is_long f d i) (next_least m (suc i))
    where
      go : (b : Bool) → suc i ≤ next_long f d m (suc i) → i ≤ cond b i (next_long f d m (suc i))
      go true h = omega arith
      go false h = omega arith

  pub next_most : (m i : ℕ) → next_long f d m i ≤ i + m
  next_most zero i = omega arith
  next_most (suc m) i = go (is_long f d i) (next_most m (suc i))
    where
      go : (b : Bool) → next_long f d m (suc i) ≤ suc i + m → cond b i (next_long f d m (suc i)) ≤ i + suc m
      go true h = omega arith
      go false h = omega arith

  pub next_long_lem : (m i : ℕ) → next_long f d m i < i + m → is_long f d (next_long f d m i) ≡ true
  next_long_lem zero i h = absurd (let z : i < i + 0 = h in omega arith)
  next_long_lem (suc m) i h = go (is_long f d i) refl (next_long_lem m (suc i))
    where
      go : (b : Bool) → is_long f d i ≡ b → (next_long f d m (suc i) < suc i + m → is_long f d (next_long f d m (suc i)) ≡ true)
          → is_long f d (cond (is_long f d i) i (next_long f d m (suc i))) ≡ true
      go true e ih = rw e e
      go false e ih = let g : next_long f d m (suc i) < i + suc m = rw e at h in rw e (ih (omega arith))

  next_self : (m i : ℕ) → eqb (next_long f d (suc m) i) i ≡ is_long f d i
  next_self m i = go (is_long f d i) refl
    where
      go : (b : Bool) → is_long f d i ≡ b → eqb (cond (is_long f d i) i (next_long f d m (suc i))) i ≡ is_long f d i
      go true e = rw e (eq-eqb i i refl)
      go false e = rw e (ne_eqb (next_long f d m (suc i)) i (λ z. (let y : next_long f d m (suc i) ≡ i = z in omega (arith, next_least m (suc i)))))

  pub nexts_start : (s : List ℕ) → d.k < length s → Nexts f d d.k (set s d.k d.k)
  nexts_start s h i a b =
      let e : i ≡ d.k = omega arith in
      let z : d.k - d.k ≡ 0 = omega arith in
      rw (e, z) (get_or-set_same s d.k d.k 0 h)

  pub nexts_more : (s : List ℕ) (i v : ℕ) (b : Bool) → 0 < i → i ≤ d.k → i - 1 < length s → b ≡ is_long f d (i - 1) → v ≡ cond b (i - 1) (get_or s i 0) → Nexts f d i s
      → Nexts f d (i - 1) (set s (i - 1) v)
  nexts_more s i v b pos most h e g p j low top = go (eqb j (i - 1)) refl
    where
      here : v ≡ next_long f d (d.k - (i - 1)) (i - 1)
      here =
          let u : d.k - (i - 1) ≡ suc (d.k - i) = omega arith in
          let w : suc (i - 1) ≡ i = omega arith in
          rw (g, e, u, w, p i (omega arith) most)

      go : (r : Bool) → eqb j (i - 1) ≡ r → get_or (set s (i - 1) v) j 0 ≡ next_long f d (d.k - j) j
      go true q = rw (eqb-true j (i - 1) q) (get_or-set_same s (i - 1) v 0 h ∙ here)
      go false q = get_or-set_other s (i - 1) j v 0 (eqb-false j (i - 1) q) ∙ p j (omega (arith, eqb-false j (i - 1) q)) top

  -- ---- both

  module _ {t s : List ℕ} (T : Tabled f d t s) where
    pub few : d.k ≤ 32767
    few = T.framed.typed.few

    module _ (i j : ℕ) (hi : i < d.k) (hj : j < d.n) where
      pub place_is : d.data + j * get_or t d.k 0 + get_or t i 0 ≡ place_of f d i j
      place_is = rw (T.offsets d.k (omega arith), T.offsets i (omega arith))

      pub place_in_lem : is_long f d i ≡ true → d.data + j * get_or t d.k 0 + get_or t i 0 + 8 ≤ length f
      place_in_lem h =
          omega (arith, place_is, wide T.framed i hi h, cell_in d.tagged (order_of d) f d.types d.k d.data d.n i j T.framed.data_in hi hj)

    -- an entry that is its own number is a strL variable's
    pub self_entry : (i : ℕ) → i < d.k → eqb (get_or s i 0) i ≡ is_long f d i
    self_entry i h =
        let e : d.k - i ≡ suc (d.k - suc i) = omega arith in
        ap (λ (x : ℕ). eqb x i) (T.nexts i (omega arith) (omega arith) ∙ ap (λ (m : ℕ). next_long f d m i) e) ∙ next_self (d.k - suc i) i
