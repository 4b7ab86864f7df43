-- Laws of slots that stand in a file.
use mathlib.Core.Path.{◌≡◌, refl, sym, ap, ◌∙◌, subst}
use Prim.Native.Nat.{ℕ, zero, suc, ◌+◌, ◌≤◌, ◌<◌, suc-le-suc}
use native.Mathlib.Nat.{add-zero, zero-add, add-suc, suc-add, le_of_suc-le-suc, not-suc-le-zero, zero-lt-suc}
use native.Mathlib.Omega.{arith}
use mathlib.Core.List.{List, [], ◌∷◌, ◌++◌, map}
use mathlib.Core.Bool.{Bool, true, false}
use lib.ListN.{length, get_or, replicate, length-append, length-map, get_or-map}
use lib.Dec.{eqb}
use Rattle.format.specs.Slot.{Slot, byte, spare, Takes, Fits, put, fill, is_spare, dead, Bytes}
use Rattle.format.specs.Number.{tab}

pub fits_bound : (f : List ℕ) (p : ℕ) (P : List Slot) → Fits f p P → p + length P ≤ length f
fits_bound f p [] h = omega arith
fits_bound f p (s ∷ P) h = omega (arith, fits_bound f (suc p) P h.1)

pub fits_start : (f : List ℕ) (p : ℕ) (P : List Slot) → Fits f p P → p ≤ length f
fits_start f p P h = omega (arith, fits_bound f p P h)

pub fits_left : (f : List ℕ) (p : ℕ) (A B : List Slot) → Fits f p (A ++ B) → Fits f p A
fits_left f p [] B h = fits_start f p B h
fits_left f p (s ∷ A) B h = (h.0, fits_left f (suc p) A B h.1)

pub fits_right : (f : List ℕ) (p : ℕ) (A B : List Slot) → Fits f p (A ++ B) → Fits f (p + length A) B
fits_right f p [] B h = rw add-zero h
fits_right f p (s ∷ A) B h =
    let e : p + suc (length A) ≡ suc p + length A = omega arith in
    rw e (fits_right f (suc p) A B h.1)

pub fits_after : (f : List ℕ) (p n : ℕ) (A B : List Slot) → length A ≡ n → Fits f p (A ++ B) → Fits f (p + n) B
fits_after f p n A B e m = rw e at (fits_right f p A B m)

pub fits_append : (f : List ℕ) (p : ℕ) (A B : List Slot) → Fits f p A → Fits f (p + length A) B → Fits f p (A ++ B)
fits_append f p [] B h k = rw add-zero at k
fits_append f p (s ∷ A) B h k =
    let e : p + suc (length A) ≡ suc p + length A = omega arith in
    (h.0, fits_append f (suc p) A B h.1 (rw e at k))

-- by place, and back
pub fits_at : (f : List ℕ) (p : ℕ) (P : List Slot) → Fits f p P → (i : ℕ) → i < length P → Takes (get_or P i (byte 0)) (get_or f (p + i) 0)
fits_at f p [] h i b = absurd (not-suc-le-zero b)
fits_at f p (s ∷ P) h zero b = rw add-zero h.0
fits_at f p (s ∷ P) h (suc i) b =
    let e : p + suc i ≡ suc p + i = omega arith in
    rw e (fits_at f (suc p) P h.1 i (le_of_suc-le-suc b))

pub fits_of : (f : List ℕ) (p : ℕ) (P : List Slot) → p + length P ≤ length f
    → ((i : ℕ) → i < length P → Takes (get_or P i (byte 0)) (get_or f (p + i) 0)) → Fits f p P
fits_of f p [] b h = omega arith
fits_of f p (s ∷ P) b h = (
  rw add-zero at (h zero (zero-lt-suc (length P))),
  fits_of f (suc p) P (omega arith)
      λ i c. (let e : p + suc i ≡ suc p + i = omega arith in rw e at (h (suc i) (suc-le-suc c))),
)

-- what a writer puts fits
pub takes_put : (s : Slot) → Takes s (put s)
takes_put (byte b) = refl
takes_put (spare v) = tt

pub length_fill : (P : List Slot) → length (fill P) ≡ length P
length_fill P = length-map P put

pub fits_fill : (P : List Slot) → Fits (fill P) 0 P
fits_fill P =
    fits_of (fill P) 0 P (omega (arith, length_fill P))
    λ i b. rw (zero-add, get_or-map put P i (byte 0)) (takes_put (get_or P i (byte 0)))

-- a file that agrees with one that fits, but for dead places, fits too
takes_same : (s : Slot) (x y : ℕ) → (is_spare s ≡ false → y ≡ x) → Takes s x → Takes s y
takes_same (byte b) x y e h = e refl ∙ h
takes_same (spare v) x y e h = tt

pub fits_live : (f g : List ℕ) (P : List Slot) → Fits f 0 P → length g ≡ length f
    → ((i : ℕ) → i < length f → dead P i ≡ false → get_or g i 0 ≡ get_or f i 0) → Fits g 0 P
fits_live f g P h l e =
    let z = fits_bound f 0 P h in
    fits_of g 0 P (omega (arith, z))
    λ i b. rw zero-add (takes_same (get_or P i (byte 0)) (get_or f i 0) (get_or g i 0) (e i (omega (arith, z))) (rw zero-add at (fits_at f 0 P h i b)))

-- tables and runs of slots
pub length_tab : {A : Type 0} (w : ℕ) (s : ℕ → A) → length (tab w s) ≡ w
length_tab zero s = refl
length_tab (suc w) s = ap suc (length_tab w (λ i. s (suc i)))

pub get_d_tab : {A : Type 0} (w : ℕ) (s : ℕ → A) (d : A) (i : ℕ) → i < w → get_or (tab w s) i d ≡ s i
get_d_tab zero s d i b = absurd (not-suc-le-zero b)
get_d_tab (suc w) s d zero b = refl
get_d_tab (suc w) s d (suc i) b = get_d_tab w (λ j. s (suc j)) d i (le_of_suc-le-suc b)

pub tab_bytes : (n : ℕ) (s : ℕ → ℕ) → ((i : ℕ) → s i < 256) → Bytes (tab n s)
tab_bytes zero s h i = omega arith
tab_bytes (suc n) s h zero = h zero
tab_bytes (suc n) s h (suc i) = tab_bytes n (λ j. s (suc j)) (λ j. h (suc j)) i

pub fits_tab : (f : List ℕ) (p w : ℕ) (s : ℕ → Slot) → p + w ≤ length f → ((i : ℕ) → i < w → Takes (s i) (get_or f (p + i) 0)) → Fits f p (tab w s)
fits_tab f p w s b h =
    fits_of f p (tab w s) (rw length_tab b)
    λ i c. (let d : i < w = omega (arith, length_tab w s) in rw (get_d_tab w s (byte 0) i) (h i d))

pub tab_at : (f : List ℕ) (p w : ℕ) (s : ℕ → Slot) → Fits f p (tab w s) → (i : ℕ) → i < w → Takes (s i) (get_or f (p + i) 0)
tab_at f p w s h i b = rw (get_d_tab w s (byte 0) i) at (fits_at f p (tab w s) h i (rw length_tab b))

pub fits_idle : (f : List ℕ) (p n v : ℕ) → p + n ≤ length f → Fits f p (replicate n (spare v))
fits_idle f p zero v b = omega arith
fits_idle f p (suc n) v b = (tt, fits_idle f (suc p) n v (omega arith))

-- ---- slots of bytes

-- a writer puts bytes for the slots
abbrev pub Small : List Slot → Type 0
Small [] = Unit
Small (s ∷ P) = (put s < 256) × Small P

pub small_append : (A B : List Slot) → Small A → Small B → Small (A ++ B)
small_append [] B h k = k
small_append (s ∷ A) B h k = (h.0, small_append A B h.1 k)

pub small_idle : (n v : ℕ) → v < 256 → Small (replicate n (spare v))
small_idle zero v b = tt
small_idle (suc n) v b = (b, small_idle n v b)

pub small_tab : (w : ℕ) (s : ℕ → Slot) → ((i : ℕ) → i < w → put (s i) < 256) → Small (tab w s)
small_tab zero s h = tt
small_tab (suc w) s h = (h zero (zero-lt-suc w), small_tab w (λ i. s (suc i)) (λ i b. h (suc i) (suc-le-suc b)))

pub small_bytes : (l : List ℕ) → Bytes l → Small (map byte l)
small_bytes [] u = tt
small_bytes (x ∷ l) u = (u 0, small_bytes l (λ i. u (suc i)))

pub small_fill : (P : List Slot) → Small P → Bytes (fill P)
small_fill [] h i = omega arith
small_fill (s ∷ P) h zero = h.0
small_fill (s ∷ P) h (suc i) = small_fill P h.1 i
