-- A good section: what fits it is accepted and read back (complete); what is accepted fits what is read, which is right (sound); its
-- size is that of its slots (sized); and a writer puts bytes for what it may say (small).
-- `room` is how many bytes the judge takes for granted; `R` says where the section may end (`◌≤◌`: anywhere in the file, `◌≡◌`: at its end).
use mathlib.Core.Path.{◌≡◌, refl, sym, ap, ◌∙◌, subst}
use Prim.Native.Nat.{ℕ, zero, suc, ◌+◌, ◌-◌, ◌*◌, ◌^◌, ◌≤◌, ◌<◌}
use native.Mathlib.Nat.{add-zero, zero-add, add_assoc, not-suc-le-zero, suc_inj, suc-mul, zero-mul}
use native.Mathlib.Omega.{arith}
use mathlib.Core.List.{List, [], ◌∷◌, ◌++◌, map, append-nil, append_assoc}
use mathlib.Core.Bool.{Bool, true, false, cond, not, ◌&&◌, ◌||◌, true≢false}
use lib.ListN.{length, get_or, replicate, length-append, length-replicate, length-map}
use lib.Dec.{eqb, leb, ltb}
use borrow.Author.Tests.{eqb-true, eqb-false, eq-eqb, ne_eqb, leb-true, leb-false, le-leb, lt-leb, ltb-true, ltb-false, lt-ltb, le-ltb, not-true}
use Rattle.format.specs.Slot.{Slot, byte, spare, Takes, Fits, Bytes, put}
use Rattle.format.specs.Number.{Order, num, num_slots, tab}
use Rattle.format.specs.Grammar.{Sect, also, unless, need, within, lit, idle, number, no_zero, text_slots, text_at, text, fixed, raw, coded, same_at, tag, between, ruled, next, seq, all_slots, sizes, AllRight, judge_times, read_times, times, done, told}
use Rattle.format.proofs.SlotLaws.{fits_bound, fits_start, fits_left, fits_right, fits_after, fits_append, fits_idle, length_tab, tab_bytes, Small, small_append, small_idle, small_bytes}
use Rattle.format.proofs.NumberLaws.{num_read, num_fits, num_small, number_small}

-- ---- refusal numbers

pub also_left : (a b : ℕ) → also a b ≡ 0 → a ≡ 0
also_left zero b h = refl
also_left (suc a) b h = h

pub also_right : (a b : ℕ) → also a b ≡ 0 → b ≡ 0
also_right zero b h = h
also_right (suc a) b h = absurd (omega arith)

pub also_both : (a b : ℕ) → a ≡ 0 → b ≡ 0 → also a b ≡ 0
also_both a b p q = rw p q

pub unless_true : (t : Bool) (c : ℕ) → 0 < c → unless t c ≡ 0 → t ≡ true
unless_true true c b h = refl
unless_true false c b h = absurd (omega arith)

pub unless_holds : (t : Bool) (c : ℕ) → t ≡ true → unless t c ≡ 0
unless_holds t c h = rw h

pub need_fits : (n : ℕ) (f : List ℕ) (p : ℕ) → p + n ≤ length f → need n f p ≡ 0
need_fits n f p h = unless_holds (leb (p + n) (length f)) 3 (le-leb (p + n) (length f) h)

pub need_room : (n : ℕ) (f : List ℕ) (p : ℕ) → need n f p ≡ 0 → p + n ≤ length f
need_room n f p h = leb-true (p + n) (length f) (unless_true (leb (p + n) (length f)) 3 (omega arith) h)

-- ---- good sections

pub record Complete {A : Type 0} (S : Sect A) (f : List ℕ) (p : ℕ) (a : A) : Type 0 where
  pub accepted : S.judge f p ≡ 0
  pub read_back : S.read f p ≡ a

pub record Sound (R : ℕ → ℕ → Type 0) {A : Type 0} (S : Sect A) (f : List ℕ) (p : ℕ) : Type 0 where
  pub right : S.Right (S.read f p)
  pub fits : Fits f p (S.slots (S.read f p))
  pub ends : R (next S f p) (length f)

pub record Good (room : ℕ) (R : ℕ → ℕ → Type 0) {A : Type 0} (S : Sect A) : Type 0 where
  pub sized : (a : A) → length (S.slots a) ≡ S.size a
  pub small : (a : A) → S.Right a → Small (S.slots a)
  pub complete : (f : List ℕ) (p : ℕ) (a : A) → S.Right a → Fits f p (S.slots a) → R (p + S.size a) (length f) → Complete S f p a
  pub sound : (f : List ℕ) (p : ℕ) → Bytes f → p + room ≤ length f → S.judge f p ≡ 0 → Sound R S f p

-- ---- the simple sections

pub lit_good : (b c : ℕ) → b < 256 → 0 < c → Good 1 ◌≤◌ (lit b c)
lit_good b c z h =
    record {
      sized = λ a. refl;
      small = λ a r. (z, tt);
      complete = λ f p a r m e. record { accepted = unless_holds (eqb (get_or f p 0) b) c (eq-eqb (get_or f p 0) b m.0); read_back = refl };
      sound = λ f p u l j. record { right = tt; fits = (eqb-true (get_or f p 0) b (unless_true (eqb (get_or f p 0) b) c h j), omega arith); ends = l };
    }

pub idle_good : (n v : ℕ) → v < 256 → Good n ◌≤◌ (idle n v)
idle_good n v z =
    record {
      sized = λ a. length-replicate n (spare v);
      small = λ a r. small_idle n v z;
      complete = λ f p a r m e. record { accepted = refl; read_back = refl };
      sound = λ f p u l j. record { right = tt; fits = fits_idle f p n v l; ends = l };
    }

pub number_good : (o : Order) (w : ℕ) → Good w ◌≤◌ (number o w)
number_good o w =
    record {
      sized = λ n. length_tab w _;
      small = λ n r. number_small o w n;
      complete = λ f p n r m e. record { accepted = refl; read_back = num_read o w n f p r m };
      sound = λ f p u l j. record { right = num_small o w f p u; fits = num_fits o w f p u l; ends = l };
    }

pub done_good : (c : ℕ) → 0 < c → Good 0 ◌≡◌ (done c)
done_good c h =
    record {
      sized = λ a. refl;
      small = λ a r. tt;
      complete = λ f p a r m e. record { accepted = unless_holds (eqb p (length f)) c (eq-eqb p (length f) (omega arith)); read_back = refl };
      sound = λ f p u l j. (let q : p ≡ length f = eqb-true p (length f) (unless_true (eqb p (length f)) c h j) in
          record { right = tt; fits = omega arith; ends = omega arith });
    }

-- ---- texts

pub and_left : (a b : Bool) → (a && b) ≡ true → a ≡ true
and_left true b h = refl
and_left false b h = h

pub and_right : (a b : Bool) → (a && b) ≡ true → b ≡ true
and_right true b h = h
and_right false b h = absurd (true≢false (sym h))

pub text_length : (w : ℕ) (t : List ℕ) → length (text_slots w t) ≡ w
text_length zero t = refl
text_length (suc w) [] = ap suc (length-replicate w (spare 0))
text_length (suc w) (c ∷ t) = ap suc (text_length w t)

text_small : (w : ℕ) (t : List ℕ) → Bytes t → Small (text_slots w t)
text_small zero t u = tt
text_small (suc w) [] u = (omega arith, small_idle w 0 (omega arith))
text_small (suc w) (c ∷ t) u = (u 0, text_small w t (λ i. u (suc i)))

-- what stands where a text's slots stand is read as the text
pub text_read : (w : ℕ) (t : List ℕ) (f : List ℕ) (p : ℕ) → length t ≤ w → no_zero t ≡ true → Fits f p (text_slots w t) → text_at w f p ≡ t
text_read zero [] f p l z m = refl
text_read zero (c ∷ t) f p l z m = absurd (not-suc-le-zero l)
text_read (suc w) [] f p l z m = rw (eq-eqb (get_or f p 0) 0 m.0)
text_read (suc w) (c ∷ t) f p l z m =
    let n : eqb (get_or f p 0) 0 ≡ false = rw m.0 (not-true (eqb c 0) (and_left (not (eqb c 0)) (no_zero t) z)) in
    rw (n, text_read w t f (suc p) (omega arith) (and_right (not (eqb c 0)) (no_zero t) z) m.1) (ap (λ (x : ℕ). x ∷ t) m.0)

-- what is read as a text
pub record TextRead (w : ℕ) (f : List ℕ) (p : ℕ) : Type 0 where
  pub short : length (text_at w f p) ≤ w
  pub clean : no_zero (text_at w f p) ≡ true
  pub bytes : Bytes (text_at w f p)

pub text_is : (w : ℕ) (f : List ℕ) (p : ℕ) → Bytes f → TextRead w f p
text_is zero f p u = record { short = omega arith; clean = refl; bytes = λ i. omega arith }
text_is (suc w) f p u = go (eqb (get_or f p 0) 0) refl (text_is w f (suc p) u)
  where
    bytes_cons : (x : ℕ) (t : List ℕ) → x < 256 → Bytes t → Bytes (x ∷ t)
    bytes_cons x t b v zero = b
    bytes_cons x t b v (suc i) = v i

    go : (t : Bool) → eqb (get_or f p 0) 0 ≡ t → TextRead w f (suc p) → TextRead (suc w) f p
    go true e r = record { short = rw e (omega arith); clean = rw e; bytes = rw e (λ i. omega arith) }
    go false e r =
        record { short = rw e (omega (arith, r.short)); clean = rw (e, e) r.clean; bytes = rw e (bytes_cons (get_or f p 0) (text_at w f (suc p)) (u p) r.bytes) }

-- the slots of what is read as a text stand there
pub text_fits : (w : ℕ) (f : List ℕ) (p : ℕ) → p + w ≤ length f → Fits f p (text_slots w (text_at w f p))
text_fits zero f p b = omega arith
text_fits (suc w) f p b = go (eqb (get_or f p 0) 0) refl (text_fits w f (suc p) (omega arith))
  where
    go : (t : Bool) → eqb (get_or f p 0) 0 ≡ t → Fits f (suc p) (text_slots w (text_at w f (suc p))) → Fits f p (text_slots (suc w) (text_at (suc w) f p))
    go true e i = rw e (eqb-true (get_or f p 0) 0 e, fits_idle f (suc p) w 0 (omega arith))
    go false e i = rw e (refl, i)

pub text_good : (w c : ℕ) → 0 < c → Good w ◌≤◌ (text w c)
text_good w c h =
    record {
      sized = text_length w;
      small = λ t r. text_small w t r.2;
      complete = λ f p t r m e. (let q = text_read w t f p (omega (arith, r.0)) r.1 m in
          record { accepted = unless_holds (ltb (length (text_at w f p)) w) c (lt-ltb (length (text_at w f p)) w (rw q r.0)); read_back = q });
      sound = λ f p u l j. (let q = text_is w f p u in
          record { right = (ltb-true (length (text_at w f p)) w (unless_true (ltb (length (text_at w f p)) w) c h j), q.clean, q.bytes); fits = text_fits w f p l; ends = l });
    }

pub fixed_good : (w : ℕ) → Good w ◌≤◌ (fixed w)
fixed_good w =
    record {
      sized = text_length w;
      small = λ t r. text_small w t r.2;
      complete = λ f p t r m e. record { accepted = refl; read_back = text_read w t f p r.0 r.1 m };
      sound = λ f p u l j. (let q = text_is w f p u in record { right = (q.short, q.clean, q.bytes); fits = text_fits w f p l; ends = l });
    }

-- bytes, whatever they are
pub raw_read : (l : List ℕ) (s : ℕ → ℕ) (f : List ℕ) (p : ℕ) → ((i : ℕ) → s i ≡ get_or f (p + i) 0) → Fits f p (map byte l) → tab (length l) s ≡ l
raw_read [] s f p h m = refl
raw_read (x ∷ l) s f p h m =
    let a : s 0 ≡ x = h 0 ∙ ap (λ (y : ℕ). get_or f y 0) (add-zero p) ∙ m.0 in
    let b = raw_read l (λ i. s (suc i)) f (suc p) (λ i. (let e : p + suc i ≡ suc p + i = omega arith in rw e at (h (suc i)))) m.1 in
    λ i. a i ∷ b i

raw_fits : (n : ℕ) (s : ℕ → ℕ) (f : List ℕ) (p : ℕ) → p + n ≤ length f → ((i : ℕ) → s i ≡ get_or f (p + i) 0) → Fits f p (map byte (tab n s))
raw_fits zero s f p b h = omega arith
raw_fits (suc n) s f p b h = (
  sym (h 0 ∙ ap (λ (x : ℕ). get_or f x 0) (add-zero p)),
  raw_fits n (λ i. s (suc i)) f (suc p) (omega arith) (λ i. (let e : p + suc i ≡ suc p + i = omega arith in rw e at (h (suc i)))),
)

pub raw_good : (n : ℕ) → Good n ◌≤◌ (raw n)
raw_good n =
    record {
      sized = λ l. length-map l byte;
      small = λ l r. small_bytes l r.1;
      complete = λ f p l r m e. record { accepted = refl; read_back = rw r.0 at (raw_read l (λ i. get_or f (p + i) 0) f p (λ i. refl) m) };
      sound = λ f p u l j. record {
        right = (length_tab n _, tab_bytes n _ (λ i. u (p + i)));
        fits = raw_fits n (λ i. get_or f (p + i) 0) f p l (λ i. refl);
        ends = rw (length_tab n (λ i. get_or f (p + i) 0)) l;
      };
    }

-- ---- tags

pub same_fits : (l : List ℕ) (f : List ℕ) (p : ℕ) → p + length l ≤ length f → same_at l f p ≡ true → Fits f p (map byte l)
same_fits [] f p b h = omega arith
same_fits (x ∷ l) f p b h = (
  eqb-true (get_or f p 0) x (and_left (eqb (get_or f p 0) x) (same_at l f (suc p)) h),
  same_fits l f (suc p) (omega arith) (and_right (eqb (get_or f p 0) x) (same_at l f (suc p)) h),
)

pub fits_same : (l : List ℕ) (f : List ℕ) (p : ℕ) → Fits f p (map byte l) → same_at l f p ≡ true
fits_same [] f p m = refl
fits_same (x ∷ l) f p m = rw (eq-eqb (get_or f p 0) x m.0) (fits_same l f (suc p) m.1)

-- ---- putting sections together

-- more room is enough
pub room_good : {n : ℕ} {R : ℕ → ℕ → Type 0} {A : Type 0} {S : Sect A} (m : ℕ) → n ≤ m → Good n R S → Good m R S
room_good m b G = record { sized = G.sized; small = G.small; complete = G.complete; sound = λ f p u l j. G.sound f p u (omega arith) j }

module _ {n : ℕ} {R : ℕ → ℕ → Type 0} {A : Type 0} (S : Sect A) (G : Good n R S) where
  pub good_bound : (f : List ℕ) (p : ℕ) (a : A) → Fits f p (S.slots a) → p + S.size a ≤ length f
  good_bound f p a m = rw (G.sized a) at (fits_bound f p (S.slots a) m)

  pub good_right : (f : List ℕ) (p : ℕ) (a : A) (B : List Slot) → Fits f p (S.slots a ++ B) → Fits f (p + S.size a) B
  good_right f p a B m = rw (G.sized a) at (fits_right f p (S.slots a) B m)

  pub good_append : (f : List ℕ) (p : ℕ) (a : A) (B : List Slot) → Fits f p (S.slots a) → Fits f (p + S.size a) B → Fits f p (S.slots a ++ B)
  good_append f p a B m k = fits_append f p (S.slots a) B m (rw (G.sized a) k)

  pub within_good : ((a : A) → S.Right a → S.size a ≡ n) → Good 0 R (within n S)
  within_good w =
      record {
        sized = G.sized;
        small = G.small;
        complete = λ f p a r m e. (let k = G.complete f p a r m e in
            record { accepted = also_both (need n f p) (S.judge f p) (need_fits n f p (omega (arith, good_bound f p a m, w a r))) k.accepted; read_back = k.read_back });
        sound = λ f p u l j. (let k = G.sound f p u (need_room n f p (also_left (need n f p) (S.judge f p) j)) (also_right (need n f p) (S.judge f p) j) in
            record { right = k.right; fits = k.fits; ends = k.ends });
      }

  pub ruled_good : (t : A → Bool) (c : ℕ) → 0 < c → Good n R (ruled S t c)
  ruled_good t c h =
      record {
        sized = G.sized;
        small = λ a r. G.small a r.0;
        complete = λ f p a r m e. (let k = G.complete f p a r.0 m e in
            record {
              accepted = also_both (S.judge f p) (unless (t (S.read f p)) c) k.accepted (unless_holds (t (S.read f p)) c (rw k.read_back r.1));
              read_back = k.read_back;
            });
        sound = λ f p u l j. (let k = G.sound f p u l (also_left (S.judge f p) (unless (t (S.read f p)) c) j) in
            record {
              right = (k.right, unless_true (t (S.read f p)) c h (also_right (S.judge f p) (unless (t (S.read f p)) c) j));
              fits = k.fits;
              ends = k.ends;
            });
      }

  pub told_good : {B : Type 0} (to : A → B) (of : B → A) → ((b : B) → to (of b) ≡ b) → ((a : A) → S.Right a → of (to a) ≡ a) → Good n R (told to of S)
  told_good to of tof oft =
      record {
        sized = λ b. G.sized (of b);
        small = λ b r. G.small (of b) r;
        complete = λ f p b r m e. (let k = G.complete f p (of b) r m e in
            record { accepted = k.accepted; read_back = ap to k.read_back ∙ tof b });
        sound = λ f p u l j. (let k = G.sound f p u l j in
            let q = oft (S.read f p) k.right in
            record {
              right = subst (λ (x : A). S.Right x) (sym q) k.right;
              fits = subst (λ (x : A). Fits f p (S.slots x)) (sym q) k.fits;
              ends = subst (λ (x : A). R (p + S.size x) (length f)) (sym q) k.ends;
            });
      }

  pub coded_good : {B : Type 0} (to : A → B) (of : B → A) → ((a : A) → S.Right a → of (to a) ≡ a) → Good n R (coded to of S)
  coded_good to of oft =
      record {
        sized = λ b. G.sized (of b);
        small = λ b r. G.small (of b) r.0;
        complete = λ f p b r m e. (let k = G.complete f p (of b) r.0 m e in
            record { accepted = k.accepted; read_back = ap to k.read_back ∙ r.1 });
        sound = λ f p u l j. (let k = G.sound f p u l j in
            let q = oft (S.read f p) k.right in
            record {
              right = (subst (λ (x : A). S.Right x) (sym q) k.right, ap to q);
              fits = subst (λ (x : A). Fits f p (S.slots x)) (sym q) k.fits;
              ends = subst (λ (x : A). R (p + S.size x) (length f)) (sym q) k.ends;
            });
      }

module _ {n m : ℕ} {R : ℕ → ℕ → Type 0} {A B : Type 0} (S : Sect A) (T : A → Sect B) (G : Good n ◌≤◌ S) (H : (a : A) → Good m R (T a)) where
  -- `room` bytes in front are enough for S, and leave enough for T
  seq_any : (room : ℕ) → n ≤ room
      → ((f : List ℕ) (p : ℕ) (a : A) → S.Right a → Fits f p (S.slots a) → p + room ≤ length f → p + S.size a + m ≤ length f) → Good room R (seq S T)
  seq_any room b left =
      record {
        sized = λ v. length-append (S.slots v.0) ((T v.0).slots v.1) ∙ rw (G.sized v.0, (H v.0).sized v.1);
        small = λ v r. small_append (S.slots v.0) ((T v.0).slots v.1) (G.small v.0 r.0) ((H v.0).small v.1 r.1);
        complete = λ f p v r m e.
            (let h = fits_left f p (S.slots v.0) ((T v.0).slots v.1) m in
            let k = G.complete f p v.0 r.0 h (good_bound S G f p v.0 h) in
            let g = (H v.0).complete f (p + S.size v.0) v.1 r.1 (good_right S G f p v.0 ((T v.0).slots v.1) m) (rw (← add_assoc) at e) in
            record {
              accepted = also_both (S.judge f p) ((T (S.read f p)).judge f (next S f p)) k.accepted (rw k.read_back g.accepted);
              read_back = rw k.read_back (λ i. (v.0, g.read_back i));
            });
        sound = λ f p u l j.
            (let k = G.sound f p u (omega arith) (also_left (S.judge f p) ((T (S.read f p)).judge f (next S f p)) j) in
            let g = (H (S.read f p)).sound f (next S f p) u (left f p (S.read f p) k.right k.fits l)
            (also_right (S.judge f p) ((T (S.read f p)).judge f (next S f p)) j) in
            record {
              right = (k.right, g.right);
              fits = good_append S G f p (S.read f p) ((T (S.read f p)).slots ((T (S.read f p)).read f (next S f p))) k.fits g.fits;
              ends = rw (← add_assoc) g.ends;
            });
      }

-- T takes nothing for granted
pub seq_good : {n : ℕ} {R : ℕ → ℕ → Type 0} {A B : Type 0} (S : Sect A) (T : A → Sect B) → Good n ◌≤◌ S → ((a : A) → Good 0 R (T a)) → Good n R (seq S T)
seq_good {n} S T G H = seq_any S T G H n (omega arith) (λ f p a r m l. rw add-zero (good_bound S G f p a m))

-- S has n bytes, and T takes m for granted
pub row_good : {n m : ℕ} {R : ℕ → ℕ → Type 0} {A B : Type 0} (S : Sect A) (T : A → Sect B) → ((a : A) → S.Right a → S.size a ≡ n)
    → Good n ◌≤◌ S → ((a : A) → Good m R (T a)) → Good (n + m) R (seq S T)
row_good {n} {m} S T w G H = seq_any S T G H (n + m) (omega arith) (λ f p a r k l. omega (arith, w a r))

pub tag_good : (l : List ℕ) (c : ℕ) → Bytes l → 0 < c → Good 0 ◌≤◌ (tag l c)
unfolding tag
tag_good l c b h =
    within_good _
    (record {
      sized = λ u. length-map l byte;
      small = λ u r. small_bytes l b;
      complete = λ f p a r m e. record { accepted = unless_holds (same_at l f p) c (fits_same l f p m); read_back = refl };
      sound = λ f p u z j. record { right = tt; fits = same_fits l f p z (unless_true (same_at l f p) c h j); ends = z };
    })
    (λ a r. refl)

pub between_good : {A : Type 0} (l r : List ℕ) (S : Sect A) → Bytes l → Bytes r → Good 0 ◌≤◌ S → Good 0 ◌≤◌ (between l r S)
unfolding between
between_good l r S x y G =
    told_good _ (seq_good (tag l 4) (λ u. seq S λ a. tag r 4) (tag_good l 4 x (omega arith)) λ u. seq_good S (λ a. tag r 4) G λ a. tag_good r 4 y (omega arith))
    (λ v. v.1.0) (λ a. (tt, (a, tt))) (λ a. refl) (λ a r. refl)

-- S between two tags that stand in a file: S stands after the first
pub between_fits : {A : Type 0} (l r : List ℕ) (S : Sect A) (a : A) (f : List ℕ) (p : ℕ) → Fits f p ((between l r S).slots a) → Fits f (p + length l) (S.slots a)
unfolding between tag
between_fits l r S a f p m = fits_left f (p + length l) (S.slots a) (map byte r) (fits_after f p (length l) (map byte l) (S.slots a ++ map byte r) (length-map l byte) m)

-- n sections of w bytes
module _ {w : ℕ} {R : ℕ → ℕ → Type 0} {A : Type 0} (S : Sect A) (G : Good w R S) where
  pub all_sized : (l : List A) → length (all_slots S l) ≡ sizes S l
  all_sized [] = refl
  all_sized (a ∷ l) = length-append (S.slots a) (all_slots S l) ∙ rw (G.sized a, all_sized l)

  pub all_small : (l : List A) → AllRight S l → Small (all_slots S l)
  all_small [] r = tt
  all_small (a ∷ l) r = small_append (S.slots a) (all_slots S l) (G.small a r.0) (all_small l r.1)

module _ {w : ℕ} {A : Type 0} (S : Sect A) (wide : (a : A) → S.Right a → S.size a ≡ w) (G : Good w ◌≤◌ S) where
  pub times_size : (l : List A) → AllRight S l → sizes S l ≡ length l * w
  times_size [] r = sym (zero-mul w)
  times_size (a ∷ l) r = rw suc-mul (omega (arith, wide a r.0, times_size l r.1))

  times_complete : (l : List A) (f : List ℕ) (p : ℕ) → AllRight S l → Fits f p (all_slots S l)
      → (judge_times S (length l) f p ≡ 0) × (read_times S (length l) f p ≡ l)
  times_complete [] f p r m = (refl, refl)
  times_complete (a ∷ l) f p r m =
      let h = fits_left f p (S.slots a) (all_slots S l) m in
      let k = G.complete f p a r.0 h (good_bound S G f p a h) in
      let g = times_complete l f (p + S.size a) r.1 (good_right S G f p a (all_slots S l) m) in (
        also_both (S.judge f p) (judge_times S (length l) f (next S f p)) k.accepted (rw k.read_back g.0),
        rw k.read_back (λ i. a ∷ g.1 i),
      )

  times_sound : (n : ℕ) (f : List ℕ) (p : ℕ) → Bytes f → p + n * w ≤ length f → judge_times S n f p ≡ 0
      → (length (read_times S n f p) ≡ n) × (AllRight S (read_times S n f p)) × (Fits f p (all_slots S (read_times S n f p)))
  times_sound zero f p u l j = (refl, tt, omega arith)
  times_sound (suc n) f p u l j =
      let b : p + (w + n * w) ≤ length f = omega (arith, rw suc-mul at l) in
      let k = G.sound f p u (omega arith) (also_left (S.judge f p) (judge_times S n f (next S f p)) j) in
      let g = times_sound n f (next S f p) u (omega (arith, wide (S.read f p) k.right)) (also_right (S.judge f p) (judge_times S n f (next S f p)) j) in
      (ap suc g.0, (k.right, g.1), good_append S G f p (S.read f p) (all_slots S (read_times S n f (next S f p))) k.fits g.2)

  pub times_good : (n : ℕ) → Good (n * w) ◌≤◌ (times S n)
  times_good n =
      record {
        sized = all_sized S G;
        small = λ l r. all_small S G l r.1;
        complete = λ f p l r m e. (let k = times_complete l f p r.1 m in
            record { accepted = rw r.0 at k.0; read_back = rw r.0 at k.1 });
        sound = λ f p u l j. (let k = times_sound n f p u l j in
            record { right = (k.0, k.1); fits = k.2; ends = rw (all_sized S G (read_times S n f p)) at (fits_bound f p (all_slots S (read_times S n f p)) k.2) });
      }

-- element i of a list of sections of w bytes that stands at p: what is read there, and that it is right and stands there
module _ {n w : ℕ} {A : Type 0} (S : Sect A) (G : Good n ◌≤◌ S) (wide : (a : A) → S.Right a → S.size a ≡ w) (z : A) where
  pub record Element (f : List ℕ) (p : ℕ) (l : List A) (i : ℕ) : Type 0 where
    pub reads : S.read f (p + i * w) ≡ get_or l i z
    pub right : S.Right (get_or l i z)
    pub fits : Fits f (p + i * w) (S.slots (get_or l i z))
    pub inside : p + i * w + w ≤ length f

  pub element : (l : List A) (f : List ℕ) (p i : ℕ) → AllRight S l → Fits f p (all_slots S l) → i < length l → Element f p l i
  element [] f p i r m b = absurd (not-suc-le-zero b)
  element (a ∷ l) f p zero r m b =
      let h = fits_left f p (S.slots a) (all_slots S l) m in
      let k = good_bound S G f p a h in
      let e : p + 0 * w ≡ p = rw zero-mul (add-zero p) in
      record { reads = rw e (G.complete f p a r.0 h k).read_back; right = r.0; fits = rw e h; inside = rw e (omega (arith, wide a r.0)) }
  element (a ∷ l) f p (suc i) r m b =
      let k = element l f (p + S.size a) i r.1 (good_right S G f p a (all_slots S l) m) (omega arith) in
      let e : p + S.size a + i * w ≡ p + suc i * w = rw suc-mul (omega (arith, wide a r.0)) in
      record { reads = rw e at k.reads; right = k.right; fits = rw e at k.fits; inside = rw e at k.inside }
