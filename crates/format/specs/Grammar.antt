-- Sections of a file, and how they are put together.
use Rattle.std.specs.Prelude.{◌≡◌, ℕ, zero, suc, ◌+◌, ◌*◌, ◌^◌, ◌≤◌, ◌<◌, List, [], ◌∷◌, ◌++◌, map, Bool, true, false, cond, not, ◌&&◌, ◌||◌, length, get_or, replicate, eqb, leb, ltb}
use Rattle.format.specs.Slot.{Slot, byte, spare, Bytes}
use Rattle.format.specs.Number.{Order, num, num_slots, tab}

-- A section of a file that says an A: `slots` are its bytes, from what it says, and `size` is how many they are; `Right` is the
-- rule on what it may say; `judge` is the refusal number of the section that starts at a place of a file, 0 where it is right;
-- `read` is what the section there says. (Definitions below put what may not be needed behind a `let`, so that a verdict
-- can be computed: nothing after a refusal is.)
pub record Sect (A : Type 0) : Type 1 where
  pub slots : A → List Slot
  pub size : A → ℕ
  pub Right : A → Type 0
  pub judge : List ℕ → ℕ → ℕ
  pub read : List ℕ → ℕ → A

-- ---- refusal numbers

-- the first refusal of two
abbrev pub also : ℕ → ℕ → ℕ
also zero b = b
also (suc a) b = suc a

-- the refusal c unless the test holds
abbrev pub unless : Bool → ℕ → ℕ
unless true c = 0
unless false c = c

-- 3 unless n bytes are there from p on
abbrev pub need : ℕ → List ℕ → ℕ → ℕ
need n f p = unless (leb (p + n) (length f)) 3

-- where what follows the section starts
abbrev pub next : {A : Type 0} → Sect A → List ℕ → ℕ → ℕ
next S f p = p + S.size (S.read f p)

-- ---- primitive sections

-- one byte, which is b (else refusal c)
abbrev pub lit : ℕ → ℕ → Sect (Unit {0})
lit b c =
    record { slots = λ u. byte b ∷ []; size = λ u. 1; Right = λ u. Unit {0}; judge = λ f p. unless (eqb (get_or f p 0) b) c; read = λ f p. tt }

-- n dead bytes, for which a writer puts v
abbrev pub idle : ℕ → ℕ → Sect (Unit {0})
idle n v = record { slots = λ u. replicate n (spare v); size = λ u. n; Right = λ u. Unit {0}; judge = λ f p. 0; read = λ f p. tt }

-- a number of w bytes
abbrev pub number : Order → ℕ → Sect ℕ
number o w = record { slots = num_slots o w; size = λ n. w; Right = λ n. n < 256 ^ w; judge = λ f p. 0; read = num o w }

-- no byte is zero
abbrev pub no_zero : List ℕ → Bool
no_zero [] = true
no_zero (c ∷ l) = not (eqb c 0) && no_zero l

-- the slots of a text in w bytes: a zero ends it where there is room, and what follows the zero is dead
abbrev pub text_slots : ℕ → List ℕ → List Slot
text_slots zero t = []
text_slots (suc w) [] = byte 0 ∷ replicate w (spare 0)
text_slots (suc w) (c ∷ t) = byte c ∷ text_slots w t

-- the bytes from p on before the first zero, at most w
abbrev pub text_at : ℕ → List ℕ → ℕ → List ℕ
text_at zero f p = []
text_at (suc w) f p = let r = get_or f p 0 ∷ text_at w f (suc p) in cond (eqb (get_or f p 0) 0) [] r

-- a text field of w bytes, which must hold a zero (else refusal c): its text ends before the first
abbrev pub text : ℕ → ℕ → Sect (List ℕ)
text w c =
    record {
      slots = text_slots w;
      size = λ t. w;
      Right = λ t. (length t < w) × (no_zero t ≡ true) × (Bytes t);
      judge = λ f p. unless (ltb (length (text_at w f p)) w) c;
      read = text_at w;
    }

-- a text of fixed width w: it ends before its first zero or at its full width
abbrev pub fixed : ℕ → Sect (List ℕ)
fixed w =
    record { slots = text_slots w; size = λ t. w; Right = λ t. (length t ≤ w) × (no_zero t ≡ true) × (Bytes t); judge = λ f p. 0; read = text_at w }

-- n bytes, whatever they are
abbrev pub raw : ℕ → Sect (List ℕ)
raw n =
    record {
      slots = λ l. map byte l;
      size = λ l. length l;
      Right = λ l. (length l ≡ n) × (Bytes l);
      judge = λ f p. 0;
      read = λ f p. tab n (λ i. get_or f (p + i) 0);
    }

-- these bytes stand from p on
abbrev pub same_at : List ℕ → List ℕ → ℕ → Bool
same_at [] f p = true
same_at (b ∷ l) f p = let r = same_at l f (suc p) in eqb (get_or f p 0) b && r

-- the end of the file (else refusal c)
abbrev pub done : ℕ → Sect (Unit {0})
done c = record { slots = λ u. []; size = λ u. 0; Right = λ u. Unit {0}; judge = λ f p. unless (eqb p (length f)) c; read = λ f p. tt }

-- ---- sections made of others

-- S, for which n bytes must be there before it is judged: 3 for all the content before its own rule
abbrev pub within : {A : Type 0} → ℕ → Sect A → Sect A
within n S =
    record { slots = S.slots; size = S.size; Right = S.Right; judge = λ f p. (let r = S.judge f p in also (need n f p) r); read = S.read }

-- S, with a rule on what it says (else refusal c)
abbrev pub ruled : {A : Type 0} → Sect A → (A → Bool) → ℕ → Sect A
ruled S t c =
    record {
      slots = S.slots;
      size = S.size;
      Right = λ a. (S.Right a) × (t a ≡ true);
      judge = λ f p. (let r = unless (t (S.read f p)) c in also (S.judge f p) r);
      read = S.read;
    }

-- S, then T, which may depend on what S says
abbrev pub seq : {A B : Type 0} → Sect A → (A → Sect B) → Sect (A × B)
seq S T =
    record {
      slots = λ v. S.slots v.0 ++ (T v.0).slots v.1;
      size = λ v. S.size v.0 + (T v.0).size v.1;
      Right = λ v. (S.Right v.0) × ((T v.0).Right v.1);
      judge = λ f p. (let r = (let a = S.read f p in (T a).judge f (p + S.size a)) in also (S.judge f p) r);
      read = λ f p. (let a = S.read f p in (a, (T a).read f (p + S.size a)));
    }

-- S, with what it says told in another way: `to` and `of` undo each other
abbrev pub told : {A B : Type 0} → (A → B) → (B → A) → Sect A → Sect B
told to of S =
    record { slots = λ b. S.slots (of b); size = λ b. S.size (of b); Right = λ b. S.Right (of b); judge = S.judge; read = λ f p. to (S.read f p) }

-- S, whose values stand for others: a right one is one that a value of S stands for
abbrev pub coded : {A B : Type 0} → (A → B) → (B → A) → Sect A → Sect B
coded to of S =
    record {
      slots = λ b. S.slots (of b);
      size = λ b. S.size (of b);
      Right = λ b. (S.Right (of b)) × (to (of b) ≡ b);
      judge = S.judge;
      read = λ f p. to (S.read f p);
    }

-- a tag: these bytes and no others; 3, then c
unfoldable pub tag : List ℕ → ℕ → Sect (Unit {0})
tag l c =
    within (length l)
    (record { slots = λ u. map byte l; size = λ u. length l; Right = λ u. Unit {0}; judge = λ f p. unless (same_at l f p) c; read = λ f p. tt })

-- S between two tags
unfoldable pub between : {A : Type 0} → List ℕ → List ℕ → Sect A → Sect A
between l r S = told (λ v. v.1.0) (λ a. (tt, (a, tt))) (seq (tag l 4) λ u. seq S λ a. tag r 4)

module _ {A : Type 0} (S : Sect A) where
  -- the slots of a list of sections S, one after another
  abbrev pub all_slots : List A → List Slot
  all_slots [] = []
  all_slots (a ∷ l) = S.slots a ++ all_slots l

  -- the size of each
  abbrev pub each_size : List A → List ℕ
  each_size [] = []
  each_size (a ∷ l) = S.size a ∷ each_size l

  -- the size of all
  abbrev pub sizes : List A → ℕ
  sizes [] = 0
  sizes (a ∷ l) = S.size a + sizes l

  -- what they may say
  abbrev pub AllRight : List A → Type 0
  AllRight [] = Unit
  AllRight (a ∷ l) = (S.Right a) × AllRight l

  -- the first refusal of n of them from p on
  abbrev pub judge_times : ℕ → List ℕ → ℕ → ℕ
  judge_times zero f p = 0
  judge_times (suc n) f p = let r = judge_times n f (next S f p) in also (S.judge f p) r

  -- what n of them say
  abbrev pub read_times : ℕ → List ℕ → ℕ → List A
  read_times zero f p = []
  read_times (suc n) f p = let a = S.read f p in a ∷ read_times n f (p + S.size a)

  -- S n times
  abbrev pub times : ℕ → Sect (List A)
  times n = record { slots = all_slots; size = sizes; Right = λ l. (length l ≡ n) × AllRight l; judge = judge_times n; read = read_times n }

-- E again and again while `more` holds, then T, which may depend on what was walked over. No walk has more steps than the file
-- has bytes: that many are allowed it
module _ {A B : Type 0} (more : List ℕ → ℕ → Bool) (E : Sect A) (T : List A → Sect B) where
  -- the first refusal, in k steps, after l was walked over
  abbrev pub judge_walk : ℕ → List A → List ℕ → ℕ → ℕ
  judge_walk zero l f p = (T l).judge f p
  judge_walk (suc k) l f p =
      let r = (let s = judge_walk k (l ++ E.read f p ∷ []) f (next E f p) in also (E.judge f p) s) in
      let t = (T l).judge f p in
      cond (more f p) r t

  -- what is said, in k steps, after l was walked over
  abbrev pub read_walk : ℕ → List A → List ℕ → ℕ → List A × B
  read_walk zero l f p = (l, (T l).read f p)
  read_walk (suc k) l f p =
      let r : List A × B = (let a = E.read f p in read_walk k (l ++ a ∷ []) f (p + E.size a)) in
      let t : List A × B = (l, (T l).read f p) in
      cond (more f p) r t

  -- the walk
  abbrev pub walk : Sect (List A × B)
  walk =
      record {
        slots = λ v. all_slots E v.0 ++ (T v.0).slots v.1;
        size = λ v. sizes E v.0 + (T v.0).size v.1;
        Right = λ v. (AllRight E v.0) × ((T v.0).Right v.1);
        judge = λ f p. judge_walk (length f) [] f p;
        read = λ f p. read_walk (length f) [] f p;
      }

module _ {A B : Type 0} (S : A → Sect B) where
  -- the slots of a row: one section for each element of a list, in turn
  abbrev pub row_slots : List A → List B → List Slot
  row_slots [] [] = []
  row_slots [] (b ∷ l) = []
  row_slots (a ∷ k) [] = []
  row_slots (a ∷ k) (b ∷ l) = (S a).slots b ++ row_slots k l

  -- its size
  abbrev pub row_size : List A → List B → ℕ
  row_size [] [] = 0
  row_size [] (b ∷ l) = 0
  row_size (a ∷ k) [] = 0
  row_size (a ∷ k) (b ∷ l) = (S a).size b + row_size k l

  -- what it may say: a right value for each
  abbrev pub RowRight : List A → List B → Type 0
  RowRight [] [] = Unit
  RowRight [] (b ∷ l) = ⊥
  RowRight (a ∷ k) [] = ⊥
  RowRight (a ∷ k) (b ∷ l) = ((S a).Right b) × RowRight k l

  -- its first refusal
  abbrev pub judge_row : List A → List ℕ → ℕ → ℕ
  judge_row [] f p = 0
  judge_row (a ∷ k) f p = let r = judge_row k f (next (S a) f p) in also ((S a).judge f p) r

  -- what it says
  abbrev pub read_row : List A → List ℕ → ℕ → List B
  read_row [] f p = []
  read_row (a ∷ k) f p = let b = (S a).read f p in b ∷ read_row k f (p + (S a).size b)

  -- the row
  abbrev pub row : List A → Sect (List B)
  row k = record { slots = row_slots k; size = row_size k; Right = RowRight k; judge = judge_row k; read = read_row k }

module _ {A : Type 0} (w : A → ℕ) where
  -- the width of a row, from the widths of its sections
  abbrev pub row_width : List A → ℕ
  row_width [] = 0
  row_width (a ∷ k) = w a + row_width k

-- ---- lists that end at their first zero

module _ (o : Order) (w : ℕ) where
  -- the slots of numbers of w bytes in n places: a zero ends them, and what follows it is dead
  abbrev pub ended_slots : ℕ → List ℕ → List Slot
  ended_slots zero l = []
  ended_slots (suc n) [] = num_slots o w 0 ++ replicate (n * w) (spare 0)
  ended_slots (suc n) (x ∷ l) = num_slots o w x ++ ended_slots n l

  -- the numbers before the first zero
  abbrev pub ended_at : ℕ → List ℕ → ℕ → List ℕ
  ended_at zero f p = []
  ended_at (suc n) f p = let r = num o w f p ∷ ended_at n f (p + w) in cond (eqb (num o w f p) 0) [] r

  -- numbers that are not zero, fewer than n
  abbrev pub Ended : ℕ → List ℕ → Type 0
  Ended zero l = ⊥
  Ended (suc n) [] = Unit
  Ended (suc n) (x ∷ l) = (0 < x) × (x < 256 ^ w) × (Ended n l)

  -- numbers of w bytes in n places up to the first zero, which must be there (else refusal c)
  abbrev pub ended : ℕ → ℕ → Sect (List ℕ)
  ended n c =
      record
      { slots = ended_slots n; size = λ l. n * w; Right = Ended n; judge = λ f p. unless (ltb (length (ended_at n f p)) n) c; read = ended_at n }

-- ---- texts that share an area

-- x is in the list
abbrev pub member : ℕ → List ℕ → Bool
member x [] = false
member x (y ∷ l) = eqb x y || member x l

-- each number is below b
abbrev pub all_below : ℕ → List ℕ → Bool
all_below b [] = true
all_below b (x ∷ l) = ltb x b && all_below b l

-- one past the last zero among the first n bytes of a; 0 where there is none
abbrev pub past_zero : (ℕ → ℕ) → ℕ → ℕ
past_zero a zero = 0
past_zero a (suc n) = let r = past_zero a n in cond (eqb (a n) 0) (suc n) r

-- Texts start at the offsets `offs` of an area whose bytes are a 0, a 1, ..; each goes up to and with its first zero. Place j is
-- live if a text starts there, or if it follows a live place with no zero in it.
abbrev pub live : List ℕ → (ℕ → ℕ) → ℕ → Bool
live offs a zero = member zero offs
live offs a (suc j) = member (suc j) offs || (live offs a j && not (eqb (a j) 0))

-- the area with zeros at its dead places
abbrev pub masked : List ℕ → (ℕ → ℕ) → ℕ → ℕ
masked offs a j = cond (live offs a j) (a j) 0

-- n bytes, zero at the dead places, with texts at the offsets that all have their zero: an offset is good if it is below one past
-- the last zero
pub record AreaRight (offs : List ℕ) (n : ℕ) (a : List ℕ) : Type 0 where
  pub long : length a ≡ n
  pub bytes : Bytes a
  pub clear : (j : ℕ) → j < n → live offs (λ i. get_or a i 0) j ≡ false → get_or a j 0 ≡ 0
  pub end : all_below (past_zero (λ i. get_or a i 0) n) offs ≡ true

-- an area of n bytes with texts at the offsets, each below n with a zero at or after it (else refusal c, judged on the last
-- zero of the area as it stands); bytes in no text and no text's zero are dead
abbrev pub area : List ℕ → ℕ → ℕ → Sect (List ℕ)
area offs n c =
    record {
      slots = λ a. tab n (λ j. cond (live offs (λ i. get_or a i 0) j) (byte (get_or a j 0)) (spare 0));
      size = λ a. n;
      Right = AreaRight offs n;
      judge = λ f p. unless (all_below (past_zero (λ i. get_or f (p + i) 0) n) offs) c;
      read = λ f p. tab n (masked offs (λ i. get_or f (p + i) 0));
    }
