-- Numbers 3 and 4 are due in every part. Where checking comes to is told over the grammar's own shape, in file order.
use Rattle.std.specs.Prelude.{◌≡◌, ℕ, ◌+◌, ◌≤◌, ◌<◌, List, Bool, true, false, length}
use Rattle.format.specs.Number.{Order}
use Rattle.format.specs.Grammar.{Sect, next, within, ruled, seq, told, walk, tag, same_at}
use Rattle.format.specs.Edition.{Edition}
use Rattle.format.specs.Dta.{file}
use Rattle.demands.specs.Places.{Met, BeforeHeader}
use Rattle.demands.specs.Reasons.{Passed}

-- checking a section of f at a place comes to the section T at q: all that is judged before T is right
module _ (f : List ℕ) {B : Type 0} (T : Sect B) (q : ℕ) where
  pub data Comes : (A : Type 0) → Sect A → ℕ → Type 1 where
    here : Comes B T q
    -- to the first of two sections; to the second, where the first is right
    first : {A C : Type 0} (S : Sect A) (U : A → Sect C) {p : ℕ} → Comes A S p → Comes (A × C) (seq S U) p
    second : {A C : Type 0} (S : Sect A) (U : A → Sect C) {p : ℕ} → Met S f p → Comes C (U (S.read f p)) (next S f p) → Comes (A × C) (seq S U) p
    -- to contents, where their bytes are there; to what a rule is about; to what is told in another way
    content : {A : Type 0} (S : Sect A) (n : ℕ) {p : ℕ} → p + n ≤ length f → Comes A S p → Comes A (within n S) p
    before_rule : {A : Type 0} (S : Sect A) (t : A → Bool) (c : ℕ) {p : ℕ} → Comes A S p → Comes A (ruled S t c) p
    told_by : {A C : Type 0} (S : Sect A) (to : A → C) (of : C → A) {p : ℕ} → Comes A S p → Comes C (told to of S) p
    -- in a walk, each of whose steps takes bytes of the file: to a step after others that are right; to what ends it
    step : {A C : Type 0} (more : List ℕ → ℕ → Bool) (E : Sect A) (U : List A → Sect C) {p r : ℕ} {l : List A}
        → ((g : List ℕ) (i : ℕ) → more g i ≡ true → i < length g) → ((a : A) → 0 < E.size a)
        → Passed more E f p l r → more f r ≡ true → Comes A E r → Comes (List A × C) (walk more E U) p
    end : {A C : Type 0} (more : List ℕ → ℕ → Bool) (E : Sect A) (U : List A → Sect C) {p r : ℕ} {l : List A}
        → ((g : List ℕ) (i : ℕ) → more g i ≡ true → i < length g) → ((a : A) → 0 < E.size a)
        → Passed more E f p l r → more f r ≡ false → Comes C (U l) r → Comes (List A × C) (walk more E U) p

-- a section at q needs n bytes, and fewer are left
pub data Lacks (f : List ℕ) (q : ℕ) : (B : Type 0) → Sect B → Type 1 where
  lacks : {B : Type 0} (S : Sect B) (n : ℕ) → length f < q + n → Lacks f q B (within n S)

-- the bytes of a tag are there at q, and differ
pub data Differs (f : List ℕ) (q : ℕ) : (B : Type 0) → Sect B → Type 1 where
  differs : (l : List ℕ) → q + length l ≤ length f → same_at l f q ≡ false → Differs f q (Unit {0}) (tag l 4)

-- checking S at p comes to a section of which that holds
pub record ComesTo (why : ℕ → (B : Type 0) → Sect B → Type 1) (f : List ℕ) {A : Type 0} (S : Sect A) (p : ℕ) : Type 1 where
  pub B : Type 0
  pub T : Sect B
  pub at : ℕ
  pub comes : Comes f T at A S p
  pub because : why at B T

module _ (e : Edition) (o : Order) (f : List ℕ) where
  -- 3: checking the file comes to a part or a tag that needs more bytes than remain
  pub record CutShort : Type 1 where
    pub before : BeforeHeader e o f
    pub due : ComesTo (Lacks f) f (file e o) 0

  -- 4: it comes to a tag whose bytes are there, and differ
  pub record TagDiffers : Type 1 where
    pub before : BeforeHeader e o f
    pub due : ComesTo (Differs f) f (file e o) 0
