-- The theorems about the questions, on one page. What is meant by each word stands in specs/: `answer_of` and `shown` in Ask.antt,
-- `fact_of`, `bytes_of` and `slot_fact` in Fact.antt; `verdict`, `contents`, `layout_of` and `dead_in` in Dta.antt of format. A file is any list
-- of bytes.
use mathlib.Core.Path.{◌≡◌, subst}
use Prim.Native.Nat.{ℕ, ◌<◌}
use mathlib.Core.List.{List}
use mathlib.Core.Bool.{true, false}
use lib.ListN.{length, get_or}
use lib.IntN.{ℤ}
use Rattle.format.specs.Slot.{Bytes}
use Rattle.format.specs.Labels.{Table, LabelBlock}
use Rattle.format.specs.Cells.{signed_by}
use Rattle.format.specs.Search.{found}
use Rattle.format.specs.Dta.{layout_of, verdict, contents, dataset_of, dead_in, order_of, edition_of}
use Rattle.questions.specs.Readings.{got}
use Rattle.questions.specs.Ask.{Question, refused, shown, in_range, answer_of}
use Rattle.questions.specs.Fact.{slot_fact, fact_in, fact_of, bytes_of}
use Rattle.questions.proofs.OwnLaws as OwnLaws
use Rattle.format.proofs.SearchLaws.{Ends, search_ends}
use Rattle.questions.proofs.SomeLaws.{Answered}

-- 1. An accepted file, asked by its own layout, answers each question as its dataset does.
pub own_answer : (f : List ℕ) → Bytes f → verdict f ≡ 0 → (q : Question) → answer_of f (layout_of f) q ≡ fact_of (edition_of f) (order_of f) (contents f) q
own_answer = OwnLaws.own_answer

-- 2. The bytes that the answer shows are the dataset's own.
pub own_bytes : (f : List ℕ) → Bytes f → verdict f ≡ 0 → (q : Question) → shown f (answer_of f (layout_of f) q) ≡ bytes_of (edition_of f) (order_of f) (contents f) q
own_bytes = OwnLaws.own_bytes

-- 3. It answers each question whose variable and observation are there: the dataset has a fact, that is the answer, and it is no refusal.
pub record Answers (f : List ℕ) (q : Question) : Type 0 where
  pub fact : fact_in (edition_of f) (order_of f) (contents f) q ≡ got (answer_of f (layout_of f) q)
  pub never : (c : ℕ) → answer_of f (layout_of f) q ≡ refused c → ⊥

pub own_some : (f : List ℕ) → Bytes f → verdict f ≡ 0 → (q : Question) → in_range (layout_of f) q ≡ true → Answers f q
own_some f bytes accepted q there =
    record { fact = OwnLaws.own_fact f bytes accepted q there; never = λ c e. subst Answered e (OwnLaws.own_answered f bytes accepted q there) }

-- 4. Dead bytes change no answer: a file as long as an accepted one, with the same byte at every place that is not dead in the accepted
-- one, gives the same answers by the accepted one's layout, which is its own too.
pub same_answer : (f : List ℕ) → Bytes f → verdict f ≡ 0 → (g : List ℕ) → length g ≡ length f
    → ((i : ℕ) → i < length f → dead_in f i ≡ false → get_or g i 0 ≡ get_or f i 0) → (q : Question) → answer_of g (layout_of f) q ≡ answer_of f (layout_of f) q
same_answer = OwnLaws.same_answer

-- 5. .. and no byte that an answer shows.
pub same_shown : (f : List ℕ) → Bytes f → verdict f ≡ 0 → (g : List ℕ) → length g ≡ length f
    → ((i : ℕ) → i < length f → dead_in f i ≡ false → get_or g i 0 ≡ get_or f i 0) → (q : Question)
    → shown g (answer_of g (layout_of f) q) ≡ shown f (answer_of f (layout_of f) q)
same_shown = OwnLaws.same_shown

-- 6. A label is shown for its exact value only: where the search for q in a table, whatever its values are, ends at a slot, that slot is
-- one of the table's and its value is q.
pub label_exact : (q : ℤ) (t : Table) (m : ℕ) → slot_fact q t ≡ found m → (m < length t.offsets) × (signed_by 2147483648 (get_or t.values m 0) ≡ q)
label_exact q t m e =
    let v : ℕ → ℤ = λ i. signed_by 2147483648 (get_or t.values i 0) in
    subst (Ends v q (length t.offsets)) e (search_ends v q (length t.offsets))

-- 7. .. and for each value that it has: in a label table of an accepted file the search for the value of a slot ends at that slot. (Block i of
-- the file, counted from 0; z stands for none.)
pub label_found : (f : List ℕ) → Bytes f → verdict f ≡ 0 → (z : LabelBlock) (i : ℕ) → i < length (dataset_of f).label_blocks
    → let t = (get_or (dataset_of f).label_blocks i z).entries in
    (m : ℕ) → m < length t.offsets → slot_fact (signed_by 2147483648 (get_or t.values m 0)) t ≡ found m
label_found = OwnLaws.label_found
