-- With its own layout an accepted file answers: nothing that is needed lies outside it, and each reference has its record.
use mathlib.Core.Path.{◌≡◌, refl, sym, ap, ◌∙◌, subst}
use Prim.Native.Nat.{ℕ, zero, suc, ◌+◌, ◌-◌}
use native.Mathlib.Nat.{add-zero}
use native.Mathlib.Omega.{arith}
use mathlib.Core.List.{List, [], ◌∷◌, ◌++◌}
use mathlib.Core.Bool.{Bool, true, false, cond, ◌&&◌, ◌||◌, true≢false}
use mathlib.Core.Logic.{◌⊎◌, inl, inr}
use lib.ListN.{length, get_or}
use lib.Dec.{eqb, leb, ltb}
use lib.IntN.{ℤ}
use borrow.Author.Tests.{eqb-true, eq-eqb}
use Rattle.format.specs.Number.{Order}
use Rattle.format.specs.Grammar.{tag}
use Rattle.format.specs.Edition.{Edition}
use Rattle.format.specs.Variables.{VarType, text_type, strl_type, byte_type, int_type, long_type, float_type, double_type}
use Rattle.format.specs.Data.{Cell, bits, link, link_of, cell, LongString, nth, is_link, names_itself, link_rule, row_links, data_links, row_selves, data_selves, kind_rule, record_rule, linked, strls}
use Rattle.format.specs.Labels.{Table}
use Rattle.format.specs.Cells.{signed_by, Key, nothing, seeks}
use Rattle.format.specs.Search.{found, missing, lost}
use Rattle.format.specs.Search as Search
use Rattle.format.proofs.Good.{and_left, and_right}
use Rattle.format.proofs.AreaLaws.{or_cases, or_right}
use Rattle.questions.specs.Readings.{Try, none, got}
use Rattle.questions.specs.Ask.{Answer, refused, count, mark, typed, part, column, plain, long, or_refused, record_head}
use Rattle.questions.specs.Ask as Ask
use Rattle.questions.specs.Fact.{cell_says, slot_fact, words_fact, TableFact, no_table, table_fact, label_fact, sought_fact, records_fact, long_fact}
use Rattle.format.proofs.SearchLaws.{Ends, search_ends}
use Rattle.questions.proofs.ShownLaws.{byte_bare, int_bare, long_bare, float_bare, double_bare}

-- the answer is no refusal
abbrev pub Answered : Answer → Type 0
Answered (refused c) = ⊥
Answered (count n) = Unit {0}
Answered (mark b) = Unit {0}
Answered (typed t) = Unit {0}
Answered (part p n) = Unit {0}
Answered (column t p n) = Unit {0}
Answered (Ask.labels s) = Unit {0}
Answered (Ask.cell s) = Unit {0}
Answered (plain t) = Unit {0}
Answered (long k p n) = Unit {0}

-- something is read, and it is no refusal
abbrev pub Some : Try Answer → Type 0
Some none = ⊥
Some (got a) = Answered a

pub some_answered : (t : Try Answer) → Some t → Answered (or_refused t)
some_answered none h = h
some_answered (got a) h = h

pub some_got : (t : Try Answer) → Some t → t ≡ got (or_refused t)
some_got none h = absurd h
some_got (got a) h = refl

some_if : (t : Bool) (x y : Try Answer) → Some x → Some y → Some (cond t x y)
some_if true x y a b = a
some_if false x y a b = b

-- ---- label words

slot_some : (lent : List ℕ) (p : ℕ) (t : Table) (q : ℤ) (s : Search.Slot) → Ends (λ i. signed_by 2147483648 (get_or t.values i 0)) q (length t.offsets) s
    → Some (words_fact lent p t s)
slot_some lent p t q (found m) b = tt
slot_some lent p t q missing b = tt
slot_some lent p t q lost b = b

label_some : (lent : List ℕ) (q : ℤ) (t : TableFact) → Some (label_fact lent q t)
label_some lent q no_table = tt
label_some lent q (table_fact p t) =
    slot_some lent p t q (slot_fact q t) (search_ends (λ i. signed_by 2147483648 (get_or t.values i 0)) q (length t.offsets))

pub words_some : (lent : List ℕ) (k : Key) (t : TableFact) → Some (sought_fact lent k t)
words_some lent nothing t = tt
words_some lent (seeks q) t = label_some lent q t

-- ---- long strings

-- v, o is in the list
abbrev has : ℕ → ℕ → List (ℕ × ℕ) → Bool
has v o [] = false
has v o (s ∷ k) = (eqb s.0 v && eqb s.1 o) || has v o k

has_left : (v o : ℕ) (k m : List (ℕ × ℕ)) → has v o k ≡ true → has v o (k ++ m) ≡ true
has_left v o [] m h = absurd (true≢false (sym h))
has_left v o (s ∷ k) m h = go (or_cases (eqb s.0 v && eqb s.1 o) (has v o k) h) (has_left v o k m)
  where
    go : ((eqb s.0 v && eqb s.1 o) ≡ true) ⊎ (has v o k ≡ true) → (has v o k ≡ true → has v o (k ++ m) ≡ true) → has v o (s ∷ k ++ m) ≡ true
    go (inl a) ih = rw a
    go (inr b) ih = or_right (eqb s.0 v && eqb s.1 o) (has v o (k ++ m)) (ih b)

has_right : (v o : ℕ) (k m : List (ℕ × ℕ)) → has v o m ≡ true → has v o (k ++ m) ≡ true
has_right v o [] m h = h
has_right v o (s ∷ k) m h = or_right (eqb s.0 v && eqb s.1 o) (has v o (k ++ m)) (has_right v o k m h)

has_pick : (t : Bool) (v o x y : ℕ) (k : List (ℕ × ℕ)) → has v o k ≡ true → has v o (cond t ((x, y) ∷ k) k) ≡ true
has_pick true v o x y k h = or_right (eqb x v && eqb y o) (has v o k) h
has_pick false v o x y k h = h

-- a cell that names itself is among those of its row, and of the data
row_self : (l : List Cell) (i j a : ℕ) → is_link (get_or l a (bits 0)) (i + a) j ≡ true → has (i + a) j (row_selves i j l) ≡ true
row_self [] i j a h = absurd (true≢false (sym h))
row_self (c ∷ l) i j zero h =
    let e : i + 0 ≡ i = add-zero i in
    let g = rw e at h in
    rw (e, g) (rw (eq-eqb i i refl, eq-eqb j j refl))
row_self (c ∷ l) i j (suc a) h =
    let e : i + suc a ≡ suc i + a = omega arith in
    rw e (has_pick (is_link c i j) (suc i + a) j i j (row_selves (suc i) j l) (row_self l (suc i) j a (rw e at h)))

data_self : (d : List (List Cell)) (j a b : ℕ) → is_link (get_or (get_or d b []) a (bits 0)) (suc a) (j + b) ≡ true → has (suc a) (j + b) (data_selves j d) ≡ true
data_self [] j a b h = absurd (true≢false (sym h))
data_self (l ∷ d) j a zero h =
    let e : j + 0 ≡ j = add-zero j in
    let f : 1 + a ≡ suc a = omega arith in
    rw e (has_left (suc a) j (row_selves 1 j l) (data_selves (suc j) d) (rw f at (row_self l 1 j a (rw f (rw e at h)))))
data_self (l ∷ d) j a (suc b) h =
    let e : j + suc b ≡ suc j + b = omega arith in
    rw e (has_right (suc a) (suc j + b) (row_selves 1 j l) (data_selves (suc j) d) (data_self d (suc j) a b (rw e at h)))

no_row : (v : ℕ) → nth (bits 0) [] v ≡ bits 0
no_row zero = refl
no_row (suc v) = refl

self_in : (d : List (List Cell)) (v o : ℕ) → names_itself d v o ≡ true → has v o (data_selves 1 d) ≡ true
self_in d v zero h = absurd (true≢false (sym h ∙ ap (λ (c : Cell). is_link c v 0) (no_row v)))
self_in d zero (suc b) h = absurd (true≢false (sym h))
self_in d (suc a) (suc b) h =
    let e : 1 + b ≡ suc b = omega arith in
    rw e at (data_self d 1 a b (rw e h))

-- each cell keeps the rule
row_link : (d : List (List Cell)) (l : List Cell) (i j a : ℕ) → row_links d i j l ≡ true → link_rule d (i + a) j (get_or l a (bits 0)) ≡ true
row_link d [] i j a h = refl
row_link d (c ∷ l) i j zero h = rw (add-zero i) (and_left (link_rule d i j c) (row_links d (suc i) j l) h)
row_link d (c ∷ l) i j (suc a) h =
    let e : i + suc a ≡ suc i + a = omega arith in
    rw e (row_link d l (suc i) j a (and_right (link_rule d i j c) (row_links d (suc i) j l) h))

data_link : (d m : List (List Cell)) (j a b : ℕ) → data_links d j m ≡ true → link_rule d (1 + a) (j + b) (get_or (get_or m b []) a (bits 0)) ≡ true
data_link d [] j a b h = refl
data_link d (l ∷ m) j a zero h = rw (add-zero j) (row_link d l 1 j a (and_left (row_links d 1 j l) (data_links d (suc j) m) h))
data_link d (l ∷ m) j a (suc b) h =
    let e : j + suc b ≡ suc j + b = omega arith in
    rw e (data_link d m (suc j) a b (and_right (row_links d 1 j l) (data_links d (suc j) m) h))

-- the records are all of them
record_some : (e : Edition) (v o : ℕ) (k : List (ℕ × ℕ)) (l : List LongString) (p : ℕ) → record_rule k l ≡ true → has v o k ≡ true → Some (records_fact e v o l p)
record_some e v o [] l p r h = absurd (true≢false (sym h))
record_some e v o (s ∷ k) [] p r h = absurd (true≢false (sym r))
record_some e v o (s ∷ k) (a ∷ l) p r h =
    go (eqb a.v v && eqb a.o o) refl (or_cases (eqb s.0 v && eqb s.1 o) (has v o k) h)
    (record_some e v o k l (p + record_head e.record_width + length a.contents) (and_right (kind_rule a) (record_rule k l) (and_right (eqb s.0 a.v && eqb s.1 a.o) (kind_rule a && record_rule k l) r)))
  where
    same : (eqb s.0 a.v && eqb s.1 a.o) ≡ true
    same = and_left (eqb s.0 a.v && eqb s.1 a.o) (kind_rule a && record_rule k l) r

    go : (t : Bool) → (eqb a.v v && eqb a.o o) ≡ t → ((eqb s.0 v && eqb s.1 o) ≡ true) ⊎ (has v o k ≡ true)
        → (has v o k ≡ true → Some (records_fact e v o l (p + record_head e.record_width + length a.contents))) → Some (records_fact e v o (a ∷ l) p)
    go true q c ih = rw q tt
    go false q (inr b) ih = rw q (ih b)
    go false q (inl b) ih =
        let x = eqb-true s.0 a.v (and_left (eqb s.0 a.v) (eqb s.1 a.o) same) in
        let y = eqb-true s.1 a.o (and_right (eqb s.0 a.v) (eqb s.1 a.o) same) in
        absurd (true≢false (sym (rw (x, y) at b) ∙ q))

link_some : (e : Edition) (d : List (List Cell)) (l : List LongString) (v o p i j : ℕ) → record_rule (data_selves 1 d) l ≡ true → link_rule d i j (link v o) ≡ true
    → Some (cond (eqb v 0 && eqb o 0) (got (long 0 0 0)) (records_fact e v o l p))
link_some e d l v o p i j r h = go (or_cases (eqb v 0 && eqb o 0) ((ltb o j || (eqb o j && leb v i)) && names_itself d v o) h)
  where
    go : ((eqb v 0 && eqb o 0) ≡ true) ⊎ (((ltb o j || (eqb o j && leb v i)) && names_itself d v o) ≡ true)
        → Some (cond (eqb v 0 && eqb o 0) (got (long 0 0 0)) (records_fact e v o l p))
    go (inl x) = rw x tt
    go (inr y) =
        some_if (eqb v 0 && eqb o 0) _ _ tt
        (record_some e v o (data_selves 1 d) l p r (self_in d v o (and_right (ltb o j || (eqb o j && leb v i)) (names_itself d v o) y)))

some_bare : (t : Try Answer) → t ≡ got (long 0 0 0) → Some t
some_bare t h = subst (λ (u : Try Answer). Some u) (sym h) tt

-- the cell of variable a in observation b, both counted from 0, means a record that is there
pub long_some : (e : Edition) (o : Order) (d : List (List Cell)) (l : List LongString) (t : VarType) (p q a b : ℕ)
    → (strls e.tagged o e.record_width d).Right l → (cell o e.v_width e.o_width t).Right (get_or (get_or d b []) a (bits 0))
    → Some (long_fact e p l (cell_says t q (get_or (get_or d b []) a (bits 0))))
unfolding strls linked tag
long_some e o d l (text_type w) p q a b r c = tt
long_some e o d l strl_type p q a b r c =
    let x = get_or (get_or d b []) a (bits 0) in
    let rule = r.1.1.0.1 in
    link_some e d l (link_of x).0 (link_of x).1 p (1 + a) (1 + b) (and_right (data_links d 1 d) (record_rule (data_selves 1 d) l) rule)
    (subst (λ (y : Cell). link_rule d (1 + a) (1 + b) y ≡ true) (sym c.1) (data_link d d 1 a b (and_left (data_links d 1 d) (record_rule (data_selves 1 d) l) rule)))
long_some e o d l byte_type p q a b r c = some_bare _ (byte_bare e [] p l (get_or (get_or d b []) a (bits 0)) q).1
long_some e o d l int_type p q a b r c = some_bare _ (int_bare e [] p l (get_or (get_or d b []) a (bits 0)) q).1
long_some e o d l long_type p q a b r c = some_bare _ (long_bare e [] p l (get_or (get_or d b []) a (bits 0)) q).1
long_some e o d l float_type p q a b r c = some_bare _ (float_bare e [] p l (get_or (get_or d b []) a (bits 0)) q).1
long_some e o d l double_type p q a b r c = some_bare _ (double_bare e [] p l (get_or (get_or d b []) a (bits 0)) q).1
